-- `typing::mark_down` meets its contract. Assumes nothing.
use Rattle.typing.proofs.MarkLaws.{DownTo}
use Rattle.typing.proofs.mark_down.Given as goal

abbrev pub invariant-loop-u : goal.invariant-loop-u
invariant-loop-u l = DownTo l.table l.initial.marks l.u l.marks
