-- `freshness::mark_down` meets its contract. Assumes nothing.
use Prim.Native.Nat.{◌<◌}
use Rattle.freshness.proofs.MarkLaws.{DownTo}
use Rattle.freshness.proofs.mark_down.Given as goal

abbrev pub invariant-loop-u : goal.invariant-loop-u
invariant-loop-u l = (l.v < l.u) × DownTo l.values.table.now l.values.count l.v l.initial.marks l.u l.marks
