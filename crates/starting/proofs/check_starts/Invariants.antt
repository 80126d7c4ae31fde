-- `starting::check_starts` meets its contract. Assumes nothing.
use Rattle.starting.proofs.StartLaws.{SoFar}
use Rattle.starting.proofs.check_starts.Given as goal

abbrev pub invariant-loop-i : goal.invariant-loop-i
invariant-loop-i l = SoFar l.table l.list l.trace l.i
