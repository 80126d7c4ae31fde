-- `freshness::mark_held` meets its contract. Assumes nothing.
use Rattle.freshness.proofs.HeldLaws.{HeldTo}
use Rattle.freshness.proofs.mark_held.Given as goal

abbrev pub invariant-loop-number : goal.invariant-loop-number
invariant-loop-number l = HeldTo l.registers l.given l.values.count l.number-index l.initial.marks l.marks
