-- `slots::start` meets its contract. Assumes nothing.
use Rattle.slots.specs.Slots.{StartedAll}
use Rattle.slots.proofs.start.Given as goal

abbrev pub invariant-loop-x : goal.invariant-loop-x
invariant-loop-x l = StartedAll l.table l.x l.initial.work l.work
