-- `machine::start` meets its contract. Assumes nothing.
use native.Mathlib.Omega.{arith}
use Rattle.machine.proofs.Starting.{none_given, one_given, all_given}
use Rattle.machine.proofs.start.Goals as goal

pub loop-i-init : goal.loop-i-init
loop-i-init c = λ q. none_given _ _ q

pub loop-i-preserved : goal.loop-i-preserved
loop-i-preserved c = λ q. one_given _ _ _ _ _ _ _ c.starting_at.ensures (omega arith) (omega arith) (c.loop-i.invariant q) c.give-given.ensures

pub returns : goal.returns
returns c = all_given _ _ _ _ _ _ c.starting_count-n.ensures (omega arith) (omega arith) c.loop-i.invariant
