-- `slots::start` meets its contract. Assumes nothing.
use Rattle.std.proofs.Common.{◌≡◌, arith}
use Rattle.slots.proofs.SlotLaws.{started_none, started_more}
use Rattle.slots.proofs.start.Goals as goal

pub loop-x-init : goal.loop-x-init
loop-x-init c = started_none _ _

pub loop-x-preserved : goal.loop-x-preserved
loop-x-preserved c = started_more _ _ _ _ _ c.loop-x-test.true c.loop-x.invariant c.start_slot.ensures

pub returns : goal.returns
returns c =
    let q : c.loop-x.x ≡ 96 = omega (arith, c.loop-x-test.false, c.loop-x.auto.x-end) in
    rw q at c.loop-x.invariant
