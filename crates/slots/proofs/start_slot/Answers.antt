-- `slots::start_slot` meets its contract. Assumes nothing.
use Rattle.slots.proofs.SlotLaws.{started_out, started_set}
use Rattle.slots.proofs.start_slot.Goals as goal

pub returns-then-at-work : goal.returns-then-at-work
returns-then-at-work c = started_set _ _ _ _ _ c.slot_at-at.ensures c.if-at-work.true c.widest_code.ensures

pub returns-else-at-work : goal.returns-else-at-work
returns-else-at-work c = started_out _ _ _ _ c.slot_at-at.ensures c.if-at-work.false
