-- `typing::put_slot` meets its contract. Assumes nothing.
use Rattle.typing.proofs.WantLaws.{slot_copied}
use Rattle.typing.proofs.put_slot.Goals as goal

pub returns : goal.returns
returns c = rw c.unwrap_or.ensures (slot_copied _ _ _ _ c.in-Some.ensures _ _ c.copy_type.ensures)
