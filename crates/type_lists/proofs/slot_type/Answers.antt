-- `type_lists::slot_type` meets its contract. Assumes nothing.
use Rattle.type_lists.proofs.SlotTypes.{type_missing, type_is}
use Rattle.type_lists.proofs.slot_type.Goals as goal

pub returns-in_default-type_end : goal.returns-in_default-type_end
returns-in_default-type_end c = type_missing _ _ _ c.in-Some.ensures c.in_default-type_end.ensures

pub returns : goal.returns
returns c = type_is _ _ _ c.in-Some.ensures _ c.in-Some-type_end.ensures
