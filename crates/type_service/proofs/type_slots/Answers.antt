-- `type_service::type_slots` meets its contract. Assumes nothing.
use mathlib.Core.Path.{refl}
use Rattle.std.proofs.Common.{Ok, Err}
use Rattle.answers.proofs.Layers.{passed_on}
use Rattle.type_service.proofs.ServiceLaws.{slots_faulty, slots_inferred}
use Rattle.type_service.proofs.type_slots.Goals as goal

pub returns-in_err-check_table : goal.returns-in_err-check_table
returns-in_err-check_table c = slots_faulty _ _ _ _ _ _ c.check_table.ensures c.in_err-check_table.was (passed_on c.from_residual.ensures.1)

pub returns-in-Ok : goal.returns-in-Ok
returns-in-Ok c = slots_inferred _ _ _ _ c.check_table.ensures c.in_ok-check_table.was (Ok tt) _ (rw c.in-Ok.is at c.infer_table.ensures) refl

pub returns-in-Err : goal.returns-in-Err
returns-in-Err c = slots_inferred _ _ _ _ c.check_table.ensures c.in_ok-check_table.was (Err _) _ (rw c.in-Err.is at c.infer_table.ensures) c.refuse.ensures
