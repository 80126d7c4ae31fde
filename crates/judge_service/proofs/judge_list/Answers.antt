-- `judge_service::judge_list` meets its contract. Assumes nothing.
use Rattle.answers.proofs.Layers.{passed_on}
use Rattle.judge_service.proofs.Stages.{table_stops, table_passes}
use borrow.Author.Rules.{rules}
use Rattle.judge_service.proofs.judge_list.Goals as goal

pub returns-in_err-type_slots : goal.returns-in_err-type_slots
returns-in_err-type_slots c = table_stops _ _ _ _ _ _ (c.type_slots.ensures.typed (search rules)) c.in_err-type_slots.was (passed_on c.from_residual.ensures.1)

pub returns : goal.returns
returns c = table_passes _ _ _ _ _ (c.type_slots.ensures.typed (search rules)) c.in_ok-type_slots.was c.judge_typed.ensures
