-- `judge_service::check_statements` meets its contract. Assumes nothing.
use Rattle.judge_service.proofs.Stages.{is_accepted, is_not_due, is_unfinished}
use Rattle.judge_service.proofs.check_statements.Goals as goal

pub returns-in-Ok : goal.returns-in-Ok
returns-in-Ok c = is_accepted _ _ (rw c.in-Ok.is at c.judge_statements.ensures)

pub returns-in-Err-NotDue : goal.returns-in-Err-NotDue
returns-in-Err-NotDue c = is_not_due _ _ _ _ (rw c.in-Err-NotDue.field-0-is at (rw c.in-Err-NotDue.is at c.judge_statements.ensures)) cc

pub returns-in-Err-Unfinished : goal.returns-in-Err-Unfinished
returns-in-Err-Unfinished c = is_unfinished _ _ _ _ (rw c.in-Err-Unfinished.field-0-is at (rw c.in-Err-Unfinished.is at c.judge_statements.ensures)) cc
