-- `run_service::run` meets its contract. Assumes nothing.
use Rattle.answers.proofs.Layers.{passed_on}
use Rattle.run_service.proofs.Stages.{run_refused, run_told}
use Rattle.run_service.proofs.run.Goals as goal

pub returns-in_err-check_run : goal.returns-in_err-check_run
returns-in_err-check_run c = run_refused _ _ _ _ _ _ _ _ c.check_run.ensures c.in_err-check_run.was (passed_on c.from_residual.ensures.1)

pub returns : goal.returns
returns c = run_told _ _ _ _ _ _ _ _ _ c.check_run.ensures c.in_ok-check_run.was c.run_statements.ensures
