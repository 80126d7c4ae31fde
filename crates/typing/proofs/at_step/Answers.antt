-- `typing::at_step` meets its contract. Assumes nothing.
use Rattle.typing.proofs.StepLaws.{step_stop, step_on}
use Rattle.typing.proofs.at_step.Goals as goal

pub returns-in_err-put_wants : goal.returns-in_err-put_wants
returns-in_err-put_wants c = rw c.from_residual.ensures (step_stop _ _ _ _ c.in_err-put_wants.ensures)

pub returns : goal.returns
returns c = step_on _ _ _ _ _ _ _ c.in_ok-put_wants.ensures c.mark_step-marks.ensures c.need_keys.ensures
