-- `typing::want_cipher` meets its contract. Assumes nothing.
use Rattle.typing.proofs.WantLaws.{open_put, open_stop}
use Rattle.typing.proofs.want_cipher.Goals as goal

pub returns-in_err-push : goal.returns-in_err-push
returns-in_err-push c = rw c.from_residual.ensures (open_stop _ _ _ _ _ _ _ c.step_field-2.ensures c.step_field.ensures c.put_cipher.ensures c.in_err-push.ensures)

pub returns : goal.returns
returns c = open_put _ _ _ _ _ _ _ c.step_field-2.ensures c.step_field.ensures c.put_cipher.ensures _ _ _ c.step_field-3.ensures c.in_ok-push.ensures c.push-2.ensures
