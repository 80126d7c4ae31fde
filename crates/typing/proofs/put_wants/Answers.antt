-- `typing::put_wants` meets its contract. Assumes nothing.
use native.Mathlib.Omega.{arith}
use Rattle.typing.proofs.WantLaws.{wants_channel, wants_nothing, wants_split, wants_open}
use Rattle.typing.proofs.put_wants.Goals as goal

pub returns-in-4 : goal.returns-in-4
returns-in-4 c = wants_split _ _ _ _ c.step_code.ensures _ _ c.in-4.is c.want_pair.ensures

pub returns-in-5 : goal.returns-in-5
returns-in-5 c = wants_open _ _ _ _ c.step_code.ensures _ _ c.in-5.is c.want_cipher.ensures

pub returns-in-0 : goal.returns-in-0
returns-in-0 c = wants_channel _ _ _ _ c.step_code.ensures _ _ _ (omega arith) c.step_field.ensures c.push.ensures

pub returns-in-2 : goal.returns-in-2
returns-in-2 c = wants_nothing _ _ _ _ c.step_code.ensures (λ q. omega arith) (λ q. omega arith) (omega arith)

pub returns-in-6-to-255 : goal.returns-in-6-to-255
returns-in-6-to-255 c = wants_nothing _ _ _ _ c.step_code.ensures (λ q. omega arith) (λ q. omega arith) (omega arith)
