-- `typing::put_cipher` meets its contract. Assumes nothing.
use mathlib.Core.Path.{refl}
use Rattle.typing.proofs.WantLaws.{cipher_put}
use Rattle.typing.proofs.put_cipher.Goals as goal

pub returns : goal.returns
returns c = cipher_put _ c.args.out.now _ _ c.told-out refl _ _ _ c.put_slot.ensures refl
