-- `typing::put_pair` meets its contract. Assumes nothing.
use mathlib.Core.Path.{refl}
use Rattle.typing.proofs.WantLaws.{pair_put}
use Rattle.typing.proofs.put_pair.Goals as goal

pub returns : goal.returns
returns c = pair_put _ c.args.out.now _ _ c.told-out refl _ _ _ c.put_slot-n.ensures refl c.put_slot-n.auto.out _ _ _ _ _ refl refl c.put_slot.ensures
