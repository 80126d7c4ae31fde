-- `freshness::Values::tag` meets its contract. Assumes nothing.
use mathlib.Core.Path.{refl}
use Rattle.base.specs.Bytes.{byte}
use Rattle.freshness.proofs.Values.tag.Goals as goal

pub returns : goal.returns
unfolding byte
returns c = refl
