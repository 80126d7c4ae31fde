-- `freshness::Values::part` meets its contract. Assumes nothing.
use Rattle.base.specs.Bytes.{byte, word}
use Rattle.freshness.proofs.Values.part.Goals as goal

pub returns : goal.returns
unfolding byte word
returns c = c.from_be_bytes.ensures
