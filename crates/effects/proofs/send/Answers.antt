-- `effects::send` meets its contract. Assumes nothing.
use Rattle.effects.proofs.ActLaws.{sent_done}
use Rattle.effects.proofs.send.Goals as goal

pub returns : goal.returns
returns c = sent_done _ _ _ _ _ _ c.say-state.ensures
