-- `type_bytes::past` meets its contract. Assumes nothing.
use Rattle.type_bytes.proofs.EndLaws.{past_found}
use Rattle.type_bytes.proofs.past.Goals as goal

pub returns : goal.returns
returns c = rw c.unwrap_or.ensures (past_found _ _ _ c.type_end.ensures)
