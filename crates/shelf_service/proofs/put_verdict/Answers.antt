-- `shelf_service::put_verdict` meets its contract. Assumes nothing.
use Rattle.shelf_service.proofs.Writing.{put_zeros, put_refusal}
use Rattle.shelf_service.proofs.put_verdict.Goals as goal

pub returns-in_default : goal.returns-in_default
returns-in_default c = put_zeros _ _ _ c.in_default.is c.copy.ensures.written

pub returns : goal.returns
returns c = put_refusal _ _ _ _ c.in-Err.is c.copy-2.ensures.written
