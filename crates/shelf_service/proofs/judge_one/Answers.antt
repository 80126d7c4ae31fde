-- `shelf_service::judge_one` meets its contract. Assumes nothing.
use Rattle.entries.proofs.Words.{slice_bytes}
use Rattle.shelf_service.proofs.Writing.{one_judged}
use Rattle.shelf_service.proofs.judge_one.Goals as goal

pub returns : goal.returns
returns c = one_judged _ _ _ _ _ _ (slice_bytes _ c.type_inv.list) c.judge_typed-verdict.ensures c.put_verdict.ensures
