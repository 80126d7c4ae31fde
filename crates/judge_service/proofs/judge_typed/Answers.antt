-- `judge_service::judge_typed` meets its contract. Assumes nothing.
use Rattle.answers.proofs.Layers.{passed_on}
use Rattle.entries.proofs.Words.{slice_bytes}
use Rattle.judge_service.proofs.Stages.{list_stops, compared, types_stop, verdict_given}
use borrow.Author.Rules.{rules}
use Rattle.judge_service.proofs.judge_typed.Goals as goal

pub returns-in_err-check_list : goal.returns-in_err-check_list
returns-in_err-check_list c = list_stops _ _ _ _ _ c.free_count.ensures c.check_list.ensures _ _ c.in_err-check_list.was (passed_on c.from_residual.ensures.1)

pub returns-in_err-check_alike : goal.returns-in_err-check_alike
returns-in_err-check_alike c =
    let a = c.args in
    let k = compared a.table.now a.list.now a.work.now _ _ c.free_count.ensures c.check_list.ensures _ _ c.symbol_count.ensures (slice_bytes a.list.now (search rules)) c.in_ok-check_list.was c.check_alike.ensures in
    types_stop _ _ _ _ k _ _ c.in_err-check_alike.was (passed_on c.from_residual-in_err-check_alike.ensures.1)

pub returns : goal.returns
returns c =
    let a = c.args in
    let k = compared a.table.now a.list.now a.work.now _ _ c.free_count.ensures c.check_list.ensures _ _ c.symbol_count.ensures (slice_bytes a.list.now (search rules)) c.in_ok-check_list.was c.check_alike.ensures in
    verdict_given _ _ _ _ k _ c.in_ok-check_alike.was c.check_statements.ensures
