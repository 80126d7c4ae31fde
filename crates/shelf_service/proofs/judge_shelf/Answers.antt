-- `shelf_service::judge_shelf` meets its contract. Assumes nothing.
use Rattle.answers.proofs.Layers.{passed_on}
use lib.ListN.{length}
use borrow.Author.Rules.{rules}
use Rattle.shelf_service.proofs.Stages.{Ready, ready, table_stops, shelf_stops, lists_judged}
use Rattle.shelf_service.proofs.judge_shelf.Goals as goal

pub returns-in_err-type_slots : goal.returns-in_err-type_slots
returns-in_err-type_slots c = table_stops _ _ _ _ _ _ (c.type_slots.ensures.typed (search rules)) _ _ c.in_err-type_slots.was (passed_on c.from_residual.ensures.1)

pub returns-in_err-check_shelf : goal.returns-in_err-check_shelf
returns-in_err-check_shelf c = shelf_stops _ _ _ _ _ _ (c.type_slots.ensures.typed (search rules)) c.in_ok-type_slots.was _ c.check_shelf.ensures _ _ c.in_err-check_shelf.was (passed_on c.from_residual-in_err-check_shelf.ensures.1)

-- where the lists are about to be judged, the shelf is in order
pub judge_each-requires : goal.judge_each-requires
judge_each-requires c =
    let r : Ready c.args.lists.now c.args.lengths.now (length c.args.verdicts.now) = ready _ _ _ _ c.check_shelf.ensures c.in_ok-check_shelf.was in
    (r.added_up, r.room_left)

pub returns : goal.returns
returns c = lists_judged _ _ _ _ _ _ (c.type_slots.ensures.typed (search rules)) c.in_ok-type_slots.was _ c.check_shelf.ensures _ c.in_ok-check_shelf.was c.judge_each.ensures
