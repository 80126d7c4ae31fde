-- `shelf_service::judge_each`: the lists before the next one are judged. Assumes nothing.
use Rattle.shelf_service.proofs.Writing.{Judging}
use Rattle.shelf_service.proofs.judge_each.Given as goal

abbrev pub invariant-loop-i : goal.invariant-loop-i
invariant-loop-i l = Judging l.table l.work l.lists l.lengths l.i l.at l.initial.verdicts l.verdicts
