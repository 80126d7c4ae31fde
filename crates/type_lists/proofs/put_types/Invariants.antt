-- `type_lists::put_types` meets its contract. Assumes nothing.
use Rattle.type_lists.proofs.ListLaws.{Reached}
use Rattle.type_lists.proofs.put_types.Given as goal

abbrev pub invariant-loop-x : goal.invariant-loop-x
invariant-loop-x l = Reached l.work l.x l.at l.initial.out l.out
