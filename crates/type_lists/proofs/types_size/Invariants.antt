-- `type_lists::types_size` meets its contract. Assumes nothing.
use Rattle.type_lists.specs.Lists.{SizeIs}
use Rattle.type_lists.proofs.types_size.Given as goal

abbrev pub invariant-loop-x : goal.invariant-loop-x
invariant-loop-x l = SizeIs l.work l.x l.size
