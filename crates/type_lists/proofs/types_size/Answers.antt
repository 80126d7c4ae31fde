-- `type_lists::types_size` meets its contract. Assumes nothing.
use native.Mathlib.Omega.{arith}
use Rattle.type_lists.proofs.ListLaws.{size_none, size_more, size_end}
use Rattle.type_lists.proofs.types_size.Goals as goal

pub loop-x-init : goal.loop-x-init
loop-x-init c = size_none _

pub overflow_add-size : goal.overflow_add-size
overflow_add-size c = omega (arith, c.slot_type.ensures.small)

pub overflow_add-size-in-loop-x : goal.overflow_add-size-in-loop-x
overflow_add-size-in-loop-x c = omega (arith, c.slot_type.ensures.small, c.loop-x.invariant.small)

pub loop-x-preserved : goal.loop-x-preserved
loop-x-preserved c = size_more _ _ _ _ c.loop-x.invariant c.slot_type.ensures

pub returns : goal.returns
returns c = size_end _ _ _ _ c.loop-x.auto.x-end c.loop-x-test.false c.loop-x.invariant
