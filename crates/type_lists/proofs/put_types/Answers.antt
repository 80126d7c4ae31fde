-- `type_lists::put_types` meets its contract. Assumes nothing.
use native.Mathlib.Omega.{arith}
use Rattle.type_lists.proofs.ListLaws.{reached_none, reached_more, reached_all}
use Rattle.type_lists.proofs.put_types.Goals as goal

pub loop-x-init : goal.loop-x-init
loop-x-init c = reached_none _ _

pub slice_bounds-put_type-count : goal.slice_bounds-put_type-count
slice_bounds-put_type-count c = omega (arith, c.loop-x.invariant.inside, c.loop-x.invariant.kept)

pub slice_bounds-put_type-start : goal.slice_bounds-put_type-start
slice_bounds-put_type-start c = omega (arith, c.loop-x.invariant.inside, c.loop-x.invariant.kept)

pub loop-x-preserved : goal.loop-x-preserved
loop-x-preserved c = reached_more _ _ _ _ _ c.loop-x.invariant c.put_type-at.new.out _ c.put_type-at.auto.out c.put_type-at.ensures

pub shape_of-out : goal.shape_of-out
shape_of-out c = c.loop-x.invariant.kept

pub returns : goal.returns
returns c = reached_all _ _ _ _ _ _ c.loop-x.auto.x-end c.loop-x-test.false c.loop-x.invariant
