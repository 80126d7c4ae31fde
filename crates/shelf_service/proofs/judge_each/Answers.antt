-- `shelf_service::judge_each` meets its contract. Assumes nothing.
use mathlib.Core.Path.{refl}
use native.Mathlib.Omega.{arith}
use Rattle.shelf_service.proofs.Writing.{judging_none, ends_inside, judging_more}
use Rattle.shelf_service.proofs.judge_each.Goals as goal

pub loop-i-init : goal.loop-i-init
loop-i-init c = judging_none _ _ _ _ _

-- where a list's bytes end
pub overflow_add-end : goal.overflow_add-end
overflow_add-end c = omega (arith, ends_inside _ _ _ _ _ _ _ _ c.loop-i.invariant c.loop-i-test.true c.requires.0)

pub slice_bounds-judge_one-end : goal.slice_bounds-judge_one-end
slice_bounds-judge_one-end c = ends_inside _ _ _ _ _ _ _ _ c.loop-i.invariant c.loop-i-test.true c.requires.0

pub loop-i-preserved : goal.loop-i-preserved
loop-i-preserved c = judging_more _ _ _ _ _ _ _ _ c.loop-i.invariant c.loop-i-test.true _ _ c.judge_one.new.out refl refl c.requires.1 c.judge_one.auto.out c.judge_one.ensures
