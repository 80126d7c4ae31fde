-- `freshness::mark_down` meets its contract. Assumes nothing.
use native.Mathlib.Omega.{arith}
use Rattle.freshness.proofs.MarkLaws.{down_start, down_more, down_end}
use Rattle.freshness.proofs.mark_down.Goals as goal

pub loop-u-init : goal.loop-u-init
loop-u-init c = (omega arith, down_start _ _ _ _)

pub loop-u-preserved : goal.loop-u-preserved
loop-u-preserved c = (omega arith, down_more _ _ _ _ _ _ _ _ (omega arith) c.loop-u.auto.u (omega arith) c.loop-u.invariant.1 c.mark_parts.ensures)

pub returns : goal.returns
returns c = down_end _ _ _ _ _ _ c.loop-u-test.false c.loop-u.invariant.0 c.loop-u.invariant.1
