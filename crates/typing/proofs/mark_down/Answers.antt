-- `typing::mark_down` meets its contract. Assumes nothing.
use native.Mathlib.Omega.{arith}
use Rattle.typing.proofs.MarkLaws.{down_start, down_more, down_end}
use Rattle.typing.proofs.mark_down.Goals as goal

pub loop-u-init : goal.loop-u-init
loop-u-init c = down_start _ _ _ c.term_count-u.ensures

pub loop-u-preserved : goal.loop-u-preserved
loop-u-preserved c = down_more _ _ _ _ _ _ (omega (arith, c.loop-u-test.true)) (omega (arith, c.loop-u.auto.u, c.term_count-u.type_inv)) c.loop-u.invariant c.mark_parts.ensures

pub returns : goal.returns
returns c = down_end _ _ _ _ c.loop-u-test.false c.loop-u.invariant
