-- `freshness::mark_parts` meets its contract. Assumes nothing.
use native.Mathlib.Omega.{arith}
use Rattle.freshness.specs.Marks.{marked}
use Rattle.freshness.proofs.MarkLaws.{parts_unmarked, parts_none, parts_both}
use Rattle.freshness.proofs.mark_parts.Goals as goal
use Rattle.freshness.proofs.mark_parts.Goals.{else-tag-gt0-via-then-tag-gt0+else-tag-lt3, else-tag-gt0-via-else-tag-gt0}

pub returns-then-not-marks-u : goal.returns-then-not-marks-u
unfolding marked
returns-then-not-marks-u c = parts_unmarked _ _ _ c.if-not-marks-u.true

pub returns-then-tag-lt3 : goal.returns-then-tag-lt3
unfolding marked
returns-then-tag-lt3 c =
    parts_both _ _ _ c.if-not-marks-u.false _ c.tag-tag.ensures c.if-tag-gt0.true c.if-tag-lt3.true
    _ c.part.ensures _ c.mark.ensures _ c.part-then-tag-lt3.ensures _ c.mark-then-tag-lt3.ensures

pub returns-else-tag-gt0 : goal.returns-else-tag-gt0
returns-else-tag-gt0 c = parts_none _ _ _ _ c.tag-tag.ensures (elim c.else-tag-gt0.branch [
  | else-tag-gt0-via-then-tag-gt0+else-tag-lt3 w ↦ λ h. omega (arith, h.1)
  | else-tag-gt0-via-else-tag-gt0 w ↦ λ h. omega (arith, h.0)
])
