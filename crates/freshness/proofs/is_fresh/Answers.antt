-- `freshness::is_fresh` meets its contract. Assumes nothing.
use mathlib.Core.Path.{refl}
use mathlib.Core.Logic.{inl, inr}
use Rattle.freshness.proofs.HeldLaws.{no_marks, fresh_past, fresh_not, fresh_by}
use Rattle.freshness.proofs.is_fresh.Goals as goal
use Rattle.freshness.proofs.is_fresh.Goals.{then-count-gt1536-via-then-count-gt1536, then-count-gt1536-via-else-count-gt1536+then-given-gt608, then-count-gt1536-via-else-count-gt1536+else-given-gt608+then-values-count}

pub returns-then-count-v : goal.returns-then-count-v
returns-then-count-v c = fresh_past _ _ _ _ _ c.if-count-v.true

pub returns-then-count-gt1536 : goal.returns-then-count-gt1536
returns-then-count-gt1536 c =
    elim c.then-count-gt1536.branch [
      | then-count-gt1536-via-then-count-gt1536 w ↦ fresh_not _ _ _ _ _ (inl w.if-count-gt1536.true) _
      | then-count-gt1536-via-else-count-gt1536+then-given-gt608 w ↦ fresh_not _ _ _ _ _ (inr (inl w.if-given-gt608.true)) _
      | then-count-gt1536-via-else-count-gt1536+else-given-gt608+then-values-count w ↦ fresh_not _ _ _ _ _ (inr (inr w.if-values-count.true)) _
    ]

pub returns : goal.returns
unfolding no_marks
returns c = fresh_by _ _ _ _ _ c.if-count-v.false _ _ _ refl c.mark_held.ensures c.mark_down.ensures
