-- `visible::visible_at` meets its contract: the pending values and the types from here on decide. Assumes nothing.
use mathlib.Core.Path.{sym, ◌∙◌}
use native.Mathlib.Omega.{arith}
use borrow.Author.Rules.{rules}
use Rattle.visible.proofs.WalkLaws.{walk_start, walk_done, walk_past, walk_lacks, walk_leaf, walk_not_pair, walk_full, walk_pair}
use Rattle.visible.proofs.visible_at.Goals as goal

pub loop-x-init : goal.loop-x-init
loop-x-init c = rw (c.push.ensures.items, c.new-pending.ensures) (walk_start _ _ _ _ _)

pub returns-in_default-get : goal.returns-in_default-get
returns-in_default-get c = walk_past _ _ _ _ _ _ _ _ _ c.in-Some.ensures.items c.loop-x.invariant _ (search rules)

pub returns-then-tag_at-ne1 : goal.returns-then-tag_at-ne1
returns-then-tag_at-ne1 c = walk_not_pair _ _ _ _ _ _ _ _ _ c.in-Some.ensures.items c.loop-x.invariant (search rules) c.in-Some-get.field-0.now (search rules) c.if-b-eq4.true (λ y. c.if-tag_at-ne1.true (c.tag_at.ensures ∙ y))

pub returns-then-remaining_capacity-lt2 : goal.returns-then-remaining_capacity-lt2
returns-then-remaining_capacity-lt2 c = walk_full _ _ _ _ _ _ _ _ _ c.in-Some.ensures.items c.loop-x.invariant (search rules) c.in-Some-get.field-0.now (search rules) c.if-b-eq4.true _ (omega arith)

pub loop-x-preserved-then-b-eq4 : goal.loop-x-preserved-then-b-eq4
loop-x-preserved-then-b-eq4 c = walk_pair _ _ _ _ _ _ _ _ _ c.in-Some.ensures.items c.loop-x.invariant (search rules) c.in-Some-get.field-0.now (search rules) c.if-b-eq4.true _ _ (sym c.tag_at.ensures ∙ c.if-tag_at-ne1.false) c.part_at-then-b-eq4.ensures c.part_at.ensures _ _ c.push-then-b-eq4.ensures.items c.push-then-b-eq4-2.ensures.items

pub returns-then-not-leaf_seen : goal.returns-then-not-leaf_seen
returns-then-not-leaf_seen c = walk_lacks _ _ _ _ _ _ _ _ _ c.in-Some.ensures.items c.loop-x.invariant (search rules) c.in-Some-get.field-0.now (search rules) c.if-b-eq4.false _ c.leaf_seen.ensures c.if-not-leaf_seen.true

pub loop-x-preserved : goal.loop-x-preserved
loop-x-preserved c = walk_leaf _ _ _ _ _ _ _ _ _ c.in-Some.ensures.items c.loop-x.invariant (search rules) c.in-Some-get.field-0.now (search rules) c.if-b-eq4.false _ c.leaf_seen.ensures c.if-not-leaf_seen.false _ c.past-at.ensures

pub returns : goal.returns
returns c = walk_done _ _ _ _ _ _ c.loop-x.pending.items (search rules) c.loop-x.invariant
