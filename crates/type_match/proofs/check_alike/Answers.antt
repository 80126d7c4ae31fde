-- `type_match::check_alike` meets its contract. Assumes nothing.
use mathlib.Core.Path.{◌≡◌, refl, sym, ◌∙◌}
use native.Mathlib.Omega.{arith}
use Rattle.list.proofs.Walks.{type_at_first}
use Rattle.type_match.proofs.MatchLaws.{none_yet, number_differs, as_many, one_more, one_differs, is_same, not_same, next_at}
use Rattle.type_match.proofs.check_alike.Goals as goal

pub loop-i-init : goal.loop-i-init
loop-i-init c = (sym (type_at_first _), omega arith, none_yet _ _ _)

pub returns-then-ne : goal.returns-then-ne
returns-then-ne c =
    let (a, b, p) = c.loop-i.invariant in
    one_differs _ _ _ _ p _ a (omega arith) (omega arith) _ _ c.type_body.ensures c.slot_type.ensures (not_same _ _ _ c.ne.ensures c.if-ne.true) _ c.refuse.ensures

pub loop-i-preserved : goal.loop-i-preserved
loop-i-preserved c =
    let (a, b, p) = c.loop-i.invariant in (
      next_at _ _ _ _ _ a c.byte_at.ensures refl,
      omega arith,
      one_more _ _ _ _ p _ a (omega arith) (omega arith) _ _ c.type_body.ensures c.slot_type.ensures (is_same _ _ _ c.ne.ensures c.if-ne.false),
    )

pub returns-then-m-n : goal.returns-then-m-n
returns-then-m-n c = as_many _ _ _ _ c.loop-i.invariant.2 (omega arith) (sym c.symbol_count-m.ensures ∙ c.if-m-n.true)

pub returns : goal.returns
returns c =
    let e : c.min-both.result ≡ c.loop-i.i = omega arith in
    number_differs _ _ _ _ c.loop-i.invariant.2 (omega arith) (rw (← c.symbol_count-m.ensures) c.if-m-n.false) _ (c.refuse-2.ensures ∙ rw e refl)
