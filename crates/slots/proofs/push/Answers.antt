-- `slots::push` meets its contract: the pending terms and the types from here on give the result. Assumes nothing.
use Rattle.std.proofs.Common.{◌≡◌, refl, Bool, true, false, [], ◌∷◌, Result, Ok, Err, is_ok, OnOk, ℕ, ◌<◌, ◌≤◌, ◌↔◌, ◌∙◌, sym, arith}
use Rattle.type_bytes.proofs.EndLaws.{read_at}
use Rattle.slots.proofs.PushLaws.{walk_start, walk_done, walk_past, walk_message, walk_apart, walk_met, walk_not_pair, walk_full, walk_pair, walk_not_seal, walk_seal}
use Rattle.slots.proofs.push.Goals as goal

-- a test answers
not_less : {b : Bool} (m n : ℕ) → false ≡ b → (b ≡ true) ↔ (m < n) → n ≤ m
not_less m n e v = let k : ¬ (m < n) = λ l. let q : false ≡ true = e ∙ v.1 l in cc in omega (arith, k)

-- one more was pushed
pushed : {A E P : Type 0} (r : Result A E) → true ≡ is_ok r → OnOk r P → P
pushed (Ok a) e p = p
pushed (Err a) e p = absurd cc

pub loop-u-init : goal.loop-u-init
loop-u-init c =
    let q : c.push.new.self.items ≡ c.args.t ∷ [] = rw c.new-pending.ensures at c.push.ensures.items in
    rw q (omega arith, walk_start _ _ _ _ _)

pub returns-in_err-b : goal.returns-in_err-b
returns-in_err-b c = rw c.from_residual.ensures (walk_past _ _ c.in-Some.ensures.items c.loop-u.invariant.1 _ _ c.in_err-b.ensures.lookup.3)

pub loop-u-preserved-then-b-eq-MESSAGE : goal.loop-u-preserved-then-b-eq-MESSAGE
loop-u-preserved-then-b-eq-MESSAGE c = (omega (arith, c.in-Some.ensures.len, c.loop-u.invariant.0), walk_message _ _ c.in-Some.ensures.items c.loop-u.invariant.1 (read_at _ _ c.in_ok-b.field-0 c.in_ok-b.ensures.lookup) _ c.if-b-eq-MESSAGE.true c.past-at.ensures)

pub returns-in_err-slot_meet-in-0 : goal.returns-in_err-slot_meet-in-0
returns-in_err-slot_meet-in-0 c = rw c.from_residual-in_err-slot_meet-in-0.ensures (walk_apart _ _ c.in-Some.ensures.items c.loop-u.invariant.1 (read_at _ _ c.in_ok-b.field-0 c.in_ok-b.ensures.lookup) c.if-b-eq-MESSAGE.false c.term_code.ensures c.term_part-part.ensures c.in-0.is _ c.in_err-slot_meet-in-0.ensures)

pub loop-u-preserved-in-0-1 : goal.loop-u-preserved-in-0-1
loop-u-preserved-in-0-1 c = (omega (arith, c.in-Some.ensures.len, c.loop-u.invariant.0), walk_met _ _ c.in-Some.ensures.items c.loop-u.invariant.1 (read_at _ _ c.in_ok-b.field-0 c.in_ok-b.ensures.lookup) c.if-b-eq-MESSAGE.false c.term_code.ensures c.term_part-part.ensures c.in-0.is _ _ c.in_ok-slot_meet-in-0.ensures c.past-at-in-0.ensures)

pub returns-in_err-ok-in-1 : goal.returns-in_err-ok-in-1
returns-in_err-ok-in-1 c = rw c.from_residual-in_err-ok-in-1.ensures (walk_full _ _ c.in-Some.ensures.items c.loop-u.invariant.1 (read_at _ _ c.in_ok-b.field-0 c.in_ok-b.ensures.lookup) c.if-b-eq-MESSAGE.false c.term_code.ensures c.term_part-part.ensures c.in-1.is c.if-b-eq-PAIR.true _ _ _ _ c.push-in-1.ensures.items (not_less _ _ c.in_err-ok-in-1.ensures.variant c.try_push.ensures.variant))

pub loop-u-preserved-then-b-eq-PAIR : goal.loop-u-preserved-then-b-eq-PAIR
loop-u-preserved-then-b-eq-PAIR c =
    let q = pushed c.try_push.result c.in_ok-ok-in-1.ensures.variant c.try_push.ensures.ok in
    let l = pushed c.try_push.result c.in_ok-ok-in-1.ensures.variant c.try_push.ensures.len in
    (omega (arith, l, c.try_push.ensures.variant.0 (sym c.in_ok-ok-in-1.ensures.variant)), walk_pair _ _ c.in-Some.ensures.items c.loop-u.invariant.1 (read_at _ _ c.in_ok-b.field-0 c.in_ok-b.ensures.lookup) c.if-b-eq-MESSAGE.false c.term_code.ensures c.term_part-part.ensures c.in-1.is c.if-b-eq-PAIR.true _ _ _ c.term_part.ensures c.push-in-1.ensures.items q)

pub returns-in_default-2 : goal.returns-in_default-2
returns-in_default-2 c = walk_not_pair _ _ c.in-Some.ensures.items c.loop-u.invariant.1 (read_at _ _ c.in_ok-b.field-0 c.in_ok-b.ensures.lookup) c.if-b-eq-MESSAGE.false c.term_code.ensures c.term_part-part.ensures c.in-1.is _ c.if-b-eq-PAIR.false

pub returns-in_default-2-2 : goal.returns-in_default-2-2
returns-in_default-2-2 c = walk_not_seal _ _ c.in-Some.ensures.items c.loop-u.invariant.1 (read_at _ _ c.in_ok-b.field-0 c.in_ok-b.ensures.lookup) c.if-b-eq-MESSAGE.false c.term_code.ensures c.term_part-part.ensures (omega (arith, c.in-2.is)) (omega (arith, c.in-2.is)) _ c.if-b-eq-CIPHERTEXT.false

pub loop-u-preserved : goal.loop-u-preserved
loop-u-preserved c = (omega (arith, c.push-in-2.ensures.len, c.in-Some.ensures.len, c.loop-u.invariant.0), walk_seal _ _ c.in-Some.ensures.items c.loop-u.invariant.1 (read_at _ _ c.in_ok-b.field-0 c.in_ok-b.ensures.lookup) c.if-b-eq-MESSAGE.false c.term_code.ensures c.term_part-part.ensures (omega (arith, c.in-2.is)) (omega (arith, c.in-2.is)) _ c.if-b-eq-CIPHERTEXT.true c.push-in-2.ensures.items)

pub returns : goal.returns
returns c = walk_done _ _ _ _ _ _ _ _ (not_less 0 _ refl c.in_default.ensures.variant) c.loop-u.invariant.1
