-- No second answer fits the shelf: the promise determines the refusal, the count, and each byte of the lent buffer. Assumes nothing.
use mathlib.Core.Path.{◌≡◌, refl, sym, ap, ◌∙◌}
use mathlib.Core.List.{List}
use Prim.Native.Nat.{ℕ, ◌+◌, ◌*◌, ◌/◌, ◌%◌, ◌<◌}
use native.Mathlib.Omega.{arith}
use lib.ListN.{length, take, drop, get_or}
use lib.Seq.{get_or-take, get_or-drop, ext_get_or}
use Rattle.answers.specs.declared.Refusal.{Refusal}
use Rattle.buffers.specs.Over.{over}
use Rattle.type_service.proofs.ServiceLaws.{not_both, refused_once}
use Rattle.judge_service.proofs.Exact.{judged_once}
use Rattle.shelf_service.specs.Shelf.{verdict_bytes, IsVerdict, Verdicts, ShelfChecked, too_many, not_added_up, too_short, in_order, ShelfAnswered, table_refused, shelf_refused, shelf_judged}
use Rattle.std.proofs.Common.{Result, Ok, Err}
use Rattle.answers.specs.Ladder.{Check}

-- ── The verdicts ──

-- a list has one verdict
verdict_once : (t l b c : List ℕ) → IsVerdict t l b → IsVerdict t l c → b ≡ c
verdict_once t l b c p q = p.bytes ∙ ap verdict_bytes (judged_once t l p.verdict q.verdict p.judged q.judged) ∙ sym q.bytes

-- lists that are equal four by four
by_fours : (n : ℕ) (v w : List ℕ) → length v ≡ 4 * n → length w ≡ 4 * n → ((i : ℕ) → i < n → take 4 (drop (4 * i) v) ≡ take 4 (drop (4 * i) w)) → v ≡ w
by_fours n v w p q e = ext_get_or 0 v w (p ∙ sym q) (λ j h. of_four v j ∙ ap (λ (l : List ℕ). get_or l (j % 4) 0) (e (j / 4) (omega arith)) ∙ sym (of_four w j))
  where
    of_four : (u : List ℕ) (j : ℕ) → get_or u j 0 ≡ get_or (take 4 (drop (4 * (j / 4)) u)) (j % 4) 0
    of_four u j =
        let m : 4 * (j / 4) + j % 4 ≡ j = omega arith in
        sym (get_or-take 4 (drop (4 * (j / 4)) u) (j % 4) 0 (omega arith) ∙ get_or-drop (4 * (j / 4)) u (j % 4) 0 ∙ ap (λ k. get_or u k 0) m)

-- a shelf has one list of verdicts
pub verdicts_once : (t lists lengths : List ℕ) (n : ℕ) (v w : List ℕ) → Verdicts t lists lengths n v → Verdicts t lists lengths n w → v ≡ w
verdicts_once t lists lengths n v w p q = by_fours n v w p.size q.size (λ i h. verdict_once t _ _ _ (p.each i h) (q.each i h))

-- ── The shelf's own numbers ──

pub checked_once : (lists lengths : List ℕ) (room : ℕ) (a b : Check) → ShelfChecked lists lengths room a → ShelfChecked lists lengths room b → a ≡ b
checked_once lists lengths room a b (too_many h) (too_many k) = refl
checked_once lists lengths room a b (too_many h) (not_added_up k n) = absurd (omega arith)
checked_once lists lengths room a b (too_many h) (too_short k e l) = absurd (omega arith)
checked_once lists lengths room a b (too_many h) (in_order k e l) = absurd (omega arith)
checked_once lists lengths room a b (not_added_up h n) (too_many k) = absurd (omega arith)
checked_once lists lengths room a b (not_added_up h n) (not_added_up k m) = refl
checked_once lists lengths room a b (not_added_up h n) (too_short k e l) = absurd (n e)
checked_once lists lengths room a b (not_added_up h n) (in_order k e l) = absurd (n e)
checked_once lists lengths room a b (too_short h e l) (too_many k) = absurd (omega arith)
checked_once lists lengths room a b (too_short h e l) (not_added_up k n) = absurd (n e)
checked_once lists lengths room a b (too_short h e l) (too_short k f m) = refl
checked_once lists lengths room a b (too_short h e l) (in_order k f m) = absurd (omega arith)
checked_once lists lengths room a b (in_order h e l) (too_many k) = absurd (omega arith)
checked_once lists lengths room a b (in_order h e l) (not_added_up k n) = absurd (n e)
checked_once lists lengths room a b (in_order h e l) (too_short k f m) = absurd (omega arith)
checked_once lists lengths room a b (in_order h e l) (in_order k f m) = refl

-- ── The answer ──

-- passed and refused are two
apart : {C : Type 0} {x : Refusal} → ◌≡◌ {A = Check} (Ok tt) (Err x) → C
apart e = let y : ◌≡◌ {A = ℕ} 0 1 = cc in absurd (omega arith)

-- two answers, with two contents of the buffer, that both meet the promise are equal
pub shelf_answered_once : (t lists lengths z o p : List ℕ) (a b : Result ℕ Refusal) → ShelfAnswered t lists lengths z o a → ShelfAnswered t lists lengths z p b → (o ≡ p) × (a ≡ b)
shelf_answered_once t lists lengths z o p a b (table_refused r) (table_refused q) = (refl, ap Err (refused_once t _ _ r q))
shelf_answered_once t lists lengths z o p a b (table_refused r) (shelf_refused w c) = absurd (not_both t _ _ w r)
shelf_answered_once t lists lengths z o p a b (table_refused r) (shelf_judged w c v) = absurd (not_both t _ _ w r)
shelf_answered_once t lists lengths z o p a b (shelf_refused w c) (table_refused r) = absurd (not_both t _ _ w r)
shelf_answered_once t lists lengths z o p a b (shelf_refused {x = x} w c) (shelf_refused {x = y} u d) =
    let e : ◌≡◌ {A = Check} (Err x) (Err y) = checked_once lists lengths (length z) _ _ c d in let f : x ≡ y = cc in (refl, ap Err f)
shelf_answered_once t lists lengths z o p a b (shelf_refused w c) (shelf_judged u d v) = apart (checked_once lists lengths (length z) _ _ d c)
shelf_answered_once t lists lengths z o p a b (shelf_judged w c v) (table_refused r) = absurd (not_both t _ _ w r)
shelf_answered_once t lists lengths z o p a b (shelf_judged w c v) (shelf_refused u d) = apart (checked_once lists lengths (length z) _ _ c d)
shelf_answered_once t lists lengths z o p a b (shelf_judged {v = v} w c k) (shelf_judged {v = v'} u d j) =
    let e : v ≡ v' = verdicts_once t lists lengths (length lengths) v v' k j in (ap (λ (l : List ℕ). over l z) e, ap (λ (l : List ℕ). Ok (length l)) e)
