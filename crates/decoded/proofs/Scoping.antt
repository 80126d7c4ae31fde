-- What number 9 tests: the latest binding step inside a term, and that a term of a step holds a symbol bound in that step or later.
-- Assumes that parts are lower and that the step's terms are there, which number 5 leaves; each law says so.
use mathlib.Core.Path.{◌≡◌, refl, sym, ◌∙◌}
use mathlib.Core.Bool.{Bool, true, false}
use mathlib.Core.Logic.{◌↔◌, ◌⊎◌, inl, inr}
use mathlib.Core.List.{List, []}
use Prim.Native.Nat.{ℕ, zero, suc, ◌≤◌, ◌<◌}
use native.Mathlib.Nat.{eq-or-lt_of_le}
use native.Mathlib.Omega.{arith}
use lib.Dec.{eqb, leb}
use lib.ListN.{get_or, get_or-append}
use lib.Seq.{get_or_at}
use borrow.Author.Tests.{eqb-true, leb-true, leb-false, lt-leb}
use Rattle.base.specs.Pick.{pick, both}
use Rattle.base.proofs.BothLaws.{clash}
use Rattle.codes.specs.Rows.{part_role, symbol_role, term_role as step_term_role}
use Rattle.table_layout.specs.Layout.{terms, steps, term_field, term_role, step_field, step_role}
use Rattle.table_binding.specs.Binding.{binder, larger, field_latest, latest, field_in_scope, in_scope}
use Rattle.table_binding.proofs.PassLaws.{latest_size}
use Rattle.decoded.specs.Meaning.{Uses, Holds, itself, inside, PartsLower, TermsThere, OutOfScope}
use Rattle.decoded.proofs.Tests.{fails_at, at_fails}
use Rattle.decoded.proofs.Binding.{binder_means}

-- the larger of two lies after k exactly if one of them does
larger_cases : (k a b : ℕ) → k < larger a b → (k < a) ⊎ (k < b)
larger_cases k a b h = go (leb a b) h
  where
    go : (t : Bool) → k < pick t b a → (k < a) ⊎ (k < b)
    go true h = inr h
    go false h = inl h

larger_left : (k a b : ℕ) → k < a → k < larger a b
larger_left k a b h = go (leb a b) refl
  where
    go : (t : Bool) → leb a b ≡ t → k < pick t b a
    go true e = let l = leb-true a b e in omega arith
    go false e = h

larger_right : (k a b : ℕ) → k < b → k < larger a b
larger_right k a b h = go (leb a b) refl
  where
    go : (t : Bool) → leb a b ≡ t → k < pick t b a
    go true e = h
    go false e = let l = leb-false a b e in omega arith

-- what the pass notes for a term stays
latest_more : (s : List ℕ) (n t : ℕ) → t < n → get_or (latest s (suc n)) t 0 ≡ get_or (latest s n) t 0
unfolding latest
latest_more s n t h = get_or-append (latest s n) _ 0 t (rw (latest_size s n) h)

latest_here : (s : List ℕ) (t : ℕ) → get_or (latest s (suc t)) t 0 ≡ larger (field_latest s (latest s t) t 0) (field_latest s (latest s t) t 1)
unfolding latest
latest_here s t = get_or_at (latest s t) _ [] 0 t (latest_size s t)

latest_stays : (s : List ℕ) (n t : ℕ) → t < n → get_or (latest s n) t 0 ≡ get_or (latest s (suc t)) t 0
latest_stays s zero t h = absurd (omega arith)
latest_stays s (suc n) t h = go (eq-or-lt_of_le h) (λ l. latest_stays s n t l)
  where
    go : (suc t ≡ suc n) ⊎ (suc t < suc n) → (t < n → get_or (latest s n) t 0 ≡ get_or (latest s (suc t)) t 0) → get_or (latest s (suc n)) t 0 ≡ get_or (latest s (suc t)) t 0
    go (inl e) r = let q : n ≡ t = omega arith in rw q
    go (inr l) r =
        let u : t < n = omega arith in
        latest_more s n t u ∙ r u

module _ (s : List ℕ) where
  -- what the pass notes for term t in the end
  abbrev late : ℕ → ℕ
  late t = get_or (latest s (terms s)) t 0

  late_at : (n t : ℕ) → t < n → n ≤ terms s → get_or (latest s n) t 0 ≡ late t
  late_at n t h k = latest_stays s n t h ∙ sym (latest_stays s (terms s) t (omega arith))

  late_made : (t : ℕ) → t < terms s → late t ≡ larger (field_latest s (latest s t) t 0) (field_latest s (latest s t) t 1)
  late_made t h = latest_stays s (terms s) t h ∙ latest_here s t

  -- one field of a term
  field_symbol : (lower : List ℕ) (t j : ℕ) → term_role s t j ≡ symbol_role → field_latest s lower t j ≡ binder s (term_field s t j) (steps s)
  unfolding field_latest
  field_symbol lower t j e = rw e

  field_part : (lower : List ℕ) (t j : ℕ) → term_role s t j ≡ part_role → field_latest s lower t j ≡ get_or lower (term_field s t j) 0
  unfolding field_latest
  field_part lower t j e = rw e

  field_cases : (lower : List ℕ) (k t j : ℕ) → k < field_latest s lower t j
      → ((term_role s t j ≡ symbol_role) × (k < binder s (term_field s t j) (steps s))) ⊎ ((term_role s t j ≡ part_role) × (k < get_or lower (term_field s t j) 0))
  unfolding field_latest
  field_cases lower k t j h = go (eqb (term_role s t j) symbol_role) refl (eqb (term_role s t j) part_role) refl h
    where
      go : (b : Bool) → eqb (term_role s t j) symbol_role ≡ b → (c : Bool) → eqb (term_role s t j) part_role ≡ c
          → k < pick b (binder s (term_field s t j) (steps s)) (pick c (get_or lower (term_field s t j) 0) 0)
          → ((term_role s t j ≡ symbol_role) × (k < binder s (term_field s t j) (steps s))) ⊎ ((term_role s t j ≡ part_role) × (k < get_or lower (term_field s t j) 0))
      go true p c q h = inl (eqb-true _ _ p, h)
      go false p true q h = inr (eqb-true _ _ q, h)
      go false p false q h = absurd (omega arith)

  module _ (low : PartsLower s) (k : ℕ) where
    -- a field of term t lies after k, so t does
    field_late : (t j : ℕ) → t < terms s → j < 2 → k < field_latest s (latest s t) t j → k < late t
    field_late t zero h u l = rw (late_made t h) (larger_left k _ _ l)
    field_late t (suc zero) h u l = rw (late_made t h) (larger_right k _ _ l)
    field_late t (suc (suc j)) h u l = absurd (omega arith)

    late_field : (t : ℕ) → t < terms s → k < late t → (j : ℕ) × (j < 2) × (k < field_latest s (latest s t) t j)
    late_field t h l = go (larger_cases k _ _ (rw (late_made t h) at l))
      where
        go : (k < field_latest s (latest s t) t 0) ⊎ (k < field_latest s (latest s t) t 1) → (j : ℕ) × (j < 2) × (k < field_latest s (latest s t) t j)
        go (inl l) = (0, omega arith, l)
        go (inr l) = (1, omega arith, l)

    -- a part is lower, and what is noted for it is what the pass reads
    part_low : (t j : ℕ) → t < terms s → j < 2 → term_role s t j ≡ part_role → term_field s t j < t
    part_low t j h u e = low t (term_field s t j) h (record { at = j; among = u; is_part = e; names = refl })

    -- a term that holds a symbol bound from k on
    holds_late : {t x : ℕ} → Holds s t x → t < terms s → k < binder s x (steps s) → k < late t
    holds_late {t} (itself j u r e) h l = field_late t j h u (rw (field_symbol (latest s t) t j r, e) l)
    holds_late {t} (inside j u r m) h l =
        let p = part_low t j h (omega arith) r in
        let i : k < late (term_field s t j) = holds_late m (omega arith) l in
        field_late t j h (omega arith) (rw (field_part (latest s t) t j r, late_at t (term_field s t j) p (omega arith)) i)

    late_holds : (n t : ℕ) → t < n → t < terms s → k < late t → (x : ℕ) × Holds s t x × (k < binder s x (steps s))
    late_holds zero t m h l = absurd (omega arith)
    late_holds (suc n) t m h l =
        let (j, u, f) = late_field t h l in
        go j u (field_cases (latest s t) k t j f) (λ i p q r. late_holds n i p q r)
      where
        go : (j : ℕ) → j < 2
            → ((term_role s t j ≡ symbol_role) × (k < binder s (term_field s t j) (steps s))) ⊎ ((term_role s t j ≡ part_role) × (k < get_or (latest s t) (term_field s t j) 0))
            → ((i : ℕ) → i < n → i < terms s → k < late i → (x : ℕ) × Holds s i x × (k < binder s x (steps s)))
            → (x : ℕ) × Holds s t x × (k < binder s x (steps s))
        go j u (inl (r, b)) f = (term_field s t j, itself j u r refl, b)
        go j u (inr (r, b)) f =
            let p = part_low t j h u r in
            let (x, m, l) = f (term_field s t j) (omega arith) (omega arith) (rw (late_at t (term_field s t j) p (omega arith)) at b) in
            (x, inside j u r m, l)

  -- a field of step k is out of scope exactly if it is a term noted after k
  field_out : (k j : ℕ) → (field_in_scope s k j ≡ false) ↔ ((step_role s k j ≡ step_term_role) × (k < late (step_field s k j)))
  unfolding field_in_scope
  field_out k j = (λ h. to (eqb (step_role s k j) step_term_role) refl h, λ (r, l). rw r (lt-leb _ _ l))
    where
      to : (b : Bool) → eqb (step_role s k j) step_term_role ≡ b → pick b (leb (late (step_field s k j)) k) true ≡ false → (step_role s k j ≡ step_term_role) × (k < late (step_field s k j))
      to true q h = (eqb-true _ _ q, leb-false _ _ h)
      to false q h = clash refl h

-- number 9 applies exactly if a term of step k holds, at any depth, a symbol bound in step k or later; where parts are lower and
-- the step's terms are there
pub in_scope_means : (s : List ℕ) (k : ℕ) → PartsLower s → TermsThere s k → (in_scope s k ≡ false) ↔ OutOfScope s k
unfolding in_scope
in_scope_means s k low there = (λ h. to (fails_at (λ j. field_in_scope s k j) 0 h), λ o. from o)
  where
    to : (j : ℕ) × (0 ≤ j) × (j < 2) × (field_in_scope s k j ≡ false) → OutOfScope s k
    to (j, z, u, h) =
        let (r, l) = (field_out s k j).0 h in
        let w : Uses s k (step_field s k j) = record { at = j; among = u; is_term = r; names = refl } in
        let t : step_field s k j < terms s = there (step_field s k j) w in
        let (x, m, b) = late_holds s low k (terms s) (step_field s k j) t t l in
        record { term = step_field s k j; symbol = x; uses = w; holds = m; bound_late = (binder_means s x (steps s) k).0 b }

    from : OutOfScope s k → both (field_in_scope s k 0) (field_in_scope s k 1) ≡ false
    from o =
        let w = o.uses in
        let l : k < late s o.term = holds_late s low k o.holds (there o.term w) ((binder_means s o.symbol (steps s) k).1 o.bound_late) in
        at_fails (λ j. field_in_scope s k j) 0 w.at (omega arith) w.among ((field_out s k w.at).1 (w.is_term, rw w.names l))
