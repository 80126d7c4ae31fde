-- What each turn of the two passes adds to its array. Assumes nothing.
use mathlib.Core.Path.{◌≡◌, refl, sym, ◌∙◌}
use mathlib.Core.Bool.{Bool, true, false}
use mathlib.Core.Logic.{◌⊎◌, inl, inr}
use mathlib.Core.List.{List, [], ◌∷◌, ◌++◌}
use Prim.Native.Nat.{ℕ, zero, suc, max, ◌+◌, ◌<◌, ◌≤◌}
use native.Mathlib.Numerals.{add-one}
use native.Mathlib.Nat.{eq-or-lt_of_le}
use native.Mathlib.Omega.{arith}
use lib.Dec.{leb, eqb}
use lib.ListN.{length, get_or, length-append, length-replicate, get_or-replicate, get_or-append, get_or-eq_default}
use lib.Seq.{get_or_at}
use borrow.Author.Tests.{leb-true, leb-false, eq-eqb, ne_eqb}
use Rattle.std.proofs.Math.Nat.{max-eq_left, max-eq_right}
use Rattle.base.specs.Pick.{pick, both}
use Rattle.marks.specs.Put.{Put, blank}
use Rattle.table_binding.specs.Binding.{binds, binder, larger, field_latest, latest}
use Rattle.table_binding.specs.Tables.{Binders, Latest}

blank_size : length blank ≡ 256
unfolding blank
blank_size = length-replicate {A = ℕ} 256 0

-- no step is noted yet
pub binders_start : (s z : List ℕ) → z ≡ blank → Binders s 0 z
unfolding binder blank
binders_start s z e = rw e (record { size = blank_size; at = λ x h. get_or-replicate {A = ℕ} 256 x 0 0 h })

-- one step more
pub binders_more : (s z o : List ℕ) (k : ℕ) → Binders s k z → Put z o (binds s k) (k + 1) → Binders s (k + 1) o
unfolding binder
binders_more s z o k b p = record {
  size = p.size ∙ b.size;
  at = λ x h. p.at x (rw b.size h) ∙ rw (add-one, b.at x h);
}

pub latest_size : (s : List ℕ) (n : ℕ) → length (latest s n) ≡ n
unfolding latest
latest_size s zero = refl
latest_size s (suc n) = length-append (latest s n) _ ∙ rw (latest_size s n) (omega arith)

-- one term more
pub latest_more : (s z o : List ℕ) (i : ℕ) → i < 256 → Latest s i z
    → Put z o (λ j. both true (eqb i j)) (larger (field_latest s (latest s i) i 0) (field_latest s (latest s i) i 1)) → Latest s (i + 1) o
unfolding latest
latest_more s z o i b l p = record { size = p.size ∙ l.size; at = λ j h. rw add-one (go j (eq-or-lt_of_le h)) }
  where
    here : ℕ
    here = larger (field_latest s (latest s i) i 0) (field_latest s (latest s i) i 1)

    go : (j : ℕ) → (suc j ≡ i + 1) ⊎ (suc j < i + 1) → get_or o j 0 ≡ get_or (latest s i ++ (here ∷ [])) j 0
    go j (inl e) =
        let q : j ≡ i = omega arith in
        rw q (p.at i (rw l.size b) ∙ rw (eq-eqb i i refl) (sym (get_or_at (latest s i) here [] 0 i (latest_size s i))))
    go j (inr h) =
        let lt : j < i = omega arith in
        p.at j (rw l.size (omega arith))
        ∙ rw (ne_eqb i j (λ e. absurd (omega arith))) (l.at j lt ∙ sym (get_or-append (latest s i) (here ∷ []) 0 j (rw (latest_size s i) lt)))

-- the library's maximum is the larger of two
pub larger_max : (a b : ℕ) → larger a b ≡ max a b
larger_max a b = go (leb a b) refl
  where
    go : (t : Bool) → leb a b ≡ t → pick t b a ≡ max a b
    go true e = sym (max-eq_right (leb-true _ _ e))
    go false e = sym (max-eq_left (omega (arith, leb-false _ _ e)))

-- past the terms there is none
pub latest_past : (s : List ℕ) (n i : ℕ) → n ≤ i → get_or (latest s n) i 0 ≡ 0
latest_past s n i h = get_or-eq_default (latest s n) 0 (rw (latest_size s n) h)
