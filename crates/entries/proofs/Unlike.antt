-- After number 6 equal entries have equal indexes, of any kind that has two fields. Assumes nothing.
use mathlib.Core.Path.{◌≡◌, refl, sym}
use mathlib.Core.Bool.{Bool, true, false, not}
use mathlib.Core.Logic.{◌⊎◌, inl, inr}
use mathlib.Core.List.{List}
use Prim.Native.Nat.{ℕ, ◌≤◌, ◌<◌}
use native.Mathlib.Nat.{eq-or-lt_of_le}
use native.Mathlib.Decide.{dec_le}
use native.Mathlib.Omega.{arith}
use lib.Dec.{eqb}
use borrow.Author.Tests.{eq-eqb, eqb-true, not-true, not-false}
use Rattle.base.specs.Search.{Search, clean, wrong, first, all_right}
use Rattle.base.proofs.Searched.{Found, first_bad, found, all_right_each, each_all_right}
use Rattle.entries.specs.Fields.{code, field, same_entry}
use Rattle.entries.specs.Faults.{alone}
use Rattle.base.proofs.BothLaws.{clash, both_left, both_right}

-- two entries are equal exactly if their codes and their fields are
pub parts_same : (s : List ℕ) (kind base i j : ℕ) → code s kind base i ≡ code s kind base j → field s kind base i 0 ≡ field s kind base j 0
    → field s kind base i 1 ≡ field s kind base j 1 → same_entry s kind base i j ≡ true
unfolding same_entry
parts_same s kind base i j a b c = rw (eq-eqb _ _ a, eq-eqb _ _ b, eq-eqb _ _ c)

pub same_parts_lem : (s : List ℕ) (kind base i j : ℕ) → same_entry s kind base i j ≡ true
    → (code s kind base i ≡ code s kind base j) × (field s kind base i 0 ≡ field s kind base j 0) × (field s kind base i 1 ≡ field s kind base j 1)
unfolding same_entry
same_parts_lem s kind base i j e =
    let r = both_right (eqb (code s kind base i) (code s kind base j)) _ e in (
      eqb-true _ _ (both_left (eqb (code s kind base i) (code s kind base j)) _ e),
      eqb-true _ _ (both_left (eqb (field s kind base i 0) (field s kind base j 0)) _ r),
      eqb-true _ _ (both_right (eqb (field s kind base i 0) (field s kind base j 0)) _ r),
    )

-- an entry that is alone equals no earlier one
pub alone_apart : (s : List ℕ) (kind base i j : ℕ) → alone s kind base i ≡ true → j < i → same_entry s kind base i j ≡ false
unfolding alone
alone_apart s kind base i j e h = not-true (same_entry s kind base i j) (all_right_each (λ k. not (same_entry s kind base i k)) i e j h)

-- and one that equals no earlier one is alone
pub apart_alone : (s : List ℕ) (kind base i : ℕ) → ((j : ℕ) → j < i → ¬ (same_entry s kind base i j ≡ true)) → alone s kind base i ≡ true
unfolding alone
apart_alone s kind base i f = each_all_right (λ j. not (same_entry s kind base i j)) i λ j h. other j (f j h) (same_entry s kind base i j) refl
  where
    other : (j : ℕ) → ¬ (same_entry s kind base i j ≡ true) → (b : Bool) → same_entry s kind base i j ≡ b → not b ≡ true
    other j f false e = refl
    other j f true e = absurd (f e)

-- one that is not alone equals an earlier one
pub twin_there : (s : List ℕ) (kind base i : ℕ) → alone s kind base i ≡ false → (j : ℕ) × (j < i) × (same_entry s kind base i j ≡ true)
unfolding alone
twin_there s kind base i e = go (first (λ j. not (same_entry s kind base i j)) 0 i) (found (λ j. not (same_entry s kind base i j)) 0 i (omega arith)) e
  where
    go : (t : Search) → Found (λ j. not (same_entry s kind base i j)) 0 i t → all_right t ≡ false → (j : ℕ) × (j < i) × (same_entry s kind base i j ≡ true)
    go clean f e = clash refl e
    go (wrong j) (first_bad l h q f) e = (j, h, not-false _ q)

-- where each is alone, equal entries have equal indexes
pub entries_unlike : (s : List ℕ) (kind base n : ℕ) → ((i : ℕ) → i < n → alone s kind base i ≡ true)
    → (i j : ℕ) → i < n → j < n → code s kind base i ≡ code s kind base j → field s kind base i 0 ≡ field s kind base j 0
    → field s kind base i 1 ≡ field s kind base j 1 → i ≡ j
entries_unlike s kind base n f i j h k a b c = go (dec_le i j)
  where
    upward : (i ≡ j) ⊎ (i < j) → i ≡ j
    upward (inl e) = e
    upward (inr l) = clash (parts_same s kind base j i (sym a) (sym b) (sym c)) (alone_apart s kind base j i (f j k) l)

    go : Dec (i ≤ j) → i ≡ j
    go (yes l) = upward (eq-or-lt_of_le l)
    go (no l) = clash (parts_same s kind base i j a b c) (alone_apart s kind base i j (f i h) (omega arith))
