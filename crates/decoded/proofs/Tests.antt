-- Tests joined, and what they say of two fields that follow each other. Assumes nothing.
use mathlib.Core.Path.{◌≡◌, refl}
use mathlib.Core.Bool.{Bool, true, false}
use mathlib.Core.Logic.{◌↔◌, ◌⊎◌, inl, inr}
use Prim.Native.Nat.{ℕ, suc, ◌≤◌, ◌<◌}
use native.Mathlib.Nat.{eq-or-lt_of_le}
use native.Mathlib.Omega.{arith}
use lib.Dec.{eqb}
use borrow.Author.Tests.{eqb-true, eq-eqb}
use Rattle.base.specs.Pick.{both, either}
use Rattle.base.proofs.BothLaws.{both_left, both_right, both_true}

-- one of two holds
pub either_cases : (a b : Bool) → either a b ≡ true → (a ≡ true) ⊎ (b ≡ true)
either_cases true b e = inl refl
either_cases false b e = inr e

pub either_left : (a b : Bool) → a ≡ true → either a b ≡ true
either_left a b e = rw e

pub either_right : (a b : Bool) → b ≡ true → either a b ≡ true
either_right true b e = refl
either_right false b e = e

-- one of two fails
pub both_fails : (a b : Bool) → both a b ≡ false → (a ≡ false) ⊎ (b ≡ false)
both_fails true b e = inr e
both_fails false b e = inl refl

pub fails_left : (a b : Bool) → a ≡ false → both a b ≡ false
fails_left a b e = rw e

pub fails_right : (a b : Bool) → b ≡ false → both a b ≡ false
fails_right true b e = e
fails_right false b e = refl

-- two equations tested
pub eqs_mean : (a b c d : ℕ) → (both (eqb a b) (eqb c d) ≡ true) ↔ ((a ≡ b) × (c ≡ d))
eqs_mean a b c d = (
  λ e. (eqb-true a b (both_left (eqb a b) (eqb c d) e), eqb-true c d (both_right (eqb a b) (eqb c d) e)),
  λ p. both_true (eqb a b) (eqb c d) (eq-eqb a b p.0) (eq-eqb c d p.1),
)

-- the number a or the one after it
one_of_two : (a j : ℕ) → a ≤ j → j < suc (suc a) → (j ≡ a) ⊎ (j ≡ suc a)
one_of_two a j h k = go (eq-or-lt_of_le h)
  where
    go : (a ≡ j) ⊎ (a < j) → (j ≡ a) ⊎ (j ≡ suc a)
    go (inl e) = inl (omega arith)
    go (inr l) = inr (omega arith)

module _ (f : ℕ → Bool) (a : ℕ) where
  -- a test holds of field a or of the next
  pub either_at : either (f a) (f (suc a)) ≡ true → (j : ℕ) × (a ≤ j) × (j < suc (suc a)) × (f j ≡ true)
  either_at e = go (either_cases (f a) (f (suc a)) e)
    where
      go : (f a ≡ true) ⊎ (f (suc a) ≡ true) → (j : ℕ) × (a ≤ j) × (j < suc (suc a)) × (f j ≡ true)
      go (inl q) = (a, omega arith, omega arith, q)
      go (inr q) = (suc a, omega arith, omega arith, q)

  pub at_either : (j : ℕ) → a ≤ j → j < suc (suc a) → f j ≡ true → either (f a) (f (suc a)) ≡ true
  at_either j h k e = go (one_of_two a j h k)
    where
      go : (j ≡ a) ⊎ (j ≡ suc a) → either (f a) (f (suc a)) ≡ true
      go (inl q) = either_left (f a) (f (suc a)) (rw q at e)
      go (inr q) = either_right (f a) (f (suc a)) (rw q at e)

  -- a test fails of field a or of the next
  pub fails_at : both (f a) (f (suc a)) ≡ false → (j : ℕ) × (a ≤ j) × (j < suc (suc a)) × (f j ≡ false)
  fails_at e = go (both_fails (f a) (f (suc a)) e)
    where
      go : (f a ≡ false) ⊎ (f (suc a) ≡ false) → (j : ℕ) × (a ≤ j) × (j < suc (suc a)) × (f j ≡ false)
      go (inl q) = (a, omega arith, omega arith, q)
      go (inr q) = (suc a, omega arith, omega arith, q)

  pub at_fails : (j : ℕ) → a ≤ j → j < suc (suc a) → f j ≡ false → both (f a) (f (suc a)) ≡ false
  at_fails j h k e = go (one_of_two a j h k)
    where
      go : (j ≡ a) ⊎ (j ≡ suc a) → both (f a) (f (suc a)) ≡ false
      go (inl q) = fails_left (f a) (f (suc a)) (rw q at e)
      go (inr q) = fails_right (f a) (f (suc a)) (rw q at e)
