-- Laws of lists by index: the thing at an index, and where a thing of the list stands. Assumes nothing.
use mathlib.Core.Path.{◌≡◌, ap, ◌∙◌}
use mathlib.Core.Logic.{◌⊎◌, inl, inr}
use Prim.Native.Nat.{ℕ, zero, suc, ◌+◌, ◌≤◌, ◌<◌}
use native.Mathlib.Omega.{arith}
use lib.ListN.{get_or}
use Rattle.calculus.specs.Scope.{In}
use Rattle.calculus.proofs.Lists.{in_cases}
use Rattle.entries.specs.Tiling.{listed}

module _ {A : Type 0} (f : ℕ → A) where
  pub listed_at : (d : A) (i n k : ℕ) → k < n → get_or (listed f i n) k d ≡ f (i + k)
  unfolding listed
  listed_at d i zero k h = absurd (omega arith)
  listed_at d i (suc n) zero h = let z : i + 0 ≡ i = omega arith in rw z
  listed_at d i (suc n) (suc k) h = let z : i + suc k ≡ suc i + k = omega arith in rw z (listed_at d (suc i) n k (omega arith))

  -- the thing at an index, where the list starts at 0
  pub listed_all_at : (d : A) (n k : ℕ) → k < n → get_or (listed f 0 n) k d ≡ f k
  listed_all_at d n k h = listed_at d 0 n k h ∙ ap f (omega arith)

  -- a thing of the list stands at an index of its range
  pub listed_in : {x : A} (i n : ℕ) → In x (listed f i n) → (k : ℕ) × (i ≤ k) × (k < i + n) × (x ≡ f k)
  unfolding listed
  listed_in i zero p = elim p [ ]
  listed_in {x} i (suc n) p = go (in_cases p) (λ q. listed_in (suc i) n q)
    where
      go : (x ≡ f i) ⊎ In x (listed f (suc i) n) → (In x (listed f (suc i) n) → (k : ℕ) × (suc i ≤ k) × (k < suc i + n) × (x ≡ f k))
          → (k : ℕ) × (i ≤ k) × (k < i + suc n) × (x ≡ f k)
      go (inl e) r = (i, omega arith, omega arith, e)
      go (inr q) r = let (k, l, u, e) = r q in (k, omega arith, omega arith, e)
