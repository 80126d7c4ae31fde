-- Laws of `some`: none, one more, and that it says what it says. Assumes nothing.
use mathlib.Core.Path.{◌≡◌, refl}
use mathlib.Core.Bool.{Bool, true, false}
use mathlib.Core.Logic.{◌⊎◌, inl, inr}
use Prim.Native.Nat.{ℕ, zero, suc, ◌+◌, ◌<◌}
use native.Mathlib.Numerals.{add-one}
use native.Mathlib.Nat.{eq-or-lt_of_le}
use native.Mathlib.Omega.{arith}
use Rattle.base.specs.Pick.{either}
use Rattle.base.specs.Search.{some}

pub some_none : (f : ℕ → Bool) → some f 0 ≡ false
unfolding some
some_none f = refl

pub some_more : (f : ℕ → Bool) (n : ℕ) → some f (n + 1) ≡ either (f n) (some f n)
unfolding some
some_more f n = rw add-one

-- some number has it exactly if one can be named
pub some_at : (f : ℕ → Bool) (n : ℕ) → some f n ≡ true → (k : ℕ) × (k < n) × (f k ≡ true)
unfolding some
some_at f zero e = let z : ◌≡◌ {A = ℕ} 0 1 = cc in absurd (omega arith)
some_at f (suc n) e = go (f n) refl e (some_at f n)
  where
    go : (b : Bool) → f n ≡ b → either b (some f n) ≡ true → (some f n ≡ true → (k : ℕ) × (k < n) × (f k ≡ true)) → (k : ℕ) × (k < suc n) × (f k ≡ true)
    go true q e r = (n, omega arith, q)
    go false q e r = let p = r e in (p.0, omega (arith, p.1), p.2)

pub at_some : (f : ℕ → Bool) (n k : ℕ) → k < n → f k ≡ true → some f n ≡ true
unfolding some
at_some f zero k h e = absurd (omega arith)
at_some f (suc n) k h e = go (f n) refl (eq-or-lt_of_le h) (λ l. at_some f n k l e)
  where
    go : (b : Bool) → f n ≡ b → (suc k ≡ suc n) ⊎ (suc k < suc n) → (k < n → some f n ≡ true) → either b (some f n) ≡ true
    go true q p r = refl
    go false q (inl p) r = let z : k ≡ n = omega arith in let y : ◌≡◌ {A = ℕ} 0 1 = cc in absurd (omega arith)
    go false q (inr p) r = r (omega arith)
