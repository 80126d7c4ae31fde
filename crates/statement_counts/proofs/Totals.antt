-- f i + f (i + 1) + .., as the sum over a range. Assumes nothing.
use mathlib.Core.Path.{◌≡◌, refl, ap, ◌∙◌}
use Prim.Native.Nat.{ℕ, zero, suc, ◌+◌, ◌*◌, ◌≤◌}
use native.Mathlib.Omega.{arith}
use native.Mathlib.Nat.{suc-mul}
use native.Mathlib.Numerals.{add-one}
use Rattle.std.proofs.lemmas.List.Sums.{sum_by-cons}
use Rattle.std.specs.List.{range_with_len, sum_by}

-- f i + f (i + 1) + .., of which there are n
unfoldable pub total : (ℕ → ℕ) → ℕ → ℕ → ℕ
total f i zero = 0
total f i (suc n) = f i + total f (suc i) n

-- small numbers add up to a small one
pub total_small : (f : ℕ → ℕ) (b : ℕ) → ((i : ℕ) → f i ≤ b) → (i n : ℕ) → total f i n ≤ n * b
unfolding total
total_small f b h i zero = omega arith
total_small f b h i (suc n) = omega (arith, h i, total_small f b h (suc i) n, suc-mul n b)

pub sum_of_range : (f : ℕ → ℕ) (i n : ℕ) → sum_by f (range_with_len i n) ≡ total f i n
unfolding total
sum_of_range f i zero = refl
sum_of_range f i (suc n) = sum_by-cons f i (range_with_len (i + 1) n) ∙ ap (λ m. f i + m) (rw add-one (sum_of_range f (suc i) n))
