-- Different numbers below n that are sent to different numbers below m are at most m. Assumes nothing.
use mathlib.Core.Path.{◌≡◌, refl}
use mathlib.Core.Bool.{Bool, true, false, cond}
use Prim.Native.Nat.{ℕ, zero, suc, ◌-◌, ◌≤◌, ◌<◌}
use native.Mathlib.Omega.{arith}
use lib.Dec.{ltb}
use borrow.Author.Tests.{ltb-true, ltb-false}

abbrev pub Into : ℕ → ℕ → (ℕ → ℕ) → Type 0
Into n m f = (i : ℕ) → i < n → f i < m

abbrev pub Apart : ℕ → (ℕ → ℕ) → Type 0
Apart n f = (i j : ℕ) → i < n → j < n → f i ≡ f j → i ≡ j

-- numbers above a are moved down by one
abbrev shut : ℕ → ℕ → ℕ
shut a b = cond (ltb a b) (b - 1) b

shut_into : (a b m : ℕ) → ¬ (b ≡ a) → a < suc m → b < suc m → shut a b < m
shut_into a b m n h k = go (ltb a b) refl
  where
    go : (t : Bool) → ltb a b ≡ t → cond t (b - 1) b < m
    go true e = let l = ltb-true a b e in omega arith
    go false e = let l = ltb-false a b e in omega arith

shut_apart : (a b c : ℕ) → ¬ (b ≡ a) → ¬ (c ≡ a) → shut a b ≡ shut a c → b ≡ c
shut_apart a b c n m = go (ltb a b) (ltb a c) refl refl
  where
    go : (s t : Bool) → ltb a b ≡ s → ltb a c ≡ t → cond s (b - 1) b ≡ cond t (c - 1) c → b ≡ c
    go true true e f h = let k = ltb-true a b e in let l = ltb-true a c f in omega arith
    go true false e f h = let k = ltb-true a b e in let l = ltb-false a c f in omega arith
    go false true e f h = let k = ltb-false a b e in let l = ltb-true a c f in omega arith
    go false false e f h = h

pub pigeons : (n m : ℕ) (f : ℕ → ℕ) → Into n m f → Apart n f → n ≤ m
pigeons zero m f h k = omega arith
pigeons (suc n) zero f h k = absurd (let l = h 0 (omega arith) in omega arith)
pigeons (suc n) (suc m) f h k =
    let r = pigeons n m (λ i. shut (f n) (f i))
    (λ i l. shut_into (f n) (f i) m (other i l) (h n (omega arith)) (h i (omega arith)))
    (λ i j a b e. k i j (omega arith) (omega arith) (shut_apart (f n) (f i) (f j) (other i a) (other j b) e)) in
    omega arith
  where
    other : (i : ℕ) → i < n → ¬ (f i ≡ f n)
    other i l e = let q = k i n (omega arith) (omega arith) e in omega arith
