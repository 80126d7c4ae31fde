-- Sums over symbols: the sum of a weight over the symbols below n that are not in a list. Assumes nothing.
use mathlib.Core.Path.{◌≡◌, refl, ap}
use mathlib.Core.Logic.{◌⊎◌, inl, inr}
use mathlib.Core.List.{List, [], ◌∷◌, ◌++◌}
use Prim.Native.Nat.{ℕ, zero, suc, ◌+◌, ◌≤◌, ◌<◌}
use native.Mathlib.Decide.{ℕ_discrete}
use native.Mathlib.Omega.{arith}
use Rattle.calculus.specs.Scope.{In, here, there, all_cons, NotIn, Distinct, di_cons}
use Rattle.calculus.proofs.Lists.{in_or_not, not_in_in}

unfoldable pub sum : List ℕ → (ℕ → ℕ) → ℕ
sum [] f = 0
sum (x ∷ xs) f = f x + sum xs f

unfoldable pub mask : {x : ℕ} {l : List ℕ} → In x l ⊎ NotIn x l → ℕ → ℕ
mask (inr o) n = n
mask (inl i) n = 0

-- the sum of f over the symbols below n that are not in l
unfoldable pub rest : ℕ → List ℕ → (ℕ → ℕ) → ℕ
rest zero l f = 0
rest (suc n) l f = mask (in_or_not n l) (f n) + rest n l f

mask_in : {x : ℕ} {l : List ℕ} (v : ℕ) → In x l → (d : In x l ⊎ NotIn x l) → mask d v ≡ 0
unfolding mask
mask_in v i (inr o) = absurd (not_in_in o i)
mask_in v i (inl j) = refl

mask_out : {x : ℕ} {l : List ℕ} (v : ℕ) → NotIn x l → (d : In x l ⊎ NotIn x l) → mask d v ≡ v
unfolding mask
mask_out v o (inr p) = refl
mask_out v o (inl i) = absurd (not_in_in o i)

mask_le : {x : ℕ} {l : List ℕ} (a b k : ℕ) → a ≤ b + k → (d : In x l ⊎ NotIn x l) → mask d a ≤ mask d b + k
unfolding mask
mask_le a b k h (inr o) = h
mask_le a b k h (inl i) = omega arith

mask_more : {x y : ℕ} {l : List ℕ} (v : ℕ) (d : In x (y ∷ l) ⊎ NotIn x (y ∷ l)) (e : In x l ⊎ NotIn x l) → mask d v ≤ mask e v
unfolding mask
mask_more v (inl i) e = omega arith
mask_more v (inr o) (inr p) = omega arith
mask_more v (inr (all_cons n o)) (inl i) = absurd (not_in_in o i)

rest_le : (n : ℕ) (l : List ℕ) (f g : ℕ → ℕ) → ((y : ℕ) → y < n → g y ≤ f y) → rest n l g ≤ rest n l f
unfolding rest
rest_le zero l f g h = omega arith
rest_le (suc n) l f g h = let a = rest_le n l f g (λ y k. h y (omega arith)) in
    let b = mask_le (g n) (f n) 0 (let c = h n (omega arith) in omega arith) (in_or_not n l) in omega arith

pub rest_bump : (n : ℕ) (l : List ℕ) (f g : ℕ → ℕ) (x k : ℕ) → ((y : ℕ) → ¬ (x ≡ y) → g y ≤ f y) → g x ≤ f x + k → rest n l g ≤ rest n l f + k
unfolding rest
rest_bump zero l f g x k h e = omega arith
rest_bump (suc n) l f g x k h e = go (ℕ_discrete x n) (rest_bump n l f g x k h e)
  where
    go : Dec (x ≡ n) → rest n l g ≤ rest n l f + k → mask (in_or_not n l) (g n) + rest n l g ≤ mask (in_or_not n l) (f n) + rest n l f + k
    go (yes p) r = let a = mask_le (g n) (f n) k (rw p at e) (in_or_not n l) in
        let b = rest_le n l f g (λ y m. h y (omega arith)) in omega arith
    go (no q) r = let a = mask_le (g n) (f n) 0 (let c = h n q in omega arith) (in_or_not n l) in omega arith

rest_more : (n x : ℕ) (l : List ℕ) (f : ℕ → ℕ) → rest n (x ∷ l) f ≤ rest n l f
unfolding rest
rest_more zero x l f = omega arith
rest_more (suc n) x l f = let a = rest_more n x l f in let b = mask_more (f n) (in_or_not n (x ∷ l)) (in_or_not n l) in omega arith

rest_drop : (n x : ℕ) (l : List ℕ) (f : ℕ → ℕ) → x < n → NotIn x l → rest n (x ∷ l) f + f x ≤ rest n l f
unfolding rest
rest_drop zero x l f h o = omega arith
rest_drop (suc n) x l f h o = go (ℕ_discrete x n) (λ k. rest_drop n x l f k o)
  where
    go : Dec (x ≡ n) → (x < n → rest n (x ∷ l) f + f x ≤ rest n l f)
        → mask (in_or_not n (x ∷ l)) (f n) + rest n (x ∷ l) f + f x ≤ mask (in_or_not n l) (f n) + rest n l f
    go (yes p) r = let a = mask_out (f n) (rw p at o) (in_or_not n l) in let b = mask_in (f n) (rw p here) (in_or_not n (x ∷ l)) in
        let c = rest_more n x l f in let e = ap f p in omega arith
    go (no q) r = let a = mask_more (f n) (in_or_not n (x ∷ l)) (in_or_not n l) in let b = r (omega arith) in omega arith

pub rest_drops : (n : ℕ) (xs l : List ℕ) (f : ℕ → ℕ) → ((x : ℕ) → In x xs → x < n) → Distinct (xs ++ l) → rest n (xs ++ l) f + sum xs f ≤ rest n l f
unfolding sum
rest_drops n [] l f h u = omega arith
rest_drops n (x ∷ xs) l f h u = go u (λ v. rest_drops n xs l f (λ y i. h y (there i)) v)
  where
    go : Distinct (x ∷ (xs ++ l)) → (Distinct (xs ++ l) → rest n (xs ++ l) f + sum xs f ≤ rest n l f) → rest n (x ∷ (xs ++ l)) f + (f x + sum xs f) ≤ rest n l f
    go (di_cons o v) r = let a = r v in let b = rest_drop n x (xs ++ l) f (h x here) o in omega arith

pub rest_elem : (n x : ℕ) (l : List ℕ) (f : ℕ → ℕ) → x < n → NotIn x l → f x ≤ rest n l f
rest_elem n x l f h o = let a = rest_drop n x l f h o in omega arith

mask_zero : {x : ℕ} {l : List ℕ} (d : In x l ⊎ NotIn x l) → mask d 0 ≡ 0
unfolding mask
mask_zero (inr o) = refl
mask_zero (inl i) = refl

pub rest_zero : (n : ℕ) (l : List ℕ) (f : ℕ → ℕ) → ((x : ℕ) → f x ≡ 0) → rest n l f ≡ 0
unfolding rest
rest_zero zero l f h = refl
rest_zero (suc n) l f h = let a = rest_zero n l f h in let b = mask_le (f n) 0 0 (let c = h n in omega arith) (in_or_not n l) in let c = mask_zero (in_or_not n l) in omega arith

pub sum_elem : {x : ℕ} (l : List ℕ) (f : ℕ → ℕ) → In x l → f x ≤ sum l f
unfolding sum
sum_elem [] f i = elim i [ ]
sum_elem (y ∷ l) f here = omega arith
sum_elem (y ∷ l) f (there i) = let a = sum_elem l f i in omega arith
