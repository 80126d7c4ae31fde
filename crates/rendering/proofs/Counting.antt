-- A list in which no number comes twice is no longer than one that holds all its numbers. Assumes nothing.
use mathlib.Core.Path.{◌≡◌, refl, sym, ap}
use mathlib.Core.List.{List, [], ◌∷◌}
use Prim.Native.Nat.{ℕ, zero, suc, ◌<◌, ◌≤◌, zero-le}
use native.Mathlib.Omega.{arith}
use native.Mathlib.Decide.{ℕ_discrete}
use lib.ListN.{length}
use Rattle.calculus.specs.Scope.{In, here, there, All, all_nil, all_cons, NotIn, Distinct, di_nil, di_cons}
use Rattle.calculus.proofs.Lists.{all_in}

-- a list without one of its elements
record Without (x : ℕ) (ys : List ℕ) : Type 0 where
  others : List ℕ
  one_less : length ys ≡ suc (length others)
  hold : (y : ℕ) → In y ys → ¬ (y ≡ x) → In y others

without : {x : ℕ} {ys : List ℕ} → In x ys → Without x ys
without (here {l = l}) = record { others = l; one_less = refl; hold = λ y i n. go i n }
  where
    go : {x y : ℕ} {l : List ℕ} → In y (x ∷ l) → ¬ (y ≡ x) → In y l
    go here n = absurd (n refl)
    go (there i) n = i
without {x} (there {y = z} {l = l} i) = let w = without i in record { others = z ∷ w.others; one_less = ap suc w.one_less; hold = λ y j n. go w j n }
  where
    go : {y : ℕ} (w : Without x l) → In y (z ∷ l) → ¬ (y ≡ x) → In y (z ∷ w.others)
    go w here n = here
    go {y} w (there j) n = there (w.hold y j n)

pub no_longer : {xs ys : List ℕ} → Distinct xs → ((x : ℕ) → In x xs → In x ys) → length xs ≤ length ys
no_longer di_nil h = zero-le
no_longer {ys = ys} (di_cons {x = x} {l = l} n d) h =
    let w = without (h x here) in
    let r : length l ≤ length w.others = no_longer d (λ y i. w.hold y (h y (there i)) (differs n i)) in
    let e = w.one_less in
    omega arith
  where
    differs : {y : ℕ} {l : List ℕ} → NotIn x l → In y l → y ≡ x → ⊥
    differs all_nil i e = elim i [ ]
    differs (all_cons n ns) here e = n (sym e)
    differs (all_cons n ns) (there i) e = differs ns i e

-- the numbers below n
unfoldable pub below : ℕ → List ℕ
below zero = []
below (suc n) = n ∷ below n

below_length : (n : ℕ) → length (below n) ≡ n
unfolding below
below_length zero = refl
below_length (suc n) = ap suc (below_length n)

in_below : (n x : ℕ) → x < n → In x (below n)
unfolding below
in_below zero x h = absurd (omega arith)
in_below (suc n) x h = go (ℕ_discrete x n) (λ k. in_below n x k)
  where
    go : Dec (x ≡ n) → (x < n → In x (below n)) → In x (n ∷ below n)
    go (yes e) f = rw e here
    go (no q) f = there (f (omega arith))

pub at_most : {xs : List ℕ} (n : ℕ) → Distinct xs → All (λ x. x < n) xs → length xs ≤ n
at_most {xs} n d a = let h : length xs ≤ length (below n) = no_longer d (λ x i. in_below n x (all_in a x i)) in let e = below_length n in omega arith
