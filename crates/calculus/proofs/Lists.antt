-- Laws of lists and of membership that the proofs of the meaning layer and of the crates above share. Assumes nothing.
use mathlib.Core.Path.{◌≡◌, refl, sym, ◌∙◌}
use mathlib.Core.Logic.{◌⊎◌, inl, inr, ⊎_elim}
use mathlib.Core.Bool.{Bool, true, false, cond, false≢true}
use mathlib.Core.Option
use mathlib.Core.Option.{some, some_inj}
use mathlib.Core.List.{List, [], ◌∷◌, ◌++◌, map}
use Prim.Native.Nat.{ℕ, zero, suc, ◌<◌}
use native.Mathlib.Decide.{ℕ_discrete}
use native.Mathlib.Nat.{le_of_suc-le-suc, not-suc-le-zero}
use native.Mathlib.Omega.{arith}
use lib.Dec.{eqb}
use lib.ListN.{length, get_or, get_elem?}
use borrow.Author.Tests.{eq-eqb, eqb-true, eqb-false}
use Rattle.calculus.specs.Tables.{is_in}
use Rattle.calculus.specs.Scope.{In, here, there, All, all_nil, all_cons, NotIn, Distinct, di_nil, di_cons}

-- ── Lists ──

pub map_append : {A B : Type 0} (f : A → B) (k l : List A) → map f (k ++ l) ≡ map f k ++ map f l
map_append f [] l = refl
map_append f (x ∷ k) l = rw (map_append f k l)

pub get_map : {A B : Type 0} (f : A → B) (l : List A) (p : ℕ) → get_elem? (map f l) p ≡ Option.map f (get_elem? l p)
get_map f [] p = refl
get_map f (a ∷ l) zero = refl
get_map f (a ∷ l) (suc p) = get_map f l p

pub get_more : {A : Type 0} (k l : List A) (p : ℕ) {a : A} → get_elem? k p ≡ some a → get_elem? (k ++ l) p ≡ some a
get_more [] l p h = absurd (let z : ◌≡◌ {A = ℕ} 0 1 = cc in omega arith)
get_more (n ∷ k) l zero h = h
get_more (n ∷ k) l (suc p) h = get_more k l p h

-- ── All ──

module _ {A : Type 0} {P : A → Type 0} where
  pub all_split : {x : A} {l : List A} → All P (x ∷ l) → P x × All P l
  all_split (all_cons p q) = (p, q)

  pub all_parts : (k l : List A) → All P (k ++ l) → All P k × All P l
  all_parts [] l a = (all_nil, a)
  all_parts (x ∷ k) l (all_cons p a) = let (b, c) = all_parts k l a in (all_cons p b, c)

  pub all_append : {k l : List A} → All P k → All P l → All P (k ++ l)
  all_append all_nil q = q
  all_append (all_cons p ps) q = all_cons p (all_append ps q)

  pub all_map : {Q : A → Type 0} → ((x : A) → P x → Q x) → {l : List A} → All P l → All Q l
  all_map f all_nil = all_nil
  all_map f (all_cons {x = x} p ps) = all_cons (f x p) (all_map f ps)

  pub all_at : {l : List A} → All P l → (n : ℕ) → n < length l → (d : A) → P (get_or l n d)
  all_at all_nil n h d = absurd (not-suc-le-zero h)
  all_at (all_cons p ps) zero h d = p
  all_at (all_cons p ps) (suc n) h d = all_at ps n (le_of_suc-le-suc h) d

  pub all_of : (l : List A) → ((x : A) → In x l → P x) → All P l
  all_of [] h = all_nil
  all_of (x ∷ l) h = all_cons (h x here) (all_of l (λ y i. h y (there i)))

  pub all_in : {l : List A} → All P l → (x : A) → In x l → P x
  all_in all_nil x i = elim i [ ]
  all_in (all_cons p ps) x here = p
  all_in (all_cons p ps) x (there i) = all_in ps x i

pub all_unmap : {A B : Type 0} {P : B → Type 0} (f : A → B) (l : List A) → All P (map f l) → All (λ x. P (f x)) l
all_unmap f [] a = all_nil
all_unmap f (x ∷ l) (all_cons p ps) = all_cons p (all_unmap f l ps)

-- ── Membership ──

-- what is in a list is its first thing, or in the rest
pub in_cases : {A : Type 0} {x y : A} {l : List A} → In x (y ∷ l) → (x ≡ y) ⊎ In x l
in_cases here = inl refl
in_cases (there i) = inr i

pub in_append_left : {A : Type 0} {x : A} {k : List A} (l : List A) → In x k → In x (k ++ l)
in_append_left l here = here
in_append_left l (there i) = there (in_append_left l i)

pub in_append_right : {A : Type 0} {x : A} (k : List A) {l : List A} → In x l → In x (k ++ l)
in_append_right [] i = i
in_append_right (y ∷ k) i = there (in_append_right k i)

pub in_append : {A : Type 0} {x : A} (k : List A) {l : List A} → In x (k ++ l) → In x k ⊎ In x l
in_append [] i = inr i
in_append (y ∷ k) here = inl here
in_append {x = x} (y ∷ k) {l} (there i) = ⊎_elim (λ (a : In x k). inl (there a)) (λ (b : In x l). inr b) (in_append k i)

pub in_map : {A B : Type 0} (f : A → B) {x : A} {l : List A} → In x l → In (f x) (map f l)
in_map f here = here
in_map f (there i) = there (in_map f i)

pub in_unmap : {A B : Type 0} (f : A → B) (l : List A) {y : B} → In y (map f l) → (x : A) × In x l × (f x ≡ y)
in_unmap f [] i = elim i [ ]
in_unmap f (x ∷ l) here = (x, here, refl)
in_unmap f (x ∷ l) (there i) = let r = in_unmap f l i in (r.0, there r.1, r.2)

pub named_in : {A : Type 0} (l : List A) (p : ℕ) {a : A} → get_elem? l p ≡ some a → In a l
named_in [] p e = absurd (let z : ◌≡◌ {A = ℕ} 0 1 = cc in omega arith)
named_in (n ∷ l) zero e = rw (some_inj.0 e) here
named_in (n ∷ l) (suc p) e = there (named_in l p e)

-- ── Symbols in a list, or not ──

pub in_or_not : (x : ℕ) (l : List ℕ) → In x l ⊎ NotIn x l
in_or_not x [] = inr all_nil
in_or_not x (y ∷ l) = go (ℕ_discrete x y) (in_or_not x l)
  where
    go : Dec (x ≡ y) → In x l ⊎ NotIn x l → In x (y ∷ l) ⊎ NotIn x (y ∷ l)
    go (yes e) d = inl (rw e here)
    go (no n) (inl i) = inl (there i)
    go (no n) (inr o) = inr (all_cons n o)

pub not_in_in : {x : ℕ} {l : List ℕ} → NotIn x l → In x l → ⊥
not_in_in all_nil i = elim i [ ]
not_in_in (all_cons n ns) here = n refl
not_in_in (all_cons n ns) (there i) = not_in_in ns i

-- what is not in a list differs from each of its elements
pub not_in : (x : ℕ) (l : List ℕ) → ¬ In x l → NotIn x l
not_in x [] h = all_nil
not_in x (y ∷ l) h = all_cons (λ e. h (rw e here)) (not_in x l (λ i. h (there i)))

-- the test
pub in_true : (x : ℕ) (l : List ℕ) → is_in x l ≡ true → In x l
unfolding is_in
in_true x [] h = absurd (false≢true h)
in_true x (y ∷ l) h = go (eqb x y) refl h (in_true x l)
  where
    go : (t : Bool) → eqb x y ≡ t → cond t true (is_in x l) ≡ true → (is_in x l ≡ true → In x l) → In x (y ∷ l)
    go true q h f = let e : x ≡ y = eqb-true x y q in rw e here
    go false q h f = there (f h)

pub in_false : (x : ℕ) (l : List ℕ) → is_in x l ≡ false → NotIn x l
unfolding is_in
in_false x [] h = all_nil
in_false x (y ∷ l) h = go (eqb x y) refl h (in_false x l)
  where
    go : (t : Bool) → eqb x y ≡ t → cond t true (is_in x l) ≡ false → (is_in x l ≡ false → NotIn x l) → NotIn x (y ∷ l)
    go true q h f = absurd (false≢true (sym h))
    go false q h f = all_cons (eqb-false x y q) (f h)

pub in_is_in : (x : ℕ) (l : List ℕ) → In x l → is_in x l ≡ true
unfolding is_in
in_is_in x [] i = elim i [ ]
in_is_in x (y ∷ l) i = go (in_cases i) (eqb x y) refl (λ j. in_is_in x l j)
  where
    go : (x ≡ y) ⊎ In x l → (b : Bool) → eqb x y ≡ b → (In x l → is_in x l ≡ true) → cond b true (is_in x l) ≡ true
    go (inl e) true q r = refl
    go (inl e) false q r = absurd (false≢true (sym q ∙ eq-eqb x y e))
    go (inr j) true q r = refl
    go (inr j) false q r = r j

-- ── Lists without repetition ──

pub distinct_split : {x : ℕ} {l : List ℕ} → Distinct (x ∷ l) → NotIn x l × Distinct l
distinct_split (di_cons o u) = (o, u)

pub distinct_tail : (a : List ℕ) {b : List ℕ} → Distinct (a ++ b) → Distinct b
distinct_tail [] u = u
distinct_tail (x ∷ a) (di_cons o u) = distinct_tail a u

pub distinct_append : {k l : List ℕ} → Distinct k → Distinct l → All (λ x. NotIn x l) k → Distinct (k ++ l)
distinct_append di_nil d a = d
distinct_append (di_cons n k) d (all_cons p a) = di_cons (all_append n p) (distinct_append k d a)
