-- Names without repeats: their numbers in order, and those that come first. Assumes nothing.
use mathlib.Core.Path.{◌≡◌, refl, sym, ap, ◌∙◌}
use mathlib.Core.Bool.{Bool, true, false, cond, ◌||◌, false≢true}
use mathlib.Core.List.{List, [], ◌∷◌, ◌++◌, map, append_assoc, append-nil}
use Prim.Native.Nat.{ℕ, zero, suc, ◌+◌, ◌≤◌, ◌<◌}
use native.Mathlib.Omega.{arith}
use lib.ListN.{length, get_or, get_or-map}
use Rattle.calculus.specs.Tables.{is_in, Sort, missing}
use Rattle.calculus.specs.Scope.{In, here, there, All, all_nil, all_cons}
use Rattle.calculus.proofs.Lists.{all_map}
use Rattle.text.specs.Source.{Name}
use Rattle.text.specs.Places.{same_name}
use Rattle.text.specs.Numbering.{is_named, with_name, number_of}
use Rattle.text.proofs.NameLaws.{or_cases, same_refl, same_true, named_append}
use Rattle.text.proofs.Bindings.{count, count_named}
use Rattle.text.proofs.Mentions.{firsts}

-- n numbers from i on
unfoldable pub range : ℕ → ℕ → List ℕ
range i zero = []
range i (suc n) = i ∷ range (suc i) n

range_suc : (i n : ℕ) → map suc (range i n) ≡ range (suc i) n
unfolding range
range_suc i zero = refl
range_suc i (suc n) = ap (λ (l : List ℕ). suc i ∷ l) (range_suc (suc i) n)

pub range_append : (i m n : ℕ) → range i (m + n) ≡ range i m ++ range (i + m) n
unfolding range
range_append i zero n = let z : 0 + n ≡ n = omega arith in let w : i + 0 ≡ i = omega arith in rw (z, w)
range_append i (suc m) n =
    let z : suc m + n ≡ suc (m + n) = omega arith in
    let w : i + suc m ≡ suc i + m = omega arith in
    rw (z, w) (ap (λ (l : List ℕ). i ∷ l) (range_append (suc i) m n))

pub range_length : (i n : ℕ) → length (range i n) ≡ n
unfolding range
range_length i zero = refl
range_length i (suc n) = ap suc (range_length (suc i) n)

pub range_at : (j n i z : ℕ) → i < n → get_or (range j n) i z ≡ j + i
unfolding range
range_at j zero i z h = absurd (omega arith)
range_at j (suc n) zero z h = omega arith
range_at j (suc n) (suc i) z h = range_at (suc j) n i z (omega arith) ∙ omega arith

pub range_below : (j n : ℕ) {i : ℕ} → In i (range j n) → i < j + n
unfolding range
range_below j zero p = elim p [ ]
range_below j (suc n) here = omega arith
range_below j (suc n) (there p) = let h = range_below (suc j) n p in omega arith

-- ── Names without repeats ──

pub data Unique : List Name → Type 0 where
  unique_none : Unique []
  unique_more : {x : Name} {l : List Name} → is_named x l ≡ false → Unique l → Unique (x ∷ l)

or_false : (a b : Bool) → a ≡ false → b ≡ false → (a || b) ≡ false
or_false a b e f = rw (e, f)

same_sym : (x y : Name) → same_name x y ≡ false → same_name y x ≡ false
same_sym x y e = go (same_name y x) refl
  where
    go : (t : Bool) → same_name y x ≡ t → t ≡ false
    go true q = let p : y ≡ x = same_true y x q in absurd (false≢true (sym e ∙ ap (λ (z : Name). same_name x z) p ∙ same_refl x))
    go false q = refl

-- one more at the end
unique_last : (l : List Name) (x : Name) → Unique l → is_named x l ≡ false → Unique (l ++ (x ∷ []))
unfolding is_named
unique_last [] x unique_none e = unique_more refl unique_none
unique_last (y ∷ l) x (unique_more n u) e =
    let (a, b) = or_cases (same_name x y) (is_named x l) e in
    unique_more (named_append y l (x ∷ []) ∙ or_false (is_named y l) (same_name y x || false) n (or_false (same_name y x) false (same_sym x y a) refl)) (unique_last l x u b)

pub firsts_unique : (ys xs : List Name) → Unique xs → Unique (firsts xs ys)
unfolding firsts with_name
firsts_unique [] xs u = u
firsts_unique (y ∷ ys) xs u = firsts_unique ys (with_name xs y) (go (is_named y xs) refl)
  where
    go : (t : Bool) → is_named y xs ≡ t → Unique (cond t xs (xs ++ (y ∷ [])))
    go true e = u
    go false e = unique_last xs y u e

-- what came before stays in front
pub firsts_front : (ys xs : List Name) → (w : List Name) × (firsts xs ys ≡ xs ++ w)
unfolding firsts with_name
firsts_front [] xs = ([], sym (append-nil xs))
firsts_front (y ∷ ys) xs = go (is_named y xs) (λ l. firsts_front ys l)
  where
    go : (t : Bool) → ((l : List Name) → (w : List Name) × (firsts l ys ≡ l ++ w)) → (w : List Name) × (firsts (cond t xs (xs ++ (y ∷ []))) ys ≡ xs ++ w)
    go true f = f xs
    go false f = let (w, e) = f (xs ++ (y ∷ [])) in (y ∷ w, e ∙ append_assoc xs (y ∷ []) w)

pub firsts_append : (xs ys zs : List Name) → firsts xs (ys ++ zs) ≡ firsts (firsts xs ys) zs
unfolding firsts
firsts_append xs [] zs = refl
firsts_append xs (y ∷ ys) zs = firsts_append (with_name xs y) ys zs

unique_apart : (xs : List Name) (y : Name) (ys : List Name) → Unique (xs ++ (y ∷ ys)) → is_named y xs ≡ false
unfolding is_named
unique_apart [] y ys u = refl
unique_apart (x ∷ xs) y ys (unique_more n u) =
    let (a, b) = or_cases (is_named x xs) (is_named x (y ∷ ys)) (sym (named_append x xs (y ∷ ys)) ∙ n) in
    let (c, e) = or_cases (same_name x y) (is_named x ys) b in
    or_false (same_name y x) (is_named y xs) (same_sym x y c) (unique_apart xs y ys u)

-- names without repeats all come
pub firsts_all : (ys xs : List Name) → Unique (xs ++ ys) → firsts xs ys ≡ xs ++ ys
unfolding firsts with_name
firsts_all [] xs u = sym (append-nil xs)
firsts_all (y ∷ ys) xs u =
    let n = unique_apart xs y ys u in
    let v : Unique ((xs ++ (y ∷ [])) ++ ys) = rw (append_assoc xs (y ∷ []) ys) u in
    let e : with_name xs y ≡ xs ++ (y ∷ []) = unfold with_name in rw n in
    ap (λ (l : List Name). firsts l ys) e ∙ firsts_all ys (xs ++ (y ∷ [])) v ∙ append_assoc xs (y ∷ []) ys

-- names that are there at most once
pub count_unique : (l : List Name) → All (λ x. count x l ≤ 1) l → Unique l
unfolding count
count_unique [] all_nil = unique_none
count_unique (x ∷ l) (all_cons h a) = unique_more (count_named x l (few (rw (same_refl x) at h))) (count_unique l (all_map (λ y k. fewer y (same_name y x) k) a))
  where
    few : suc (count x l) ≤ 1 → count x l ≡ 0
    few h = omega arith

    fewer : (y : Name) (t : Bool) → cond t (suc (count y l)) (count y l) ≤ 1 → count y l ≤ 1
    fewer y true h = omega arith
    fewer y false h = h

-- ── Their numbers ──

-- behind a name that they are not, the others' numbers are one more
number_tail : (x : Name) (l m : List Name) → is_named x m ≡ false → map (λ y. number_of y (x ∷ l)) m ≡ map suc (map (λ y. number_of y l) m)
unfolding number_of is_named
number_tail x l [] e = refl
number_tail x l (y ∷ m) e =
    let (a, b) = or_cases (same_name x y) (is_named x m) e in
    rw (same_sym x y a) (ap (λ (k : List ℕ). suc (number_of y l) ∷ k) (number_tail x l m b))

-- names without repeats are numbered in order
pub numbers_in_order : (l : List Name) → Unique l → map (λ y. number_of y l) l ≡ range 0 (length l)
unfolding number_of range
numbers_in_order [] unique_none = refl
numbers_in_order (x ∷ l) (unique_more n u) =
    rw (same_refl x) (ap (λ (k : List ℕ). 0 ∷ k) (number_tail x l l n ∙ ap (map suc) (numbers_in_order l u) ∙ range_suc 0 (length l)))

-- ── Numbers that are missing ──

pub missing_range : (so : List Sort) (j p : ℕ) (l : List ℕ) → p ≤ length so → ((i : ℕ) → j ≤ i → i < j + p → is_in i l ≡ false)
    → ((i : ℕ) → j + p ≤ i → i < j + length so → is_in i l ≡ true) → missing j so l ≡ range j p
unfolding missing range
missing_range [] j zero l h f g = refl
missing_range [] j (suc p) l h f g = absurd (omega arith)
missing_range (s ∷ so) j zero l h f g =
    rw (g j (omega arith) (omega arith)) (missing_range so (suc j) zero l (omega arith) (λ i a b. absurd (omega arith)) (λ i a b. g i (omega arith) (omega arith)))
missing_range (s ∷ so) j (suc p) l h f g =
    rw (f j (omega arith) (omega arith))
    (ap (λ (k : List ℕ). j ∷ k) (missing_range so (suc j) p l (omega arith) (λ i a b. f i (omega arith) (omega arith)) (λ i a b. g i (omega arith) (omega arith))))

-- ── The place of a name ──

-- names without repeats stand at one place each
pub index_apart : (l : List Name) → Unique l → (i j : ℕ) → i < length l → j < length l → get_or l i [] ≡ get_or l j [] → i ≡ j
index_apart l u i j h k e = sym (at i h) ∙ ap (λ (y : Name). number_of y l) e ∙ at j k
  where
    at : (i : ℕ) → i < length l → number_of (get_or l i []) l ≡ i
    at i h =
        sym (get_or-map (λ y. number_of y l) l i [])
        ∙ ap (λ (m : List ℕ). get_or m i (number_of [] l)) (numbers_in_order l u)
        ∙ range_at 0 (length l) i (number_of [] l) h
        ∙ omega arith
