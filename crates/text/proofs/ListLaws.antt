-- Laws of lists for the round trips: fronts, counts, first names, and the names and variables of a list of symbols. Assumes nothing.
use mathlib.Core.Path.{◌≡◌, refl, ap}
use mathlib.Core.Bool.{Bool, true, false, cond}
use mathlib.Core.List.{List, [], ◌∷◌, ◌++◌, map}
use Prim.Native.Nat.{ℕ, zero, suc, ◌+◌, ◌≤◌, ◌<◌}
use native.Mathlib.Omega.{arith}
use lib.ListN.{length, get_or}
use Rattle.calculus.specs.Tables.{Sort, is_name, is_variable, sort_of}
use Rattle.calculus.specs.Scope.{In, here, there, All, all_nil, all_cons}
use Rattle.calculus.proofs.Lists.{all_append}
use Rattle.text.specs.Source.{Name}
use Rattle.text.specs.Places.{same_name}
use Rattle.text.specs.Numbering.{is_named, with_name}
use Rattle.text.specs.Writing.{is_name_sort, names_among, variables_among}
use Rattle.text.proofs.NameLaws.{same_true}
use Rattle.text.proofs.Bindings.{count}
use Rattle.text.proofs.Mentions.{firsts}

-- ── Fronts, counts and first names ──

pub front_same : {A : Type 0} (k l m n : List A) → k ++ m ≡ l ++ n → length k ≡ length l → k ≡ l
front_same [] [] m n e h = refl
front_same [] (y ∷ l) m n e h = absurd (omega arith)
front_same (x ∷ k) [] m n e h = absurd (omega arith)
front_same (x ∷ k) (y ∷ l) m n e h =
    let p : x ≡ y = cc in
    let q : k ++ m ≡ l ++ n = cc in
    let h : length k ≡ length l = omega arith in
    rw (p, front_same k l m n q h)

pub count_append : (x : Name) (k l : List Name) → count x (k ++ l) ≡ count x k + count x l
unfolding count
count_append x [] l = omega arith
count_append x (y ∷ k) l = go (same_name x y) (count_append x k l)
  where
    go : (t : Bool) → count x (k ++ l) ≡ count x k + count x l → cond t (suc (count x (k ++ l))) (count x (k ++ l)) ≡ cond t (suc (count x k)) (count x k) + count x l
    go true h = omega arith
    go false h = h

pub count_in_lem : (x : Name) (l : List Name) → 1 ≤ count x l → In x l
unfolding count
count_in_lem x [] h = absurd (omega arith)
count_in_lem x (y ∷ l) h = go (same_name x y) refl h (count_in_lem x l)
  where
    go : (t : Bool) → same_name x y ≡ t → 1 ≤ cond t (suc (count x l)) (count x l) → (1 ≤ count x l → In x l) → In x (y ∷ l)
    go true e h f = rw (same_true x y e) here
    go false e h f = there (f h)

pub in_get_d : {A : Type 0} (l : List A) (i : ℕ) (z : A) → i < length l → In (get_or l i z) l
in_get_d [] i z h = absurd (omega arith)
in_get_d (x ∷ l) zero z h = here
in_get_d (x ∷ l) (suc i) z h = there (in_get_d l i z (omega arith))

pub firsts_have : {P : Name → Type 0} (ys xs : List Name) → All P ys → All P xs → All P (firsts xs ys)
unfolding firsts with_name
firsts_have [] xs all_nil b = b
firsts_have {P} (y ∷ ys) xs (all_cons p a) b = firsts_have ys (with_name xs y) a (go (is_named y xs))
  where
    go : (t : Bool) → All P (cond t xs (xs ++ (y ∷ [])))
    go true = b
    go false = all_append b (all_cons p all_nil)

pub map_twice : {A B C : Type 0} (f : B → C) (g : A → B) (l : List A) → map f (map g l) ≡ map (λ x. f (g x)) l
map_twice f g [] = refl
map_twice f g (x ∷ l) = rw (map_twice f g l)

-- ── Names and variables of a list ──

pub names_append : (so : List Sort) (k l : List ℕ) → names_among so (k ++ l) ≡ names_among so k ++ names_among so l
unfolding names_among
names_append so [] l = refl
names_append so (x ∷ k) l = go (is_name_sort (sort_of so x)) (names_append so k l)
  where
    go : (t : Bool) → names_among so (k ++ l) ≡ names_among so k ++ names_among so l
        → cond t (x ∷ names_among so (k ++ l)) (names_among so (k ++ l)) ≡ cond t (x ∷ names_among so k) (names_among so k) ++ names_among so l
    go true h = ap (λ (m : List ℕ). x ∷ m) h
    go false h = h

pub variables_append : (so : List Sort) (k l : List ℕ) → variables_among so (k ++ l) ≡ variables_among so k ++ variables_among so l
unfolding variables_among
variables_append so [] l = refl
variables_append so (x ∷ k) l = go (is_name_sort (sort_of so x)) (variables_append so k l)
  where
    go : (t : Bool) → variables_among so (k ++ l) ≡ variables_among so k ++ variables_among so l
        → cond t (variables_among so (k ++ l)) (x ∷ variables_among so (k ++ l)) ≡ cond t (variables_among so k) (x ∷ variables_among so k) ++ variables_among so l
    go true h = h
    go false h = ap (λ (m : List ℕ). x ∷ m) h

pub only_names : (so : List Sort) (l : List ℕ) → All (λ x. sort_of so x ≡ is_name) l → (names_among so l ≡ l) × (variables_among so l ≡ [])
unfolding names_among variables_among is_name_sort
only_names so [] all_nil = (refl, refl)
only_names so (x ∷ l) (all_cons p a) = let (e, f) = only_names so l a in (rw (p, e), rw p f)

pub only_variables : (so : List Sort) (l : List ℕ) → All (λ x. sort_of so x ≡ is_variable) l → (names_among so l ≡ []) × (variables_among so l ≡ l)
unfolding names_among variables_among is_name_sort
only_variables so [] all_nil = (refl, refl)
only_variables so (x ∷ l) (all_cons p a) = let (e, f) = only_variables so l a in (rw p e, rw (p, f))
