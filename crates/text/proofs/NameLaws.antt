-- Laws of names: when two are the same, which are in a list, and their numbers. Assumes nothing.
use mathlib.Core.Path.{◌≡◌, refl, sym, ap, ◌∙◌}
use mathlib.Core.Bool.{Bool, true, false, cond, ◌||◌, ◌&&◌, false≢true}
use mathlib.Core.List.{List, [], ◌∷◌, ◌++◌}
use Prim.Native.Nat.{ℕ, suc, ◌<◌}
use native.Mathlib.Omega.{arith}
use lib.Dec.{eqb}
use lib.ListN.{length, get_or}
use borrow.Author.Tests.{eq-eqb, eqb-true}
use Rattle.text.specs.Source.{Name}
use Rattle.text.specs.Grammar.{Piece, fixed, given, used}
use Rattle.text.specs.Places.{same_name}
use Rattle.text.specs.Numbering.{is_named, with_name, names_from, number_of}

-- ── The same name ──

pub and_true : (a b : Bool) → (a && b) ≡ true → (a ≡ true) × (b ≡ true)
and_true true b e = (refl, e)
and_true false b e = absurd (false≢true e)

pub or_cases : (a b : Bool) → (a || b) ≡ false → (a ≡ false) × (b ≡ false)
or_cases true b e = absurd (false≢true (sym e))
or_cases false b e = (refl, e)

pub same_refl : (x : Name) → same_name x x ≡ true
unfolding same_name
same_refl [] = refl
same_refl (b ∷ x) = rw (eq-eqb b b refl, same_refl x)

pub same_true : (x y : Name) → same_name x y ≡ true → x ≡ y
unfolding same_name
same_true [] [] e = refl
same_true [] (c ∷ y) e = absurd (false≢true e)
same_true (b ∷ x) [] e = absurd (false≢true e)
same_true (b ∷ x) (c ∷ y) e =
    let (f, g) = and_true (eqb b c) (same_name x y) e in
    rw (eqb-true b c f, same_true x y g)

pub same_false : (x y : Name) → ¬ (x ≡ y) → same_name x y ≡ false
same_false x y n = go (same_name x y) refl
  where
    go : (t : Bool) → same_name x y ≡ t → t ≡ false
    go true e = absurd (n (same_true x y e))
    go false e = refl

pub same_not : (x y : Name) → same_name x y ≡ false → ¬ (x ≡ y)
same_not x y e p = false≢true (sym e ∙ ap (λ (z : Name). same_name x z) (sym p) ∙ same_refl x)

-- ── In a list ──

pub named_append : (x : Name) (xs ys : List Name) → is_named x (xs ++ ys) ≡ (is_named x xs || is_named x ys)
unfolding is_named
named_append x [] ys = refl
named_append x (y ∷ xs) ys = go (same_name x y) (named_append x xs ys)
  where
    go : (t : Bool) → is_named x (xs ++ ys) ≡ (is_named x xs || is_named x ys) → (t || is_named x (xs ++ ys)) ≡ ((t || is_named x xs) || is_named x ys)
    go true h = refl
    go false h = h

pub with_keeps : (xs : List Name) (x y : Name) → is_named y xs ≡ true → is_named y (with_name xs x) ≡ true
unfolding with_name
with_keeps xs x y e = go (is_named x xs)
  where
    go : (t : Bool) → is_named y (cond t xs (xs ++ (x ∷ []))) ≡ true
    go true = e
    go false = rw (named_append y xs (x ∷ []), e)

pub with_has : (xs : List Name) (x : Name) → is_named x (with_name xs x) ≡ true
unfolding with_name is_named
with_has xs x = go (is_named x xs) refl
  where
    or_last : (t : Bool) → (t || (true || false)) ≡ true
    or_last true = refl
    or_last false = refl

    go : (t : Bool) → is_named x xs ≡ t → is_named x (cond t xs (xs ++ (x ∷ []))) ≡ true
    go true e = e
    go false e = rw (named_append x xs (x ∷ []), same_refl x) (or_last (is_named x xs))

pub from_keeps : (ps : List Piece) (xs : List Name) (y : Name) → is_named y xs ≡ true → is_named y (names_from xs ps) ≡ true
unfolding names_from
from_keeps [] xs y e = e
from_keeps (fixed w ∷ ps) xs y e = from_keeps ps xs y e
from_keeps (given x ∷ ps) xs y e = from_keeps ps (with_name xs x) y (with_keeps xs x y e)
from_keeps (used x ∷ ps) xs y e = from_keeps ps (with_name xs x) y (with_keeps xs x y e)

-- ── Names of pieces ──

-- every name of some pieces has a property
pub data EachName (P : Name → Type 0) : List Piece → Type 0 where
  each_end : EachName P []
  each_fixed : {w : List ℕ} {ps : List Piece} → EachName P ps → EachName P (fixed w ∷ ps)
  each_given : {x : Name} {ps : List Piece} → P x → EachName P ps → EachName P (given x ∷ ps)
  each_used : {x : Name} {ps : List Piece} → P x → EachName P ps → EachName P (used x ∷ ps)

-- all names of pieces are among those that are numbered
pub all_numbered : (ps : List Piece) (xs : List Name) → EachName (λ x. is_named x (names_from xs ps) ≡ true) ps
unfolding names_from
all_numbered [] xs = each_end
all_numbered (fixed w ∷ ps) xs = each_fixed (all_numbered ps xs)
all_numbered (given x ∷ ps) xs = each_given (from_keeps ps (with_name xs x) x (with_has xs x)) (all_numbered ps (with_name xs x))
all_numbered (used x ∷ ps) xs = each_used (from_keeps ps (with_name xs x) x (with_has xs x)) (all_numbered ps (with_name xs x))

-- ── Numbers ──

pub number_there : (x : Name) (xs : List Name) → is_named x xs ≡ true → number_of x xs < length xs
unfolding is_named number_of
number_there x [] e = absurd (false≢true e)
number_there x (y ∷ xs) e = go (same_name x y) e (number_there x xs)
  where
    go : (t : Bool) → (t || is_named x xs) ≡ true → (is_named x xs ≡ true → number_of x xs < length xs) → cond t 0 (suc (number_of x xs)) < suc (length xs)
    go true e f = omega arith
    go false e f = let h = f e in omega arith

pub number_named : (x : Name) (xs : List Name) → number_of x xs < length xs → is_named x xs ≡ true
unfolding is_named number_of
number_named x [] h = absurd (omega arith)
number_named x (y ∷ xs) h = go (same_name x y) h (number_named x xs)
  where
    go : (t : Bool) → cond t 0 (suc (number_of x xs)) < suc (length xs) → (number_of x xs < length xs → is_named x xs ≡ true) → (t || is_named x xs) ≡ true
    go true h f = refl
    go false h f = f (omega arith)

-- the name with that number
pub number_at : (x : Name) (xs : List Name) → is_named x xs ≡ true → get_or xs (number_of x xs) [] ≡ x
unfolding is_named number_of
number_at x [] e = absurd (false≢true e)
number_at x (y ∷ xs) e = go (same_name x y) refl e (number_at x xs)
  where
    go : (t : Bool) → same_name x y ≡ t → (t || is_named x xs) ≡ true → (is_named x xs ≡ true → get_or xs (number_of x xs) [] ≡ x)
        → get_or (y ∷ xs) (cond t 0 (suc (number_of x xs))) [] ≡ x
    go true q e f = sym (same_true x y q)
    go false q e f = f e

-- two names never have the same number
pub number_once : (x y : Name) (xs : List Name) → is_named x xs ≡ true → number_of x xs ≡ number_of y xs → x ≡ y
number_once x y xs e h =
    let l = number_there x xs e in
    let k : is_named y xs ≡ true = number_named y xs (omega arith) in
    sym (number_at x xs e) ∙ ap (λ (i : ℕ). get_or xs i []) h ∙ number_at y xs k
