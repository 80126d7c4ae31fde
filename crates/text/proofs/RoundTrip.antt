-- The text written from a table in form reads back as that table under a renaming of its symbols. Assumes nothing.
use mathlib.Core.Path.{◌≡◌, refl, sym, ap, ap₂, ◌∙◌}
use mathlib.Core.Logic.{◌⊎◌, inl, inr}
use mathlib.Core.Bool.{Bool, true, false, cond, false≢true}
use mathlib.Core.List.{List, [], ◌∷◌, map}
use Prim.Native.Nat.{ℕ, suc, ◌+◌, ◌≤◌, ◌<◌}
use native.Mathlib.Decide.{ℕ_discrete}
use native.Mathlib.Omega.{arith}
use lib.ListN.{length}
use Rattle.calculus.specs.Terms.{Tree, leaf, one, two, Act, send, receive, fresh, compare, split, decrypt, map_act, binders, bound}
use Rattle.calculus.specs.Signature.{pairing, seal}
use Rattle.calculus.specs.Tables.{is_in, Sort, is_name, is_variable, sort_of, missing}
use Rattle.calculus.specs.Scope.{In, here, there}
use Rattle.calculus.specs.Version1.{encryption, signature1}
use Rattle.calculus.proofs.Lists.{in_cases, in_append}
use Rattle.text.specs.Source.{Name}
use Rattle.text.specs.Grammar.{Piece, fixed, given, used}
use Rattle.text.specs.Places.{same_name}
use Rattle.text.specs.Numbering.{is_named, with_name, names_from, number_of, restricted}
use Rattle.text.specs.Meaning.{term_tree, step_act}
use Rattle.text.specs.Writing.{symbol_name, written_term, written_step, is_name_sort, names_among}
use Rattle.text.specs.Renaming.{rename_term, rename_step}
use Rattle.text.proofs.NameLaws.{same_true, with_has, from_keeps}
use Rattle.text.proofs.Bindings.{count_in}

-- ── Lists ──

-- a name that pieces list or bind is numbered
pub given_named : (x : Name) (ps : List Piece) (xs : List Name) → 1 ≤ count_in x ps → is_named x (names_from xs ps) ≡ true
unfolding count_in names_from
given_named x [] xs h = absurd (omega arith)
given_named x (fixed w ∷ ps) xs h = given_named x ps xs h
given_named x (given y ∷ ps) xs h = go (same_name x y) refl h (given_named x ps (with_name xs y))
  where
    go : (t : Bool) → same_name x y ≡ t → 1 ≤ cond t (suc (count_in x ps)) (count_in x ps) → (1 ≤ count_in x ps → is_named x (names_from (with_name xs y) ps) ≡ true)
        → is_named x (names_from (with_name xs y) ps) ≡ true
    go true e h f = from_keeps ps (with_name xs y) x (rw (same_true x y e) (with_has xs y))
    go false e h f = f h
given_named x (used y ∷ ps) xs h = given_named x ps (with_name xs y) h

-- what is missing from l: in range, and not in l
pub in_missing : (i : ℕ) (so : List Sort) (l : List ℕ) (x : ℕ) → In x (missing i so l) → (i ≤ x) × (x < i + length so) × (is_in x l ≡ false)
unfolding missing
in_missing i [] l x p = elim p [ ]
in_missing i (s ∷ so) l x p = go (is_in i l) refl p (in_missing (suc i) so l x)
  where
    up : (suc i ≤ x) × (x < suc i + length so) × (is_in x l ≡ false) → (i ≤ x) × (x < i + suc (length so)) × (is_in x l ≡ false)
    up (a, b, c) = (omega arith, omega arith, c)

    go : (t : Bool) → is_in i l ≡ t → In x (cond t (missing (suc i) so l) (i ∷ missing (suc i) so l))
        → (In x (missing (suc i) so l) → (suc i ≤ x) × (x < suc i + length so) × (is_in x l ≡ false)) → (i ≤ x) × (x < i + suc (length so)) × (is_in x l ≡ false)
    go true e p f = up (f p)
    go false e p f = at (in_cases p)
      where
        at : (x ≡ i) ⊎ In x (missing (suc i) so l) → (i ≤ x) × (x < i + suc (length so)) × (is_in x l ≡ false)
        at (inl q) = (omega arith, omega arith, rw q e)
        at (inr q) = up (f q)

pub missing_in : (i : ℕ) (so : List Sort) (l : List ℕ) (x : ℕ) → i ≤ x → x < i + length so → is_in x l ≡ false → In x (missing i so l)
unfolding missing
missing_in i [] l x a b c = absurd (omega arith)
missing_in i (s ∷ so) l x a b c = go (is_in i l) refl (λ (n : ¬ (x ≡ i)). missing_in (suc i) so l x (omega arith) (omega arith) c)
  where
    eq_or : (¬ (x ≡ i) → In x (missing (suc i) so l)) → Dec (x ≡ i) → In x (i ∷ missing (suc i) so l)
    eq_or f (yes e) = rw e here
    eq_or f (no n) = there (f n)

    go : (t : Bool) → is_in i l ≡ t → (¬ (x ≡ i) → In x (missing (suc i) so l)) → In x (cond t (missing (suc i) so l) (i ∷ missing (suc i) so l))
    go true e f = f (λ (q : x ≡ i). false≢true (sym c ∙ ap (λ (k : ℕ). is_in k l) q ∙ e))
    go false e f = eq_or f (ℕ_discrete x i)

-- those of some symbols that are names
pub in_names : (so : List Sort) (l : List ℕ) (x : ℕ) → In x (names_among so l) → sort_of so x ≡ is_name
unfolding names_among is_name_sort
in_names so [] x p = elim p [ ]
in_names so (y ∷ l) x p = go (sort_of so y) refl p (in_names so l x)
  where
    go : (s : Sort) → sort_of so y ≡ s → In x (cond (is_name_sort s) (y ∷ names_among so l) (names_among so l)) → (In x (names_among so l) → sort_of so x ≡ is_name) → sort_of so x ≡ is_name
    go is_name e p f = at (in_cases p)
      where
        at : (x ≡ y) ⊎ In x (names_among so l) → sort_of so x ≡ is_name
        at (inl q) = rw q e
        at (inr q) = f q
    go is_variable e p f = f p

pub names_of : (so : List Sort) (l : List ℕ) (x : ℕ) → In x (names_among so l) → In x l
unfolding names_among
names_of so [] x p = elim p [ ]
names_of so (y ∷ l) x p = go (is_name_sort (sort_of so y)) p (names_of so l x)
  where
    go : (t : Bool) → In x (cond t (y ∷ names_among so l) (names_among so l)) → (In x (names_among so l) → In x l) → In x (y ∷ l)
    go true p f = at (in_cases p)
      where
        at : (x ≡ y) ⊎ In x (names_among so l) → In x (y ∷ l)
        at (inl q) = rw q here
        at (inr q) = there (f q)
    go false p f = there (f p)

pub names_in : (so : List Sort) (l : List ℕ) (x : ℕ) → In x l → sort_of so x ≡ is_name → In x (names_among so l)
unfolding names_among is_name_sort
names_in so [] x p e = elim p [ ]
names_in so (y ∷ l) x here e = rw e here
names_in so (y ∷ l) x (there p) e = go (is_name_sort (sort_of so y)) (names_in so l x p e)
  where
    go : (t : Bool) → In x (names_among so l) → In x (cond t (y ∷ names_among so l) (names_among so l))
    go true q = there q
    go false q = q

-- what steps restrict
pub restricted_in : (f : ℕ → Tree signature1 ℕ) (ss : List (Act signature1 ℕ)) (x : ℕ) → In (fresh x) ss → In (symbol_name x) (restricted (map written_step (map (map_act signature1 f) ss)))
unfolding restricted written_step map_act
restricted_in f [] x p = elim p [ ]
restricted_in f (fresh y ∷ ss) x here = here
restricted_in f (send a b ∷ ss) x (there p) = restricted_in f ss x p
restricted_in f (receive a y ∷ ss) x (there p) = restricted_in f ss x p
restricted_in f (fresh y ∷ ss) x (there p) = there (restricted_in f ss x p)
restricted_in f (compare a b ∷ ss) x (there p) = restricted_in f ss x p
restricted_in f (split a y z ∷ ss) x (there p) = restricted_in f ss x p
restricted_in f (decrypt c a b y ∷ ss) x (there p) = restricted_in f ss x p

pub in_restricted : (f : ℕ → Tree signature1 ℕ) (ss : List (Act signature1 ℕ)) (y : Name) → In y (restricted (map written_step (map (map_act signature1 f) ss)))
    → (x : ℕ) × (y ≡ symbol_name x) × In (fresh x) ss
unfolding restricted written_step map_act
in_restricted f [] y p = elim p [ ]
in_restricted f (send a b ∷ ss) y p = let (x, e, q) = in_restricted f ss y p in (x, e, there q)
in_restricted f (receive a z ∷ ss) y p = let (x, e, q) = in_restricted f ss y p in (x, e, there q)
in_restricted f (fresh z ∷ ss) y here = (z, refl, here)
in_restricted f (fresh z ∷ ss) y (there p) = let (x, e, q) = in_restricted f ss y p in (x, e, there q)
in_restricted f (compare a b ∷ ss) y p = let (x, e, q) = in_restricted f ss y p in (x, e, there q)
in_restricted f (split a z w ∷ ss) y p = let (x, e, q) = in_restricted f ss y p in (x, e, there q)
in_restricted f (decrypt c a b z ∷ ss) y p = let (x, e, q) = in_restricted f ss y p in (x, e, there q)

-- a symbol that steps bind is bound by one of them
pub in_bound : (ss : List (Act signature1 ℕ)) (x : ℕ) → In x (bound signature1 ss) → (s : Act signature1 ℕ) × In s ss × In x (binders signature1 s)
unfolding bound
in_bound [] x p = elim p [ ]
in_bound (s ∷ ss) x p = go (in_append (binders signature1 s) p) (in_bound ss x)
  where
    go : In x (binders signature1 s) ⊎ In x (bound signature1 ss) → (In x (bound signature1 ss) → (s : Act signature1 ℕ) × In s ss × In x (binders signature1 s))
        → (u : Act signature1 ℕ) × In u (s ∷ ss) × In x (binders signature1 u)
    go (inl q) f = (s, here, q)
    go (inr q) f = let (u, a, b) = f q in (u, there a, b)

-- ── Terms and steps renamed ──

module _ (xs : List Name) where
  abbrev pub number : ℕ → ℕ
  number x = number_of (symbol_name x) xs

  term_renamed : (M : Tree signature1 ℕ) → term_tree xs (written_term M) ≡ rename_term number M
  unfolding term_tree written_term rename_term
  term_renamed (leaf x) = refl
  term_renamed (one k M) = elim k [ ]
  term_renamed (two pairing M N) = rw (term_renamed M, term_renamed N)
  term_renamed (two (seal encryption) M N) = rw (term_renamed M, term_renamed N)

  step_renamed : (s : Act signature1 (Tree signature1 ℕ)) → step_act xs (written_step s) ≡ rename_step number s
  unfolding step_act written_step rename_step
  step_renamed (send M N) = rw (term_renamed M, term_renamed N)
  step_renamed (receive M x) = rw (term_renamed M)
  step_renamed (fresh x) = refl
  step_renamed (compare M N) = rw (term_renamed M, term_renamed N)
  step_renamed (split M x y) = rw (term_renamed M)
  step_renamed (decrypt encryption M N x) = rw (term_renamed M, term_renamed N)

  pub steps_renamed : (P : List (Act signature1 (Tree signature1 ℕ))) → map (step_act xs) (map written_step P) ≡ map (rename_step number) P
  steps_renamed [] = refl
  steps_renamed (s ∷ P) = ap₂ {A = Act signature1 (Tree signature1 ℕ)} {B = List (Act signature1 (Tree signature1 ℕ))} (λ x l. x ∷ l) (step_renamed s) (steps_renamed P)
