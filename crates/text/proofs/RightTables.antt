-- The table of a source: its process, and that numbers 5 to 8 have nothing to say of it where every name is listed or bound exactly once. Assumes nothing.
use mathlib.Core.Path.{◌≡◌, refl, sym, ap, ◌∙◌}
use mathlib.Core.Logic.{◌⊎◌, inl, inr}
use mathlib.Core.Bool.{or-true, Bool, true, false, cond, ◌||◌}
use mathlib.Core.Option.{none}
use mathlib.Core.List.{List, [], ◌∷◌, map}
use Prim.Native.Nat.{ℕ, zero, suc, ◌≤◌, ◌<◌}
use native.Mathlib.Omega.{arith}
use lib.Dec.{leb}
use lib.ListN.{length, get_or, length-map}
use borrow.Author.Tests.{leb-true, le-leb}
use Rattle.calculus.specs.Terms.{Act, fresh, operands, binders, bound}
use Rattle.calculus.specs.Tables.{is_name, is_variable, sort_of, leaf_entry}
use Rattle.calculus.specs.Scope.{In, here, there, All, all_nil, all_cons, NotIn, Distinct, di_nil, di_cons}
use Rattle.calculus.specs.Version1.{signature1}
use Rattle.calculus.proofs.Lists.{all_in, all_map}
use Rattle.text.specs.Source.{Name, Step, output, input, restriction, matching, splitting, decryption, Source}
use Rattle.text.specs.Grammar.{pieces}
use Rattle.text.specs.Places.{occurrences, same_name, wrong_name}
use Rattle.text.specs.Numbering.{within_limits, is_named, symbols_of, number_of, restricted, sort_in, TermEntry, place_step, place_two, place_one, placed_entries, placed_steps, stands_for}
use Rattle.text.specs.Right.{NamedIn, Right}
use Rattle.text.specs.Statements.{ProcessIsMeant, TextsAreRight, LimitsAreTested}
use Rattle.text.proofs.NameLaws.{and_true, same_refl, named_append, EachName, all_numbered, number_there, number_at, number_once}
use Rattle.text.proofs.EntryLaws.{LeafBelow, below_leaf, fine_none}
use Rattle.text.proofs.Placing.{PartOf}
use Rattle.text.proofs.PlacingSteps.{StepNames, names_output, names_input, names_restriction, names_matching, names_splitting, names_decryption, StepsWell, steps_well}
use Rattle.text.proofs.Bindings.{each_map, source_names, count, count_in, names_once, bound_names, bound_variables, source_count, two_sorts, count_named, in_count}

-- ── What steps bind ──

module _ {P : Name → Type 0} where
  bound_have : {ts : List Step} → All (StepNames P) ts → All P (bound_names ts)
  unfolding bound_names
  bound_have all_nil = all_nil
  bound_have (all_cons (names_output a b) r) = bound_have r
  bound_have (all_cons (names_input a b) r) = all_cons b (bound_have r)
  bound_have (all_cons (names_restriction b) r) = all_cons b (bound_have r)
  bound_have (all_cons (names_matching a b) r) = bound_have r
  bound_have (all_cons (names_splitting a b c) r) = all_cons b (all_cons c (bound_have r))
  bound_have (all_cons (names_decryption a b c) r) = all_cons c (bound_have r)

  variables_have : {ts : List Step} → All (StepNames P) ts → All P (bound_variables ts)
  unfolding bound_variables
  variables_have all_nil = all_nil
  variables_have (all_cons (names_output a b) r) = variables_have r
  variables_have (all_cons (names_input a b) r) = all_cons b (variables_have r)
  variables_have (all_cons (names_restriction b) r) = variables_have r
  variables_have (all_cons (names_matching a b) r) = variables_have r
  variables_have (all_cons (names_splitting a b c) r) = all_cons b (all_cons c (variables_have r))
  variables_have (all_cons (names_decryption a b c) r) = all_cons c (variables_have r)

  pub restricted_have : {ts : List Step} → All (StepNames P) ts → All P (restricted ts)
  unfolding restricted
  restricted_have all_nil = all_nil
  restricted_have (all_cons (names_output a b) r) = restricted_have r
  restricted_have (all_cons (names_input a b) r) = restricted_have r
  restricted_have (all_cons (names_restriction b) r) = all_cons b (restricted_have r)
  restricted_have (all_cons (names_matching a b) r) = restricted_have r
  restricted_have (all_cons (names_splitting a b c) r) = restricted_have r
  restricted_have (all_cons (names_decryption a b c) r) = restricted_have r

module _ (xs : List Name) where
  abbrev number : Name → ℕ
  number x = number_of x xs

  -- the numbers that the table's steps bind are those of the names that the source's bind
  pub bound_numbers : (ts : List Step) (es : List TermEntry) → bound signature1 (placed_steps xs ts es) ≡ map number (bound_names ts)
  unfolding placed_steps place_step place_two place_one bound binders bound_names
  bound_numbers [] es = refl
  bound_numbers (output M N ∷ ts) es = bound_numbers ts (place_step xs (output M N) es).entries
  bound_numbers (input M x ∷ ts) es = ap (λ (l : List ℕ). number x ∷ l) (bound_numbers ts (place_step xs (input M x) es).entries)
  bound_numbers (restriction x ∷ ts) es = ap (λ (l : List ℕ). number x ∷ l) (bound_numbers ts es)
  bound_numbers (matching M N ∷ ts) es = bound_numbers ts (place_step xs (matching M N) es).entries
  bound_numbers (splitting M x y ∷ ts) es = ap (λ (l : List ℕ). number x ∷ number y ∷ l) (bound_numbers ts (place_step xs (splitting M x y) es).entries)
  bound_numbers (decryption M K x ∷ ts) es = ap (λ (l : List ℕ). number x ∷ l) (bound_numbers ts (place_step xs (decryption M K x) es).entries)

  -- what a step binds: a restricted name, or a variable
  pub data Bound (ts : List Step) (s : Act signature1 ℕ) (k : ℕ) : Type 0 where
    as_name : (y : Name) → In y (restricted ts) → k ≡ number y → s ≡ fresh k → Bound ts s k
    as_variable : (y : Name) → In y (bound_variables ts) → k ≡ number y → ((z : ℕ) → ¬ (s ≡ fresh z)) → Bound ts s k

  later : {ts us : List Step} {s : Act signature1 ℕ} {k : ℕ} → ((y : Name) → In y (restricted ts) → In y (restricted us)) → ((y : Name) → In y (bound_variables ts) → In y (bound_variables us))
      → Bound ts s k → Bound us s k
  later f g (as_name y i e h) = as_name y (f y i) e h
  later f g (as_variable y i e h) = as_variable y (g y i) e h

  only : {x y : ℕ} → In x (y ∷ []) → x ≡ y
  only here = refl
  only (there i) = elim i [ ]

  of_two : {x y z : ℕ} → In x (y ∷ z ∷ []) → (x ≡ y) ⊎ (x ≡ z)
  of_two here = inl refl
  of_two (there i) = inr (only i)

  pub binders_are : (ts : List Step) (es : List TermEntry) (s : Act signature1 ℕ) (k : ℕ) → In s (placed_steps xs ts es) → In k (binders signature1 s) → Bound ts s k
  unfolding placed_steps place_step place_two place_one binders restricted bound_variables
  binders_are [] es s k i j = elim i [ ]
  binders_are (output M N ∷ ts) es s k here j = elim j [ ]
  binders_are (output M N ∷ ts) es s k (there i) j = later (λ y a. a) (λ y a. a) (binders_are ts (place_step xs (output M N) es).entries s k i j)
  binders_are (input M x ∷ ts) es s k here j = as_variable x here (only j) (λ z e. let w : ◌≡◌ {A = ℕ} 0 1 = cc in omega arith)
  binders_are (input M x ∷ ts) es s k (there i) j = later (λ y a. a) (λ y a. there a) (binders_are ts (place_step xs (input M x) es).entries s k i j)
  binders_are (restriction x ∷ ts) es s k here j = as_name x here (only j) (rw (only j))
  binders_are (restriction x ∷ ts) es s k (there i) j = later (λ y a. there a) (λ y a. a) (binders_are ts es s k i j)
  binders_are (matching M N ∷ ts) es s k here j = elim j [ ]
  binders_are (matching M N ∷ ts) es s k (there i) j = later (λ y a. a) (λ y a. a) (binders_are ts (place_step xs (matching M N) es).entries s k i j)
  binders_are (splitting M x y ∷ ts) es s k here j = go (of_two j)
    where
      go : (k ≡ number x) ⊎ (k ≡ number y) → Bound (splitting M x y ∷ ts) s k
      go (inl e) = as_variable x here e (λ z e. let w : ◌≡◌ {A = ℕ} 0 1 = cc in omega arith)
      go (inr e) = as_variable y (there here) e (λ z e. let w : ◌≡◌ {A = ℕ} 0 1 = cc in omega arith)
  binders_are (splitting M x y ∷ ts) es s k (there i) j = later (λ y a. a) (λ y a. there (there a)) (binders_are ts (place_step xs (splitting M x y) es).entries s k i j)
  binders_are (decryption M K x ∷ ts) es s k here j = as_variable x here (only j) (λ z e. let w : ◌≡◌ {A = ℕ} 0 1 = cc in omega arith)
  binders_are (decryption M K x ∷ ts) es s k (there i) j = later (λ y a. a) (λ y a. there a) (binders_are ts (place_step xs (decryption M K x) es).entries s k i j)

  -- names that are there once have different numbers
  apart : (x : Name) (l : List Name) → is_named x xs ≡ true → count x l ≡ 0 → NotIn (number x) (map number l)
  unfolding count
  apart x [] h e = all_nil
  apart x (y ∷ l) h e = go (same_name x y) refl e (λ e. apart x l h e)
    where
      go : (t : Bool) → same_name x y ≡ t → cond t (suc (count x l)) (count x l) ≡ 0 → (count x l ≡ 0 → NotIn (number x) (map number l))
          → NotIn (number x) (number y ∷ map number l)
      go true q e f = absurd (omega arith)
      go false q e f = all_cons (λ (p : number x ≡ number y). differ (number_once x y xs h p)) (f e)
        where
          differ : x ≡ y → ⊥
          differ p = let z : true ≡ false = sym (same_refl x) ∙ ap (λ (k : Name). same_name x k) p ∙ q in let w : ◌≡◌ {A = ℕ} 0 1 = cc in omega arith

  pub distinct_numbers : (l : List Name) → All (λ x. is_named x xs ≡ true) l → All (λ x. count x l ≤ 1) l → Distinct (map number l)
  unfolding count
  distinct_numbers [] a b = di_nil
  distinct_numbers (x ∷ l) (all_cons h a) (all_cons c b) =
      di_cons (apart x l h (few (rw (same_refl x) at c))) (distinct_numbers l a (all_map (λ y k. fewer y (same_name y x) k) b))
    where
      few : suc (count x l) ≤ 1 → count x l ≡ 0
      few h = omega arith

      fewer : (y : Name) (t : Bool) → cond t (suc (count y l)) (count y l) ≤ 1 → count y l ≤ 1
      fewer y true h = omega arith
      fewer y false h = h

-- ── The table of a source ──

module _ (d : Source) where
  abbrev symbols : List Name
  symbols = symbols_of d

  -- every name has a number
  pub each_numbered : EachName (λ x. is_named x symbols ≡ true) (pieces d)
  unfolding symbols_of
  each_numbered = all_numbered (pieces d) []

  pub steps_numbered : All (StepNames (λ x. is_named x symbols ≡ true)) d.steps
  steps_numbered = (source_names d each_numbered).2

  pub well : StepsWell (length symbols) symbols [] d.steps
  well = steps_well (length symbols) symbols (source_names d (each_map (λ x h. number_there x symbols h) each_numbered)).2 [] (fine_none (length symbols))

  -- the sort of a name's number is its sort
  pub sort_of_lem : (x : Name) → is_named x symbols ≡ true → sort_of (map (sort_in d) symbols) (number_of x symbols) ≡ sort_in d x
  sort_of_lem x h = at symbols (number_of x symbols) (number_there x symbols h) ∙ ap (sort_in d) (number_at x symbols h)
    where
      at : (l : List Name) (i : ℕ) → i < length l → sort_of (map (sort_in d) l) i ≡ sort_in d (get_or l i [])
      at [] i h = absurd (omega arith)
      at (y ∷ l) zero h = refl
      at (y ∷ l) (suc i) h = at l i (omega arith)

  pub in_named : (y : Name) (l : List Name) → In y l → is_named y l ≡ true
  unfolding is_named
  in_named y [] i = elim i [ ]
  in_named y (z ∷ l) here = rw (same_refl y)
  in_named y (z ∷ l) (there i) = or-true (same_name y z) (in_named y l i)
    where
      or-true : (t : Bool) → is_named y l ≡ true → (t || is_named y l) ≡ true
      or-true true h = refl
      or-true false h = h

  -- a restricted name is a name
  name_sort : (y : Name) → In y (restricted d.steps) → sort_in d y ≡ is_name
  unfolding sort_in
  name_sort y i = rw (named_append y d.names (restricted d.steps), in_named y (restricted d.steps) i, or-true (is_named y d.names))

  module _ (right : wrong_name (occurrences d) ≡ none) where
    steps_once : All (StepNames (λ x. count_in x (pieces d) ≡ 1)) d.steps
    steps_once = (source_names d (names_once d right)).2

    -- a variable that a step binds is no name
    variable_sort : (y : Name) → In y (bound_variables d.steps) → sort_in d y ≡ is_variable
    unfolding sort_in
    variable_sort y i =
        let a : count_in y (pieces d) ≡ 1 = all_in (variables_have steps_once) y i in
        let b = source_count y d in
        let c = two_sorts y d.steps in
        let e = in_count y (bound_variables d.steps) i in
        let f : count y d.names ≡ 0 = omega arith in
        let g : count y (restricted d.steps) ≡ 0 = omega arith in
        rw (named_append y d.names (restricted d.steps), count_named y d.names f, count_named y (restricted d.steps) g)

    bound_few : All (λ x. count x (bound_names d.steps) ≤ 1) (bound_names d.steps)
    bound_few = all_map (λ x h. few x h) (bound_have steps_once)
      where
        few : (x : Name) → count_in x (pieces d) ≡ 1 → count x (bound_names d.steps) ≤ 1
        few x h = let b = source_count x d in omega arith

    pub right_table : Right (stands_for d)
    unfolding binders
    right_table =
        let sized : length (map (sort_in d) symbols) ≡ length symbols = length-map symbols (sort_in d) in
        record {
          symbols_there = λ i x h e. rw sized (leaf_below (rw e at (well.fine.leaves i h)));
          parts_lower = well.fine.closed;
          operands_there = λ s i a b. all_in (well.there s a) i b;
          binders_there = λ s x a b. rw sized (number_below s x (binders_are symbols d.steps [] s x a b));
          restricts_names = λ x a. restricts x (binders_are symbols d.steps [] (fresh x) x a here);
          binds_variables = λ s x a b. sorted s x (binders_are symbols d.steps [] s x a b);
          unrepeated = well.fine.once;
          each_named = λ i h. named i (well.new i (omega arith) h);
          binds_once = rw (bound_numbers symbols d.steps []) (distinct_numbers symbols (bound_names d.steps) (bound_have steps_numbered) bound_few);
        }
      where
        leaf_below : {n x : ℕ} → LeafBelow n (leaf_entry x) → x < n
        leaf_below (below_leaf h) = h

        number_below : (s : Act signature1 ℕ) (x : ℕ) → Bound symbols d.steps s x → x < length symbols
        number_below s x (as_name y i e h) = rw e (number_there y symbols (all_in (restricted_have steps_numbered) y i))
        number_below s x (as_variable y i e h) = rw e (number_there y symbols (all_in (variables_have steps_numbered) y i))

        restricts : (x : ℕ) → Bound symbols d.steps (fresh x) x → sort_of (map (sort_in d) symbols) x ≡ is_name
        restricts x (as_name y i e h) = rw e (sort_of_lem y (all_in (restricted_have steps_numbered) y i) ∙ name_sort y i)
        restricts x (as_variable y i e h) = absurd (h x refl)

        sorted : (s : Act signature1 ℕ) (x : ℕ) → Bound symbols d.steps s x → (s ≡ fresh x) ⊎ (sort_of (map (sort_in d) symbols) x ≡ is_variable)
        sorted s x (as_name y i e h) = inl h
        sorted s x (as_variable y i e h) = inr (rw e (sort_of_lem y (all_in (variables_have steps_numbered) y i) ∙ variable_sort y i))

        named : (i : ℕ) → ((s : Act signature1 ℕ) × In s (placed_steps symbols d.steps []) × In i (operands signature1 s)) ⊎ PartOf (placed_entries symbols d.steps []) i
            → NamedIn (stands_for d) i
        named i (inl u) = inl u
        named i (inr p) = inr (p.whole, p.there, p.has)

-- ── The statements ──

pub process_is_meant : ProcessIsMeant
process_is_meant d = (well d).stands

pub texts_are_right : TextsAreRight
texts_are_right s d r = right_table d r.names_right

pub limits_are_tested : LimitsAreTested
unfolding within_limits
limits_are_tested t = (
  λ e. let (a, f) = and_true (leb (length t.sorts) 96) _ e in
      let (b, c) = and_true (leb (length t.entries) 128) (leb (length t.steps) 64) f in
      record { few_symbols = leb-true _ _ a; few_terms = leb-true _ _ b; few_steps = leb-true _ _ c },
  λ l. rw (le-leb _ 96 l.few_symbols, le-leb _ 128 l.few_terms, le-leb _ 64 l.few_steps),
)
