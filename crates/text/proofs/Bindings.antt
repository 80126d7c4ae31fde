-- Names listed or bound exactly once: how often each is, and what that says of the numbers that the steps bind and of their sorts. Assumes nothing.
use mathlib.Core.Path.{◌≡◌, refl, sym, ◌∙◌}
use mathlib.Core.Bool.{Bool, true, false, cond, ◌||◌}
use mathlib.Core.Option.{none, some}
use mathlib.Core.List.{List, [], ◌∷◌}
use Prim.Native.Nat.{ℕ, suc, ◌+◌, ◌≤◌}
use native.Mathlib.Omega.{arith}
use lib.Dec.{eqb}
use lib.ListN.{length}
use borrow.Author.Tests.{eqb-true}
use Rattle.calculus.specs.Scope.{In, here, there, All, all_nil, all_cons}
use Rattle.text.specs.Source.{Name, Term, named, paired, sealed, Further, no_more, also, Step, output, input, restriction, matching, splitting, decryption, Source}
use Rattle.text.specs.Grammar.{Piece, fixed, given, used, space, feed, comma, round_shut, brace_shut, term_then, further_then, step_then, steps_then, rest_then, line_then, pieces}
use Rattle.text.specs.Places.{Occurrence, occurrences_from, occurrences, same_name, givings, first_wrong, wrong_name}
use Rattle.text.specs.Numbering.{is_named, restricted}
use Rattle.text.proofs.NameLaws.{same_refl, EachName, each_end, each_fixed, each_given, each_used}
use Rattle.text.proofs.Placing.{TermNames, in_name, in_pair, in_sealed, FurtherNames, in_none, in_also}
use Rattle.text.proofs.PlacingSteps.{StepNames, names_output, names_input, names_restriction, names_matching, names_splitting, names_decryption}

-- ── Names of terms, steps and sources ──

module _ {P : Name → Type 0} where
  after_fixed : {w : List ℕ} {ps : List Piece} → EachName P (fixed w ∷ ps) → EachName P ps
  after_fixed (each_fixed e) = e

  mutual
    unfolding term_then

    term_names_lem : (M : Term) (r : List Piece) → EachName P (term_then M r) → TermNames P M × EachName P r
    term_names_lem (named x) r (each_used p e) = (in_name p, e)
    term_names_lem (paired M N) r (each_fixed e) =
        let (a, f) = term_names_lem M (fixed comma ∷ term_then N (fixed round_shut ∷ r)) e in
        let (b, g) = term_names_lem N (fixed round_shut ∷ r) (after_fixed f) in
        (in_pair a b, after_fixed g)
    term_names_lem (sealed M Ms K) r (each_fixed e) =
        let (a, f) = term_names_lem M (further_then Ms (fixed brace_shut ∷ term_then K r)) e in
        let (b, g) = further_names_lem Ms (fixed brace_shut ∷ term_then K r) f in
        let (c, h) = term_names_lem K r (after_fixed g) in
        (in_sealed a b c, h)

    further_names_lem : (Ms : Further) (r : List Piece) → EachName P (further_then Ms r) → FurtherNames P Ms × EachName P r
    further_names_lem no_more r e = (in_none, e)
    further_names_lem (also M Ms) r (each_fixed e) =
        let (a, f) = term_names_lem M (further_then Ms r) e in
        let (b, g) = further_names_lem Ms r f in
        (in_also a b, g)

  step_names_lem : (t : Step) (r : List Piece) → EachName P (step_then t r) → StepNames P t × EachName P r
  unfolding step_then
  step_names_lem (output M N) r (each_fixed e) =
      let (a, f) = term_names_lem M (fixed space ∷ term_then N (fixed feed ∷ r)) e in
      let (b, g) = term_names_lem N (fixed feed ∷ r) (after_fixed f) in
      (names_output a b, after_fixed g)
  step_names_lem (input M x) r (each_fixed e) = let (a, f) = term_names_lem M (fixed space ∷ given x ∷ fixed feed ∷ r) e in go a f
    where
      go : TermNames P M → EachName P (fixed space ∷ given x ∷ fixed feed ∷ r) → StepNames P (input M x) × EachName P r
      go a (each_fixed (each_given p (each_fixed e))) = (names_input a p, e)
  step_names_lem (restriction x) r (each_fixed (each_given p (each_fixed e))) = (names_restriction p, e)
  step_names_lem (matching M N) r (each_fixed e) =
      let (a, f) = term_names_lem M (fixed space ∷ term_then N (fixed feed ∷ r)) e in
      let (b, g) = term_names_lem N (fixed feed ∷ r) (after_fixed f) in
      (names_matching a b, after_fixed g)
  step_names_lem (splitting M x y) r (each_fixed e) = let (a, f) = term_names_lem M (fixed space ∷ given x ∷ fixed space ∷ given y ∷ fixed feed ∷ r) e in go a f
    where
      go : TermNames P M → EachName P (fixed space ∷ given x ∷ fixed space ∷ given y ∷ fixed feed ∷ r) → StepNames P (splitting M x y) × EachName P r
      go a (each_fixed (each_given p (each_fixed (each_given q (each_fixed e))))) = (names_splitting a p q, e)
  step_names_lem (decryption M K x) r (each_fixed e) =
      let (a, f) = term_names_lem M (fixed space ∷ term_then K (fixed space ∷ given x ∷ fixed feed ∷ r)) e in
      let (b, g) = term_names_lem K (fixed space ∷ given x ∷ fixed feed ∷ r) (after_fixed f) in
      go a b g
    where
      go : TermNames P M → TermNames P K → EachName P (fixed space ∷ given x ∷ fixed feed ∷ r) → StepNames P (decryption M K x) × EachName P r
      go a b (each_fixed (each_given p (each_fixed e))) = (names_decryption a b p, e)

  steps_names_lem : (ts : List Step) (r : List Piece) → EachName P (steps_then ts r) → All (StepNames P) ts
  unfolding steps_then
  steps_names_lem [] r e = all_nil
  steps_names_lem (t ∷ ts) r e = let (a, f) = step_names_lem t (steps_then ts r) e in all_cons a (steps_names_lem ts r f)

  rest_names : (xs : List Name) (r : List Piece) → EachName P (rest_then xs r) → All P xs × EachName P r
  unfolding rest_then
  rest_names [] r (each_fixed e) = (all_nil, e)
  rest_names (x ∷ xs) r (each_fixed (each_given p e)) = let (a, f) = rest_names xs r e in (all_cons p a, f)

  line_names : (xs : List Name) (r : List Piece) → EachName P (line_then xs r) → All P xs × EachName P r
  unfolding line_then
  line_names [] r (each_fixed e) = (all_nil, e)
  line_names (x ∷ xs) r (each_given p e) = let (a, f) = rest_names xs r e in (all_cons p a, f)

  -- every name of a source
  pub source_names : (d : Source) → EachName P (pieces d) → All P d.names × All P d.variables × All (StepNames P) d.steps
  unfolding pieces
  source_names d e =
      let (a, f) = line_names d.names (line_then d.variables (steps_then d.steps [])) e in
      let (b, g) = line_names d.variables (steps_then d.steps []) f in
      (a, b, steps_names_lem d.steps [] g)

-- ── How often a name is listed or bound ──

-- in a list, and in pieces
unfoldable pub count : Name → List Name → ℕ
count x [] = 0
count x (y ∷ ys) = cond (same_name x y) (suc (count x ys)) (count x ys)

unfoldable pub count_in : Name → List Piece → ℕ
count_in x [] = 0
count_in x (fixed w ∷ ps) = count_in x ps
count_in x (given y ∷ ps) = cond (same_name x y) (suc (count_in x ps)) (count_in x ps)
count_in x (used y ∷ ps) = count_in x ps

pub givings_count : (x : Name) (at : ℕ) (ps : List Piece) → givings x (occurrences_from at ps) ≡ count_in x ps
unfolding givings occurrences_from count_in
givings_count x at [] = refl
givings_count x at (fixed w ∷ ps) = givings_count x (at + length w) ps
givings_count x at (given y ∷ ps) = rw (givings_count x (at + length y) ps)
givings_count x at (used y ∷ ps) = givings_count x (at + length y) ps

-- where no name is wrong, each is listed or bound once
each_right : (all : List Occurrence) (at : ℕ) (ps : List Piece) → first_wrong all (occurrences_from at ps) ≡ none → EachName (λ x. givings x all ≡ 1) ps
unfolding first_wrong occurrences_from
each_right all at [] e = each_end
each_right all at (fixed w ∷ ps) e = each_fixed (each_right all (at + length w) ps e)
each_right all at (given x ∷ ps) e = go (eqb (givings x all) 1) refl e (each_right all (at + length x) ps)
  where
    go : (t : Bool) → eqb (givings x all) 1 ≡ t → cond t (first_wrong all (occurrences_from (at + length x) ps)) (some at) ≡ none
        → (first_wrong all (occurrences_from (at + length x) ps) ≡ none → EachName (λ x. givings x all ≡ 1) ps) → EachName (λ x. givings x all ≡ 1) (given x ∷ ps)
    go true q e f = each_given (eqb-true _ _ q) (f e)
    go false q e f = absurd (let z : ◌≡◌ {A = ℕ} 0 1 = cc in omega arith)
each_right all at (used x ∷ ps) e = go (eqb (givings x all) 1) refl e (each_right all (at + length x) ps)
  where
    go : (t : Bool) → eqb (givings x all) 1 ≡ t → cond t (first_wrong all (occurrences_from (at + length x) ps)) (some at) ≡ none
        → (first_wrong all (occurrences_from (at + length x) ps) ≡ none → EachName (λ x. givings x all ≡ 1) ps) → EachName (λ x. givings x all ≡ 1) (used x ∷ ps)
    go true q e f = each_used (eqb-true _ _ q) (f e)
    go false q e f = absurd (let z : ◌≡◌ {A = ℕ} 0 1 = cc in omega arith)

pub each_map : {P Q : Name → Type 0} → ((x : Name) → P x → Q x) → {ps : List Piece} → EachName P ps → EachName Q ps
each_map f each_end = each_end
each_map f (each_fixed e) = each_fixed (each_map f e)
each_map f (each_given {x = x} p e) = each_given (f x p) (each_map f e)
each_map f (each_used {x = x} p e) = each_used (f x p) (each_map f e)

pub names_once : (d : Source) → wrong_name (occurrences d) ≡ none → EachName (λ x. count_in x (pieces d) ≡ 1) (pieces d)
unfolding wrong_name occurrences
names_once d e = each_map (λ x h. sym (givings_count x 0 (pieces d)) ∙ h) (each_right (occurrences_from 0 (pieces d)) 0 (pieces d) e)

-- ── Counts of lines and steps ──

-- the names that steps bind, in order, and those that are not restricted
unfoldable pub bound_names : List Step → List Name
bound_names [] = []
bound_names (output M N ∷ ts) = bound_names ts
bound_names (input M x ∷ ts) = x ∷ bound_names ts
bound_names (restriction x ∷ ts) = x ∷ bound_names ts
bound_names (matching M N ∷ ts) = bound_names ts
bound_names (splitting M x y ∷ ts) = x ∷ y ∷ bound_names ts
bound_names (decryption M K x ∷ ts) = x ∷ bound_names ts

unfoldable pub bound_variables : List Step → List Name
bound_variables [] = []
bound_variables (output M N ∷ ts) = bound_variables ts
bound_variables (input M x ∷ ts) = x ∷ bound_variables ts
bound_variables (restriction x ∷ ts) = bound_variables ts
bound_variables (matching M N ∷ ts) = bound_variables ts
bound_variables (splitting M x y ∷ ts) = x ∷ y ∷ bound_variables ts
bound_variables (decryption M K x ∷ ts) = x ∷ bound_variables ts

module _ (z : Name) where
  mutual
    unfolding term_then count_in

    term_count : (M : Term) (r : List Piece) → count_in z (term_then M r) ≡ count_in z r
    term_count (named x) r = refl
    term_count (paired M N) r = term_count M (fixed comma ∷ term_then N (fixed round_shut ∷ r)) ∙ term_count N (fixed round_shut ∷ r)
    term_count (sealed M Ms K) r =
        term_count M (further_then Ms (fixed brace_shut ∷ term_then K r)) ∙ further_count Ms (fixed brace_shut ∷ term_then K r) ∙ term_count K r

    further_count : (Ms : Further) (r : List Piece) → count_in z (further_then Ms r) ≡ count_in z r
    further_count no_more r = refl
    further_count (also M Ms) r = term_count M (further_then Ms r) ∙ further_count Ms r

  steps_count : (ts : List Step) → count_in z (steps_then ts []) ≡ count z (bound_names ts)
  unfolding steps_then step_then count_in count bound_names
  steps_count [] = refl
  steps_count (output M N ∷ ts) = term_count M (fixed space ∷ term_then N (fixed feed ∷ steps_then ts [])) ∙ term_count N (fixed feed ∷ steps_then ts []) ∙ steps_count ts
  steps_count (input M x ∷ ts) = term_count M (fixed space ∷ given x ∷ fixed feed ∷ steps_then ts []) ∙ rw (steps_count ts)
  steps_count (restriction x ∷ ts) = rw (steps_count ts)
  steps_count (matching M N ∷ ts) = term_count M (fixed space ∷ term_then N (fixed feed ∷ steps_then ts [])) ∙ term_count N (fixed feed ∷ steps_then ts []) ∙ steps_count ts
  steps_count (splitting M x y ∷ ts) = term_count M (fixed space ∷ given x ∷ fixed space ∷ given y ∷ fixed feed ∷ steps_then ts []) ∙ rw (steps_count ts)
  steps_count (decryption M K x ∷ ts) =
      term_count M (fixed space ∷ term_then K (fixed space ∷ given x ∷ fixed feed ∷ steps_then ts [])) ∙ term_count K (fixed space ∷ given x ∷ fixed feed ∷ steps_then ts [])
      ∙ rw (steps_count ts)

  one_more : (t : Bool) (a b : ℕ) → cond t (suc (a + b)) (a + b) ≡ cond t (suc a) a + b
  one_more true a b = omega arith
  one_more false a b = refl

  rest_count : (xs : List Name) (r : List Piece) → count_in z (rest_then xs r) ≡ count z xs + count_in z r
  unfolding rest_then count_in count
  rest_count [] r = omega arith
  rest_count (x ∷ xs) r = rw (rest_count xs r) (one_more (same_name z x) (count z xs) (count_in z r))

  line_count : (xs : List Name) (r : List Piece) → count_in z (line_then xs r) ≡ count z xs + count_in z r
  unfolding line_then count_in count
  line_count [] r = omega arith
  line_count (x ∷ xs) r = rw (rest_count xs r) (one_more (same_name z x) (count z xs) (count_in z r))

  -- a source lists and binds a name so often
  pub source_count : (d : Source) → count_in z (pieces d) ≡ count z d.names + (count z d.variables + count z (bound_names d.steps))
  unfolding pieces
  source_count d = rw (line_count d.names (line_then d.variables (steps_then d.steps [])), line_count d.variables (steps_then d.steps []), steps_count d.steps)

  pub two_sorts : (ts : List Step) → count z (bound_names ts) ≡ count z (restricted ts) + count z (bound_variables ts)
  unfolding bound_names restricted bound_variables count
  two_sorts [] = refl
  two_sorts (output M N ∷ ts) = two_sorts ts
  two_sorts (input M x ∷ ts) = rw (two_sorts ts) (go (same_name z x))
    where
      go : (t : Bool) → cond t (suc (count z (restricted ts) + count z (bound_variables ts))) (count z (restricted ts) + count z (bound_variables ts))
          ≡ count z (restricted ts) + cond t (suc (count z (bound_variables ts))) (count z (bound_variables ts))
      go true = omega arith
      go false = refl
  two_sorts (restriction x ∷ ts) = rw (two_sorts ts) (one_more (same_name z x) (count z (restricted ts)) (count z (bound_variables ts)))
  two_sorts (matching M N ∷ ts) = two_sorts ts
  two_sorts (splitting M x y ∷ ts) = rw (two_sorts ts) (go (same_name z x) (same_name z y))
    where
      a : ℕ
      a = count z (restricted ts)

      b : ℕ
      b = count z (bound_variables ts)

      go : (t u : Bool) → cond t (suc (cond u (suc (count z (restricted ts) + count z (bound_variables ts))) (count z (restricted ts) + count z (bound_variables ts))))
          (cond u (suc (count z (restricted ts) + count z (bound_variables ts))) (count z (restricted ts) + count z (bound_variables ts)))
          ≡ count z (restricted ts) + cond t (suc (cond u (suc (count z (bound_variables ts))) (count z (bound_variables ts)))) (cond u (suc (count z (bound_variables ts))) (count z (bound_variables ts)))
      go true true = omega arith
      go true false = omega arith
      go false true = omega arith
      go false false = refl
  two_sorts (decryption M K x ∷ ts) = rw (two_sorts ts) (go (same_name z x))
    where
      go : (t : Bool) → cond t (suc (count z (restricted ts) + count z (bound_variables ts))) (count z (restricted ts) + count z (bound_variables ts))
          ≡ count z (restricted ts) + cond t (suc (count z (bound_variables ts))) (count z (bound_variables ts))
      go true = omega arith
      go false = refl

  -- a name that is counted is there
  pub count_named : (ys : List Name) → count z ys ≡ 0 → is_named z ys ≡ false
  unfolding count is_named
  count_named [] e = refl
  count_named (y ∷ ys) e = go (same_name z y) e (count_named ys)
    where
      go : (t : Bool) → cond t (suc (count z ys)) (count z ys) ≡ 0 → (count z ys ≡ 0 → is_named z ys ≡ false) → (t || is_named z ys) ≡ false
      go true e f = absurd (omega arith)
      go false e f = f e

  pub in_count : (ys : List Name) → In z ys → 1 ≤ count z ys
  unfolding count
  in_count [] i = elim i [ ]
  in_count (y ∷ ys) here = rw (same_refl z) (omega arith)
  in_count (y ∷ ys) (there i) = go (same_name z y) (in_count ys i)
    where
      go : (t : Bool) → 1 ≤ count z ys → 1 ≤ cond t (suc (count z ys)) (count z ys)
      go true h = omega arith
      go false h = h
