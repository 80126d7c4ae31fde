-- In the source that a table in form is written as, every name is listed or bound exactly once. Assumes nothing.
use mathlib.Core.Path.{◌≡◌, refl, sym, ap, ◌∙◌}
use mathlib.Core.Bool.{Bool, true, false, cond}
use mathlib.Core.Option.{none}
use mathlib.Core.List.{List, [], ◌∷◌, ◌++◌, map}
use Prim.Native.Nat.{ℕ, suc, ◌+◌, ◌/◌, ◌%◌, ◌≤◌, ◌<◌}
use native.Mathlib.Omega.{arith}
use lib.Dec.{eqb, ltb}
use lib.ListN.{length}
use borrow.Author.Tests.{eq-eqb, ne_eqb, eqb-true, eqb-false}
use Rattle.calculus.specs.Terms.{Act, send, receive, fresh, compare, split, decrypt, Tree, map_act, binders, bound}
use Rattle.calculus.specs.Tables.{is_in, Sort, sort_of, missing, Table, free}
use Rattle.calculus.specs.Scope.{In, here, there, All, all_nil, all_cons, NotIn, Distinct, di_cons}
use Rattle.calculus.specs.Version1.{signature1}
use Rattle.calculus.proofs.Lists.{all_map, in_true, in_false, not_in_in}
use Rattle.text.specs.Source.{Name, Term, Further, Step, Source}
use Rattle.text.specs.Grammar.{Piece, term_then, further_then, step_then, steps_then, rest_then, line_then, pieces, text_of}
use Rattle.text.specs.Places.{Occurrence, occurrences_from, occurrences, same_name, givings, first_wrong, wrong_name, Reads}
use Rattle.text.specs.Writing.{decimal, symbol_name, written_step, is_name_sort, names_among, variables_among, source_of}
use Rattle.text.specs.Right.{Right}
use Rattle.text.proofs.NameLaws.{same_refl, same_false, EachName, each_end, each_fixed, each_given, each_used}
use Rattle.text.proofs.EntryLaws.{tree}
use Rattle.text.proofs.Placing.{TermNames, in_name, in_pair, in_sealed, FurtherNames, in_none, in_also}
use Rattle.text.proofs.PlacingSteps.{StepNames, names_output, names_input, names_restriction, names_matching, names_splitting, names_decryption}
use Rattle.text.proofs.Bindings.{count, count_in, givings_count, each_map, bound_names, source_count}
use Rattle.text.proofs.WrittenForm.{free_below, among_names, among_variables, written_names, written_well}

-- ── From the names of a source to those of its pieces ──

module _ {P : Name → Type 0} where
  mutual
    unfolding term_then

    term_pieces : {M : Term} → TermNames P M → {r : List Piece} → EachName P r → EachName P (term_then M r)
    term_pieces (in_name p) e = each_used p e
    term_pieces (in_pair a b) e = each_fixed (term_pieces a (each_fixed (term_pieces b (each_fixed e))))
    term_pieces (in_sealed a b c) e = each_fixed (term_pieces a (further_pieces b (each_fixed (term_pieces c e))))

    further_pieces : {Ms : Further} → FurtherNames P Ms → {r : List Piece} → EachName P r → EachName P (further_then Ms r)
    further_pieces in_none e = e
    further_pieces (in_also a b) e = each_fixed (term_pieces a (further_pieces b e))

  step_pieces : {t : Step} → StepNames P t → {r : List Piece} → EachName P r → EachName P (step_then t r)
  unfolding step_then
  step_pieces (names_output a b) e = each_fixed (term_pieces a (each_fixed (term_pieces b (each_fixed e))))
  step_pieces (names_input a b) e = each_fixed (term_pieces a (each_fixed (each_given b (each_fixed e))))
  step_pieces (names_restriction b) e = each_fixed (each_given b (each_fixed e))
  step_pieces (names_matching a b) e = each_fixed (term_pieces a (each_fixed (term_pieces b (each_fixed e))))
  step_pieces (names_splitting a b c) e = each_fixed (term_pieces a (each_fixed (each_given b (each_fixed (each_given c (each_fixed e))))))
  step_pieces (names_decryption a b c) e = each_fixed (term_pieces a (each_fixed (term_pieces b (each_fixed (each_given c (each_fixed e))))))

  steps_pieces : {ts : List Step} → All (StepNames P) ts → EachName P (steps_then ts [])
  unfolding steps_then
  steps_pieces all_nil = each_end
  steps_pieces (all_cons a r) = step_pieces a (steps_pieces r)

  rest_pieces : {xs : List Name} → All P xs → {r : List Piece} → EachName P r → EachName P (rest_then xs r)
  unfolding rest_then
  rest_pieces all_nil e = each_fixed e
  rest_pieces (all_cons p a) e = each_fixed (each_given p (rest_pieces a e))

  line_pieces : {xs : List Name} → All P xs → {r : List Piece} → EachName P r → EachName P (line_then xs r)
  unfolding line_then
  line_pieces all_nil e = each_fixed e
  line_pieces (all_cons p a) e = each_given p (rest_pieces a e)

  pub source_pieces : (d : Source) → All P d.names → All P d.variables → All (StepNames P) d.steps → EachName P (pieces d)
  unfolding pieces
  source_pieces d a b c = line_pieces a (line_pieces b (steps_pieces c))

-- where each name is listed or bound once, none is wrong
none_wrong : (all : List Occurrence) (at : ℕ) {ps : List Piece} → EachName (λ x. givings x all ≡ 1) ps → first_wrong all (occurrences_from at ps) ≡ none
unfolding first_wrong occurrences_from
none_wrong all at each_end = refl
none_wrong all at (each_fixed {w = w} e) = none_wrong all (at + length w) e
none_wrong all at (each_given {x = x} h e) = rw h (none_wrong all (at + length x) e)
none_wrong all at (each_used {x = x} h e) = rw h (none_wrong all (at + length x) e)

pub names_right : (d : Source) → EachName (λ x. count_in x (pieces d) ≡ 1) (pieces d) → wrong_name (occurrences d) ≡ none
unfolding wrong_name occurrences
names_right d e = none_wrong (occurrences_from 0 (pieces d)) 0 (each_map (λ x h. givings_count x 0 (pieces d) ∙ h) e)

-- ── The writer's names ──

-- two symbols never have the same name
pub symbol_once : (i j : ℕ) → i < 100 → j < 100 → symbol_name i ≡ symbol_name j → i ≡ j
unfolding symbol_name decimal
symbol_once i j h k e = go (ltb i 10) (ltb j 10) e
  where
    go : (a b : Bool) → ◌≡◌ {A = List ℕ} (0x73 ∷ cond a ((0x30 + i) ∷ []) ((0x30 + i / 10) ∷ (0x30 + i % 10) ∷ [])) (0x73 ∷ cond b ((0x30 + j) ∷ []) ((0x30 + j / 10) ∷ (0x30 + j % 10) ∷ []))
        → i ≡ j
    go true true e = let p : 0x30 + i ≡ 0x30 + j = cc in omega arith
    go true false e = absurd (let z : ◌≡◌ {A = ℕ} 0 1 = cc in omega arith)
    go false true e = absurd (let z : ◌≡◌ {A = ℕ} 0 1 = cc in omega arith)
    go false false e =
        let p : 0x30 + i / 10 ≡ 0x30 + j / 10 = cc in
        let q : 0x30 + i % 10 ≡ 0x30 + j % 10 = cc in
        omega arith

pub symbol_same : (i j : ℕ) → i < 100 → j < 100 → same_name (symbol_name i) (symbol_name j) ≡ eqb i j
symbol_same i j h k = go (eqb i j) refl
  where
    go : (t : Bool) → eqb i j ≡ t → same_name (symbol_name i) (symbol_name j) ≡ t
    go true e = rw (eqb-true i j e) (same_refl (symbol_name j))
    go false e = same_false (symbol_name i) (symbol_name j) (λ p. eqb-false i j e (symbol_once i j h k p))

-- how often a number is in a list
unfoldable pub count_of : ℕ → List ℕ → ℕ
count_of x [] = 0
count_of x (y ∷ ys) = cond (eqb x y) (suc (count_of x ys)) (count_of x ys)

count_symbols : (i : ℕ) (l : List ℕ) → i < 100 → All (λ x. x < 100) l → count (symbol_name i) (map symbol_name l) ≡ count_of i l
unfolding count count_of
count_symbols i [] h all_nil = refl
count_symbols i (y ∷ l) h (all_cons k a) = rw (symbol_same i y h k, count_symbols i l h a)

count_none : (i : ℕ) (l : List ℕ) → NotIn i l → count_of i l ≡ 0
unfolding count_of
count_none i [] all_nil = refl
count_none i (y ∷ l) (all_cons n a) = rw (ne_eqb i y n) (count_none i l a)

count_distinct : (i : ℕ) (l : List ℕ) → Distinct l → In i l → count_of i l ≡ 1
unfolding count_of
count_distinct i [] u p = elim p [ ]
count_distinct i (y ∷ l) (di_cons n u) here = rw (eq-eqb i i refl) (ap suc (count_none i l n))
count_distinct i (y ∷ l) (di_cons n u) (there p) = rw (ne_eqb i y (λ e. not_in_in n (rw e at p))) (count_distinct i l u p)

-- names and variables of a list are its elements
count_among : (i : ℕ) (so : List Sort) (l : List ℕ) → count_of i (names_among so l) + count_of i (variables_among so l) ≡ count_of i l
unfolding count_of names_among variables_among
count_among i so [] = refl
count_among i so (x ∷ l) = go (is_name_sort (sort_of so x)) (eqb i x) (count_among i so l)
  where
    go : (a b : Bool) → count_of i (names_among so l) + count_of i (variables_among so l) ≡ count_of i l
        → count_of i (cond a (x ∷ names_among so l) (names_among so l)) + count_of i (cond a (variables_among so l) (x ∷ variables_among so l)) ≡ cond (eqb i x) (suc (count_of i l)) (count_of i l)
    go true b h = at (eqb i x)
      where
        at : (c : Bool) → cond c (suc (count_of i (names_among so l))) (count_of i (names_among so l)) + count_of i (variables_among so l) ≡ cond c (suc (count_of i l)) (count_of i l)
        at true = omega arith
        at false = h
    go false b h = at (eqb i x)
      where
        at : (c : Bool) → count_of i (names_among so l) + cond c (suc (count_of i (variables_among so l))) (count_of i (variables_among so l)) ≡ cond c (suc (count_of i l)) (count_of i l)
        at true = omega arith
        at false = h

-- a symbol is free once, if it is not in l
count_missing_low : (i j : ℕ) (so : List Sort) (l : List ℕ) → i < j → count_of i (missing j so l) ≡ 0
unfolding missing count_of
count_missing_low i j [] l h = refl
count_missing_low i j (s ∷ so) l h = go (is_in j l) (count_missing_low i (suc j) so l (omega arith))
  where
    go : (t : Bool) → count_of i (missing (suc j) so l) ≡ 0 → count_of i (cond t (missing (suc j) so l) (j ∷ missing (suc j) so l)) ≡ 0
    go true e = e
    go false e = rw (ne_eqb i j (λ q. absurd (omega arith))) e

count_missing : (i j : ℕ) (so : List Sort) (l : List ℕ) → j ≤ i → i < j + length so → count_of i (missing j so l) ≡ cond (is_in i l) 0 1
unfolding missing count_of
count_missing i j [] l h k = absurd (omega arith)
count_missing i j (s ∷ so) l h k = go (eqb i j) refl (λ n. count_missing i (suc j) so l (omega arith) (omega arith))
  where
    first : i ≡ j → (t : Bool) → is_in j l ≡ t → count_of i (cond t (missing (suc j) so l) (j ∷ missing (suc j) so l)) ≡ cond t 0 1
    first e true q = count_missing_low i (suc j) so l (omega arith)
    first e false q = rw (eq-eqb i j e) (ap suc (count_missing_low i (suc j) so l (omega arith)))

    later : ¬ (i ≡ j) → count_of i (missing (suc j) so l) ≡ cond (is_in i l) 0 1 → (t : Bool) → count_of i (cond t (missing (suc j) so l) (j ∷ missing (suc j) so l)) ≡ cond (is_in i l) 0 1
    later n e true = e
    later n e false = rw (ne_eqb i j n) e

    go : (b : Bool) → eqb i j ≡ b → (¬ (i ≡ j) → count_of i (missing (suc j) so l) ≡ cond (is_in i l) 0 1)
        → count_of i (cond (is_in j l) (missing (suc j) so l) (j ∷ missing (suc j) so l)) ≡ cond (is_in i l) 0 1
    go true e f = let p : i ≡ j = eqb-true i j e in first p (is_in j l) refl ∙ ap (λ (x : ℕ). cond (is_in x l) 0 1) (sym p)
    go false e f = let n : ¬ (i ≡ j) = eqb-false i j e in later n (f n) (is_in j l)

-- ── The source of a table ──

pub bound_written : (f : ℕ → Tree signature1 ℕ) (ss : List (Act signature1 ℕ)) → bound_names (map written_step (map (map_act signature1 f) ss)) ≡ map symbol_name (bound signature1 ss)
unfolding bound_names written_step map_act bound binders
bound_written f [] = refl
bound_written f (send a b ∷ ss) = bound_written f ss
bound_written f (receive a x ∷ ss) = ap (λ (l : List Name). symbol_name x ∷ l) (bound_written f ss)
bound_written f (fresh x ∷ ss) = ap (λ (l : List Name). symbol_name x ∷ l) (bound_written f ss)
bound_written f (compare a b ∷ ss) = bound_written f ss
bound_written f (split a x y ∷ ss) = ap (λ (l : List Name). symbol_name x ∷ symbol_name y ∷ l) (bound_written f ss)
bound_written f (decrypt c a b x ∷ ss) = ap (λ (l : List Name). symbol_name x ∷ l) (bound_written f ss)

module _ (t : Table signature1) (r : Right t) (few_symbols : length t.sorts ≤ 96) (few_terms : length t.entries ≤ 128) where
  abbrev S : ℕ
  S = length t.sorts

  abbrev B : List ℕ
  B = bound signature1 t.steps

  -- what steps bind is a symbol
  pub bound_below : All (λ x. x < S) B
  unfolding bound
  bound_below = go t.steps (λ s x i j. r.binders_there s x i j)
    where
      each : {P : ℕ → Type 0} (k l : List ℕ) → ((x : ℕ) → In x k → P x) → All P l → All P (k ++ l)
      each [] l f a = a
      each (x ∷ k) l f a = all_cons (f x here) (each k l (λ y i. f y (there i)) a)

      go : (ss : List (Act signature1 ℕ)) → ((s : Act signature1 ℕ) (x : ℕ) → In s ss → In x (binders signature1 s) → x < S) → All (λ x. x < S) (bound signature1 ss)
      go [] f = all_nil
      go (s ∷ ss) f = each (binders signature1 s) (bound signature1 ss) (λ x i. f s x here i) (go ss (λ u x i j. f u x (there i) j))

  small : {l : List ℕ} → All (λ x. x < S) l → All (λ x. x < 100) l
  small a = all_map (λ x h. less x h) a
    where
      less : (x : ℕ) → x < S → x < 100
      less x h = omega arith

  -- each symbol is free or bound, and only once
  free_or_bound : (i : ℕ) → i < S → count_of i (free signature1 t) + count_of i B ≡ 1
  free_or_bound i h = rw (count_missing i 0 t.sorts B (omega arith) (omega arith)) (go (is_in i B) refl)
    where
      go : (b : Bool) → is_in i B ≡ b → cond b 0 1 + count_of i B ≡ 1
      go true e = ap (λ (n : ℕ). 0 + n) (count_distinct i B r.binds_once (in_true i B e))
      go false e = ap (λ (n : ℕ). 1 + n) (count_none i B (in_false i B e))

  pub each_once : (i : ℕ) → i < S → count_in (symbol_name i) (pieces (source_of t)) ≡ 1
  each_once i h =
      let k : i < 100 = omega arith in
      let fb = small (free_below t r few_terms) in
      let a = count_symbols i (names_among t.sorts (free signature1 t)) k (among_names t r few_terms t.sorts (free signature1 t) fb) in
      let b = count_symbols i (variables_among t.sorts (free signature1 t)) k (among_variables t r few_terms t.sorts (free signature1 t) fb) in
      let c = count_symbols i B k (small bound_below) in
      let e = count_among i t.sorts (free signature1 t) in
      let f = free_or_bound i h in
      source_count (symbol_name i) (source_of t) ∙ rw (a, b, bound_written (tree t.entries) t.steps, c) (omega arith)

  -- the writer's text is read as the writer's source, and no name in it is wrong
  pub written_reads : Reads (text_of (source_of t)) (source_of t)
  written_reads =
      let n = written_names t r few_terms {P = λ x. count_in x (pieces (source_of t)) ≡ 1} each_once in
      record { by_rules = (written_well t r few_terms few_symbols, refl); names_right = names_right (source_of t) (source_pieces (source_of t) n.0 n.1 n.2) }
