-- The round trips: a table that was read, written and read again is that very table, so a text that is read and written twice is the same the second time.
-- Assumes nothing.
use mathlib.Core.Path.{◌≡◌, refl, sym, ap, ap₂, ◌∙◌}
use mathlib.Core.Bool.{Bool, true, false}
use mathlib.Core.Option.{none}
use mathlib.Core.List.{List, [], ◌∷◌, ◌++◌, map, append_assoc, append-nil}
use Prim.Native.Nat.{ℕ, zero, suc, ◌+◌, ◌≤◌, ◌<◌}
use native.Mathlib.Omega.{arith}
use lib.ListN.{length, get_or, length-append, length-map, get_or-map}
use Rattle.calculus.specs.Tables.{is_in, Sort, is_name, is_variable, sort_of, missing, Table, process, free}
use Rattle.calculus.specs.Scope.{In, here, there, All, all_nil, all_cons}
use Rattle.calculus.specs.Version1.{signature1}
use Rattle.calculus.proofs.Lists.{map_append, all_append, all_in, in_append_left, in_append_right, in_map, in_unmap, in_true, in_is_in}
use Rattle.text.specs.Source.{Name, Step, Source}
use Rattle.text.specs.Grammar.{pieces, text_of}
use Rattle.text.specs.Places.{occurrences, wrong_name}
use Rattle.text.specs.Numbering.{InLimits, is_named, symbols_of, number_of, restricted, sort_in, stands_for}
use Rattle.text.specs.Meaning.{step_act}
use Rattle.text.specs.Writing.{symbol_name, written_step, names_among, variables_among, source_of}
use Rattle.text.specs.Statements.{WrittenReads, ReadAgain, WrittenTwice}
use Rattle.text.proofs.NameLaws.{named_append, number_once}
use Rattle.text.proofs.Bindings.{count, count_in, names_once, source_names, bound_names, source_count, two_sorts, count_named, in_count}
use Rattle.text.proofs.RightTables.{bound_numbers, sort_of_lem, in_named, process_is_meant, texts_are_right, each_numbered}
use Rattle.text.proofs.Mentions.{firsts, symbols_first, mentions_have, source_mentions, steps_names}
use Rattle.text.proofs.ListLaws.{front_same, count_append, count_in_lem, in_get_d, firsts_have, map_twice, names_append, variables_append, only_names, only_variables}
use Rattle.text.proofs.Orders.{range, range_append, range_length, range_at, range_below, Unique, unique_none, firsts_unique, firsts_front, firsts_append, firsts_all, count_unique, numbers_in_order, missing_range}
use Rattle.text.proofs.WrittenNames.{written_reads}
use Rattle.text.proofs.Renamed.{rename, restep, renamed, renamed_same}
use Rattle.text.proofs.Reading.{printing_is_injective}

-- ── A source whose names are right ──

module _ (d : Source) (right : wrong_name (occurrences d) ≡ none) where
  abbrev xs : List Name
  xs = symbols_of d

  abbrev number : Name → ℕ
  number x = number_of x xs

  abbrev listed : List Name
  listed = d.names ++ d.variables

  abbrev B : List Name
  B = bound_names d.steps

  -- each of its names is listed or bound once
  once : All (λ x. count_in x (pieces d) ≡ 1) d.names × All (λ x. count_in x (pieces d) ≡ 1) d.variables
  once = let o = source_names d (names_once d right) in (o.0, o.1)

  total : (x : Name) → count_in x (pieces d) ≡ 1 → count x listed + count x B ≡ 1
  total x h =
      let a = source_count x d in
      let b = count_append x d.names d.variables in
      omega arith

  listed_once : All (λ x. count_in x (pieces d) ≡ 1) listed
  listed_once = all_append once.0 once.1

  symbols_once : All (λ x. count_in x (pieces d) ≡ 1) xs
  symbols_once =
      let a : All (λ x. count_in x (pieces d) ≡ 1) (d.names ++ (d.variables ++ steps_names d.steps)) = rw (source_mentions d) at (mentions_have (names_once d right)) in
      rw (symbols_first d) (firsts_have (d.names ++ (d.variables ++ steps_names d.steps)) [] a all_nil)

  listed_unique : Unique listed
  listed_unique = count_unique listed (go listed listed_once)
    where
      few : (x : Name) → count_in x (pieces d) ≡ 1 → count x listed ≤ 1
      few x h = let t = total x h in omega arith

      go : (l : List Name) → All (λ x. count_in x (pieces d) ≡ 1) l → All (λ x. count x listed ≤ 1) l
      go [] all_nil = all_nil
      go (x ∷ l) (all_cons h a) = all_cons (few x h) (go l a)

  -- the symbols are those listed, and then others
  symbols_front : (w : List Name) × (xs ≡ listed ++ w)
  symbols_front =
      let c = steps_names d.steps in
      let (w, e) = firsts_front c listed in
      let f : firsts [] (d.names ++ (d.variables ++ steps_names d.steps)) ≡ firsts (firsts [] listed) (steps_names d.steps) =
      ap (firsts []) (sym (append_assoc d.names d.variables c)) ∙ firsts_append [] listed c in
      (w, symbols_first d ∙ f ∙ ap (λ (l : List Name). firsts l c) (firsts_all listed [] listed_unique) ∙ e)

  symbols_unique : Unique xs
  symbols_unique = rw (symbols_first d) (firsts_unique (d.names ++ (d.variables ++ steps_names d.steps)) [] unique_none)

  -- those listed have the first numbers
  listed_numbers : map number listed ≡ range 0 (length listed)
  listed_numbers =
      let (w, e) = symbols_front in
      let n : length xs ≡ length listed + length w = ap length e ∙ length-append listed w in
      let l : map number listed ++ map number w ≡ range 0 (length listed) ++ range (0 + length listed) (length w) =
      sym (map_append number listed w) ∙ ap (map number) (sym e) ∙ numbers_in_order xs symbols_unique ∙ ap (range 0) n ∙ range_append 0 (length listed) (length w) in
      front_same (map number listed) (range 0 (length listed)) (map number w) (range (0 + length listed) (length w)) l
      (length-map listed number ∙ sym (range_length 0 (length listed)))

  -- ── What is free ──

  -- the name with number i
  number_listed : (i : ℕ) → i < length listed → number (get_or listed i []) ≡ i
  number_listed i h =
      sym (get_or-map number listed i []) ∙ ap (λ (l : List ℕ). get_or l i (number [])) listed_numbers ∙ range_at 0 (length listed) i (number []) h ∙ omega arith

  number_symbol : (i : ℕ) → i < length xs → number (get_or xs i []) ≡ i
  number_symbol i h =
      sym (get_or-map number xs i []) ∙ ap (λ (l : List ℕ). get_or l i (number [])) (numbers_in_order xs symbols_unique) ∙ range_at 0 (length xs) i (number []) h ∙ omega arith

  listed_known : All (λ x. is_named x xs ≡ true) listed
  listed_known = let o = source_names d (each_numbered d) in all_append o.0 o.1

  not_bound : (i : ℕ) → i < length listed → is_in i (map number B) ≡ false
  not_bound i h = go (is_in i (map number B)) refl
    where
      x : Name
      x = get_or listed i []

      twice : In x B → ⊥
      twice p =
          let l : In x listed = in_get_d listed i [] h in
          let t = total x (all_in listed_once x l) in
          let a = in_count x listed l in
          let b = in_count x B p in
          omega arith

      go : (t : Bool) → is_in i (map number B) ≡ t → t ≡ false
      go true e =
          let (y, p, q) = in_unmap number B (in_true i (map number B) e) in
          let l : In x listed = in_get_d listed i [] h in
          let same : x ≡ y = number_once x y xs (all_in listed_known x l) (number_listed i h ∙ sym q) in
          absurd (twice (rw same p))
      go false e = refl

  is_bound_lem : (i : ℕ) → length listed ≤ i → i < length xs → is_in i (map number B) ≡ true
  is_bound_lem i h k =
      let x : Name = get_or xs i [] in
      let n : number (get_or xs i []) ≡ i = number_symbol i k in
      let t = total x (all_in symbols_once x (in_get_d xs i [] k)) in
      let z : count x listed ≡ 0 = none_listed x (rw n h) in
      let p : In (number (get_or xs i [])) (map number B) = in_map number (count_in_lem x B (omega arith)) in
      in_is_in i (map number B) (rw n at p)
    where
      none_listed : (x : Name) → length listed ≤ number x → count x listed ≡ 0
      none_listed x l = at (count x listed) refl
        where
          at : (m : ℕ) → count x listed ≡ m → m ≡ 0
          at zero e = refl
          at (suc m) e =
              let p : In (number x) (map number listed) = in_map number (count_in_lem x listed (omega arith)) in
              let b = range_below 0 (length listed) (rw listed_numbers at p) in
              absurd (omega arith)

  free_listed : free signature1 (stands_for d) ≡ map number d.names ++ map number d.variables
  free_listed =
      let sized : length (map (sort_in d) xs) ≡ length xs = length-map xs (sort_in d) in
      let (w, e) = symbols_front in
      let n : length xs ≡ length listed + length w = ap length e ∙ length-append listed w in
      ap (missing 0 (map (sort_in d) xs)) (bound_numbers xs d.steps [])
      ∙ missing_range (map (sort_in d) xs) 0 (length listed) (map number B) (omega arith) (λ i a b. not_bound i (omega arith)) (λ i a b. is_bound_lem i (omega arith) (omega arith))
      ∙ sym listed_numbers
      ∙ map_append number d.names d.variables

  -- ── Sorts of what is free ──

  name_sorted : (x : Name) → In x d.names → sort_of (map (sort_in d) xs) (number x) ≡ is_name
  unfolding sort_in
  name_sorted x i =
      sort_of_lem d x (all_in listed_known x (in_append_left d.variables i))
      ∙ rw (named_append x d.names (restricted d.steps), in_named d x d.names i)

  variable_sorted : (x : Name) → In x d.variables → sort_of (map (sort_in d) xs) (number x) ≡ is_variable
  unfolding sort_in
  variable_sorted x i =
      let a : count_in x (pieces d) ≡ 1 = all_in once.1 x i in
      let b = source_count x d in
      let c = two_sorts x d.steps in
      let e = in_count x d.variables i in
      let f : count x d.names ≡ 0 = omega arith in
      let g : count x (restricted d.steps) ≡ 0 = omega arith in
      sort_of_lem d x (all_in listed_known x (in_append_right d.names i))
      ∙ rw (named_append x d.names (restricted d.steps), count_named x d.names f, count_named x (restricted d.steps) g)

  sorted : {s : Sort} (l : List Name) → ((x : Name) → In x l → sort_of (map (sort_in d) xs) (number x) ≡ s) → All (λ i. sort_of (map (sort_in d) xs) i ≡ s) (map number l)
  sorted [] f = all_nil
  sorted (x ∷ l) f = all_cons (f x here) (sorted l (λ y i. f y (there i)))

  free_names : names_among (map (sort_in d) xs) (free signature1 (stands_for d)) ≡ map number d.names
  free_names =
      let so = map (sort_in d) xs in
      let (a, b) = only_names so (map number d.names) (sorted d.names name_sorted) in
      let (c, e) = only_variables so (map number d.variables) (sorted d.variables variable_sorted) in
      ap (names_among so) free_listed ∙ names_append so (map number d.names) (map number d.variables) ∙ ap₂ (λ (k l : List ℕ). k ++ l) a c ∙ append-nil (map number d.names)

  free_variables : variables_among (map (sort_in d) xs) (free signature1 (stands_for d)) ≡ map number d.variables
  free_variables =
      let so = map (sort_in d) xs in
      let (a, b) = only_names so (map number d.names) (sorted d.names name_sorted) in
      let (c, e) = only_variables so (map number d.variables) (sorted d.variables variable_sorted) in
      ap (variables_among so) free_listed ∙ variables_append so (map number d.names) (map number d.variables) ∙ ap₂ (λ (k l : List ℕ). k ++ l) b e

  -- ── The writer's source ──

  pub source_again : (few : length xs ≤ 100) → source_of (stands_for d) ≡ renamed d few
  source_again few =
      let a : map symbol_name (names_among (map (sort_in d) xs) (free signature1 (stands_for d))) ≡ map (rename xs) d.names =
      ap (map symbol_name) free_names ∙ map_twice symbol_name number d.names in
      let b : map symbol_name (variables_among (map (sort_in d) xs) (free signature1 (stands_for d))) ≡ map (rename xs) d.variables =
      ap (map symbol_name) free_variables ∙ map_twice symbol_name number d.variables in
      let c : map written_step (process signature1 (stands_for d)) ≡ map (restep xs) d.steps =
      ap (map written_step) (process_is_meant d) ∙ map_twice written_step (step_act xs) d.steps in
      same a b c
    where
      same : {a a' b b' : List Name} {c c' : List Step} → a ≡ a' → b ≡ b' → c ≡ c'
          → ◌≡◌ {A = Source} (record { names = a; variables = b; steps = c }) (record { names = a'; variables = b'; steps = c' })
      same p q r = rw (p, q, r)

-- ── The statements ──

pub written_is_read : WrittenReads
written_is_read t r l = written_reads t r l.few_symbols l.few_terms

-- the symbols of a table within its limits
few_of : (d : Source) → InLimits (stands_for d) → length (symbols_of d) ≤ 100
few_of d l = let h = l.few_symbols in let e = length-map (symbols_of d) (sort_in d) in omega arith

pub read_again : ReadAgain
read_again s d r l = ap stands_for (source_again d r.names_right (few_of d l)) ∙ renamed_same d (few_of d l)

pub written_twice : WrittenTwice
written_twice s d e r l q =
    let w = written_is_read (stands_for d) (texts_are_right s d r) l in
    let h : e ≡ source_of (stands_for d) = printing_is_injective e (source_of (stands_for d)) q.by_rules.0 w.by_rules.0 (sym q.by_rules.1) in
    ap (λ (x : Source). text_of (source_of (stands_for x))) h ∙ ap (λ (x : Table signature1). text_of (source_of x)) (read_again s d r l)
