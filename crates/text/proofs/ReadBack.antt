-- Reading the text written from a table in form gives that table under a renaming of its symbols, with no more terms. Assumes nothing.
use mathlib.Core.Path.{◌≡◌, refl, sym, ap, ◌∙◌}
use mathlib.Core.Logic.{◌⊎◌, inl, inr, ◌↔◌}
use mathlib.Core.Bool.{Bool, true, false, cond, ◌||◌, false≢true}
use mathlib.Core.List.{List, [], ◌∷◌, ◌++◌, map}
use Prim.Native.Nat.{ℕ, zero, suc, ◌≤◌, ◌<◌}
use native.Mathlib.Omega.{arith}
use lib.ListN.{length, get_or, length-map}
use Rattle.calculus.specs.Terms.{Act, fresh, binders, bound}
use Rattle.calculus.specs.Tables.{is_in, Sort, is_name, is_variable, sort_of, missing, Table, free}
use Rattle.calculus.specs.Scope.{In, here, there, All, all_nil, all_cons}
use Rattle.calculus.specs.Version1.{signature1}
use Rattle.calculus.proofs.Lists.{all_in, in_map, in_unmap, in_true, in_false, in_is_in, not_in_in, in_append}
use Rattle.text.specs.Source.{Name, Source}
use Rattle.text.specs.Grammar.{pieces}
use Rattle.text.specs.Places.{same_name}
use Rattle.text.specs.Numbering.{is_named, symbols_of, number_of, restricted, sort_in, placed_steps, stands_for}
use Rattle.text.specs.Writing.{symbol_name, names_among, source_of}
use Rattle.text.specs.Right.{Right}
use Rattle.text.proofs.NameLaws.{same_true, named_append, number_there, number_once}
use Rattle.text.proofs.EntryLaws.{tree}
use Rattle.text.proofs.RightTables.{bound_numbers, sort_of_lem, in_named}
use Rattle.text.proofs.Mentions.{mentions_have, source_mentions, symbols_first, steps_names}
use Rattle.text.proofs.Orders.{Unique, unique_none, firsts_unique, index_apart}
use Rattle.text.proofs.WrittenForm.{written_names}
use Rattle.text.proofs.WrittenNames.{symbol_once, bound_written, bound_below, each_once, source_pieces}
use Rattle.text.proofs.ListLaws.{firsts_have, map_twice}
use Rattle.text.proofs.RoundTrip.{given_named, in_missing, missing_in, in_names, names_of, names_in, restricted_in, in_restricted, in_bound, number}
use Rattle.text.proofs.Pigeons.{pigeons}

module _ (t : Table signature1) (r : Right t) (few_symbols : length t.sorts ≤ 96) (few_terms : length t.entries ≤ 128) where
  abbrev S : ℕ
  S = length t.sorts

  abbrev B : List ℕ
  B = bound signature1 t.steps

  abbrev d : Source
  d = source_of t

  abbrev xs : List Name
  xs = symbols_of d

  abbrev to : ℕ → ℕ
  to x = number xs x

  -- ── Symbols ──

  known : (x : ℕ) → x < S → is_named (symbol_name x) xs ≡ true
  unfolding symbols_of
  known x h = let e = each_once t r few_symbols few_terms x h in given_named (symbol_name x) (pieces d) [] (omega arith)

  pub to_there : (x : ℕ) → x < S → to x < length xs
  to_there x h = number_there (symbol_name x) xs (known x h)

  pub to_apart : (x y : ℕ) → x < S → y < S → to x ≡ to y → x ≡ y
  to_apart x y h k e = symbol_once x y (omega arith) (omega arith) (number_once (symbol_name x) (symbol_name y) xs (known x h) e)

  pub sized : length (map (sort_in d) xs) ≡ length xs
  sized = length-map xs (sort_in d)

  -- ── What is bound ──

  bound_to : bound signature1 (placed_steps xs d.steps []) ≡ map to B
  bound_to =
      bound_numbers xs d.steps []
      ∙ ap (map (λ y. number_of y xs)) (bound_written (tree t.entries) t.steps)
      ∙ map_twice (λ y. number_of y xs) symbol_name B

  bound_in_lem : (x : ℕ) → x < S → is_in (to x) (map to B) ≡ is_in x B
  bound_in_lem x h = go (is_in x B) refl
    where
      go : (b : Bool) → is_in x B ≡ b → is_in (to x) (map to B) ≡ b
      go true e = in_is_in (to x) (map to B) (in_map to (in_true x B e))
      go false e = at (is_in (to x) (map to B)) refl
        where
          at : (c : Bool) → is_in (to x) (map to B) ≡ c → c ≡ false
          at true q =
              let (y, p, s) = in_unmap to B (in_true (to x) (map to B) q) in
              let same : y ≡ x = to_apart y x (all_in (bound_below t r few_symbols few_terms) y p) h s in
              absurd (not_in_in (in_false x B e) (rw same at p))
          at false q = refl

  pub free_to_lem : (x : ℕ) → x < S → In x (free signature1 t) ↔ In (to x) (free signature1 (stands_for d))
  free_to_lem x h = (there_from, back)
    where
      there_from : In x (free signature1 t) → In (to x) (free signature1 (stands_for d))
      there_from p =
          let (a, b, c) = in_missing 0 t.sorts B x p in
          let k = to_there x h in
          let s = sized in
          rw bound_to (missing_in 0 (map (sort_in d) xs) (map to B) (to x) (omega arith) (omega arith) (bound_in_lem x h ∙ c))

      back : In (to x) (free signature1 (stands_for d)) → In x (free signature1 t)
      back p =
          let q : In (to x) (missing 0 (map (sort_in d) xs) (map to B)) = rw bound_to at p in
          let (a, b, c) = in_missing 0 (map (sort_in d) xs) (map to B) (to x) q in
          missing_in 0 t.sorts B x (omega arith) (omega arith) (sym (bound_in_lem x h) ∙ c)

  -- ── Sorts ──

  or_true : (a b : Bool) → (a ≡ true) ⊎ (b ≡ true) → (a || b) ≡ true
  or_true true b e = refl
  or_true false b (inl e) = absurd (false≢true e)
  or_true false b (inr e) = e

  -- a name is listed or restricted
  is_listed : (x : ℕ) → x < S → sort_of t.sorts x ≡ is_name → is_named (symbol_name x) (d.names ++ restricted d.steps) ≡ true
  is_listed x h e = named_append (symbol_name x) d.names (restricted d.steps) ∙ or_true _ _ (go (is_in x B) refl)
    where
      go : (b : Bool) → is_in x B ≡ b → (is_named (symbol_name x) d.names ≡ true) ⊎ (is_named (symbol_name x) (restricted d.steps) ≡ true)
      go true q =
          let (s, a, b) = in_bound t.steps x (in_true x B q) in
          at s a (r.binds_variables s x a b)
        where
          at : (s : Act signature1 ℕ) → In s t.steps → (s ≡ fresh x) ⊎ (sort_of t.sorts x ≡ is_variable)
              → (is_named (symbol_name x) d.names ≡ true) ⊎ (is_named (symbol_name x) (restricted d.steps) ≡ true)
          at s a (inl f) = inr (in_named d (symbol_name x) (restricted d.steps) (restricted_in (tree t.entries) t.steps x (rw f at a)))
          at s a (inr f) = absurd (let z : ◌≡◌ {A = ℕ} 0 1 = cc in omega arith)
      go false q =
          inl (in_named d (symbol_name x) d.names (in_map symbol_name (names_in t.sorts (free signature1 t) x (missing_in 0 t.sorts B x (omega arith) (omega arith) q) e)))

  -- and nothing else is
  listed_is : (x : ℕ) → x < S → In (symbol_name x) (d.names ++ restricted d.steps) → sort_of t.sorts x ≡ is_name
  unfolding binders
  listed_is x h p = go (in_append d.names p)
    where
      below : (y : ℕ) → y < S → symbol_name x ≡ symbol_name y → x ≡ y
      below y k e = symbol_once x y (omega arith) (omega arith) e

      go : In (symbol_name x) d.names ⊎ In (symbol_name x) (restricted d.steps) → sort_of t.sorts x ≡ is_name
      go (inl q) =
          let (y, a, e) = in_unmap symbol_name (names_among t.sorts (free signature1 t)) q in
          let f : In y (free signature1 t) = names_of t.sorts (free signature1 t) y a in
          let (u, v, w) = in_missing 0 t.sorts B y f in
          let same : x ≡ y = below y (omega arith) (sym e) in
          rw same (in_names t.sorts (free signature1 t) y a)
      go (inr q) =
          let (y, e, a) = in_restricted (tree t.entries) t.steps (symbol_name x) q in
          let same : x ≡ y = below y (r.binders_there (fresh y) y a here) e in
          rw same (r.restricts_names y a)

  named_in : (y : Name) (l : List Name) → is_named y l ≡ true → In y l
  unfolding is_named
  named_in y [] e = absurd (false≢true e)
  named_in y (z ∷ l) e = go (same_name y z) refl e (named_in y l)
    where
      go : (b : Bool) → same_name y z ≡ b → (b || is_named y l) ≡ true → (is_named y l ≡ true → In y l) → In y (z ∷ l)
      go true q e f = rw (same_true y z q) here
      go false q e f = there (f e)

  pub sorts_to : (x : ℕ) → x < S → sort_of (map (sort_in d) xs) (to x) ≡ sort_of t.sorts x
  unfolding sort_in
  sorts_to x h = sort_of_lem d (symbol_name x) (known x h) ∙ go (is_named (symbol_name x) (d.names ++ restricted d.steps)) refl (sort_of t.sorts x) refl
    where
      go : (b : Bool) → is_named (symbol_name x) (d.names ++ restricted d.steps) ≡ b → (s : Sort) → sort_of t.sorts x ≡ s → cond b is_name is_variable ≡ s
      go true e is_name f = refl
      go true e is_variable f = absurd (let z : ◌≡◌ {A = ℕ} 0 1 = clash (listed_is x h (named_in (symbol_name x) (d.names ++ restricted d.steps) e)) f in omega arith)
        where
          clash : sort_of t.sorts x ≡ is_name → sort_of t.sorts x ≡ is_variable → ◌≡◌ {A = ℕ} 0 1
          clash a b = cc
      go false e is_name f = absurd (false≢true (sym e ∙ is_listed x h f))
      go false e is_variable f = refl

  -- ── As many symbols ──

  -- every symbol of the source is the name of a symbol of the table
  abbrev Written : Name → Type 0
  Written y = (i : ℕ) × (i < S) × (y ≡ symbol_name i)

  all_written : All Written xs
  all_written =
      let n = written_names t r few_terms {P = Written} (λ i h. (i, h, refl)) in
      let a : All Written (d.names ++ (d.variables ++ steps_names d.steps)) = rw (source_mentions d) at (mentions_have (source_pieces d n.0 n.1 n.2)) in
      rw (symbols_first d) (firsts_have (d.names ++ (d.variables ++ steps_names d.steps)) [] a all_nil)

  -- which one
  pick : (l : List Name) → All Written l → ℕ → ℕ
  pick [] a j = 0
  pick (y ∷ l) (all_cons w a) zero = w.0
  pick (y ∷ l) (all_cons w a) (suc j) = pick l a j

  picked : (l : List Name) (a : All Written l) (j : ℕ) → j < length l → (pick l a j < S) × (get_or l j [] ≡ symbol_name (pick l a j))
  unfolding pick
  picked [] a j h = absurd (omega arith)
  picked (y ∷ l) (all_cons w a) zero h = (w.1, w.2)
  picked (y ∷ l) (all_cons w a) (suc j) h = picked l a j (omega arith)

  -- symbols of the source without repeats
  symbols_unique : Unique xs
  symbols_unique = rw (symbols_first d) (firsts_unique (d.names ++ (d.variables ++ steps_names d.steps)) [] unique_none)

  pub same_count : length xs ≡ S
  same_count =
      let a : S ≤ length xs = pigeons S (length xs) to to_there to_apart in
      let b : length xs ≤ S =
      pigeons (length xs) S (pick xs all_written) (λ j h. (picked xs all_written j h).0)
      (λ i j h k e. index_apart xs symbols_unique i j h k ((picked xs all_written i h).1 ∙ ap symbol_name e ∙ sym (picked xs all_written j k).1)) in
      omega arith
