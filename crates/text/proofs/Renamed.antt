-- A source whose names are replaced by the writer's, and whose plaintexts are pairs: it stands for the same table. Assumes nothing.
use mathlib.Core.Path.{◌≡◌, refl, sym, ap, ap₂, ◌∙◌}
use mathlib.Core.Bool.{or-true, Bool, true, false, cond}
use mathlib.Core.List.{List, [], ◌∷◌, ◌++◌, map, append_assoc}
use Prim.Native.Nat.{ℕ, suc, ◌≤◌}
use native.Mathlib.Omega.{arith}
use lib.Dec.{eqb}
use lib.ListN.{length}
use borrow.Author.Tests.{eq-eqb, ne_eqb}
use Rattle.calculus.specs.Terms.{Tree, Act}
use Rattle.calculus.specs.Tables.{Sort, leaf_entry}
use Rattle.calculus.specs.Scope.{All, all_nil, all_cons}
use Rattle.calculus.specs.Version1.{signature1}
use Rattle.calculus.proofs.Lists.{map_append, all_append}
use Rattle.text.specs.Source.{Name, Term, named, paired, sealed, Further, no_more, also, Step, output, input, restriction, matching, splitting, decryption, Source}
use Rattle.text.specs.Places.{same_name}
use Rattle.text.specs.Numbering.{is_named, symbols_of, number_of, restricted, sort_in, TermEntry, Placed, Stepped, pair_entry, cipher_entry, completed, joined, place_term, place_further, place_two, place_one, place_step, placed_entries, placed_steps, stands_for}
use Rattle.text.specs.Meaning.{term_tree, plain_tree, step_act}
use Rattle.text.specs.Writing.{symbol_name, written_term, written_step}
use Rattle.text.proofs.NameLaws.{same_refl, same_true, same_not, number_there, number_once}
use Rattle.text.proofs.Placing.{TermNames, in_name, in_pair, in_sealed, FurtherNames, in_none, in_also}
use Rattle.text.proofs.PlacingSteps.{StepNames, names_output, names_input, names_restriction, names_matching, names_splitting, names_decryption}
use Rattle.text.proofs.RightTables.{steps_numbered, restricted_have, each_numbered}
use Rattle.text.proofs.Bindings.{source_names}
use Rattle.text.proofs.Mentions.{mentions_have, source_mentions, firsts, symbols_first, term_names, further_names, step_names, steps_names, named_renamed, firsts_renamed}
use Rattle.text.proofs.WrittenNames.{symbol_same}

module _ (xs : List Name) where
  -- the writer's name for a name
  abbrev pub rename : Name → Name
  rename x = symbol_name (number_of x xs)

  -- the writer's step for a step
  abbrev pub restep : Step → Step
  restep t = written_step (step_act xs t)

  -- ── The names come in the same order ──

  mutual
    unfolding term_tree written_term term_names

    term_renamed : (M : Term) → term_names (written_term (term_tree xs M)) ≡ map rename (term_names M)
    term_renamed (named x) = refl
    term_renamed (paired M N) = ap₂ (λ (k l : List Name). k ++ l) (term_renamed M) (term_renamed N) ∙ sym (map_append rename (term_names M) (term_names N))
    term_renamed (sealed M Ms K) =
        ap₂ (λ (k l : List Name). k ++ l) (plain_renamed Ms (term_tree xs M)) (term_renamed K)
        ∙ ap (λ (k : List Name). (k ++ map rename (further_names Ms)) ++ map rename (term_names K)) (term_renamed M)
        ∙ append_assoc (map rename (term_names M)) (map rename (further_names Ms)) (map rename (term_names K))
        ∙ ap (λ (k : List Name). map rename (term_names M) ++ k) (sym (map_append rename (further_names Ms) (term_names K)))
        ∙ sym (map_append rename (term_names M) (further_names Ms ++ term_names K))

    plain_renamed : (Ms : Further) (A : Tree signature1 ℕ) → term_names (written_term (plain_tree xs Ms A)) ≡ term_names (written_term A) ++ map rename (further_names Ms)
    plain_renamed no_more A = nothing (term_names (written_term A))
      where
        nothing : (l : List Name) → l ≡ l ++ []
        nothing [] = refl
        nothing (x ∷ l) = ap (λ (k : List Name). x ∷ k) (nothing l)
    plain_renamed (also N Ns) A =
        ap (λ (k : List Name). term_names (written_term A) ++ k)
        (plain_renamed Ns (term_tree xs N) ∙ ap (λ (k : List Name). k ++ map rename (further_names Ns)) (term_renamed N) ∙ sym (map_append rename (term_names N) (further_names Ns)))

  step_renamed : (t : Step) → step_names (restep t) ≡ map rename (step_names t)
  unfolding step_names written_step step_act
  step_renamed (output M N) = ap₂ (λ (k l : List Name). k ++ l) (term_renamed M) (term_renamed N) ∙ sym (map_append rename (term_names M) (term_names N))
  step_renamed (input M x) = ap (λ (k : List Name). k ++ (rename x ∷ [])) (term_renamed M) ∙ sym (map_append rename (term_names M) (x ∷ []))
  step_renamed (restriction x) = refl
  step_renamed (matching M N) = ap₂ (λ (k l : List Name). k ++ l) (term_renamed M) (term_renamed N) ∙ sym (map_append rename (term_names M) (term_names N))
  step_renamed (splitting M x y) = ap (λ (k : List Name). k ++ (rename x ∷ rename y ∷ [])) (term_renamed M) ∙ sym (map_append rename (term_names M) (x ∷ y ∷ []))
  step_renamed (decryption M K x) =
      ap₂ (λ (k l : List Name). k ++ (l ++ (rename x ∷ []))) (term_renamed M) (term_renamed K)
      ∙ ap (λ (k : List Name). map rename (term_names M) ++ k) (sym (map_append rename (term_names K) (x ∷ [])))
      ∙ sym (map_append rename (term_names M) (term_names K ++ (x ∷ [])))

  steps_renamed : (ts : List Step) → steps_names (map restep ts) ≡ map rename (steps_names ts)
  unfolding steps_names
  steps_renamed [] = refl
  steps_renamed (t ∷ ts) = ap₂ (λ (k l : List Name). k ++ l) (step_renamed t) (steps_renamed ts) ∙ sym (map_append rename (step_names t) (steps_names ts))

  restricted_renamed : (ts : List Step) → restricted (map restep ts) ≡ map rename (restricted ts)
  unfolding restricted written_step step_act
  restricted_renamed [] = refl
  restricted_renamed (output M N ∷ ts) = restricted_renamed ts
  restricted_renamed (input M x ∷ ts) = restricted_renamed ts
  restricted_renamed (restriction x ∷ ts) = ap (λ (k : List Name). rename x ∷ k) (restricted_renamed ts)
  restricted_renamed (matching M N ∷ ts) = restricted_renamed ts
  restricted_renamed (splitting M x y ∷ ts) = restricted_renamed ts
  restricted_renamed (decryption M K x ∷ ts) = restricted_renamed ts

  -- ── Numbers are kept ──

  module _ (few : length xs ≤ 100) where
    -- it is one of xs
    abbrev pub Known : Name → Type 0
    Known x = is_named x xs ≡ true

    pub kept_apart : (x y : Name) → Known x → Known y → same_name (rename x) (rename y) ≡ same_name x y
    kept_apart x y p q =
        let a = number_there x xs p in
        let b = number_there y xs q in
        symbol_same (number_of x xs) (number_of y xs) (omega arith) (omega arith) ∙ go (same_name x y) refl
      where
        go : (t : Bool) → same_name x y ≡ t → eqb (number_of x xs) (number_of y xs) ≡ t
        go true e = eq-eqb _ _ (ap (λ (z : Name). number_of z xs) (same_true x y e))
        go false e = ne_eqb _ _ (λ n. same_not x y e (number_once x y xs p n))

    pub number_kept : (x : Name) (l : List Name) → Known x → All Known l → number_of (rename x) (map rename l) ≡ number_of x l
    unfolding number_of
    number_kept x [] p all_nil = refl
    number_kept x (y ∷ l) p (all_cons q a) = go (same_name x y) (kept_apart x y p q) (number_kept x l p a)
      where
        go : (t : Bool) → same_name (rename x) (rename y) ≡ t → number_of (rename x) (map rename l) ≡ number_of x l
            → cond (same_name (rename x) (rename y)) 0 (suc (number_of (rename x) (map rename l))) ≡ cond t 0 (suc (number_of x l))
        go t e f = rw (e, f)

    -- ── Terms are placed the same ──

    module _ (ys : List Name) (numbers : (x : Name) → Known x → number_of (rename x) ys ≡ number_of x xs) where
      mutual
        unfolding place_term term_tree written_term

        term_again : {M : Term} → TermNames Known M → (es : List TermEntry) → place_term ys (written_term (term_tree xs M)) es ≡ place_term xs M es
        term_again (in_name {x = x} p) es = ap (λ (n : ℕ). completed (leaf_entry n) es) (numbers x p)
        term_again (in_pair {M = M} {N = N} a b) es =
            ap (λ (m : Placed). joined pair_entry m.index (place_term ys (written_term (term_tree xs N)) m.entries)) (term_again a es)
            ∙ ap (λ (n : Placed). joined pair_entry (place_term xs M es).index n) (term_again b (place_term xs M es).entries)
        term_again (in_sealed {M = M} {K = K} {Ms = Ms} a b c) es =
            let e : place_term ys (written_term (plain_tree xs Ms (term_tree xs M))) es ≡ place_further xs Ms (place_term xs M es) =
            plain_again b (term_tree xs M) es ∙ ap (place_further xs Ms) (term_again a es) in
            ap (λ (m : Placed). joined cipher_entry m.index (place_term ys (written_term (term_tree xs K)) m.entries)) e
            ∙ ap (λ (n : Placed). joined cipher_entry (place_further xs Ms (place_term xs M es)).index n) (term_again c (place_further xs Ms (place_term xs M es)).entries)

        plain_again : {Ms : Further} → FurtherNames Known Ms → (A : Tree signature1 ℕ) (es : List TermEntry)
            → place_term ys (written_term (plain_tree xs Ms A)) es ≡ place_further xs Ms (place_term ys (written_term A) es)
        plain_again in_none A es = refl
        plain_again (in_also {M = N} {Ms = Ns} a b) A es =
            let m : Placed = place_term ys (written_term A) es in
            ap (λ (n : Placed). joined pair_entry (place_term ys (written_term A) es).index n)
            (plain_again b (term_tree xs N) (place_term ys (written_term A) es).entries ∙ ap (place_further xs Ns) (term_again a (place_term ys (written_term A) es).entries))

      two_again : {M N : Term} → TermNames Known M → TermNames Known N → (f : ℕ → ℕ → Act signature1 ℕ) (es : List TermEntry)
          → place_two ys (written_term (term_tree xs M)) (written_term (term_tree xs N)) f es ≡ place_two xs M N f es
      unfolding place_two
      two_again {M} {N} a b f es = rw (term_again a es, term_again b (place_term xs M es).entries)

      one_again : {M : Term} → TermNames Known M → (f : ℕ → Act signature1 ℕ) (es : List TermEntry) → place_one ys (written_term (term_tree xs M)) f es ≡ place_one xs M f es
      unfolding place_one
      one_again a f es = rw (term_again a es)

      step_again : {t : Step} → StepNames Known t → (es : List TermEntry) → place_step ys (restep t) es ≡ place_step xs t es
      unfolding place_step written_step step_act
      step_again (names_output a b) es = two_again a b _ es
      step_again (names_input {x = x} a p) es = rw (numbers x p) (one_again a _ es)
      step_again (names_restriction {x = x} p) es = rw (numbers x p)
      step_again (names_matching a b) es = two_again a b _ es
      step_again (names_splitting {x = x} {y = y} a p q) es = rw (numbers x p, numbers y q) (one_again a _ es)
      step_again (names_decryption {x = x} a b p) es = rw (numbers x p) (two_again a b _ es)

      pub entries_again : {ts : List Step} → All (StepNames Known) ts → (es : List TermEntry) → placed_entries ys (map restep ts) es ≡ placed_entries xs ts es
      unfolding placed_entries
      entries_again all_nil es = refl
      entries_again (all_cons {x = t} {l = ts} a r) es = ap (λ (p : Stepped). placed_entries ys (map restep ts) p.entries) (step_again a es) ∙ entries_again r (place_step xs t es).entries

      pub steps_again : {ts : List Step} → All (StepNames Known) ts → (es : List TermEntry) → placed_steps ys (map restep ts) es ≡ placed_steps xs ts es
      unfolding placed_steps
      steps_again all_nil es = refl
      steps_again (all_cons {x = t} {l = ts} a r) es =
          ap (λ (p : Stepped). p.step ∷ placed_steps ys (map restep ts) p.entries) (step_again a es)
          ∙ ap (λ (k : List (Act signature1 ℕ)). (place_step xs t es).step ∷ k) (steps_again r (place_step xs t es).entries)

-- ── The table is kept ──

module _ (d : Source) (few : length (symbols_of d) ≤ 100) where
  abbrev xs : List Name
  xs = symbols_of d

  -- the source with the writer's names
  abbrev pub renamed : Source
  renamed = record { names = map (rename xs) d.names; variables = map (rename xs) d.variables; steps = map (restep xs) d.steps }

  -- all names of the source, in order, are known
  all_known : All (Known xs few) (d.names ++ (d.variables ++ steps_names d.steps))
  all_known = rw (source_mentions d) at (mentions_have (each_numbered d))

  pub symbols_renamed : symbols_of renamed ≡ map (rename xs) (symbols_of d)
  symbols_renamed =
      let a = d.names in
      let b = d.variables in
      let c = steps_names d.steps in
      let e : map (rename xs) d.names ++ (map (rename xs) d.variables ++ steps_names (map (restep xs) d.steps)) ≡ map (rename xs) (d.names ++ (d.variables ++ steps_names d.steps)) =
      ap (λ (l : List Name). map (rename xs) a ++ (map (rename xs) b ++ l)) (steps_renamed xs d.steps)
      ∙ ap (λ (l : List Name). map (rename xs) a ++ l) (sym (map_append (rename xs) b c))
      ∙ sym (map_append (rename xs) a (b ++ c)) in
      symbols_first renamed
      ∙ ap (firsts []) e
      ∙ firsts_renamed (rename xs) (Known xs few) (kept_apart xs few) [] (d.names ++ (d.variables ++ steps_names d.steps)) all_nil all_known
      ∙ ap (map (rename xs)) (sym (symbols_first d))

  symbols_known : All (Known xs few) xs
  unfolding is_named
  symbols_known = each xs (λ x h. h)
    where
      each : (l : List Name) → ((x : Name) → is_named x l ≡ true → Known xs few x) → All (Known xs few) l
      each [] f = all_nil
      each (x ∷ l) f = all_cons (f x (rw (same_refl x))) (each l (λ y h. f y (rw h (or-true (same_name y x)))))

  -- the numbers are the same
  numbers_same : (x : Name) → Known xs few x → number_of (rename xs x) (symbols_of renamed) ≡ number_of x xs
  numbers_same x p = rw symbols_renamed (number_kept xs few x xs p symbols_known)

  sort_same : (x : Name) → Known xs few x → sort_in renamed (rename xs x) ≡ sort_in d x
  unfolding sort_in
  sort_same x p =
      let e : map (rename xs) d.names ++ restricted (map (restep xs) d.steps) ≡ map (rename xs) (d.names ++ restricted d.steps) =
      ap (λ (l : List Name). map (rename xs) d.names ++ l) (restricted_renamed xs d.steps) ∙ sym (map_append (rename xs) d.names (restricted d.steps)) in
      let a = all_append (source_names d (each_numbered d)).0 (restricted_have (steps_numbered d)) in
      rw (e, named_renamed (rename xs) (Known xs few) (kept_apart xs few) x (d.names ++ restricted d.steps) p a)

  sorts_same : map (sort_in renamed) (symbols_of renamed) ≡ map (sort_in d) xs
  sorts_same = rw symbols_renamed (each xs symbols_known)
    where
      each : (l : List Name) → All (Known xs few) l → map (sort_in renamed) (map (rename xs) l) ≡ map (sort_in d) l
      each [] all_nil = refl
      each (x ∷ l) (all_cons p a) = ap₂ {A = Sort} {B = List Sort} (λ y k. y ∷ k) (sort_same x p) (each l a)

  pub renamed_same : stands_for renamed ≡ stands_for d
  renamed_same =
      let e = sorts_same in
      let f = entries_again xs few (symbols_of renamed) numbers_same (steps_numbered d) [] in
      let g = steps_again xs few (symbols_of renamed) numbers_same (steps_numbered d) [] in
      rw (e, f, g)
