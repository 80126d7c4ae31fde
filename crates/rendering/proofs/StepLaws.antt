-- The statements of a step, and of all steps: they render what is due, over the registers that building left. Assumes nothing.
use mathlib.Core.Path.{◌≡◌, refl, sym, ap, ◌∙◌}
use mathlib.Core.Logic.{◌⊎◌, inl, inr, ⊎_elim}
use mathlib.Core.Option
use mathlib.Core.Option.{some}
use mathlib.Core.List.{List, [], ◌∷◌, ◌++◌, map, append_assoc, append-nil}
use Prim.Native.Nat.{ℕ, zero, suc, ◌+◌, ◌<◌, ◌≤◌}
use native.Mathlib.Omega.{arith}
use lib.ListN.{length, get_elem?, length-append, length-map}
use Rattle.calculus.specs.Signature.{Signature}
use Rattle.calculus.specs.Terms.{leaf, Term, build1, build2, Act, send, receive, fresh, compare, split, decrypt, map_act, operands, binders, bound, left, right, Statement, act, half}
use Rattle.calculus.specs.Tables.{Entry, leaf_entry, kind_entry, entry_at, denoted, Closed, Lower, low_one, low_two, meaning}
use Rattle.calculus.specs.Scope.{In, here, there, All, all_nil, all_cons, Distinct, Lacks, Scoped, sc_step}
use Rattle.calculus.proofs.Inversion.{lacks_itself, lacks_part, lacks_left, lacks_right}
use Rattle.calculus.proofs.TableLaws.{denoted_leaf, denoted_one, denoted_two}
use Rattle.calculus.proofs.Lists.{get_map, get_more, all_append, all_of, all_in, all_unmap, in_append_left, in_append_right, in_append, in_map}
use Rattle.calculus.proofs.TableLaws.{binders_map, bound_map}
use Rattle.rendering.specs.Rendering.{Splitting, halves, merged, Due, whole, part, binds, dues_of, dues, Says, says_act, says_half, Follows, no_more, next_due}
use Rattle.rendering.specs.Judge.{Meaning, symbol, meant, term_meant}
use Rattle.rendering.specs.Translation.{Made, build_each, build_term, stated, translate_from, registers}
use Rattle.rendering.proofs.MeaningLaws.{map_act_lem, act_same, Proper, proper_symbol, meant_term}
use Rattle.rendering.proofs.ActLaws.{operands_map}
use Rattle.rendering.proofs.BuildLaws.{register_in_lem, register_below, terms_of, terms_append, symbols_none, Only, Named, named_more, Good, good_keep, regs, good_operands, only_symbol, only_one, only_two}

module _ (𝓢 : Signature) (es : List (Entry 𝓢 ℕ)) (low : Closed 𝓢 0 es) where
  abbrev pub T : Meaning → Term 𝓢
  T = term_meant 𝓢 es

  abbrev pub D : ℕ → Term 𝓢
  D = denoted 𝓢 0 es

  abbrev pub TD : Type 0
  TD = List (ℕ × Due 𝓢 (Term 𝓢))

  abbrev pub G : List Meaning → TD → List (Statement 𝓢) → List (Term 𝓢) → TD → Type 0
  G ms = Follows 𝓢 es (map T ms)

  abbrev pub rg : List Meaning → ℕ → ℕ
  rg = regs 𝓢 es low

  abbrev pub Nm : ℕ → List (Statement 𝓢) → Type 0
  Nm = Named 𝓢 es low

  abbrev pub Gd : List Meaning → Made 𝓢 → Type 0
  Gd = Good 𝓢 es low (length es)

  abbrev pub On : (ℕ → Type 0) → Term 𝓢 → Type 0
  On = Only 𝓢

  -- ── the statements of a step ──

  act_names : (ms : List Meaning) (a : Act 𝓢 ℕ) → All (λ j. In (meant 𝓢 es j) ms) (operands 𝓢 a) → map_act 𝓢 (get_elem? ms) (map_act 𝓢 (rg ms) a) ≡ map_act 𝓢 (λ j. some (meant 𝓢 es j)) a
  unfolding map_act operands
  act_names ms (send a b) (all_cons h (all_cons i z)) = rw (register_in_lem h, register_in_lem i)
  act_names ms (receive a x) (all_cons h z) = rw (register_in_lem h)
  act_names ms (fresh x) z = refl
  act_names ms (compare a b) (all_cons h (all_cons i z)) = rw (register_in_lem h, register_in_lem i)
  act_names ms (split a x y) (all_cons h z) = rw (register_in_lem h)
  act_names ms (decrypt s a b x) (all_cons h (all_cons i z)) = rw (register_in_lem h, register_in_lem i)

  act_below : (ms : List Meaning) (a : Act 𝓢 ℕ) → All (λ j. In (meant 𝓢 es j) ms) (operands 𝓢 a) → All (λ p. p < length ms) (operands 𝓢 (map_act 𝓢 (rg ms) a))
  act_below ms a h = rw (operands_map 𝓢 (rg ms) a) (go h)
    where
      go : {l : List ℕ} → All (λ j. In (meant 𝓢 es j) ms) l → All (λ p. p < length ms) (map (rg ms) l)
      go all_nil = all_nil
      go (all_cons p ps) = all_cons (register_below p) (go ps)

  act_says : (ms : List Meaning) (a : Act 𝓢 ℕ) → All (λ j. In (meant 𝓢 es j) ms) (operands 𝓢 a) → Says 𝓢 (map T ms) (act (map_act 𝓢 (rg ms) a)) (whole (map_act 𝓢 D a))
  act_says ms a h = says_act
      (act_same 𝓢 (get_elem? (map T ms)) (λ p. Option.map T (get_elem? ms p)) (get_map T ms) (map_act 𝓢 (rg ms) a) ∙ sym (map_act_lem 𝓢 (get_elem? ms) (Option.map T) (map_act 𝓢 (rg ms) a))
      ∙ ap (map_act 𝓢 (Option.map T)) (act_names ms a h) ∙ map_act_lem 𝓢 (λ j. some (meant 𝓢 es j)) (Option.map T) a
      ∙ act_same 𝓢 (λ j. some (T (meant 𝓢 es j))) (λ j. some (D j)) (λ j. ap some (meant_term 𝓢 es low j)) a ∙ sym (map_act_lem 𝓢 D some a))

  pub symbols_terms : (ms : List Meaning) (xs : List ℕ) → map T (ms ++ map symbol xs) ≡ map T ms ++ map leaf xs
  unfolding term_meant
  symbols_terms [] [] = refl
  symbols_terms [] (x ∷ xs) = ap (λ l. leaf x ∷ l) (symbols_terms [] xs)
  symbols_terms (m ∷ ms) xs = ap (λ l. T m ∷ l) (symbols_terms ms xs)

  half_names : (ms : List Meaning) (j : ℕ) → In (meant 𝓢 es j) ms → get_elem? (map T ms) (rg ms j) ≡ some (D j)
  half_names ms j h = get_map T ms (rg ms j) ∙ ap (Option.map T) (register_in_lem h) ∙ ap some (meant_term 𝓢 es low j)

  abbrev Renders : Splitting → List Meaning → Act 𝓢 ℕ → Type 0
  Renders v ms s = (n : ℕ) (ws us : TD) (ss : List (Statement 𝓢)) (ns : List (Term 𝓢)) → G (ms ++ map symbol (binders 𝓢 s)) ws ss ns us
      → G ms (map (λ w. (n, w)) (dues_of 𝓢 v (map_act 𝓢 D s)) ++ ws) (map (stated 𝓢 es ms) (dues_of 𝓢 v s) ++ ss) ns us

  whole_renders : (ms : List Meaning) (s : Act 𝓢 ℕ) → All (λ j. In (meant 𝓢 es j) ms) (operands 𝓢 s) → (n : ℕ) (ws us : TD) (ss : List (Statement 𝓢)) (ns : List (Term 𝓢))
      → G (ms ++ map symbol (binders 𝓢 s)) ws ss ns us → G ms ((n, whole (map_act 𝓢 D s)) ∷ ws) (act (map_act 𝓢 (rg ms) s) ∷ ss) ns us
  unfolding binds
  whole_renders ms s h n ws us ss ns f = next_due (act_says ms s h) (rw (symbols_terms ms (binders 𝓢 s), ← binders_map 𝓢 D s) at f)

  halves_render : (ms : List Meaning) (a x y : ℕ) → In (meant 𝓢 es a) ms → (n : ℕ) (ws us : TD) (ss : List (Statement 𝓢)) (ns : List (Term 𝓢)) → G (ms ++ map symbol (x ∷ y ∷ [])) ws ss ns us
      → G ms ((n, part left (D a) x) ∷ (n, part right (D a) y) ∷ ws) (half left (rg ms a) x ∷ half right (rg ms a) y ∷ ss) ns us
  unfolding binds
  halves_render ms a x y h n ws us ss ns f =
      let g : Follows 𝓢 es ((map T ms ++ (leaf x ∷ [])) ++ (leaf y ∷ [])) ws ss ns us = rw (append_assoc (map T ms) (leaf x ∷ []) (leaf y ∷ [])) (rw (symbols_terms ms (x ∷ y ∷ [])) at f) in
      next_due (says_half (half_names ms a h)) (next_due (says_half (get_more (map T ms) (leaf x ∷ []) (rg ms a) (half_names ms a h))) g)

  renders : (v : Splitting) (ms : List Meaning) (s : Act 𝓢 ℕ) → All (λ j. In (meant 𝓢 es j) ms) (operands 𝓢 s) → Renders v ms s
  unfolding dues_of stated map_act operands binders
  renders v ms (send a b) h = whole_renders ms (send a b) h
  renders v ms (receive a x) h = whole_renders ms (receive a x) h
  renders v ms (fresh x) h = whole_renders ms (fresh x) h
  renders v ms (compare a b) h = whole_renders ms (compare a b) h
  renders halves ms (split a x y) (all_cons h z) = halves_render ms a x y h
  renders merged ms (split a x y) h = whole_renders ms (split a x y) h
  renders v ms (decrypt s a b x) h = whole_renders ms (decrypt s a b x) h

  stated_below : (v : Splitting) (ms : List Meaning) (s : Act 𝓢 ℕ) → All (λ j. In (meant 𝓢 es j) ms) (operands 𝓢 s) → Nm (length ms) (map (stated 𝓢 es ms) (dues_of 𝓢 v s))
  unfolding dues_of stated registers operands
  stated_below v ms (send a b) h = all_cons (act_below ms (send a b) h) all_nil
  stated_below v ms (receive a x) h = all_cons (act_below ms (receive a x) h) all_nil
  stated_below v ms (fresh x) h = all_cons (act_below ms (fresh x) h) all_nil
  stated_below v ms (compare a b) h = all_cons (act_below ms (compare a b) h) all_nil
  stated_below halves ms (split a x y) (all_cons h z) = all_cons (all_cons (register_below h) all_nil) (all_cons (all_cons (register_below h) all_nil) all_nil)
  stated_below merged ms (split a x y) h = all_cons (act_below ms (split a x y) h) all_nil
  stated_below v ms (decrypt s a b x) h = all_cons (act_below ms (decrypt s a b x) h) all_nil

  -- ── the whole ──

  -- a term that lacks all symbols of l has only the others
  only_others : {R K : ℕ → Type 0} {M : Term 𝓢} (l : List ℕ) → On R M → ((x : ℕ) → In x l → Lacks 𝓢 x M) → ((x : ℕ) → R x → K x ⊎ In x l) → On K M
  only_others {R} {K} l (only_symbol {x = x} r) h c = ⊎_elim (λ (k : K x). only_symbol k) (λ (b : In x l). absurd (lacks_itself 𝓢 (h x b))) (c x r)
  only_others l (only_one o) h c = only_one (only_others l o (λ x b. lacks_part 𝓢 (h x b)) c)
  only_others l (only_two o p) h c = only_two (only_others l o (λ x b. lacks_left 𝓢 (h x b)) c) (only_others l p (λ x b. lacks_right 𝓢 (h x b)) c)

  pub record Whole (v : Splitting) (n : ℕ) (P : List (Act 𝓢 ℕ)) (ms : List Meaning) (r : Made 𝓢) : Type 0 where
    pub renders_all : Follows 𝓢 es (map T ms) (dues 𝓢 v n (meaning 𝓢 es P)) r.0 (map T r.1) []
    pub count : length r.0 + length (terms_of ms) ≡ length (dues 𝓢 v n (meaning 𝓢 es P)) + length (terms_of r.1)
    pub size : length r.1 + length (terms_of ms) ≡ length ms + length (bound 𝓢 P) + length (terms_of r.1)
    pub once : Distinct (terms_of ms) → Distinct (terms_of r.1)
    pub proper : All (Proper 𝓢 es) ms → All (Proper 𝓢 es) r.1
    pub named : Nm (length r.1) r.0
    pub longer : length ms ≤ length r.1

  pub symbols_proper : (xs : List ℕ) → All (Proper 𝓢 es) (map symbol xs)
  symbols_proper [] = all_nil
  symbols_proper (x ∷ xs) = all_cons proper_symbol (symbols_proper xs)

  dues_of_length : (v : Splitting) (n : ℕ) (s : Act 𝓢 ℕ) → length {A = ℕ × Due 𝓢 (Term 𝓢)} (map (λ w. (n, w)) (dues_of 𝓢 v (map_act 𝓢 D s))) ≡ length (map (stated 𝓢 es []) (dues_of 𝓢 v s))
  unfolding dues_of map_act
  dues_of_length v n (send a b) = refl
  dues_of_length v n (receive a x) = refl
  dues_of_length v n (fresh x) = refl
  dues_of_length v n (compare a b) = refl
  dues_of_length halves n (split a x y) = refl
  dues_of_length merged n (split a x y) = refl
  dues_of_length v n (decrypt s a b x) = refl

  whole_end : (v : Splitting) (n : ℕ) (ms : List Meaning) → Whole v n [] ms ([], ms)
  unfolding dues bound
  whole_end v n ms = record { renders_all = no_more; count = omega arith; size = omega arith; once = λ d. d; proper = λ a. a; named = all_nil; longer = omega arith }

  whole_step : (v : Splitting) (n : ℕ) (s : Act 𝓢 ℕ) (P : List (Act 𝓢 ℕ)) (ms : List Meaning) (r q : Made 𝓢) → Gd ms r → All (λ j. In (meant 𝓢 es j) r.1) (operands 𝓢 s)
      → Whole v (suc n) P (r.1 ++ map symbol (binders 𝓢 s)) q → Whole v n (s ∷ P) ms (r.0 ++ (map (stated 𝓢 es r.1) (dues_of 𝓢 v s) ++ q.0), q.1)
  unfolding dues bound
  whole_step v n s P ms r q g o w =
      let xs = binders 𝓢 s in
      let e : terms_of (r.1 ++ map symbol xs) ≡ terms_of r.1 = terms_append r.1 (map symbol xs) ∙ (rw (symbols_none xs) (append-nil (terms_of r.1))) in
      let el : length (terms_of (r.1 ++ map symbol xs)) ≡ length (terms_of r.1) = ap length e in
      let ml : length (r.1 ++ map symbol xs) ≡ length r.1 + length xs = length-append r.1 (map symbol xs) ∙ ap (λ k. length r.1 + k) (length-map xs symbol) in
      let sl : length (r.0 ++ (map (stated 𝓢 es r.1) (dues_of 𝓢 v s) ++ q.0)) ≡ length r.0 + (length (dues_of 𝓢 v s) + length q.0) =
      length-append r.0 _ ∙ ap (λ k. length r.0 + k) (length-append (map (stated 𝓢 es r.1) (dues_of 𝓢 v s)) q.0 ∙ ap (λ k. k + length q.0) (length-map (dues_of 𝓢 v s) (stated 𝓢 es r.1))) in
      let dl : length {A = ℕ × Due 𝓢 (Term 𝓢)} (map (λ u. (n, u)) (dues_of 𝓢 v (map_act 𝓢 D s)) ++ dues 𝓢 v (suc n) (meaning 𝓢 es P)) ≡ length (dues_of 𝓢 v s) + length (dues 𝓢 v (suc n) (meaning 𝓢 es P)) =
      length-append {A = ℕ × Due 𝓢 (Term 𝓢)} (map (λ u. (n, u)) (dues_of 𝓢 v (map_act 𝓢 D s))) (dues 𝓢 v (suc n) (meaning 𝓢 es P)) ∙ ap (λ k. k + length (dues 𝓢 v (suc n) (meaning 𝓢 es P))) (dues_of_length v n s ∙ length-map (dues_of 𝓢 v s) (stated 𝓢 es [])) in
      let bl : length (xs ++ bound 𝓢 P) ≡ length xs + length (bound 𝓢 P) = length-append xs (bound 𝓢 P) in
      let gc = g.count in
      let gs = g.size in
      let wc = w.count in
      let ws = w.size in
      let wl = w.longer in
      let up : length r.1 ≤ length q.1 = omega arith in
      record {
        renders_all = g.rest _ [] _ _ (renders v r.1 s o n (dues 𝓢 v (suc n) (meaning 𝓢 es P)) [] q.0 (map T q.1) w.renders_all);
        count = omega arith;
        size = omega arith;
        once = λ d. w.once (rw e (g.once d));
        proper = λ a. w.proper (all_append (g.proper a) (symbols_proper xs));
        named = all_append (named_more 𝓢 es low up g.named) (all_append (named_more 𝓢 es low up (stated_below v r.1 s o)) w.named);
        longer = omega arith;
      }

  module _ (bounds : ℕ) (range : (i : ℕ) → i < length es → On (λ x. x < bounds) (D i)) where
    step_only : (s : Act 𝓢 ℕ) (l : List ℕ) {K : ℕ → Type 0} → All (λ i. i < length es) (operands 𝓢 s) → ((x : ℕ) → In x l → All (Lacks 𝓢 x) (operands 𝓢 (map_act 𝓢 D s)))
        → ((x : ℕ) → x < bounds → K x ⊎ In x l) → All (λ i. On K (D i)) (operands 𝓢 s)
    step_only s l {K} a h c = all_of (operands 𝓢 s) (λ i p. only_others l (range i (all_in a i p)) (λ x b. all_in (all_unmap D (operands 𝓢 s) (rw (operands_map 𝓢 D s) at (h x b))) i p) c)

    -- the symbols of a step that is done are built, and so are those of the others
    covered : (s : Act 𝓢 ℕ) (P : List (Act 𝓢 ℕ)) (ms : List Meaning) (r : Made 𝓢) → Gd ms r → (x : ℕ) → In (symbol x) ms ⊎ In x (binders 𝓢 s ++ bound 𝓢 P)
        → In (symbol x) (r.1 ++ map symbol (binders 𝓢 s)) ⊎ In x (bound 𝓢 P)
    covered s P ms r g x (inl i) = inl (in_append_left (map symbol (binders 𝓢 s)) (good_keep 𝓢 es low g i))
    covered s P ms r g x (inr i) = ⊎_elim (λ (k : In x (binders 𝓢 s)). inl (in_append_right r.1 (in_map symbol k))) (λ (k : In x (bound 𝓢 P)). inr k) (in_append (binders 𝓢 s) i)

    lacks_bound : (s : Act 𝓢 ℕ) (P : List (Act 𝓢 ℕ)) → ((x : ℕ) → In x (bound 𝓢 (map_act 𝓢 D s ∷ meaning 𝓢 es P)) → All (Lacks 𝓢 x) (operands 𝓢 (map_act 𝓢 D s)))
        → (x : ℕ) → In x (binders 𝓢 s ++ bound 𝓢 P) → All (Lacks 𝓢 x) (operands 𝓢 (map_act 𝓢 D s))
    unfolding bound
    lacks_bound s P h x i = h x (rw (bound_map 𝓢 D P, binders_map 𝓢 D s) i)

    pub translates : (v : Splitting) (n : ℕ) (P : List (Act 𝓢 ℕ)) (ms : List Meaning) → ((s : Act 𝓢 ℕ) (i : ℕ) → In s P → In i (operands 𝓢 s) → i < length es) → Scoped 𝓢 (meaning 𝓢 es P)
        → ((x : ℕ) → x < bounds → In (symbol x) ms ⊎ In x (bound 𝓢 P)) → Whole v n P ms (translate_from 𝓢 es v P ms)
    unfolding translate_from bound
    translates v n [] ms a sc c = whole_end v n ms
    translates v n (s ∷ P) ms a (sc_step h sc) c =
        let ops : All (λ i. i < length es) (operands 𝓢 s) = all_of (operands 𝓢 s) (λ i p. a s i here p) in
        let o = step_only s (binders 𝓢 s ++ bound 𝓢 P) ops (lacks_bound s P h) c in
        let g = good_operands 𝓢 es low (λ x. In (symbol x) ms) (operands 𝓢 s) ms ops o (λ x k. k) in
        let r = build_each 𝓢 (build_term 𝓢 es (length es)) (operands 𝓢 s) ms in
        whole_step v n s P ms r (translate_from 𝓢 es v P (r.1 ++ map symbol (binders 𝓢 s))) g.0 g.1
        (translates v (suc n) P (r.1 ++ map symbol (binders 𝓢 s)) (λ t i p q. a t i (there p) q) sc (λ x l. covered s P ms r g.0 x (c x l)))

  -- every symbol of a term is below S
  pub ranged : (n bounds : ℕ) → ((i x : ℕ) → i < length es → entry_at 𝓢 0 es i ≡ leaf_entry x → x < bounds) → (i : ℕ) → i < n → i < length es → On (λ x. x < bounds) (D i)
  ranged zero bounds h i p l = absurd (omega arith)
  ranged (suc n) bounds h i p l = go (entry_at 𝓢 0 es i) refl (low i l) (λ j q. ranged n bounds h j (omega arith) (omega arith))
    where
      go : (e : Entry 𝓢 ℕ) → entry_at 𝓢 0 es i ≡ e → Lower 𝓢 i e → ((j : ℕ) → j < i → On (λ x. x < bounds) (D j)) → On (λ x. x < bounds) (D i)
      go (leaf_entry x) q lo f = rw (denoted_leaf 𝓢 0 es low i q) (only_symbol (h i x l q))
      go (kind_entry (build1 k a)) q (low_one u) f = rw (denoted_one 𝓢 0 es low i q) (only_one (f a u))
      go (kind_entry (build2 k a b)) q (low_two u w) f = rw (denoted_two 𝓢 0 es low i q) (only_two (f a u) (f b w))
