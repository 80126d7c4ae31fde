-- Building the terms of a step: each once, parts first, in registers that mean them. Assumes nothing.
use mathlib.Core.Path.{◌≡◌, refl, sym, ap, ◌∙◌}
use mathlib.Core.Logic.{⊎_elim}
use mathlib.Core.Bool.{Bool, true, false, cond, decide, ◌||◌, false≢true}
use mathlib.Core.Option
use mathlib.Core.Option.{some}
use mathlib.Core.List.{List, [], ◌∷◌, ◌++◌, map, append_assoc, append-nil}
use Prim.Native.Nat.{ℕ, zero, suc, ◌+◌, ◌<◌, ◌≤◌, zero-le, suc-le-suc}
use native.Mathlib.Omega.{arith}
use lib.ListN.{length, get_elem?, length-append}
use Rattle.calculus.specs.Signature.{Signature, Two}
use Rattle.calculus.specs.Terms.{leaf, one, two, Term, Build, build1, build2, map_build, built, Statement, build}
use Rattle.calculus.specs.Tables.{Entry, leaf_entry, kind_entry, entry_at, denoted, Closed, Lower}
use Rattle.calculus.specs.Scope.{In, here, there, All, all_nil, all_cons, Distinct, di_nil, di_cons}
use Rattle.calculus.proofs.TableLaws.{denoted_leaf, lower_all}
use Rattle.calculus.proofs.Lists.{map_append, get_map, all_append, all_map, all_in, all_unmap, in_append_left, in_append_right, in_append}
use Rattle.rendering.specs.Rendering.{Due, Follows, permitted}
use Rattle.rendering.specs.Judge.{Meaning, symbol, term, same_meant, meant_by, meant, term_meant}
use Rattle.rendering.specs.Translation.{register_of, is_built, parts, Made, build_each, build_entry, build_term, registers}
use Rattle.rendering.proofs.MeaningLaws.{map_build_lem, build_same, Proper, proper_term, meant_term, entry_built}
use Rattle.rendering.proofs.ActLaws.{parts_map, part_lower}

-- ── Registers ──

pub register_in_lem : {m : Meaning} {ms : List Meaning} → In m ms → get_elem? ms (register_of ms m) ≡ some m
unfolding register_of decide
register_in_lem {m = m} (here {l = l}) = go (same_meant m m)
  where
    go : (d : Dec (m ≡ m)) → get_elem? (m ∷ l) (cond (decide d) 0 (suc (register_of l m))) ≡ some m
    go (yes e) = refl
    go (no n) = absurd (n refl)
register_in_lem {m = m} (there {y = y} {l = l} i) = go (same_meant m y) (register_in_lem i)
  where
    go : (d : Dec (m ≡ y)) → get_elem? l (register_of l m) ≡ some m → get_elem? (y ∷ l) (cond (decide d) 0 (suc (register_of l m))) ≡ some m
    go (yes e) h = ap some (sym e)
    go (no n) h = h

pub register_below : {m : Meaning} {ms : List Meaning} → In m ms → register_of ms m < length ms
unfolding register_of decide
register_below {m = m} (here {l = l}) = go (same_meant m m)
  where
    go : (d : Dec (m ≡ m)) → cond (decide d) 0 (suc (register_of l m)) < suc (length l)
    go (yes e) = suc-le-suc zero-le
    go (no n) = absurd (n refl)
register_below {m = m} (there {y = y} {l = l} i) = go (same_meant m y) (register_below i)
  where
    go : (d : Dec (m ≡ y)) → register_of l m < length l → cond (decide d) 0 (suc (register_of l m)) < suc (length l)
    go (yes e) h = suc-le-suc zero-le
    go (no n) h = suc-le-suc h

built_in : (ms : List Meaning) (m : Meaning) → is_built ms m ≡ true → In m ms
unfolding is_built decide
built_in [] m h = absurd (false≢true h)
built_in (n ∷ ms) m h = go (same_meant m n) h (built_in ms m)
  where
    go : (d : Dec (m ≡ n)) → decide d || is_built ms m ≡ true → (is_built ms m ≡ true → In m ms) → In m (n ∷ ms)
    go (yes e) h f = rw e here
    go (no k) h f = there (f h)

in_built : {m : Meaning} {ms : List Meaning} → In m ms → is_built ms m ≡ true
unfolding is_built decide
in_built {m = m} (here {l = l}) = go (same_meant m m)
  where
    go : (d : Dec (m ≡ m)) → decide d || is_built l m ≡ true
    go (yes e) = refl
    go (no n) = absurd (n refl)
in_built {m = m} (there {y = y} {l = l} i) = go (same_meant m y) (in_built i)
  where
    go : (d : Dec (m ≡ y)) → is_built l m ≡ true → decide d || is_built l m ≡ true
    go (yes e) h = refl
    go (no n) h = h

-- ── The compound terms that registers mean ──

unfoldable pub terms_of : List Meaning → List ℕ
terms_of [] = []
terms_of (symbol x ∷ ms) = terms_of ms
terms_of (term i ∷ ms) = i ∷ terms_of ms

pub terms_append : (ms ns : List Meaning) → terms_of (ms ++ ns) ≡ terms_of ms ++ terms_of ns
unfolding terms_of
terms_append [] ns = refl
terms_append (symbol x ∷ ms) ns = terms_append ms ns
terms_append (term i ∷ ms) ns = ap (λ l. i ∷ l) (terms_append ms ns)

pub symbols_none : (xs : List ℕ) → terms_of (map symbol xs) ≡ []
unfolding terms_of
symbols_none [] = refl
symbols_none (x ∷ xs) = symbols_none xs

pub term_in : (ms : List Meaning) {i : ℕ} → In i (terms_of ms) → In (term i) ms
unfolding terms_of
term_in [] i = elim i [ ]
term_in (symbol x ∷ ms) i = there (term_in ms i)
term_in (term j ∷ ms) here = here
term_in (term j ∷ ms) (there i) = there (term_in ms i)

pub in_term : {m : Meaning} {ms : List Meaning} → In m ms → (i : ℕ) → m ≡ term i → In i (terms_of ms)
unfolding terms_of
in_term {m = m} (here {l = l}) i e = rw e here
in_term {m = m} (there {y = symbol x} {l = l} j) i e = in_term j i e
in_term {m = m} (there {y = term k} {l = l} j) i e = there (in_term j i e)

distinct_one : {l : List ℕ} {i : ℕ} → Distinct l → (In i l → ⊥) → Distinct (l ++ (i ∷ []))
distinct_one di_nil n = di_cons all_nil di_nil
distinct_one {i = i} (di_cons {x = x} {l = l} m d) n = di_cons (all_append m (all_cons (λ (e : x ≡ i). n (rw (← e) here)) all_nil)) (distinct_one d (λ j. n (there j)))

module _ (𝓢 : Signature) where
  -- every symbol of a term has a property
  pub data Only (K : ℕ → Type 0) : Term 𝓢 → Type 0 where
    only_symbol : {x : ℕ} → K x → Only K (leaf x)
    only_one : {k : 𝓢.One} {M : Term 𝓢} → Only K M → Only K (one k M)
    only_two : {k : Two 𝓢.Seal} {M N : Term 𝓢} → Only K M → Only K N → Only K (two k M N)

  only_parts : {K : ℕ → Type 0} (B : Build 𝓢 (Term 𝓢)) → Only K (built 𝓢 B) → All (Only K) (parts 𝓢 B)
  unfolding built parts
  only_parts (build1 k M) (only_one o) = all_cons o all_nil
  only_parts (build2 k M N) (only_two o p) = all_cons o (all_cons p all_nil)

  module _ (es : List (Entry 𝓢 ℕ)) (low : Closed 𝓢 0 es) where
    abbrev pub T : Meaning → Term 𝓢
    T = term_meant 𝓢 es

    abbrev pub D : ℕ → Term 𝓢
    D = denoted 𝓢 0 es

    abbrev pub TD : Type 0
    TD = List (ℕ × Due 𝓢 (Term 𝓢))

    abbrev pub G : List Meaning → TD → List (Statement 𝓢) → List (Term 𝓢) → TD → Type 0
    G ms = Follows 𝓢 es (map T ms)

    abbrev pub Named : ℕ → List (Statement 𝓢) → Type 0
    Named n ss = All (λ s. All (λ p. p < n) (registers 𝓢 s)) ss

    pub named_more : {m n : ℕ} → m ≤ n → {ss : List (Statement 𝓢)} → Named m ss → Named n ss
    named_more {m} {n} h a = all_map (λ s l. all_map (λ p (q : p < m). let r : p < n = omega arith in r) l) a

    -- ── what building terms below k leaves ──

    pub record Good (k : ℕ) (ms : List Meaning) (r : Made 𝓢) : Type 0 where
      pub new : List Meaning
      pub extends : r.1 ≡ ms ++ new
      pub bounded : All (λ i. i < k) (terms_of new)
      pub rest : (ws us : TD) (ss : List (Statement 𝓢)) (ns : List (Term 𝓢)) → G r.1 ws ss ns us → G ms ws (r.0 ++ ss) ns us
      pub count : length r.0 + length (terms_of ms) ≡ length (terms_of r.1)
      pub size : length r.0 + length ms ≡ length r.1
      pub once : Distinct (terms_of ms) → Distinct (terms_of r.1)
      pub proper : All (Proper 𝓢 es) ms → All (Proper 𝓢 es) r.1
      pub named : Named (length r.1) r.0

    good_nothing : (k : ℕ) (ms : List Meaning) → Good k ms ([], ms)
    unfolding terms_of
    good_nothing k ms = record {
      new = [];
      extends = sym (append-nil ms);
      bounded = all_nil;
      rest = λ ws us ss ns h. h;
      count = omega arith;
      size = omega arith;
      once = λ d. d;
      proper = λ a. a;
      named = all_nil;
    }

    pub good_keep : {k : ℕ} {ms : List Meaning} {r : Made 𝓢} → Good k ms r → {m : Meaning} → In m ms → In m r.1
    good_keep g i = rw g.extends (in_append_left g.new i)

    good_seq : {k : ℕ} {ms : List Meaning} (r q : Made 𝓢) → Good k ms r → Good k r.1 q → Good k ms (r.0 ++ q.0, q.1)
    good_seq {k} {ms} r q g h = record {
      new = g.new ++ h.new;
      extends = h.extends ∙ ap (λ (l : List Meaning). l ++ h.new) g.extends ∙ append_assoc ms g.new h.new;
      bounded = rw (terms_append g.new h.new) (all_append g.bounded h.bounded);
      rest = λ ws us ss ns f. rw (append_assoc r.0 q.0 ss) (g.rest ws us (q.0 ++ ss) ns (h.rest ws us ss ns f));
      count = let a = g.count in let b = h.count in rw (length-append r.0 q.0) (omega arith);
      size = let a = g.size in let b = h.size in rw (length-append r.0 q.0) (omega arith);
      once = λ d. h.once (g.once d);
      proper = λ a. h.proper (g.proper a);
      named = let b = h.size in all_append (named_more (omega arith) g.named) h.named;
    }

    -- ── a build ──

    abbrev pub regs : List Meaning → ℕ → ℕ
    regs ms j = register_of ms (meant 𝓢 es j)

    build_names : (ms : List Meaning) (b : Build 𝓢 ℕ) → All (λ j. In (meant 𝓢 es j) ms) (parts 𝓢 b) → map_build 𝓢 (get_elem? ms) (map_build 𝓢 (regs ms) b) ≡ map_build 𝓢 (λ j. some (meant 𝓢 es j)) b
    unfolding map_build parts
    build_names ms (build1 k a) (all_cons h z) = rw (register_in_lem h)
    build_names ms (build2 k a b) (all_cons h (all_cons i z)) = rw (register_in_lem h, register_in_lem i)

    build_below : (ms : List Meaning) (b : Build 𝓢 ℕ) → All (λ j. In (meant 𝓢 es j) ms) (parts 𝓢 b) → All (λ p. p < length ms) (parts 𝓢 (map_build 𝓢 (regs ms) b))
    unfolding map_build parts
    build_below ms (build1 k a) (all_cons h z) = all_cons (register_below h) all_nil
    build_below ms (build2 k a b) (all_cons h (all_cons i z)) = all_cons (register_below h) (all_cons (register_below i) all_nil)

    build_terms : (ms : List Meaning) (b : Build 𝓢 ℕ) → All (λ j. In (meant 𝓢 es j) ms) (parts 𝓢 b) → map_build 𝓢 (get_elem? (map T ms)) (map_build 𝓢 (regs ms) b) ≡ map_build 𝓢 some (map_build 𝓢 D b)
    build_terms ms b h =
        build_same 𝓢 (get_elem? (map T ms)) (λ p. Option.map T (get_elem? ms p)) (get_map T ms) (map_build 𝓢 (regs ms) b) ∙ sym (map_build_lem 𝓢 (get_elem? ms) (Option.map T) (map_build 𝓢 (regs ms) b))
        ∙ ap (map_build 𝓢 (Option.map T)) (build_names ms b h) ∙ map_build_lem 𝓢 (λ j. some (meant 𝓢 es j)) (Option.map T) b
        ∙ build_same 𝓢 (λ j. some (T (meant 𝓢 es j))) (λ j. some (D j)) (λ j. ap some (meant_term 𝓢 es low j)) b ∙ sym (map_build_lem 𝓢 D some b)

    good_build : {ms : List Meaning} (i : ℕ) (b : Build 𝓢 ℕ) (r : Made 𝓢) → i < length es → entry_at 𝓢 0 es i ≡ kind_entry b → Good i ms r → (In (term i) ms → ⊥)
        → All (λ j. In (meant 𝓢 es j) r.1) (parts 𝓢 b) → Good (suc i) ms (r.0 ++ (build (map_build 𝓢 (regs r.1) b) ∷ []), r.1 ++ (term i ∷ []))
    unfolding terms_of term_meant registers
    good_build {ms} i b r l e g n h = record {
      new = g.new ++ (term i ∷ []);
      extends = ap (λ (k : List Meaning). k ++ (term i ∷ [])) g.extends ∙ append_assoc ms g.new (term i ∷ []);
      bounded = rw (terms_append g.new (term i ∷ [])) (all_append (all_map (λ j (p : j < i). let q : j < suc i = omega arith in q) g.bounded) (all_cons here_below all_nil));
      rest = λ ws us ss ns f.
          let z : map T (r.1 ++ (term i ∷ [])) ≡ map T r.1 ++ (D i ∷ []) = map_append T r.1 (term i ∷ []) in
          rw (append_assoc r.0 (build (map_build 𝓢 (regs r.1) b) ∷ []) ss)
          (g.rest ws us (build (map_build 𝓢 (regs r.1) b) ∷ ss) ns
          (permitted (map_build 𝓢 D b) (build_terms r.1 b h) (record { place = i; inside = l; is_there = entry_built 𝓢 es low i b e }) (rw (z, entry_built 𝓢 es low i b e) at f)));
      count = let a = g.count in rw (length-append r.0 (build (map_build 𝓢 (regs r.1) b) ∷ []), terms_append r.1 (term i ∷ []), length-append (terms_of r.1) (i ∷ [])) (omega arith);
      size = let a = g.size in rw (length-append r.0 (build (map_build 𝓢 (regs r.1) b) ∷ []), length-append r.1 (term i ∷ [])) (omega arith);
      once = λ d. rw (terms_append r.1 (term i ∷ [])) (distinct_one (g.once d) not_yet);
      proper = λ a. all_append (g.proper a) (all_cons (proper_term l e) all_nil);
      named = let w = length-append r.1 (term i ∷ []) in all_append (named_more (omega arith) g.named) (all_cons (all_map (λ p (q : p < length r.1). let u : p < length (r.1 ++ (term i ∷ [])) = omega arith in u) (build_below r.1 b h)) all_nil);
    }
      where
        here_below : i < suc i
        here_below = omega arith

        not_yet : In i (terms_of r.1) → ⊥
        not_yet j = ⊎_elim (λ (k : In i (terms_of ms)). n (term_in ms k)) (λ (k : In i (terms_of g.new)). let q : i < i = all_in g.bounded i k in omega arith) (in_append (terms_of ms) (rw (g.extends, terms_append ms g.new) at j))

    -- ── building terms ──

    abbrev Built : ℕ → List Meaning → ℕ → Made 𝓢 → Type 0
    Built k ms i r = Good k ms r × In (meant 𝓢 es i) r.1

    -- each of several terms below k
    good_each : (k : ℕ) (f : ℕ → List Meaning → Made 𝓢) (K : ℕ → Type 0)
        → ((i : ℕ) (ns : List Meaning) → i < k → Only K (D i) → ((x : ℕ) → K x → In (symbol x) ns) → Built k ns i (f i ns))
        → (is : List ℕ) (ms : List Meaning) → All (λ i. i < k) is → All (λ i. Only K (D i)) is → ((x : ℕ) → K x → In (symbol x) ms)
        → Good k ms (build_each 𝓢 f is ms) × All (λ i. In (meant 𝓢 es i) (build_each 𝓢 f is ms).1) is
    unfolding build_each
    good_each k f K h [] ms a b c = (good_nothing k ms, all_nil)
    good_each k f K h (i ∷ is) ms (all_cons p a) (all_cons q b) c =
        let r = f i ms in
        let g = h i ms p q c in
        let l = good_each k f K h is r.1 a b (λ x y. good_keep g.0 (c x y)) in
        (good_seq r (build_each 𝓢 f is r.1) g.0 l.0, all_cons (good_keep l.0 g.1) l.1)

    weaker : {j k : ℕ} {ms : List Meaning} {r : Made 𝓢} → j ≤ k → Good j ms r → Good k ms r
    weaker {j} {k} h g = record {
      new = g.new;
      extends = g.extends;
      bounded = all_map (λ i (p : i < j). let q : i < k = omega arith in q) g.bounded;
      rest = g.rest;
      count = g.count;
      size = g.size;
      once = g.once;
      proper = g.proper;
      named = g.named;
    }

    -- the entry's turn
    good_entry : (K : ℕ → Type 0) (f : ℕ → List Meaning → Made 𝓢) (i : ℕ) → i < length es → (ns : List Meaning) → Only K (D i) → ((x : ℕ) → K x → In (symbol x) ns)
        → ((j : ℕ) (ks : List Meaning) → j < i → Only K (D j) → ((x : ℕ) → K x → In (symbol x) ks) → Built (suc j) ks j (f j ks))
        → (e : Entry 𝓢 ℕ) → entry_at 𝓢 0 es i ≡ e → is_built ns (meant_by 𝓢 i e) ≡ false → Lower 𝓢 i e → Good (suc i) ns (build_entry 𝓢 es f i e ns) × In (meant_by 𝓢 i e) (build_entry 𝓢 es f i e ns).1
    unfolding build_entry meant_by
    good_entry K f i l ns o c h (leaf_entry x) q n lo = (good_nothing (suc i) ns, c x (symbol_only (rw (denoted_leaf 𝓢 0 es low i q) at o)))
      where
        symbol_only : {x : ℕ} → Only K (leaf x) → K x
        symbol_only (only_symbol k) = k
    good_entry K f i l ns o c h (kind_entry b) q n lo =
        let os : All (Only K) (parts 𝓢 (map_build 𝓢 D b)) = only_parts (map_build 𝓢 D b) (rw (entry_built 𝓢 es low i b q) at o) in
        let g = good_each i f K (λ j ks p u d. let r = h j ks p u d in (weaker p r.0, r.1)) (parts 𝓢 b) ns (part_lower 𝓢 lo) (all_unmap D (parts 𝓢 b) (rw (parts_map 𝓢 D b) at os)) c in
        (good_build i b (build_each 𝓢 f (parts 𝓢 b) ns) l q g.0 (λ j. false≢true (sym n ∙ in_built j)) g.1, in_append_right (build_each 𝓢 f (parts 𝓢 b) ns).1 here)

    good_unless : (i : ℕ) (ns : List Meaning) (r : Made 𝓢) (t : Bool) → is_built ns (meant 𝓢 es i) ≡ t → (is_built ns (meant 𝓢 es i) ≡ false → Built (suc i) ns i r) → Built (suc i) ns i (cond t ([], ns) r)
    good_unless i ns r true q h = (good_nothing (suc i) ns, built_in ns (meant 𝓢 es i) q)
    good_unless i ns r false q h = h q

    good_term : (K : ℕ → Type 0) (n i : ℕ) → i < n → i < length es → (ns : List Meaning) → Only K (D i) → ((x : ℕ) → K x → In (symbol x) ns) → Built (suc i) ns i (build_term 𝓢 es n i ns)
    unfolding build_term
    good_term K zero i p l ns o c = absurd (omega arith)
    good_term K (suc n) i p l ns o c =
        good_unless i ns (build_entry 𝓢 es (λ j ks. build_term 𝓢 es n j ks) i (entry_at 𝓢 0 es i) ns) (is_built ns (meant 𝓢 es i)) refl
        (λ q. good_entry K (λ j ks. build_term 𝓢 es n j ks) i l ns o c (λ j ks u v d. good_term K n j (omega arith) (omega arith) ks v d) (entry_at 𝓢 0 es i) refl q (lower_all 𝓢 0 es low i))

    -- the terms of a step
    pub good_operands : (K : ℕ → Type 0) (is : List ℕ) (ms : List Meaning) → All (λ i. i < length es) is → All (λ i. Only K (D i)) is → ((x : ℕ) → K x → In (symbol x) ms)
        → Good (length es) ms (build_each 𝓢 (build_term 𝓢 es (length es)) is ms) × All (λ i. In (meant 𝓢 es i) (build_each 𝓢 (build_term 𝓢 es (length es)) is ms).1) is
    good_operands K is ms a b c = good_each (length es) (build_term 𝓢 es (length es)) K (λ i ns p o d. let r = good_term K (length es) i p p ns o d in (weaker p r.0, r.1)) is ms a b c
