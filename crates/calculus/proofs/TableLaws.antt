-- Proofs of the statements of specs/Tables.antt: what entries stand for; and what steps bind over other operands. Assumes nothing.
use mathlib.Core.Path.{◌≡◌, refl, sym, ap, ◌∙◌}
use mathlib.Core.List.{List, [], ◌∷◌, ◌++◌, map, append_assoc, append-nil}
use Prim.Native.Nat.{ℕ, zero, suc, ◌+◌, ◌<◌, ◌≤◌}
use native.Mathlib.Nat.{zero-add, add-zero}
use native.Mathlib.Decide.{dec_lt}
use native.Mathlib.Omega.{arith}
use lib.ListN.{length, length-append, get_or-append, get_or-eq_default}
use lib.Seq.{get_or-append-add}
use Rattle.calculus.specs.Signature.{Signature, Two}
use Rattle.calculus.specs.Terms.{Tree, leaf, one, two, build1, build2, map_build, built, Act, send, receive, fresh, compare, split, decrypt, map_act, binders, bound}
use Rattle.calculus.specs.Tables.{Entry, leaf_entry, kind_entry, entry_tree, entry_at, tree_at, trees_from, trees, denoted, Lower, low_leaf, low_one, low_two, Closed, Unrepeated, DenotedByEntries, EqualTreesEqualIndexes}

module _ (𝓢 : Signature) {L : Type 0} (z : L) where
  abbrev E : Type 0
  E = Entry 𝓢 L

  abbrev T : Type 0
  T = Tree 𝓢 L

  -- an entry stands for the same tree where the entries that it names do
  pub tree_same : {i : ℕ} {e : E} (f g : ℕ → T) → Lower 𝓢 i e → ((j : ℕ) → j < i → f j ≡ g j) → entry_tree 𝓢 f e ≡ entry_tree 𝓢 g e
  unfolding entry_tree map_build built
  tree_same f g low_leaf h = refl
  tree_same f g (low_one {k = k} {a = a} p) h = ap (one k) (h a p)
  tree_same f g (low_two {k = k} {a = a} {b = b} p q) h = rw (h a p, h b q)

  -- the trees made so far stand first
  pub trees_extend : (ts : List T) (es : List E) → (us : List T) × (trees_from 𝓢 z ts es ≡ ts ++ us) × (length us ≡ length es)
  unfolding trees_from
  trees_extend ts [] = ([], sym (append-nil ts), refl)
  trees_extend ts (e ∷ es) =
      let r = trees_extend (ts ++ (entry_tree 𝓢 (tree_at 𝓢 z ts) e ∷ [])) es in
      (entry_tree 𝓢 (tree_at 𝓢 z ts) e ∷ r.0, r.1 ∙ append_assoc ts (entry_tree 𝓢 (tree_at 𝓢 z ts) e ∷ []) r.0, ap suc r.2)

  pub trees_length : (es : List E) → length (trees 𝓢 z es) ≡ length es
  trees_length es = let r = trees_extend [] es in ap length r.1 ∙ r.2

  abbrev LowFrom : ℕ → List E → Type 0
  LowFrom b es = (i : ℕ) → i < length es → Lower 𝓢 (b + i) (entry_at 𝓢 z es i)

  low_tail : (b : ℕ) (e : E) (es : List E) → LowFrom b (e ∷ es) → LowFrom (suc b) es
  low_tail b e es h i l = let q : b + suc i ≡ suc b + i = omega arith in rw q at (h (suc i) (omega arith))

  tree_here : (ts : List T) (es : List E) → LowFrom (length ts) es → (i : ℕ) → i < length es
      → tree_at 𝓢 z (trees_from 𝓢 z ts es) (length ts + i) ≡ entry_tree 𝓢 (tree_at 𝓢 z (trees_from 𝓢 z ts es)) (entry_at 𝓢 z es i)
  unfolding trees_from
  tree_here ts [] h i l = absurd (omega arith)
  tree_here ts (e ∷ es) h zero l =
      let t : T = entry_tree 𝓢 (tree_at 𝓢 z ts) e in
      let r = trees_extend (ts ++ (entry_tree 𝓢 (tree_at 𝓢 z ts) e ∷ [])) es in
      let q : trees_from 𝓢 z (ts ++ (entry_tree 𝓢 (tree_at 𝓢 z ts) e ∷ [])) es ≡ ts ++ (entry_tree 𝓢 (tree_at 𝓢 z ts) e ∷ r.0) = r.1 ∙ append_assoc ts (entry_tree 𝓢 (tree_at 𝓢 z ts) e ∷ []) r.0 in
      let low : Lower 𝓢 (length ts) e = rw (add-zero (length ts)) at (h 0 (omega arith)) in
      rw q (get_or-append-add ts (entry_tree 𝓢 (tree_at 𝓢 z ts) e ∷ r.0) 0 (leaf z)
      ∙ tree_same (tree_at 𝓢 z ts) (tree_at 𝓢 z (ts ++ (entry_tree 𝓢 (tree_at 𝓢 z ts) e ∷ r.0))) low (λ j p. sym (get_or-append ts (entry_tree 𝓢 (tree_at 𝓢 z ts) e ∷ r.0) (leaf z) j p)))
  tree_here ts (e ∷ es) h (suc i) l =
      let us : List T = ts ++ (entry_tree 𝓢 (tree_at 𝓢 z ts) e ∷ []) in
      let q : length us ≡ suc (length ts) = rw (length-append ts (entry_tree 𝓢 (tree_at 𝓢 z ts) e ∷ [])) (omega arith) in
      let k : length ts + suc i ≡ length us + i = omega arith in
      let h' : LowFrom (length us) es = rw q (low_tail (length ts) e es h) in
      rw k (tree_here us es h' i (omega arith))

  module _ (es : List E) where
    pub denoted_by_entries : DenotedByEntries 𝓢 z es
    unfolding entry_tree
    denoted_by_entries low i = go (dec_lt i (length es))
      where
        go : Dec (i < length es) → denoted 𝓢 z es i ≡ entry_tree 𝓢 (denoted 𝓢 z es) (entry_at 𝓢 z es i)
        go (yes p) = rw (zero-add i) at (tree_here [] es (λ j l. rw (zero-add j) (low j l)) i p)
        go (no n) =
            let h : length es ≤ i = omega arith in
            let k : length (trees 𝓢 z es) ≤ i = rw (trees_length es) h in
            get_or-eq_default (trees 𝓢 z es) (leaf z) k ∙ sym (ap (entry_tree 𝓢 (denoted 𝓢 z es)) (get_or-eq_default es (leaf_entry z) h))

    -- parts are lower past the end too, where there are none
    pub lower_all : Closed 𝓢 z es → (i : ℕ) → Lower 𝓢 i (entry_at 𝓢 z es i)
    lower_all low i = go (dec_lt i (length es))
      where
        go : Dec (i < length es) → Lower 𝓢 i (entry_at 𝓢 z es i)
        go (yes p) = low i p
        go (no n) = let h : length es ≤ i = omega arith in rw (get_or-eq_default es (leaf_entry z) h) low_leaf

    -- the tree of each kind of entry
    pub denoted_leaf : Closed 𝓢 z es → (i : ℕ) {x : L} → entry_at 𝓢 z es i ≡ leaf_entry x → denoted 𝓢 z es i ≡ leaf x
    unfolding entry_tree
    denoted_leaf low i e = denoted_by_entries low i ∙ ap (entry_tree 𝓢 (denoted 𝓢 z es)) e

    pub denoted_one : Closed 𝓢 z es → (i : ℕ) {k : 𝓢.One} {a : ℕ} → entry_at 𝓢 z es i ≡ kind_entry (build1 k a) → denoted 𝓢 z es i ≡ one k (denoted 𝓢 z es a)
    unfolding entry_tree map_build built
    denoted_one low i e = denoted_by_entries low i ∙ ap (entry_tree 𝓢 (denoted 𝓢 z es)) e

    pub denoted_two : Closed 𝓢 z es → (i : ℕ) {k : Two 𝓢.Seal} {a b : ℕ} → entry_at 𝓢 z es i ≡ kind_entry (build2 k a b) → denoted 𝓢 z es i ≡ two k (denoted 𝓢 z es a) (denoted 𝓢 z es b)
    unfolding entry_tree map_build built
    denoted_two low i e = denoted_by_entries low i ∙ ap (entry_tree 𝓢 (denoted 𝓢 z es)) e

    module _ (low : Closed 𝓢 z es) (once : Unrepeated 𝓢 z es) where
      abbrev D : ℕ → T
      D = denoted 𝓢 z es

      -- the entry of a tree's kind
      entry_leaf : (e : E) (x : L) → entry_tree 𝓢 D e ≡ leaf x → e ≡ leaf_entry x
      unfolding entry_tree map_build built
      entry_leaf (leaf_entry y) x h = cc
      entry_leaf (kind_entry (build1 k a)) x h = absurd (let w : ◌≡◌ {A = ℕ} 0 1 = cc in omega arith)
      entry_leaf (kind_entry (build2 k a b)) x h = absurd (let w : ◌≡◌ {A = ℕ} 0 1 = cc in omega arith)

      entry_one : (e : E) (k : 𝓢.One) (M : T) → entry_tree 𝓢 D e ≡ one k M → (a : ℕ) × (e ≡ kind_entry (build1 k a)) × (D a ≡ M)
      unfolding entry_tree map_build built
      entry_one (leaf_entry y) k M h = absurd (let w : ◌≡◌ {A = ℕ} 0 1 = cc in omega arith)
      entry_one (kind_entry (build1 c a)) k M h = (a, cc, cc)
      entry_one (kind_entry (build2 c a b)) k M h = absurd (let w : ◌≡◌ {A = ℕ} 0 1 = cc in omega arith)

      entry_two : (e : E) (k : Two 𝓢.Seal) (M N : T) → entry_tree 𝓢 D e ≡ two k M N → (a : ℕ) × (b : ℕ) × (e ≡ kind_entry (build2 k a b)) × (D a ≡ M) × (D b ≡ N)
      unfolding entry_tree map_build built
      entry_two (leaf_entry y) k M N h = absurd (let w : ◌≡◌ {A = ℕ} 0 1 = cc in omega arith)
      entry_two (kind_entry (build1 c a)) k M N h = absurd (let w : ◌≡◌ {A = ℕ} 0 1 = cc in omega arith)
      entry_two (kind_entry (build2 c a b)) k M N h = (a, b, cc, cc, cc)

      lower_one : {k : 𝓢.One} {a i : ℕ} → Lower 𝓢 {L = L} i (kind_entry (build1 k a)) → a < i
      lower_one (low_one p) = p

      lower_two : {k : Two 𝓢.Seal} {a b i : ℕ} → Lower 𝓢 {L = L} i (kind_entry (build2 k a b)) → (a < i) × (b < i)
      lower_two (low_two p q) = (p, q)

      index_once : (M : T) (i j : ℕ) → i < length es → j < length es → D i ≡ M → D j ≡ M → i ≡ j
      index_once (leaf x) i j p q e f =
          once i j p q (entry_leaf (entry_at 𝓢 z es i) x (sym (denoted_by_entries low i) ∙ e) ∙ sym (entry_leaf (entry_at 𝓢 z es j) x (sym (denoted_by_entries low j) ∙ f)))
      index_once (one k M) i j p q e f =
          let (a, u, g) = entry_one (entry_at 𝓢 z es i) k M (sym (denoted_by_entries low i) ∙ e) in
          let (b, v, h) = entry_one (entry_at 𝓢 z es j) k M (sym (denoted_by_entries low j) ∙ f) in
          let la : a < i = lower_one (rw u at (low i p)) in
          let lb : b < j = lower_one (rw v at (low j q)) in
          let s : a ≡ b = index_once M a b (omega arith) (omega arith) g h in
          once i j p q (u ∙ ap (λ (c : ℕ). kind_entry (build1 k c)) s ∙ sym v)
      index_once (two k M N) i j p q e f =
          let (a, a', u, g, g') = entry_two (entry_at 𝓢 z es i) k M N (sym (denoted_by_entries low i) ∙ e) in
          let (b, b', v, h, h') = entry_two (entry_at 𝓢 z es j) k M N (sym (denoted_by_entries low j) ∙ f) in
          let la = lower_two (rw u at (low i p)) in
          let lb = lower_two (rw v at (low j q)) in
          let s : a ≡ b = index_once M a b (omega arith) (omega arith) g h in
          let s' : a' ≡ b' = index_once N a' b' (omega arith) (omega arith) g' h' in
          let w : ◌≡◌ {A = E} (kind_entry (build2 k a a')) (kind_entry (build2 k b b')) = cc in
          once i j p q (u ∙ w ∙ sym v)

    pub equal_trees_equal_indexes : EqualTreesEqualIndexes 𝓢 z es
    equal_trees_equal_indexes low once i j p q e = index_once low once (denoted 𝓢 z es j) i j p q e refl

-- ── Steps over other operands ──

module _ (𝓢 : Signature) where
  -- a step binds the same symbols
  pub binders_map : {X Y : Type 0} (f : X → Y) (a : Act 𝓢 X) → binders 𝓢 (map_act 𝓢 f a) ≡ binders 𝓢 a
  unfolding binders map_act
  binders_map f (send a b) = refl
  binders_map f (receive a x) = refl
  binders_map f (fresh x) = refl
  binders_map f (compare a b) = refl
  binders_map f (split a x y) = refl
  binders_map f (decrypt s a b x) = refl

  -- so do steps
  pub bound_map : {A B : Type 0} (f : A → B) (P : List (Act 𝓢 A)) → bound 𝓢 (map (map_act 𝓢 f) P) ≡ bound 𝓢 P
  unfolding bound
  bound_map f [] = refl
  bound_map f (s ∷ P) = rw (bound_map f P, binders_map f s)
