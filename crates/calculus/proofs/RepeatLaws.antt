-- Proof of the statement of specs/Repeats.antt: the first entry equal to an earlier one is the first term equal to an earlier one.
-- Assumes nothing.
use mathlib.Core.Path.{◌≡◌, sym, ap, ◌∙◌}
use mathlib.Core.Logic.{◌⊎◌, inl, inr}
use mathlib.Core.List.{List}
use Prim.Native.Nat.{ℕ, zero, suc, ◌<◌, ◌≤◌}
use native.Mathlib.Nat.{eq-or-lt_of_le}
use native.Mathlib.Decide.{dec_le}
use native.Mathlib.Omega.{arith}
use lib.ListN.{length, take}
use lib.Seq.{length-take-le, get_or-take}
use Rattle.calculus.specs.Signature.{Signature}
use Rattle.calculus.specs.Terms.{Tree, map_build, built}
use Rattle.calculus.specs.Tables.{Entry, leaf_entry, entry_tree, entry_at, denoted, Lower, low_leaf, low_one, low_two, Closed, Unrepeated}
use Rattle.calculus.specs.Repeats.{FirstWith, EntryRepeated, TreeRepeated, FirstEntryFirstTree}
use Rattle.calculus.proofs.TableLaws.{tree_same, denoted_by_entries, equal_trees_equal_indexes}

-- below i, no number repeats an earlier one, so what f gives tells two numbers apart
apart : {A : Type 0} (f : ℕ → A) (i : ℕ) → ((k : ℕ) → k < i → ¬ ((j : ℕ) × (j < k) × (f k ≡ f j))) → (a b : ℕ) → a < i → b < i → f a ≡ f b → a ≡ b
apart f i none a b p q e = go (dec_le a b)
  where
    upward : (a ≡ b) ⊎ (a < b) → a ≡ b
    upward (inl h) = h
    upward (inr l) = absurd (none b q (a, l, sym e))

    go : Dec (a ≤ b) → a ≡ b
    go (yes l) = upward (eq-or-lt_of_le l)
    go (no l) = absurd (none a p (b, omega arith, e))

module _ (𝓢 : Signature) {L : Type 0} (z : L) (es : List (Entry 𝓢 L)) (low : Closed 𝓢 z es) where
  abbrev D : ℕ → Tree 𝓢 L
  D = denoted 𝓢 z es

  -- equal entries stand for equal terms
  same_tree_lem : (i j : ℕ) → entry_at 𝓢 z es i ≡ entry_at 𝓢 z es j → D i ≡ D j
  same_tree_lem i j e = denoted_by_entries 𝓢 z es low i ∙ ap (entry_tree 𝓢 D) e ∙ sym (denoted_by_entries 𝓢 z es low j)

  -- equal terms have equal entries, where terms below i have indexes of their own
  same_entry_lem : {i : ℕ} {d e : Entry 𝓢 L} → ((a b : ℕ) → a < i → b < i → D a ≡ D b → a ≡ b) → Lower 𝓢 i d → Lower 𝓢 i e → entry_tree 𝓢 D d ≡ entry_tree 𝓢 D e → d ≡ e
  unfolding entry_tree map_build built
  same_entry_lem f low_leaf low_leaf h = cc
  same_entry_lem f low_leaf (low_one p) h = absurd (let w : ◌≡◌ {A = ℕ} 0 1 = cc in omega arith)
  same_entry_lem f low_leaf (low_two p q) h = absurd (let w : ◌≡◌ {A = ℕ} 0 1 = cc in omega arith)
  same_entry_lem f (low_one p) low_leaf h = absurd (let w : ◌≡◌ {A = ℕ} 0 1 = cc in omega arith)
  same_entry_lem f (low_one {a = a} p) (low_one {a = b} q) h = let u : a ≡ b = f a b p q cc in cc
  same_entry_lem f (low_one p) (low_two q r) h = absurd (let w : ◌≡◌ {A = ℕ} 0 1 = cc in omega arith)
  same_entry_lem f (low_two p q) low_leaf h = absurd (let w : ◌≡◌ {A = ℕ} 0 1 = cc in omega arith)
  same_entry_lem f (low_two p q) (low_one r) h = absurd (let w : ◌≡◌ {A = ℕ} 0 1 = cc in omega arith)
  same_entry_lem f (low_two {a = a} {b = b} p q) (low_two {a = c} {b = d} r s) h =
      let u : a ≡ c = f a c p r cc in
      let v : b ≡ d = f b d q s cc in
      cc

  module _ (i : ℕ) (h : i < length es) where
    -- the entries before i
    abbrev before : List (Entry 𝓢 L)
    before = take i es

    before_length : length before ≡ i
    before_length = length-take-le i es (omega arith)

    before_at : (k : ℕ) → k < i → entry_at 𝓢 z before k ≡ entry_at 𝓢 z es k
    before_at k l = get_or-take i es k (leaf_entry z) l

    before_low : Closed 𝓢 z before
    before_low k l = let m : k < i = rw before_length at l in rw (before_at k m) (low k (omega arith))

    -- stand for the same terms
    before_tree : (m k : ℕ) → k < m → k < i → denoted 𝓢 z before k ≡ D k
    before_tree zero k u l = absurd (omega arith)
    before_tree (suc m) k u l =
        denoted_by_entries 𝓢 z before before_low k
        ∙ ap (entry_tree 𝓢 (denoted 𝓢 z before)) (before_at k l)
        ∙ tree_same 𝓢 z (denoted 𝓢 z before) D (low k (omega arith)) (λ j v. before_tree m j (omega arith) (omega arith))
        ∙ sym (denoted_by_entries 𝓢 z es low k)

    -- where none of them is repeated, no term of them is
    trees_apart : ((k : ℕ) → k < i → ¬ EntryRepeated 𝓢 z es k) → (a b : ℕ) → a < i → b < i → D a ≡ D b → a ≡ b
    trees_apart none a b p q e =
        equal_trees_equal_indexes 𝓢 z before before_low once a b (rw before_length p) (rw before_length q) (before_tree (suc a) a (omega arith) p ∙ e ∙ sym (before_tree (suc b) b (omega arith) q))
      where
        once : Unrepeated 𝓢 z before
        once a b p q e =
            let u : a < i = rw before_length at p in
            let v : b < i = rw before_length at q in
            apart (entry_at 𝓢 z es) i none a b u v (sym (before_at a u) ∙ e ∙ before_at b v)

    entry_to_tree : FirstWith (EntryRepeated 𝓢 z es) i → FirstWith (TreeRepeated 𝓢 z es) i
    entry_to_tree w =
        let (j, l, e) = w.has in
        record {
          has = (j, l, same_tree_lem i j e);
          none_lower = λ k u (j, v, q). (let r : k ≡ j = trees_apart w.none_lower k j u (omega arith) q in omega arith);
        }

    tree_to_entry : FirstWith (TreeRepeated 𝓢 z es) i → FirstWith (EntryRepeated 𝓢 z es) i
    tree_to_entry w =
        let (j, l, e) = w.has in
        record {
          has = (j, l, same_entry_lem {i = i} (apart D i w.none_lower) (low i h) (rise l (low j (omega arith))) (sym (denoted_by_entries 𝓢 z es low i) ∙ e ∙ denoted_by_entries 𝓢 z es low j));
          none_lower = λ k u (j, v, q). w.none_lower k u (j, v, same_tree_lem k j q);
        }
      where
        rise : {j : ℕ} {d : Entry 𝓢 L} → j < i → Lower 𝓢 j d → Lower 𝓢 i d
        rise l low_leaf = low_leaf
        rise l (low_one {a = a} p) = low_one {a = a} (omega arith)
        rise l (low_two {a = a} {b = b} p q) = low_two {a = a} {b = b} (omega arith) (omega arith)

module _ (𝓢 : Signature) {L : Type 0} (z : L) (es : List (Entry 𝓢 L)) where
  pub first_entry_first_tree : FirstEntryFirstTree 𝓢 z es
  first_entry_first_tree low i h = (λ w. entry_to_tree 𝓢 z es low i h w, λ w. tree_to_entry 𝓢 z es low i h w)
