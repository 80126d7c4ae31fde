-- A made value's index stands for it, and the value table stays sound: parts lower, no value twice. Assumes nothing.
use mathlib.Core.Path.{◌≡◌, refl, sym, ap, ◌∙◌}
use mathlib.Core.Logic.{◌⊎◌, inl, inr, ⊎_elim}
use mathlib.Core.Bool.{cond, decide}
use mathlib.Core.Option.{Option, none, some}
use mathlib.Core.List.{List, [], ◌∷◌, ◌++◌, append-nil, append_assoc}
use Prim.Native.Nat.{ℕ, zero, suc, ◌+◌, ◌<◌, ◌≤◌, suc-le-suc}
use native.Mathlib.Nat.{le_of_suc-le-suc, not-suc-le-zero, add-zero}
use native.Mathlib.Decide.{dec_lt}
use native.Mathlib.Omega.{arith}
use lib.ListN.{length, length-append, get_or-append}
use lib.Seq.{get_or-append-add}
use Rattle.calculus.specs.Signature.{Signature}
use Rattle.calculus.specs.Terms.{Atom, atom, leaf, Value, Build, built, map_build}
use Rattle.calculus.specs.Tables.{Entry, leaf_entry, kind_entry, entry_tree, entry_at, tree_at, trees_from, Closed, Unrepeated, Lower}
use Rattle.calculus.proofs.TableLaws.{tree_same, trees_length, denoted_by_entries}
use Rattle.running.specs.Lists.{same_value_entry, place_from, placed, made}
use Rattle.running.specs.Demand3.{value_of}

module _ (𝓢 : Signature) where
  abbrev E : Type 0
  E = Entry 𝓢 Atom

  abbrev z : Atom
  z = atom 0 0

  -- a value table that is sound
  pub record Sound (es : List E) : Type 0 where
    pub low : Closed 𝓢 z es
    pub once : Unrepeated 𝓢 z es

  -- a table that grows: what indexes stood for they stand for
  pub record Grows (es fs : List E) : Type 0 where
    pub more : List E
    pub extends : fs ≡ es ++ more
    pub keep : (i : ℕ) → i < length es → value_of 𝓢 fs i ≡ value_of 𝓢 es i

  pub grows_longer : {es fs : List E} → Grows es fs → length es ≤ length fs
  grows_longer {es} {fs} g = let h = ap length g.extends ∙ length-append es g.more in omega arith

  pub grows_refl : (es : List E) → Grows es es
  grows_refl es = record { more = []; extends = sym (append-nil es); keep = λ i h. refl }

  pub grows_trans : {a b c : List E} → Grows a b → Grows b c → Grows a c
  grows_trans {a} {b} {c} g h = record {
    more = g.more ++ h.more;
    extends = h.extends ∙ ap (λ (l : List E). l ++ h.more) g.extends ∙ append_assoc a g.more h.more;
    keep = λ i p. h.keep i (let l = grows_longer g in omega arith) ∙ g.keep i p;
  }

  trees_snoc : (ts : List (Value 𝓢)) (es : List E) (e : E) → trees_from 𝓢 z ts (es ++ (e ∷ [])) ≡ trees_from 𝓢 z ts es ++ (entry_tree 𝓢 (tree_at 𝓢 z (trees_from 𝓢 z ts es)) e ∷ [])
  unfolding trees_from
  trees_snoc ts [] e = refl
  trees_snoc ts (f ∷ es) e = trees_snoc (ts ++ (entry_tree 𝓢 (tree_at 𝓢 z ts) f ∷ [])) es e

  placed_at : (b : ℕ) (e : E) (es : List E) (i : ℕ) → place_from 𝓢 b e es ≡ some i → (j : ℕ) × (i ≡ b + j) × (j < length es) × (entry_at 𝓢 z es j ≡ e)
  unfolding place_from decide
  placed_at b e [] i h = absurd (let w : ◌≡◌ {A = ℕ} 0 1 = cc in omega arith)
  placed_at b e (f ∷ es) i h = go (same_value_entry 𝓢 e f) h (placed_at (suc b) e es i)
    where
      go : (d : Dec (e ≡ f)) → cond (decide d) (some b) (place_from 𝓢 (suc b) e es) ≡ some i → (place_from 𝓢 (suc b) e es ≡ some i → (j : ℕ) × (i ≡ suc b + j) × (j < length es) × (entry_at 𝓢 z es j ≡ e))
          → (j : ℕ) × (i ≡ b + j) × (j < length (f ∷ es)) × (entry_at 𝓢 z (f ∷ es) j ≡ e)
      go (yes q) h k = let w : b ≡ i = cc in (0, omega arith, omega arith, sym q)
      go (no n) h k = let r = k h in (suc r.0, omega arith, suc-le-suc r.2, r.3)

  not_placed : (b : ℕ) (e : E) (es : List E) → place_from 𝓢 b e es ≡ none → (j : ℕ) → j < length es → entry_at 𝓢 z es j ≡ e → ⊥
  unfolding place_from decide
  not_placed b e [] h j l q = not-suc-le-zero l
  not_placed b e (f ∷ es) h j l q = go (same_value_entry 𝓢 e f) h (not_placed (suc b) e es) j l q
    where
      go : (d : Dec (e ≡ f)) → cond (decide d) (some b) (place_from 𝓢 (suc b) e es) ≡ none → (place_from 𝓢 (suc b) e es ≡ none → (j : ℕ) → j < length es → entry_at 𝓢 z es j ≡ e → ⊥)
          → (j : ℕ) → j < length (f ∷ es) → entry_at 𝓢 z (f ∷ es) j ≡ e → ⊥
      go (yes p) h k j l q = let w : ◌≡◌ {A = ℕ} 0 1 = cc in omega arith
      go (no n) h k zero l q = n (sym q)
      go (no n) h k (suc j) l q = k h j (le_of_suc-le-suc l) q

  module _ (es : List E) (sd : Sound es) (e : E) (lo : Lower 𝓢 (length es) e) (new : (j : ℕ) → j < length es → entry_at 𝓢 z es j ≡ e → ⊥) where
    last : entry_at 𝓢 z (es ++ (e ∷ [])) (length es) ≡ e
    last = rw (add-zero (length es)) at (get_or-append-add es (e ∷ []) 0 (leaf_entry z))

    old : (i : ℕ) → i < length es → entry_at 𝓢 z (es ++ (e ∷ [])) i ≡ entry_at 𝓢 z es i
    old i h = get_or-append es (e ∷ []) (leaf_entry z) i h

    size : length (es ++ (e ∷ [])) ≡ suc (length es)
    size = length-append es (e ∷ []) ∙ omega arith

    place_of : (i : ℕ) → i < length (es ++ (e ∷ [])) → (i < length es) ⊎ (i ≡ length es)
    place_of i h = go (dec_lt i (length es))
      where
        go : Dec (i < length es) → (i < length es) ⊎ (i ≡ length es)
        go (yes p) = inl p
        go (no p) = let q = size in inr (omega arith)

    grown : Sound (es ++ (e ∷ []))
    grown = record {
      low = λ i h. ⊎_elim (λ p. rw (old i p) (sd.low i p)) (λ (q : i ≡ length es). rw (q, last) lo) (place_of i h);
      once = λ i j p q r. ⊎_elim
          (λ a. ⊎_elim (λ b. sd.once i j a b (sym (old i a) ∙ r ∙ old j b)) (λ (b : j ≡ length es). absurd (new i a (sym (old i a) ∙ r ∙ (rw b last)))) (place_of j q))
          (λ (a : i ≡ length es). ⊎_elim (λ b. absurd (new j b (sym (old j b) ∙ sym r ∙ (rw a last)))) (λ b. a ∙ sym b) (place_of j q))
          (place_of i p);
    }

    grown_grows : Grows es (es ++ (e ∷ []))
    grown_grows = record {
      more = e ∷ [];
      extends = refl;
      keep = λ i h. rw (trees_snoc [] es e) (get_or-append (trees_from 𝓢 z [] es) _ (leaf z) i (let q = trees_length 𝓢 z es in omega arith));
    }

    grown_stands : value_of 𝓢 (es ++ (e ∷ [])) (length es) ≡ entry_tree 𝓢 (value_of 𝓢 es) e
    grown_stands =
        denoted_by_entries 𝓢 z (es ++ (e ∷ [])) grown.low (length es) ∙ ap (entry_tree 𝓢 (value_of 𝓢 (es ++ (e ∷ [])))) last
        ∙ tree_same 𝓢 z (value_of 𝓢 (es ++ (e ∷ []))) (value_of 𝓢 es) lo grown_grows.keep

  -- what a made value's index stands for
  pub record IsMade (es : List E) (b : Build 𝓢 ℕ) (m : ℕ × List E) : Type 0 where
    pub sound : Sound m.1
    pub inside : m.0 < length m.1
    pub stands : value_of 𝓢 m.1 m.0 ≡ built 𝓢 (map_build 𝓢 (value_of 𝓢 es) b)
    pub grows : Grows es m.1
    pub longer : length m.1 ≤ suc (length es)

  made_go : (es : List E) → Sound es → (b : Build 𝓢 ℕ) → Lower 𝓢 {L = Atom} (length es) (kind_entry b) → (o : Option ℕ) → place_from 𝓢 0 (kind_entry b) es ≡ o → IsMade es b (placed 𝓢 es (kind_entry b) o)
  unfolding placed entry_tree
  made_go es sd b lo (some i) h =
      let r = placed_at 0 (kind_entry b) es i h in
      let q : i ≡ r.0 = omega arith in
      let k : entry_at 𝓢 z es i ≡ kind_entry b = ap (λ (j : ℕ). entry_at 𝓢 z es j) q ∙ r.3 in
      record {
        sound = sd;
        inside = omega arith;
        stands = denoted_by_entries 𝓢 z es sd.low i ∙ ap (entry_tree 𝓢 (value_of 𝓢 es)) k;
        grows = grows_refl es;
        longer = omega arith;
      }
  made_go es sd b lo none h =
      let new = not_placed 0 (kind_entry b) es h in
      let q = size es sd (kind_entry b) lo new in
      record {
        sound = grown es sd (kind_entry b) lo new;
        inside = omega arith;
        stands = grown_stands es sd (kind_entry b) lo new;
        grows = grown_grows es sd (kind_entry b) lo new;
        longer = omega arith;
      }

  pub is_made : (es : List E) → Sound es → (b : Build 𝓢 ℕ) → Lower 𝓢 {L = Atom} (length es) (kind_entry b) → IsMade es b (made 𝓢 es b)
  unfolding made
  is_made es sd b lo = made_go es sd b lo (place_from 𝓢 0 (kind_entry b) es) refl
