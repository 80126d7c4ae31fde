-- Terms and steps placed among the entries: the entries stay in form, the index stands for the term, and what is new is a part of something or the term itself.
-- Assumes nothing.
use mathlib.Core.Path.{◌≡◌, ◌∙◌}
use mathlib.Core.Logic.{◌⊎◌, inl, inr}
use mathlib.Core.List.{List}
use Prim.Native.Nat.{ℕ, ◌≤◌, ◌<◌}
use native.Mathlib.Decide.{dec_lt}
use native.Mathlib.Omega.{arith}
use lib.ListN.{length}
use Rattle.calculus.specs.Signature.{Two, pairing, seal}
use Rattle.calculus.specs.Terms.{Tree, leaf, two, build2}
use Rattle.calculus.specs.Tables.{leaf_entry, kind_entry, low_leaf, low_two}
use Rattle.calculus.specs.Version1.{Seal1, encryption, signature1}
use Rattle.calculus.proofs.TableLaws.{denoted_leaf, denoted_two}
use Rattle.text.specs.Source.{Name, Term, named, paired, sealed, Further, no_more, also}
use Rattle.text.specs.Numbering.{TermEntry, Placed, number_of, completed, joined, place_term, place_further}
use Rattle.text.specs.Meaning.{term_tree, plain_tree}
use Rattle.text.specs.Right.{HasPart, left_part, right_part}
use Rattle.text.proofs.EntryLaws.{entry, tree, Grown, grown_twice, grown_length, entry_stays, tree_stays, below_leaf, below_kind, Fine, Completed, completed_well}

-- ── Parts ──

-- some entry has i as a part
pub record PartOf (es : List TermEntry) (i : ℕ) : Type 0 where
  pub whole : ℕ
  pub there : whole < length es
  pub has : HasPart i (entry es whole)

pub part_stays : {es fs : List TermEntry} (i : ℕ) → Grown es fs → PartOf es i → PartOf fs i
part_stays i g p =
    let h = grown_length g in
    let t = p.there in
    record { whole = p.whole; there = omega arith; has = rw (entry_stays g p.whole t) p.has }

-- ── A term that is placed ──

-- the tree t was placed behind es
pub record Well (n : ℕ) (es : List TermEntry) (t : Tree signature1 ℕ) (p : Placed) : Type 0 where
  pub fine : Fine n p.entries
  pub grown : Grown es p.entries
  pub there : p.index < length p.entries
  pub stands : tree p.entries p.index ≡ t
  pub new : (i : ℕ) → length es ≤ i → i < length p.entries → (i ≡ p.index) ⊎ PartOf p.entries i

module _ {n : ℕ} where
  symbol_well : (x : ℕ) (es : List TermEntry) → x < n → Fine n es → Well n es (leaf x) (completed (leaf_entry x) es)
  symbol_well x es h f =
      let c = completed_well n (leaf_entry x) es f low_leaf (below_leaf h) in
      record {
        fine = c.fine;
        grown = c.grown;
        there = c.there;
        stands = denoted_leaf signature1 0 _ c.fine.closed _ c.entry_is;
        new = λ i a b. inl (c.only i a b);
      }

  -- two terms, one after the other, and then what is made of them
  pub joined_well : (k : Two Seal1) {es : List TermEntry} {t u : Tree signature1 ℕ} {p q : Placed} → Well n es t p → Well n p.entries u q
      → Well n es (two k t u) (joined (λ a b. kind_entry (build2 k a b)) p.index q)
  unfolding joined
  joined_well k {es} {t} {u} {p} {q} v w =
      let g = grown_length w.grown in
      let h = v.there in
      let l : p.index < length q.entries = omega arith in
      let c = completed_well n (kind_entry (build2 k p.index q.index)) q.entries w.fine (low_two l w.there) below_kind in
      record {
        fine = c.fine;
        grown = grown_twice v.grown (grown_twice w.grown c.grown);
        there = c.there;
        stands =
            denoted_two signature1 0 _ c.fine.closed _ c.entry_is
            ∙ pair_of (tree_stays c.grown p.index l ∙ tree_stays w.grown p.index v.there ∙ v.stands) (tree_stays c.grown q.index w.there ∙ w.stands);
        new = λ i a b. newer c i a b (dec_lt i (length p.entries)) (dec_lt i (length q.entries));
      }
    where
      pair_of : {a b : Tree signature1 ℕ} → a ≡ t → b ≡ u → ◌≡◌ {A = Tree signature1 ℕ} (two k a b) (two k t u)
      pair_of e f = rw (e, f)

      r : Placed
      r = completed (kind_entry (build2 k p.index q.index)) q.entries

      -- the two indexes are parts of what is made
      made : Completed n (kind_entry (build2 k p.index q.index)) q.entries r → (i : ℕ) → (i ≡ p.index) ⊎ (i ≡ q.index) → PartOf r.entries i
      made c i (inl e) = record { whole = r.index; there = c.there; has = rw (c.entry_is, e) left_part }
      made c i (inr e) = record { whole = r.index; there = c.there; has = rw (c.entry_is, e) right_part }

      newer : Completed n (kind_entry (build2 k p.index q.index)) q.entries r → (i : ℕ) → length es ≤ i → i < length r.entries → Dec (i < length p.entries) → Dec (i < length q.entries)
          → (i ≡ r.index) ⊎ PartOf r.entries i
      newer c i a b (yes d) e = first (v.new i a d)
        where
          first : (i ≡ p.index) ⊎ PartOf p.entries i → (i ≡ r.index) ⊎ PartOf r.entries i
          first (inl z) = inr (made c i (inl z))
          first (inr z) = inr (part_stays i (grown_twice w.grown c.grown) z)
      newer c i a b (no d) (yes e) = second (w.new i (omega arith) e)
        where
          second : (i ≡ q.index) ⊎ PartOf q.entries i → (i ≡ r.index) ⊎ PartOf r.entries i
          second (inl z) = inr (made c i (inr z))
          second (inr z) = inr (part_stays i c.grown z)
      newer c i a b (no d) (no e) = inl (c.only i (omega arith) b)

-- ── Terms ──

mutual
  -- every name of a term has a property
  pub data TermNames (P : Name → Type 0) : Term → Type 0 where
    in_name : {x : Name} → P x → TermNames P (named x)
    in_pair : {M N : Term} → TermNames P M → TermNames P N → TermNames P (paired M N)
    in_sealed : {M K : Term} {Ms : Further} → TermNames P M → FurtherNames P Ms → TermNames P K → TermNames P (sealed M Ms K)

  pub data FurtherNames (P : Name → Type 0) : Further → Type 0 where
    in_none : FurtherNames P no_more
    in_also : {M : Term} {Ms : Further} → TermNames P M → FurtherNames P Ms → FurtherNames P (also M Ms)

module _ (n : ℕ) (xs : List Name) where
  -- the name has a number below n
  abbrev pub Numbered : Name → Type 0
  Numbered x = number_of x xs < n

  mutual
    unfolding place_term term_tree

    pub term_well : {M : Term} → TermNames Numbered M → (es : List TermEntry) → Fine n es → Well n es (term_tree xs M) (place_term xs M es)
    term_well (in_name {x = x} h) es f = symbol_well (number_of x xs) es h f
    term_well (in_pair {M = M} {N = N} a b) es f =
        let v = term_well a es f in
        joined_well pairing v (term_well b (place_term xs M es).entries v.fine)
    term_well (in_sealed {M = M} {K = K} {Ms = Ms} a b c) es f =
        let v = further_well b es (term_tree xs M) (place_term xs M es) (term_well a es f) in
        joined_well (seal encryption) v (term_well c (place_further xs Ms (place_term xs M es)).entries v.fine)

    pub further_well : {Ms : Further} → FurtherNames Numbered Ms → (es : List TermEntry) (t : Tree signature1 ℕ) (p : Placed) → Well n es t p
        → Well n es (plain_tree xs Ms t) (place_further xs Ms p)
    further_well in_none es t p v = v
    further_well (in_also {M = M} {Ms = Ms} a b) es t p v =
        joined_well pairing v (further_well b p.entries (term_tree xs M) (place_term xs M p.entries) (term_well a p.entries v.fine))
