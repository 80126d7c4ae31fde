-- Building a term by its parts: the bound on its depth does not matter, and each statement gives a register. Assumes nothing.
use mathlib.Core.Path.{◌≡◌, refl, ◌∙◌}
use mathlib.Core.Bool.{Bool, true, false, cond, not}
use mathlib.Core.List.{List, [], ◌∷◌, append-nil}
use Prim.Native.Nat.{ℕ, zero, suc, ◌+◌, ◌<◌}
use native.Mathlib.Omega.{arith}
use lib.Dec.{eqb}
use lib.ListN.{length, get_or, length-append}
use borrow.Author.Tests.{eqb-true, eqb-false, not-true, not-false}
use Rattle.base.specs.Pick.{either}
use Rattle.answers.specs.Ladder.{least}
use Rattle.entries.specs.Fields.{code}
use Rattle.table_layout.specs.Layout.{terms, terms_at, term_field}
use Rattle.table.specs.Faults.{table_rungs}
use Rattle.calculus.specs.Terms.{build1, build2, map_build}
use Rattle.calculus.specs.Tables.{Entry, leaf_entry, kind_entry, entry_at, Closed, Lower, low_two}
use Rattle.calculus.specs.Version1.{signature1}
use Rattle.rendering.specs.Judge.{Meaning, symbol, term, meant_by, meant}
use Rattle.rendering.specs.Translation.{is_built, parts, build_each, build_entry, build_term}
use Rattle.decoded.proofs.Passed.{table_passed}
use Rattle.decoded.proofs.Holding.{table_closed, entries_length}
use Rattle.decoded.specs.Indexes.{entries_of, meaning_of}
use Rattle.registers.specs.Held.{register_at, HeldTerms, settled}
use Rattle.registers.proofs.HeldLaws.{held_built, held_unbuilt}
use Rattle.translate.specs.Stepwise.{Making, built, making, after}
use Rattle.decoded.proofs.Tabled.{counts_small, a_leaf, a_compound, IsCompound}
use Rattle.std.proofs.Common.{Ok}

-- ── The bound on the depth ──

two_same : (f g : ℕ → List Meaning → Making) (a b : ℕ) (ms : List Meaning) → ((ns : List Meaning) → f a ns ≡ g a ns) → ((ns : List Meaning) → f b ns ≡ g b ns)
    → build_each signature1 f (a ∷ b ∷ []) ms ≡ build_each signature1 g (a ∷ b ∷ []) ms
unfolding build_each
two_same f g a b ms p q = rw (p ms, q (g a ms).1)

pub two_after : (f : ℕ → List Meaning → Making) (a b : ℕ) (ms : List Meaning) → build_each signature1 f (a ∷ b ∷ []) ms ≡ after (f a) (f b) ms
unfolding build_each
two_after f a b ms = rw (append-nil (f b (f a ms).1).0)

module _ (es : List (Entry signature1 ℕ)) where
  entry_same : (f g : ℕ → List Meaning → Making) (i : ℕ) (e : Entry signature1 ℕ) (ms : List Meaning) → Lower signature1 i e → ((j : ℕ) → j < i → (ns : List Meaning) → f j ns ≡ g j ns)
      → build_entry signature1 es f i e ms ≡ build_entry signature1 es g i e ms
  unfolding build_entry parts
  entry_same f g i (leaf_entry x) ms l h = refl
  entry_same f g i (kind_entry (build1 k a)) ms l h = elim k [ ]
  entry_same f g i (kind_entry (build2 k a b)) ms (low_two p q) h = rw (two_same f g a b ms (h a p) (h b q))

  pub depth_same : Closed signature1 0 es → (n m i : ℕ) → i < n → i < m → i < length es → (ms : List Meaning) → build_term signature1 es n i ms ≡ build_term signature1 es m i ms
  unfolding build_term
  depth_same low zero m i p q l ms = absurd (omega arith)
  depth_same low (suc n) zero i p q l ms = absurd (omega arith)
  depth_same low (suc n) (suc m) i p q l ms =
      rw (entry_same (λ j ns. build_term signature1 es n j ns) (λ j ns. build_term signature1 es m j ns) i (entry_at signature1 0 es i) ms (low i l) (λ j h ns. depth_same low n m j (omega arith) (omega arith) (omega arith) ns))

  -- ── Each statement gives a register ──

  abbrev pub Grows : List Meaning → Making → Type 0
  Grows ms r = length r.1 ≡ length ms + length r.0

  two_grow : (f : ℕ → List Meaning → Making) (a b : ℕ) (ms : List Meaning) → ((j : ℕ) (ns : List Meaning) → Grows ns (f j ns)) → Grows ms (build_each signature1 f (a ∷ b ∷ []) ms)
  unfolding build_each
  two_grow f a b ms h = rw (append-nil (f b (f a ms).1).0, length-append) (omega (arith, h a ms, h b (f a ms).1))

  entry_grows : (f : ℕ → List Meaning → Making) (i : ℕ) (e : Entry signature1 ℕ) (ms : List Meaning) → ((j : ℕ) (ns : List Meaning) → Grows ns (f j ns)) → Grows ms (build_entry signature1 es f i e ms)
  unfolding build_entry parts
  entry_grows f i (leaf_entry x) ms h = omega arith
  entry_grows f i (kind_entry (build1 k a)) ms h = elim k [ ]
  entry_grows f i (kind_entry (build2 k a b)) ms h = let r : Making = build_each signature1 f (a ∷ b ∷ []) ms in rw (length-append r.0, length-append r.1) (omega (arith, two_grow f a b ms h))

  pub term_grows : (n i : ℕ) (ms : List Meaning) → Grows ms (build_term signature1 es n i ms)
  unfolding build_term
  term_grows zero i ms = omega arith
  term_grows (suc n) i ms = go (is_built ms (meant signature1 es i)) (entry_grows (λ j ns. build_term signature1 es n j ns) i (entry_at signature1 0 es i) ms (λ j ns. term_grows n j ns))
    where
      go : (b : Bool) → Grows ms (build_entry signature1 es (λ j ns. build_term signature1 es n j ns) i (entry_at signature1 0 es i) ms)
          → Grows ms (cond b ([], ms) (build_entry signature1 es (λ j ns. build_term signature1 es n j ns) i (entry_at signature1 0 es i) ms))
      go true h = omega arith
      go false h = h

-- ── A term of a file ──

pub built_grows : (s : List ℕ) (i : ℕ) (ms : List Meaning) → length (built s i ms).1 ≡ length ms + length (built s i ms).0
unfolding built
built_grows s i ms = term_grows (entries_of s) (suc i) i ms

module _ (s : List ℕ) (e : least (table_rungs s) ≡ Ok tt) where
  -- any bound that is high enough
  pub built_any : (n i : ℕ) → i < n → i < terms s → (ms : List Meaning) → build_term signature1 (entries_of s) n i ms ≡ built s i ms
  unfolding built entries_of
  built_any n i h l ms =
      let c = (table_passed s e).entered in
      depth_same (entries_of s) (table_closed s c) n (suc i) i h (omega arith) (rw (entries_length s) l) ms

  -- a term that is settled
  pub built_settled : (i : ℕ) → i < terms s → (ms : List Meaning) (array : List ℕ) → HeldTerms ms array → settled s i array ≡ true → built s i ms ≡ ([], ms)
  unfolding built build_term build_entry settled meant_by
  built_settled i l ms array h = go (eqb (code s 0 (terms_at s) i) 0) refl
    where
      either_way : (b : Bool) → ◌≡◌ {A = Making} (cond b ([], ms) ([], ms)) ([], ms)
      either_way true = refl
      either_way false = refl

      go : (b : Bool) → eqb (code s 0 (terms_at s) i) 0 ≡ b → either b (not (eqb (get_or array i 0) 0)) ≡ true → build_term signature1 (entries_of s) (suc i) i ms ≡ ([], ms)
      go true q z = rw (a_leaf s e i l (eqb-true _ _ q)).0 (either_way (is_built ms (symbol (term_field s i 0))))
      go false q z =
          let c = a_compound s e i l (eqb-false _ _ q) in
          let k = counts_small s e in
          let b : is_built ms (term i) ≡ true = held_built ms (term i) (rw (h.at i (omega arith)) at (not-true (eqb (get_or array i 0) 0) z)) in
          rw (c.entry, b)

  -- a term that is not
  pub record Unsettled (i : ℕ) (ms : List Meaning) : Type 0 where
    pub compound : IsCompound s i
    pub unbuilt : is_built ms (term i) ≡ false

  pub not_settled : (i : ℕ) → i < terms s → (ms : List Meaning) (array : List ℕ) → HeldTerms ms array → settled s i array ≡ false → Unsettled i ms
  unfolding settled
  not_settled i l ms array h = go (eqb (code s 0 (terms_at s) i) 0) refl
    where
      go : (b : Bool) → eqb (code s 0 (terms_at s) i) 0 ≡ b → either b (not (eqb (get_or array i 0) 0)) ≡ false → Unsettled i ms
      go true q z = let y : ◌≡◌ {A = ℕ} 0 1 = cc in absurd (omega arith)
      go false q z =
          let k = counts_small s e in
          record { compound = a_compound s e i l (eqb-false _ _ q); unbuilt = held_unbuilt ms (term i) (rw (h.at i (omega arith)) at (not-false (eqb (get_or array i 0) 0) z)) }

  -- two terms, one after the other
  pub two_built : (n a b : ℕ) → a < n → b < n → a < terms s → b < terms s → (ms : List Meaning)
      → build_each signature1 (λ j ns. build_term signature1 (entries_of s) n j ns) (a ∷ b ∷ []) ms ≡ after (built s a) (built s b) ms
  two_built n a b p q u v ms =
      two_same (λ j ns. build_term signature1 (entries_of s) n j ns) (built s) a b ms (λ ns. built_any n a p u ns) (λ ns. built_any n b q v ns) ∙ two_after (built s) a b ms

  -- its parts, and then the statement that makes it
  pub built_made : (i : ℕ) → i < terms s → (ms : List Meaning) → Unsettled i ms → built s i ms ≡ after (after (built s (term_field s i 0)) (built s (term_field s i 1))) (making s i) ms
  unfolding built build_term build_entry meant_by making register_at meaning_of map_build parts
  built_made i l ms u =
      let c = u.compound in
      rw (c.entry, u.unbuilt) (rw (two_built i (term_field s i 0) (term_field s i 1) c.left_lower c.right_lower (omega (arith, c.left_lower)) (omega (arith, c.right_lower)) ms))
