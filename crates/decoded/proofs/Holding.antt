-- The terms of a table that passes 1 to 5 in the meaning layer's terms: parts are lower, and a term holds the symbols that its bytes
-- hold. Assumes that 1 to 5 pass, where it says so.
use mathlib.Core.Path.{◌≡◌, sym, ◌∙◌}
use mathlib.Core.Logic.{◌↔◌, ◌⊎◌, inl, inr}
use mathlib.Core.List.{List}
use Prim.Native.Nat.{ℕ, zero, suc, ◌<◌}
use native.Mathlib.Decide.{ℕ_discrete}
use native.Mathlib.Omega.{arith}
use lib.ListN.{length}
use Rattle.codes.specs.Rows.{part_role, symbol_role}
use Rattle.table_layout.specs.Layout.{terms, term_field, term_role}
use Rattle.calculus.specs.Signature.{Two}
use Rattle.calculus.specs.Terms.{build1, Term, leaf, two, build2}
use Rattle.calculus.specs.Tables.{Entry, leaf_entry, kind_entry, entry_at, denoted, Lower, low_leaf, low_two, Closed}
use Rattle.calculus.specs.Scope.{Lacks, la_symbol, la_two}
use Rattle.calculus.specs.Version1.{Seal1, signature1}
use Rattle.calculus.proofs.TableLaws.{denoted_leaf, denoted_two}
use Rattle.decoded.specs.Table.{term_at, table_of}
use Rattle.decoded.specs.Meaning.{Holds, itself, inside}
use Rattle.entries.proofs.Tiling.{listed_length}
use Rattle.decoded.proofs.Listed.{listed_all_at}
use Rattle.decoded.proofs.Passed.{Entered}
use Rattle.decoded.proofs.Ranges.{parts_lower}
use Rattle.decoded.proofs.Shapes.{TermNames, a_symbol, two_parts, left_part, right_part, term_names_lem}

-- the term that term i of a file stands for
abbrev pub term_of : List ℕ → ℕ → Term signature1
term_of s i = denoted signature1 0 (table_of s).entries i

-- entry i of the table is term i, and there are as many entries as terms
pub entry_at_lem : (s : List ℕ) (i : ℕ) → i < terms s → entry_at signature1 0 (table_of s).entries i ≡ term_at s i
entry_at_lem s i h = listed_all_at (term_at s) (leaf_entry 0) (terms s) i h

pub entries_length : (s : List ℕ) → length (table_of s).entries ≡ terms s
entries_length s = listed_length (term_at s) 0 (terms s)

-- what lacks x and what does not
leaf_lacks : {x y : ℕ} → Lacks signature1 x (leaf y) → ¬ (x ≡ y)
leaf_lacks (la_symbol n) = n

two_lacks : {x : ℕ} {k : Two Seal1} {M N : Term signature1} → Lacks signature1 x (two k M N) → Lacks signature1 x M × Lacks signature1 x N
two_lacks (la_two a b) = (a, b)

module _ (s : List ℕ) (n : Entered s) where
  -- parts are lower
  pub table_closed : Closed signature1 0 (table_of s).entries
  table_closed i h =
      let l : i < terms s = rw (entries_length s) at h in
      rw (entry_at_lem s i l) (low l (term_names_lem s n i l))
    where
      low : {i : ℕ} {e : Entry signature1 ℕ} → i < terms s → TermNames s i e → Lower signature1 i e
      low l (a_symbol r f z) = low_leaf
      low {i} l (two_parts {a = a} {b = b} p e q f) = low_two (parts_lower s n i a l (left_part p e)) (parts_lower s n i b l (right_part q f))

  module _ (x : ℕ) where
    -- a term holds x, or it lacks x
    holds_or_lacks : (m t : ℕ) → t < m → t < terms s → Holds s t x ⊎ Lacks signature1 x (term_of s t)
    holds_or_lacks zero t u h = absurd (omega arith)
    holds_or_lacks (suc m) t u h = go (term_at s t) (entry_at_lem s t h) (term_names_lem s n t h) (λ i l. holds_or_lacks m i (omega arith) (omega arith))
      where
        same : (y : ℕ) → term_role s t 0 ≡ symbol_role → term_field s t 0 ≡ y → Dec (x ≡ y) → Holds s t x ⊎ Lacks signature1 x (leaf y)
        same y r f (yes e) = inl (itself 0 (omega arith) r (f ∙ sym e))
        same y r f (no o) = inr (la_symbol o)

        part : (j i : ℕ) → j < 2 → term_role s t j ≡ part_role → term_field s t j ≡ i → Holds s i x → Holds s t x
        part j i u r f w = inside {x = x} j u r (rw f w)

        join : (k : Two Seal1) (a b : ℕ) → (Holds s a x → Holds s t x) → (Holds s b x → Holds s t x) → Holds s a x ⊎ Lacks signature1 x (term_of s a)
            → Holds s b x ⊎ Lacks signature1 x (term_of s b) → Holds s t x ⊎ Lacks signature1 x (two k (term_of s a) (term_of s b))
        join k a b f g (inl w) q = inl (f w)
        join k a b f g (inr v) (inl w) = inl (g w)
        join k a b f g (inr v) (inr w) = inr (la_two v w)

        go : (e : Entry signature1 ℕ) → entry_at signature1 0 (table_of s).entries t ≡ e → TermNames s t e
            → ((i : ℕ) → i < t → Holds s i x ⊎ Lacks signature1 x (term_of s i)) → Holds s t x ⊎ Lacks signature1 x (term_of s t)
        go (leaf_entry y) q (a_symbol r f z) g = rw (denoted_leaf signature1 0 (table_of s).entries table_closed t q) (same y r f (ℕ_discrete x y))
        go (kind_entry (build2 k a b)) q (two_parts l e r f) g =
            rw (denoted_two signature1 0 (table_of s).entries table_closed t q)
            (join k a b (part 0 a (omega arith) l e) (part 1 b (omega arith) r f) (g a (parts_lower s n t a h (left_part l e))) (g b (parts_lower s n t b h (right_part r f))))
        go (kind_entry (build1 x8 _)) q _ g = elim x8 [ ]

    -- and not both
    holds_not_lacks : {t : ℕ} → Holds s t x → t < terms s → ¬ Lacks signature1 x (term_of s t)
    holds_not_lacks {t} (itself j u r e) h w = go (term_at s t) (entry_at_lem s t h) (term_names_lem s n t h) j u r e
      where
        go : (d : Entry signature1 ℕ) → entry_at signature1 0 (table_of s).entries t ≡ d → TermNames s t d → (j : ℕ) → j < 2 → term_role s t j ≡ symbol_role → term_field s t j ≡ x → ⊥
        go (leaf_entry y) q (a_symbol r f z) zero u v e =
            leaf_lacks (rw (denoted_leaf signature1 0 (table_of s).entries table_closed t q) at w) (sym e ∙ f)
        go (leaf_entry y) q (a_symbol r f z) (suc zero) u v e = omega arith
        go (leaf_entry y) q (a_symbol r f z) (suc (suc j)) u v e = omega arith
        go (kind_entry (build2 k a b)) q (two_parts l d r f) zero u v e = omega arith
        go (kind_entry (build2 k a b)) q (two_parts l d r f) (suc zero) u v e = omega arith
        go (kind_entry (build2 k a b)) q (two_parts l d r f) (suc (suc j)) u v e = omega arith
        go (kind_entry (build1 x16 _)) q _ _ u v e = elim x16 [ ]
    holds_not_lacks {t} (inside j u r m) h w =
        go (term_at s t) (entry_at_lem s t h) (term_names_lem s n t h) j u r (λ l o. holds_not_lacks m l o)
      where
        go : (d : Entry signature1 ℕ) → entry_at signature1 0 (table_of s).entries t ≡ d → TermNames s t d → (j : ℕ) → j < 2 → term_role s t j ≡ part_role
            → (term_field s t j < terms s → Lacks signature1 x (term_of s (term_field s t j)) → ⊥) → ⊥
        go (leaf_entry y) q (a_symbol r f z) zero u v o = omega arith
        go (leaf_entry y) q (a_symbol r f z) (suc zero) u v o = omega arith
        go (leaf_entry y) q (a_symbol r f z) (suc (suc j)) u v o = omega arith
        go (kind_entry (build2 k a b)) q (two_parts l d r f) zero u v o =
            let p = parts_lower s n t a h (left_part l d) in
            o (omega arith) (rw d (two_lacks (rw (denoted_two signature1 0 (table_of s).entries table_closed t q) at w)).0)
        go (kind_entry (build2 k a b)) q (two_parts l d r f) (suc zero) u v o =
            let p = parts_lower s n t b h (right_part r f) in
            o (omega arith) (rw f (two_lacks (rw (denoted_two signature1 0 (table_of s).entries table_closed t q) at w)).1)
        go (kind_entry (build2 k a b)) q (two_parts l d r f) (suc (suc j)) u v o = omega arith
        go (kind_entry (build1 x12 _)) q _ _ u v o = elim x12 [ ]

    -- a term that does not hold x lacks it
    pub lacks_unheld : (t : ℕ) → t < terms s → ¬ Holds s t x → Lacks signature1 x (term_of s t)
    lacks_unheld t h o = go (holds_or_lacks (suc t) t (omega arith) h)
      where
        go : Holds s t x ⊎ Lacks signature1 x (term_of s t) → Lacks signature1 x (term_of s t)
        go (inl w) = absurd (o w)
        go (inr w) = w

    -- the bytes of a term hold x exactly if the term does not lack it
    pub holds_means : (t : ℕ) → t < terms s → Holds s t x ↔ (¬ Lacks signature1 x (term_of s t))
    holds_means t h = (λ w. holds_not_lacks w h, λ o. go o (holds_or_lacks (suc t) t (omega arith) h))
      where
        go : ¬ Lacks signature1 x (term_of s t) → Holds s t x ⊎ Lacks signature1 x (term_of s t) → Holds s t x
        go o (inl w) = w
        go o (inr w) = absurd (o w)
