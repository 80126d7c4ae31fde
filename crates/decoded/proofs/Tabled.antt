-- What numbers 1 to 9 leave of a table, as far as its translation and its judge need it. Assumes that 1 to 9 pass.
use mathlib.Core.Path.{◌≡◌, refl, ◌∙◌}
use mathlib.Core.List.{List}
use Prim.Native.Nat.{ℕ, zero, suc, ◌+◌, ◌<◌, ◌≤◌}
use native.Mathlib.Omega.{arith}
use lib.Dec.{leb}
use borrow.Author.Tests.{leb-true}
use Rattle.base.specs.Bytes.{byte}
use Rattle.base.specs.Pick.{both}
use Rattle.base.proofs.BothLaws.{both_left, both_right}
use Rattle.answers.specs.Ladder.{least}
use Rattle.codes.specs.Rows.{cell}
use Rattle.entries.specs.Fields.{code}
use Rattle.table_layout.specs.Layout.{symbols, terms, steps, terms_at, steps_at, term_field, term_role, step_field, step_role, counts_ok}
use Rattle.table.specs.Faults.{table_rungs}
use Rattle.calculus.specs.Terms.{build2}
use Rattle.calculus.specs.Tables.{leaf_entry, kind_entry, entry_at}
use Rattle.calculus.specs.Version1.{signature1}
use Rattle.decoded.specs.Table.{entry_of, act_of, term_at, step_at}
use Rattle.decoded.proofs.Passed.{table_passed}
use Rattle.decoded.proofs.Ranges.{term_code_lem, term_field_lem, step_code_lem, step_field_lem}
use Rattle.decoded.proofs.Shapes.{term_role_lem, step_role_lem}
use Rattle.decoded.proofs.Holding.{entry_at_lem}
use Rattle.decoded.specs.Indexes.{entries_of, kind_of}
use Rattle.std.proofs.Common.{Ok}

pub term_as : (s : List ℕ) (i op : ℕ) → code s 0 (terms_at s) i ≡ op → term_at s i ≡ entry_of op (term_field s i 0) (term_field s i 1)
unfolding term_at
term_as s i op e = rw e

-- step k by its op
pub step_as : (s : List ℕ) (k op : ℕ) → code s 1 (steps_at s) k ≡ op → step_at s k ≡ act_of op (step_field s k 0) (step_field s k 1) (step_field s k 2) (step_field s k 3)
unfolding step_at
step_as s k op e = rw e

-- what a compound term is
pub record IsCompound (s : List ℕ) (i : ℕ) : Type 0 where
  pub entry : entry_at signature1 0 (entries_of s) i ≡ kind_entry (build2 (kind_of (code s 0 (terms_at s) i)) (term_field s i 0) (term_field s i 1))
  pub left_lower : term_field s i 0 < i
  pub right_lower : term_field s i 1 < i
  pub code_small : code s 0 (terms_at s) i < 3
  pub not_zero : ¬ (code s 0 (terms_at s) i ≡ 0)

module _ (s : List ℕ) (e : least (table_rungs s) ≡ Ok tt) where
  pub counts_small : (symbols s ≤ 96) × (terms s ≤ 128) × (steps s ≤ 64)
  unfolding counts_ok
  counts_small =
      let f = (table_passed s e).entered.frame.counts_right in
      let g = both_right (leb (symbols s) 96) (both (leb (terms s) 128) (leb (steps s) 64)) f in (
        leb-true (symbols s) 96 (both_left (leb (symbols s) 96) (both (leb (terms s) 128) (leb (steps s) 64)) f),
        leb-true (terms s) 128 (both_left (leb (terms s) 128) (leb (steps s) 64) g),
        leb-true (steps s) 64 (both_right (leb (terms s) 128) (leb (steps s) 64) g),
      )

  pub entry_is : (i : ℕ) → i < terms s → entry_at signature1 0 (entries_of s) i ≡ term_at s i
  unfolding entries_of
  entry_is i h = entry_at_lem s i h

  -- a term whose code is 0 is a symbol
  pub a_leaf : (i : ℕ) → i < terms s → code s 0 (terms_at s) i ≡ 0 → (entry_at signature1 0 (entries_of s) i ≡ leaf_entry (term_field s i 0)) × (term_field s i 0 < symbols s)
  unfolding entry_of cell byte
  a_leaf i h c =
      let r : term_role s i 0 ≡ 2 = term_role_lem s i 0 0 c in
      (entry_is i h ∙ term_as s i 0 c, rw r at (term_field_lem s (table_passed s e).entered i h 0 (omega arith)))

  -- any other is a compound term
  pub a_compound : (i : ℕ) → i < terms s → ¬ (code s 0 (terms_at s) i ≡ 0) → IsCompound s i
  unfolding entry_of cell byte kind_of
  a_compound i h n = go (code s 0 (terms_at s) i) refl (term_code_lem s (table_passed s e).entered i h) n
    where
      lower : (op j : ℕ) → j < 2 → code s 0 (terms_at s) i ≡ op → cell 0 op (j + 1) ≡ 1 → term_field s i j < i
      lower op j l c q = let r : term_role s i j ≡ 1 = term_role_lem s i op j c ∙ q in rw r at (term_field_lem s (table_passed s e).entered i h j l)

      go : (op : ℕ) → code s 0 (terms_at s) i ≡ op → op < 3 → ¬ (op ≡ 0) → IsCompound s i
      go zero c l n = absurd (n refl)
      go (suc zero) c l n = record { entry = entry_is i h ∙ term_as s i 1 c ∙ rw c; left_lower = lower 1 0 (omega arith) c refl; right_lower = lower 1 1 (omega arith) c refl; code_small = omega arith; not_zero = λ z. absurd (omega arith) }
      go (suc (suc zero)) c l n = record { entry = entry_is i h ∙ term_as s i 2 c ∙ rw c; left_lower = lower 2 0 (omega arith) c refl; right_lower = lower 2 1 (omega arith) c refl; code_small = omega arith; not_zero = λ z. absurd (omega arith) }
      go (suc (suc (suc op))) c l n = absurd (omega arith)

  pub step_known : (k : ℕ) → k < steps s → code s 1 (steps_at s) k < 6
  step_known k h = step_code_lem s (table_passed s e).entered k h

  -- a field that is a term is a term of the table
  pub operand_there : (k op j : ℕ) → k < steps s → j < 4 → code s 1 (steps_at s) k ≡ op → cell 1 op (j + 1) ≡ 5 → step_field s k j < terms s
  operand_there k op j h l c q =
      let r : step_role s k j ≡ 5 = step_role_lem s k op j c ∙ q in
      rw r at (step_field_lem s (table_passed s e).entered k h j l)
