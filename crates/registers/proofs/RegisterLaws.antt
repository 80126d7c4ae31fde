-- The register of a term by the arrays is the one that the translation gives it. Assumes that 1 to 9 pass.
use mathlib.Core.Path.{◌≡◌, refl}
use mathlib.Core.Bool.{Bool, true, false}
use mathlib.Core.List.{List}
use Prim.Native.Nat.{ℕ, ◌<◌}
use native.Mathlib.Omega.{arith}
use lib.Dec.{eqb}
use borrow.Author.Tests.{eqb-true, eqb-false}
use Rattle.answers.specs.Ladder.{least}
use Rattle.entries.specs.Fields.{code}
use Rattle.table_layout.specs.Layout.{terms, terms_at, term_field}
use Rattle.table.specs.Faults.{table_rungs}
use Rattle.rendering.specs.Judge.{Meaning, meant_by}
use Rattle.decoded.specs.Indexes.{meaning_of}
use Rattle.decoded.proofs.Tabled.{counts_small, a_leaf, a_compound}
use Rattle.registers.specs.Held.{held, Held, register_at, held_at, register_in}
use Rattle.registers.proofs.HeldLaws.{register_held}
use Rattle.std.proofs.Common.{Ok}

module _ (s : List ℕ) (e : least (table_rungs s) ≡ Ok tt) where
  pub register_right : (i : ℕ) → i < terms s → (ms : List Meaning) {symbols array : List ℕ} {registers : ℕ} → Held ms symbols array registers
      → register_in s i symbols array registers ≡ register_at s ms i
  unfolding register_in register_at held_at meaning_of meant_by
  register_right i l ms {symbols} {array} {registers} h = register_held ms (meaning_of s i) (held_at s i symbols array) registers (go (eqb (code s 0 (terms_at s) i) 0) refl) h.count
    where
      go : (b : Bool) → eqb (code s 0 (terms_at s) i) 0 ≡ b → held_at s i symbols array ≡ held ms (meaning_of s i)
      go true q =
          let f = a_leaf s e i l (eqb-true _ _ q) in
          let k = counts_small s e in
          rw (q, f.0) (h.of_symbols.at (term_field s i 0) (omega (arith, f.1)))
      go false q =
          let f = a_compound s e i l (eqb-false _ _ q) in
          let k = counts_small s e in
          rw (q, f.entry) (h.of_terms.at i (omega arith))
