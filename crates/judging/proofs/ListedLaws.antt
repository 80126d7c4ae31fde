-- After 1 to 5 a statement's op is known, and its registers are given already. Assumes nothing.
use mathlib.Core.Path.{◌≡◌, refl}
use mathlib.Core.Bool.{true}
use mathlib.Core.Logic.{◌⊎◌, inl, inr}
use mathlib.Core.List.{List}
use Prim.Native.Nat.{ℕ, zero, suc, ◌<◌}
use native.Mathlib.Omega.{arith}
use lib.ListN.{get_or}
use Rattle.base.specs.Bytes.{byte}
use Rattle.codes.specs.Rows.{rows, fields, cell, limits_of}
use Rattle.entries.specs.Fields.{code, field, role}
use Rattle.opening.specs.Opening.{version}
use Rattle.list.specs.Layout.{symbols, statements, statements_at, given, statement_ok_at, statement_ok}
use Rattle.list.proofs.Framed.{Listed}
use Rattle.entries.proofs.InOrder.{entry_code, entry_field}
use Rattle.judging.specs.Turns.{Readable}

-- every op but 2 has a register p; q is a register, or it is not used
registers_used : (op : ℕ) → op < 9 → ¬ (op ≡ 2) → (cell 2 op 1 ≡ 8) × ((cell 2 op 2 ≡ 8) ⊎ (cell 2 op 2 ≡ 0))
unfolding cell byte
registers_used zero h n = (refl, inl refl)
registers_used (suc zero) h n = (refl, inr refl)
registers_used (suc (suc zero)) h n = absurd (n refl)
registers_used (suc (suc (suc zero))) h n = (refl, inl refl)
registers_used (suc (suc (suc (suc zero)))) h n = (refl, inr refl)
registers_used (suc (suc (suc (suc (suc zero))))) h n = (refl, inr refl)
registers_used (suc (suc (suc (suc (suc (suc zero)))))) h n = (refl, inl refl)
registers_used (suc (suc (suc (suc (suc (suc (suc zero))))))) h n = (refl, inl refl)
registers_used (suc (suc (suc (suc (suc (suc (suc (suc zero)))))))) h n = (refl, inl refl)
registers_used (suc (suc (suc (suc (suc (suc (suc (suc (suc op))))))))) h n = absurd (omega arith)

module _ (l : List ℕ) (i registers : ℕ) where
  -- a statement in order where so many registers are given
  pub statement_readable : statement_ok_at l (statements_at l) i registers ≡ true → Readable l (statements_at l) i registers
  unfolding statement_ok_at rows fields role byte
  statement_readable e =
      let k = entry_code l 2 (version l) (statements_at l) i (limits_of 0 (symbols l) 0 0 registers) e in
      let p = entry_field l 2 (version l) (statements_at l) i (limits_of 0 (symbols l) 0 0 registers) e 0 (omega arith) in
      let q = entry_field l 2 (version l) (statements_at l) i (limits_of 0 (symbols l) 0 0 registers) e 1 (omega arith) in
      record { known = k; operands = λ n. both (registers_used (code l 2 (statements_at l) i) k n) p q }
    where
      both : (cell 2 (code l 2 (statements_at l) i) 1 ≡ 8) × ((cell 2 (code l 2 (statements_at l) i) 2 ≡ 8) ⊎ (cell 2 (code l 2 (statements_at l) i) 2 ≡ 0))
          → field l 2 (statements_at l) i 0 < get_or (limits_of 0 (symbols l) 0 0 registers) (cell 2 (code l 2 (statements_at l) i) 1) 0
          → field l 2 (statements_at l) i 1 < get_or (limits_of 0 (symbols l) 0 0 registers) (cell 2 (code l 2 (statements_at l) i) 2) 0
          → (field l 2 (statements_at l) i 0 < registers) × (field l 2 (statements_at l) i 1 < registers)
      both (a, inl b) p q = (rw a at p, rw b at q)
      both (a, inr b) p q =
          let x : field l 2 (statements_at l) i 0 < registers = rw a at p in
          let y : field l 2 (statements_at l) i 1 < 1 = rw b at q in
          (x, omega arith)

-- a statement of a list that passes
pub readable : (l : List ℕ) (free i registers : ℕ) → Listed l free → i < statements l → registers ≡ given l free i → Readable l (statements_at l) i registers
unfolding statement_ok
readable l free i registers p h e = statement_readable l i registers (rw e (p.statements_right i h))
