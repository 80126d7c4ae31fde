-- What number 5 tests of a statement, by document 01's table; which statements give a register. Assumes that the version is 1 (number 2),
-- where it says so.
use mathlib.Core.Path.{◌≡◌, refl}
use mathlib.Core.Bool.{true}
use mathlib.Core.Logic.{◌↔◌}
use mathlib.Core.List.{List}
use Prim.Native.Nat.{ℕ, zero, suc, ◌+◌, ◌<◌}
use native.Mathlib.Omega.{arith}
use lib.Dec.{eqb}
use lib.ListN.{get_or}
use Rattle.base.specs.Bytes.{byte}
use Rattle.base.specs.Pick.{pick, either}
use Rattle.codes.specs.Rows.{rows, cell, fields, known, limits_of}
use Rattle.entries.specs.Fields.{role}
use Rattle.entries.proofs.InOrder.{entry_code, entry_field, entry_right, zero_below, below_zero}
use Rattle.opening.specs.Opening.{version}
use Rattle.list.specs.Layout.{symbols, statements_at, gives, given, statement_ok_at, statement_ok}
use Rattle.list.specs.Statements.{op_at, operand_at, StatementRight, sending, receiving, fresh_name, comparing, left_part, right_part, decrypting, pairing, encrypting}

module _ (s : List ℕ) (free i : ℕ) where
  abbrev limits : List ℕ
  limits = limits_of 0 (symbols s) 0 0 (given s free i)

  -- what field j of a statement of this op has to be: below the limit of its role
  abbrev Below : ℕ → ℕ → Type 0
  Below op j = operand_at s i j < get_or limits (cell 2 op (j + 1)) 0

  statement_by : (op : ℕ) → op_at s i ≡ op → op < 9 → Below op 0 → Below op 1 → Below op 2 → StatementRight s free i
  unfolding cell byte
  statement_by zero c h p q x = sending c p q (below_zero x)
  statement_by (suc zero) c h p q x = receiving c p (below_zero q) x
  statement_by (suc (suc zero)) c h p q x = fresh_name c (below_zero p) (below_zero q) x
  statement_by (suc (suc (suc zero))) c h p q x = comparing c p q (below_zero x)
  statement_by (suc (suc (suc (suc zero)))) c h p q x = left_part c p (below_zero q) x
  statement_by (suc (suc (suc (suc (suc zero))))) c h p q x = right_part c p (below_zero q) x
  statement_by (suc (suc (suc (suc (suc (suc zero)))))) c h p q x = decrypting c p q x
  statement_by (suc (suc (suc (suc (suc (suc (suc zero))))))) c h p q x = pairing c p q (below_zero x)
  statement_by (suc (suc (suc (suc (suc (suc (suc (suc zero)))))))) c h p q x = encrypting c p q (below_zero x)
  statement_by (suc (suc (suc (suc (suc (suc (suc (suc (suc op))))))))) c h p q x = absurd (omega arith)

  statement_from : (op : ℕ) → version s ≡ 1 → op_at s i ≡ op → known 2 1 op ≡ true → Below op 0 → Below op 1 → Below op 2 → statement_ok s free i ≡ true
  unfolding statement_ok statement_ok_at fields byte
  statement_from op v c k p q x = rw v (entry_right s 2 1 (statements_at s) i limits op c k λ j h. each j h)
    where
      each : (j : ℕ) → j < 3 → Below op j
      each zero h = p
      each (suc zero) h = q
      each (suc (suc zero)) h = x
      each (suc (suc (suc j))) h = absurd (omega arith)

  -- number 5 does not apply to statement i exactly if it is in order
  pub statement_ok_means : version s ≡ 1 → (statement_ok s free i ≡ true) ↔ StatementRight s free i
  unfolding statement_ok statement_ok_at rows fields known cell role byte
  statement_ok_means v = (λ e. to e, λ r. from r)
    where
      to : statement_ok s free i ≡ true → StatementRight s free i
      to e =
          statement_by (op_at s i) refl (entry_code s 2 (version s) (statements_at s) i limits e)
          (entry_field s 2 (version s) (statements_at s) i limits e 0 (omega arith)) (entry_field s 2 (version s) (statements_at s) i limits e 1 (omega arith))
          (entry_field s 2 (version s) (statements_at s) i limits e 2 (omega arith))

      from : StatementRight s free i → statement_ok s free i ≡ true
      from (sending c p q x) = statement_from 0 v c refl p q (zero_below x)
      from (receiving c p q x) = statement_from 1 v c refl p (zero_below q) x
      from (fresh_name c p q x) = statement_from 2 v c refl (zero_below p) (zero_below q) x
      from (comparing c p q x) = statement_from 3 v c refl p q (zero_below x)
      from (left_part c p q x) = statement_from 4 v c refl p (zero_below q) x
      from (right_part c p q x) = statement_from 5 v c refl p (zero_below q) x
      from (decrypting c p q x) = statement_from 6 v c refl p q x
      from (pairing c p q x) = statement_from 7 v c refl p q (zero_below x)
      from (encrypting c p q x) = statement_from 8 v c refl p q (zero_below x)

-- a send and a comparison give no register, each other statement of a known op gives one
gives_by : (op : ℕ) → op < 9 → cell 2 op 4 ≡ pick (either (eqb op 0) (eqb op 3)) 0 1
unfolding cell byte
gives_by zero h = refl
gives_by (suc zero) h = refl
gives_by (suc (suc zero)) h = refl
gives_by (suc (suc (suc zero))) h = refl
gives_by (suc (suc (suc (suc zero)))) h = refl
gives_by (suc (suc (suc (suc (suc zero))))) h = refl
gives_by (suc (suc (suc (suc (suc (suc zero)))))) h = refl
gives_by (suc (suc (suc (suc (suc (suc (suc zero))))))) h = refl
gives_by (suc (suc (suc (suc (suc (suc (suc (suc zero)))))))) h = refl
gives_by (suc (suc (suc (suc (suc (suc (suc (suc (suc op))))))))) h = absurd (omega arith)

pub gives_means : (s : List ℕ) (i : ℕ) → op_at s i < 9 → gives s (statements_at s) i ≡ pick (either (eqb (op_at s i) 0) (eqb (op_at s i) 3)) 0 1
unfolding gives
gives_means s i h = gives_by (op_at s i) h
