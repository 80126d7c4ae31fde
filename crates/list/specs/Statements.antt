-- When a statement of a list is in order, by document 01's table: what number 5 speaks of. Assumes nothing: these are definitions.
use Rattle.std.specs.Prelude.{◌≡◌, List, ℕ, ◌<◌}
use Rattle.entries.specs.Fields.{code, field}
use Rattle.list.specs.Layout.{symbols, statements_at, given}

-- the op of statement i of a list, and its field j: p, q, s
abbrev pub op_at : List ℕ → ℕ → ℕ
op_at s i = code s 2 (statements_at s) i

abbrev pub operand_at : List ℕ → ℕ → ℕ → ℕ
operand_at s i j = field s 2 (statements_at s) i j

-- field j of statement i names a register already given: one of the table's free symbols, or one that an earlier statement gives
abbrev pub IsGiven : List ℕ → ℕ → ℕ → ℕ → Type 0
IsGiven s free i j = operand_at s i j < given s free i

-- field j of statement i is below the list's S
abbrev pub IsSymbol : List ℕ → ℕ → ℕ → Type 0
IsSymbol s i j = operand_at s i j < symbols s

-- statement i: its op, then its fields p, q and s; free is the number of the table's free symbols
pub data StatementRight (s : List ℕ) (free i : ℕ) : Type 0 where
  sending : op_at s i ≡ 0 → IsGiven s free i 0 → IsGiven s free i 1 → operand_at s i 2 ≡ 0 → StatementRight s free i
  receiving : op_at s i ≡ 1 → IsGiven s free i 0 → operand_at s i 1 ≡ 0 → IsSymbol s i 2 → StatementRight s free i
  fresh_name : op_at s i ≡ 2 → operand_at s i 0 ≡ 0 → operand_at s i 1 ≡ 0 → IsSymbol s i 2 → StatementRight s free i
  comparing : op_at s i ≡ 3 → IsGiven s free i 0 → IsGiven s free i 1 → operand_at s i 2 ≡ 0 → StatementRight s free i
  left_part : op_at s i ≡ 4 → IsGiven s free i 0 → operand_at s i 1 ≡ 0 → IsSymbol s i 2 → StatementRight s free i
  right_part : op_at s i ≡ 5 → IsGiven s free i 0 → operand_at s i 1 ≡ 0 → IsSymbol s i 2 → StatementRight s free i
  decrypting : op_at s i ≡ 6 → IsGiven s free i 0 → IsGiven s free i 1 → IsSymbol s i 2 → StatementRight s free i
  pairing : op_at s i ≡ 7 → IsGiven s free i 0 → IsGiven s free i 1 → operand_at s i 2 ≡ 0 → StatementRight s free i
  encrypting : op_at s i ≡ 8 → IsGiven s free i 0 → IsGiven s free i 1 → operand_at s i 2 ≡ 0 → StatementRight s free i
