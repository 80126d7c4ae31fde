-- A list with no fault 1 to 5, said of its bytes by document 01. Assumes nothing: these are definitions.
use Rattle.std.specs.Prelude.{◌≡◌, true, List, ℕ, ◌+◌, ◌*◌, ◌≤◌, ◌<◌, length, drop}
use Rattle.types.specs.Version1.{T, bytes}
use Rattle.opening.specs.Opening.{marked, version}
use Rattle.list.specs.Layout.{symbols, statements, past_type, type_at, body_at, statements_at}
use Rattle.list.specs.Statements.{StatementRight}

-- the header is there with its mark, the version is 1, the counts are within their limits, and the length is exact (1 to 4)
pub record Framed (s : List ℕ) : Type 0 where
  pub mark_right : marked 1 s ≡ true
  pub version_one : version s ≡ 1
  pub few_symbols : symbols s ≤ 96
  pub few_statements : statements s ≤ 512
  pub length_exact : length s ≡ statements_at s + 4 * statements s

-- what an exact length means: every length byte and the bytes that it counts lie inside the list, and the rest is exactly 4N bytes
abbrev pub Walked : List ℕ → Type 0
Walked s =
    ((i : ℕ) → i < symbols s → (type_at s i < length s) × (past_type s (type_at s i) ≤ length s))
    × (length (drop (statements_at s) s) ≡ 4 * statements s)

-- a list with no fault: each type's bytes are those of one type, and each statement is in order (5); free is the number of the table's
-- free symbols
pub record ListRight (s : List ℕ) (free : ℕ) : Type 0 where
  pub framed : Framed s
  pub each_type : (i : ℕ) → i < symbols s → (A : T) × (body_at s (type_at s i) ≡ bytes A)
  pub each_statement : (i : ℕ) → i < statements s → StatementRight s free i
