-- Where the types and the statements of a statement list stand, and when each is in order. Assumes nothing: these are definitions.
use Rattle.std.specs.Prelude.{Bool, false, List, [], ◌∷◌, ℕ, zero, suc, ◌+◌, ◌*◌, leb, eqb, length, take, drop}
use Rattle.std.specs.declared.ops.Range.{Range}
use Rattle.base.specs.Bytes.{byte, word}
use Rattle.base.specs.Pick.{both}
use Rattle.codes.specs.Rows.{cell, limits_of}
use Rattle.codes.specs.Types.{type_known, type_parts}
use Rattle.opening.specs.Opening.{version}
use Rattle.entries.specs.Fields.{code, entry_ok}

-- the counts S and N
abbrev pub symbols : List ℕ → ℕ
symbols s = byte s 5

abbrev pub statements : List ℕ → ℕ
statements s = word s 6

-- a type is a length byte and as many bytes: of the one at p, those bytes, and the place after them
abbrev pub body_at : List ℕ → ℕ → List ℕ
body_at s p = take (byte s p) (drop (p + 1) s)

abbrev pub past_type : List ℕ → ℕ → ℕ
past_type s p = p + 1 + byte s p

-- from where to where those bytes are
abbrev pub body_range : List ℕ → ℕ → Range ℕ
body_range s p = record { start = p + 1; end = past_type s p }

-- where type i stands: the first after the header, each other one after the one before it
unfoldable pub type_at : List ℕ → ℕ → ℕ
type_at s zero = 8
type_at s (suc i) = let p = type_at s i in past_type s p

-- where the statements begin: after the last type
abbrev pub statements_at : List ℕ → ℕ
statements_at s = type_at s (symbols s)

-- the counts are within their limits
unfoldable pub counts_ok : List ℕ → Bool
counts_ok s = both (leb (symbols s) 96) (leb (statements s) 512)

-- the length is what the counts and the length bytes say
unfoldable pub length_ok : List ℕ → Bool
length_ok s = eqb (length s) (statements_at s + 4 * statements s)

-- the bytes are exactly as many types as are still wanted; each code takes one off, and adds those that follow it
unfoldable pub wants : ℕ → ℕ → List ℕ → Bool
wants v n [] = eqb n 0
wants v zero (b ∷ r) = false
wants v (suc n) (b ∷ r) = both (type_known v b) (wants v (n + type_parts b) r)

-- the bytes of the type at p are there, and are exactly one type
unfoldable pub type_ok_at : List ℕ → ℕ → Bool
type_ok_at s p = both (leb (past_type s p) (length s)) (wants (version s) 1 (body_at s p))

-- type i is in order
unfoldable pub type_ok : List ℕ → ℕ → Bool
type_ok s i = type_ok_at s (type_at s i)

-- whether statement i gives a register: 1 or 0, the last column of its row
unfoldable pub gives : List ℕ → ℕ → ℕ → ℕ
gives s base i = cell 2 (code s 2 base i) 4

-- the registers given before statement i: the table's free symbols, and one for each earlier statement that gives one
unfoldable pub given : List ℕ → ℕ → ℕ → ℕ
given s free zero = free
given s free (suc i) = given s free i + gives s (statements_at s) i

-- a statement is in order where so many registers are given: its symbol is below S, and its registers are given already
unfoldable pub statement_ok_at : List ℕ → ℕ → ℕ → ℕ → Bool
statement_ok_at s base i registers = entry_ok s 2 (version s) base i (limits_of 0 (symbols s) 0 0 registers)

-- statement i is in order
unfoldable pub statement_ok : List ℕ → ℕ → ℕ → Bool
statement_ok s free i = statement_ok_at s (statements_at s) i (given s free i)
