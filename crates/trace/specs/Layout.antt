-- Where the parts of a trace stand: header, values, starting values, supply. Assumes nothing: these are definitions.
use Rattle.std.specs.Prelude.{Bool, List, ℕ, ◌+◌, ◌*◌, leb, ltb, eqb, length}
use Rattle.base.specs.Bytes.{byte, word}
use Rattle.base.specs.Pick.{both}
use Rattle.entries.specs.Fields.{code, field}

-- the counts of the header: values, supplied values, starting values
abbrev pub values : List ℕ → ℕ
values s = word s 5

abbrev pub supplies : List ℕ → ℕ
supplies s = word s 7

abbrev pub startings : List ℕ → ℕ
startings s = byte s 9

-- where the starting values begin, and where the supply does
abbrev pub starts_at : List ℕ → ℕ
starts_at s = 10 + 5 * values s

abbrev pub supplies_at : List ℕ → ℕ
supplies_at s = starts_at s + 2 * startings s

-- where 16-bit index i stands, of those from a base offset on
abbrev pub index_place : ℕ → ℕ → ℕ
index_place base i = base + 2 * i

-- 16-bit index i, of those from a base offset on
unfoldable pub index : List ℕ → ℕ → ℕ → ℕ
index s base i = word s (index_place base i)

-- starting value i and supplied value i, each an index of a value
abbrev pub starting : List ℕ → ℕ → ℕ
starting s i = index s (starts_at s) i

abbrev pub supply : List ℕ → ℕ → ℕ
supply s i = index s (supplies_at s) i

-- value i: its tag, and its two numbers
abbrev pub tag : List ℕ → ℕ → ℕ
tag s i = code s 3 10 i

abbrev pub left : List ℕ → ℕ → ℕ
left s i = field s 3 10 i 0

abbrev pub right : List ℕ → ℕ → ℕ
right s i = field s 3 10 i 1

-- an index lies below a limit
unfoldable pub index_ok : List ℕ → ℕ → ℕ → ℕ → Bool
index_ok s base limit i = ltb (index s base i) limit

-- no count is over its limit
unfoldable pub counts_ok : List ℕ → Bool
counts_ok s = both (leb (values s) 1024) (both (leb (supplies s) 128) (leb (startings s) 96))

-- the file ends with its supply
unfoldable pub length_ok : List ℕ → Bool
length_ok s = eqb (length s) (supplies_at s + 2 * supplies s)
