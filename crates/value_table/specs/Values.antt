-- The values of a run: five bytes each, from the start of a buffer on. Assumes nothing: these are definitions.
use Rattle.std.specs.Prelude.{Bool, List, [], ◌∷◌, ℕ, ◌/◌, ◌%◌, ltb}
use Rattle.base.specs.Pick.{pick, both}
use Rattle.entries.specs.Fields.{code, field}
use Rattle.entries.specs.Tiling.{listed}
use Rattle.calculus.specs.Terms.{Atom, atom, build1, build2}
use Rattle.calculus.specs.Tables.{Entry, leaf_entry, kind_entry}
use Rattle.calculus.specs.Version1.{signature1}
use Rattle.decoded.specs.Table.{one_code, two_code}
use Rattle.decoded.specs.Values.{value_of}

-- ── From bytes ──

-- value i of a buffer
unfoldable pub value_in : List ℕ → ℕ → Entry signature1 Atom
value_in s i = value_of (code s 3 0 i) (field s 3 0 i 0) (field s 3 0 i 1)

-- the first n values of a buffer
unfoldable pub table_at : List ℕ → ℕ → List (Entry signature1 Atom)
table_at s n = listed (value_in s) 0 n

-- value i is one of the first n, and its tag is known
unfoldable pub known : List ℕ → ℕ → ℕ → Bool
known s n i = both (ltb i n) (ltb (code s 3 0 i) 3)

-- its tag and its number j; else those of the plain atom 0
unfoldable pub tag_at : List ℕ → ℕ → ℕ → ℕ
tag_at s n i = pick (known s n i) (code s 3 0 i) 0

unfoldable pub part_at : List ℕ → ℕ → ℕ → ℕ → ℕ
part_at s n i j = pick (known s n i) (field s 3 0 i j) 0

-- ── To bytes ──

-- a byte and two 16-bit numbers, high byte first
unfoldable pub five_bytes : ℕ → ℕ → ℕ → List ℕ
five_bytes tag a b = tag ∷ a / 256 ∷ a % 256 ∷ b / 256 ∷ b % 256 ∷ []

-- a value: its tag and its two numbers
unfoldable pub value_bytes : Entry signature1 Atom → List ℕ
value_bytes (leaf_entry (atom kind number)) = five_bytes 0 kind number
value_bytes (kind_entry (build1 k a)) = five_bytes (one_code k) a 0
value_bytes (kind_entry (build2 k a b)) = five_bytes (two_code k) a b
