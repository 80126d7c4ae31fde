-- Entries of a code and its fields, read from a base offset on: 0 terms, 1 steps, 2 statements, 3 values.
-- Assumes nothing: these are definitions.
use Rattle.std.specs.Prelude.{Bool, List, ℕ, ◌+◌, ◌*◌, ltb, eqb, get_or}
use Rattle.base.specs.Bytes.{byte, word}
use Rattle.base.specs.Pick.{pick, both}
use Rattle.base.specs.Search.{first, all_right}
use Rattle.codes.specs.Rows.{cell, fields, field_bytes, width, known}

-- a number of one byte or of two
unfoldable pub number : List ℕ → ℕ → ℕ → ℕ
number s at size = pick (eqb size 2) (word s at) (byte s at)

-- where entry i stands
unfoldable pub place_of : ℕ → ℕ → ℕ → ℕ
place_of kind base i = base + i * width kind

-- its code, its field j, and the role of that field
unfoldable pub code : List ℕ → ℕ → ℕ → ℕ → ℕ
code s kind base i = byte s (place_of kind base i)

unfoldable pub field : List ℕ → ℕ → ℕ → ℕ → ℕ → ℕ
field s kind base i j = number s (place_of kind base i + 1 + j * field_bytes kind) (field_bytes kind)

unfoldable pub role : List ℕ → ℕ → ℕ → ℕ → ℕ → ℕ
role s kind base i j = cell kind (code s kind base i) (j + 1)

-- field j lies below the limit of its role
unfoldable pub field_ok : List ℕ → ℕ → ℕ → ℕ → List ℕ → ℕ → Bool
field_ok s kind base i limits j = ltb (field s kind base i j) (get_or limits (role s kind base i j) 0)

-- all fields do
unfoldable pub fields_ok : List ℕ → ℕ → ℕ → ℕ → List ℕ → Bool
fields_ok s kind base i limits = all_right (first (field_ok s kind base i limits) 0 (fields kind))

-- the version knows the code, and the fields are in range
unfoldable pub entry_ok : List ℕ → ℕ → ℕ → ℕ → ℕ → List ℕ → Bool
entry_ok s kind version base i limits = both (known kind version (code s kind base i)) (fields_ok s kind base i limits)

-- two entries of two fields are equal
unfoldable pub same_entry : List ℕ → ℕ → ℕ → ℕ → ℕ → Bool
same_entry s kind base i j =
    both (eqb (code s kind base i) (code s kind base j))
    (both (eqb (field s kind base i 0) (field s kind base j 0)) (eqb (field s kind base i 1) (field s kind base j 1)))
