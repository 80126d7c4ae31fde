-- The codes of the four kinds of entries as rows: 0 terms, 1 steps, 2 statements, 3 values. Assumes nothing: these are definitions.
use Rattle.std.specs.Prelude.{Bool, List, [], ◌∷◌, ℕ, ◌+◌, ◌*◌, ltb, leb}
use Rattle.base.specs.Bytes.{byte}
use Rattle.base.specs.Pick.{both}

-- the role of a field: not used; a lower entry; a symbol; an atom's kind; any number; a term; a name that is bound;
-- a variable that is bound; a register
abbrev pub no_role : ℕ
no_role = 0

abbrev pub part_role : ℕ
part_role = 1

abbrev pub symbol_role : ℕ
symbol_role = 2

abbrev pub kind_role : ℕ
kind_role = 3

abbrev pub number_role : ℕ
number_role = 4

abbrev pub term_role : ℕ
term_role = 5

abbrev pub name_role : ℕ
name_role = 6

abbrev pub variable_role : ℕ
variable_role = 7

abbrev pub register_role : ℕ
register_role = 8

-- a row for each code: the first version that knows it, then the role of each field; a statement's last column says whether it
-- gives a register
abbrev pub table : List ℕ
table =
    1 ∷ 2 ∷ 0 ∷ 0 ∷ 0 ∷
    1 ∷ 1 ∷ 1 ∷ 0 ∷ 0 ∷
    1 ∷ 1 ∷ 1 ∷ 0 ∷ 0 ∷
    1 ∷ 5 ∷ 5 ∷ 0 ∷ 0 ∷
    1 ∷ 5 ∷ 0 ∷ 7 ∷ 0 ∷
    1 ∷ 0 ∷ 0 ∷ 6 ∷ 0 ∷
    1 ∷ 5 ∷ 5 ∷ 0 ∷ 0 ∷
    1 ∷ 5 ∷ 0 ∷ 7 ∷ 7 ∷
    1 ∷ 5 ∷ 5 ∷ 7 ∷ 0 ∷
    1 ∷ 8 ∷ 8 ∷ 0 ∷ 0 ∷
    1 ∷ 8 ∷ 0 ∷ 2 ∷ 1 ∷
    1 ∷ 0 ∷ 0 ∷ 2 ∷ 1 ∷
    1 ∷ 8 ∷ 8 ∷ 0 ∷ 0 ∷
    1 ∷ 8 ∷ 0 ∷ 2 ∷ 1 ∷
    1 ∷ 8 ∷ 0 ∷ 2 ∷ 1 ∷
    1 ∷ 8 ∷ 8 ∷ 2 ∷ 1 ∷
    1 ∷ 8 ∷ 8 ∷ 0 ∷ 1 ∷
    1 ∷ 8 ∷ 8 ∷ 0 ∷ 1 ∷
    1 ∷ 3 ∷ 4 ∷ 0 ∷ 0 ∷
    1 ∷ 1 ∷ 1 ∷ 0 ∷ 0 ∷
    1 ∷ 1 ∷ 1 ∷ 0 ∷ 0 ∷ []

-- the first row of a kind
abbrev pub first_row : ℕ → ℕ
first_row kind = byte (0 ∷ 3 ∷ 9 ∷ 18 ∷ []) kind

-- its number of rows
unfoldable pub rows : ℕ → ℕ
rows kind = byte (3 ∷ 6 ∷ 9 ∷ 3 ∷ []) kind

-- a column of the row of a code
unfoldable pub cell : ℕ → ℕ → ℕ → ℕ
cell kind op column = byte table ((first_row kind + op) * 5 + column)

-- the number of fields of an entry
unfoldable pub fields : ℕ → ℕ
fields kind = byte (2 ∷ 4 ∷ 3 ∷ 2 ∷ []) kind

-- the bytes of a field
unfoldable pub field_bytes : ℕ → ℕ
field_bytes kind = byte (1 ∷ 1 ∷ 1 ∷ 2 ∷ []) kind

-- the bytes of an entry: its code, then its fields
unfoldable pub width : ℕ → ℕ
width kind = byte (3 ∷ 5 ∷ 4 ∷ 5 ∷ []) kind

-- a version knows the code
unfoldable pub known : ℕ → ℕ → ℕ → Bool
known kind version op = both (ltb op (rows kind)) (leb (cell kind op 0) version)

-- the atom kinds that a version knows: plain, channel, key
unfoldable pub atom_kinds : ℕ → ℕ
atom_kinds version = byte (0 ∷ 3 ∷ []) version

-- the limit of each role's number, in the order of the roles; an unused field is 0
abbrev pub limits_of : ℕ → ℕ → ℕ → ℕ → ℕ → List ℕ
limits_of parts symbols kinds terms registers =
    1 ∷ parts ∷ symbols ∷ kinds ∷ 65536 ∷ terms ∷ symbols ∷ symbols ∷ registers ∷ []
