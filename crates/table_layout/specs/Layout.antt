-- Where the symbols, terms and steps of a role table stand, and how each is read. Assumes nothing: these are definitions.
use Rattle.std.specs.Prelude.{Bool, true, List, ℕ, ◌+◌, ◌*◌, ltb, leb, eqb, length}
use Rattle.base.specs.Bytes.{byte}
use Rattle.base.specs.Pick.{pick, both}
use Rattle.codes.specs.Rows.{name_role, variable_role, limits_of}
use Rattle.opening.specs.Opening.{version}
use Rattle.entries.specs.Fields.{field, role, entry_ok}

-- the counts S, T and P
abbrev pub symbols : List ℕ → ℕ
symbols s = byte s 5

abbrev pub terms : List ℕ → ℕ
terms s = byte s 6

abbrev pub steps : List ℕ → ℕ
steps s = byte s 7

-- where the terms and the steps begin
abbrev pub terms_at : List ℕ → ℕ
terms_at s = 8 + symbols s

abbrev pub steps_at : List ℕ → ℕ
steps_at s = 8 + symbols s + 3 * terms s

-- the sort byte of a symbol: 0 name, 1 variable
abbrev pub sort : List ℕ → ℕ → ℕ
sort s x = byte s (8 + x)

-- the fields of a term and of a step (a, b, x, y), and their roles
abbrev pub term_field : List ℕ → ℕ → ℕ → ℕ
term_field s i j = field s 0 (terms_at s) i j

abbrev pub term_role : List ℕ → ℕ → ℕ → ℕ
term_role s i j = role s 0 (terms_at s) i j

abbrev pub step_field : List ℕ → ℕ → ℕ → ℕ
step_field s k j = field s 1 (steps_at s) k j

abbrev pub step_role : List ℕ → ℕ → ℕ → ℕ
step_role s k j = role s 1 (steps_at s) k j

-- the counts are within their limits
unfoldable pub counts_ok : List ℕ → Bool
counts_ok s = both (leb (symbols s) 96) (both (leb (terms s) 128) (leb (steps s) 64))

-- the length is what the counts say
unfoldable pub length_ok : List ℕ → Bool
length_ok s = eqb (length s) (8 + symbols s + 3 * terms s + 5 * steps s)

unfoldable pub symbol_ok : List ℕ → ℕ → Bool
symbol_ok s i = ltb (sort s i) 2

-- field j of a step binds a symbol of its sort, or none: restriction binds a name, the others variables
unfoldable pub sort_ok : List ℕ → ℕ → ℕ → Bool
sort_ok s k j =
    pick (eqb (step_role s k j) name_role) (eqb (sort s (step_field s k j)) 0)
    (pick (eqb (step_role s k j) variable_role) (eqb (sort s (step_field s k j)) 1) true)

-- the code of step k is known, and its fields are in range
unfoldable pub step_in_range : List ℕ → ℕ → Bool
step_in_range s k = entry_ok s 1 (version s) (steps_at s) k (limits_of 0 (symbols s) 0 (terms s) 0)

unfoldable pub step_ok : List ℕ → ℕ → Bool
step_ok s k = both (step_in_range s k) (both (sort_ok s k 2) (sort_ok s k 3))
