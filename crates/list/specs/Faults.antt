-- The faults of a statement list by itself, numbers 1 to 5. Assumes nothing: these are definitions.
use Rattle.std.specs.Prelude.{List, [], ◌∷◌, ◌++◌, ℕ}
use Rattle.answers.specs.Ladder.{Rung}
use Rattle.opening.specs.Opening.{framed}
use Rattle.entries.specs.Fields.{place_of}
use Rattle.list.specs.Layout.{symbols, statements, type_at, statements_at, counts_ok, length_ok, type_ok, statement_ok}

-- 1 to 4: header and mark, version, counts, length
abbrev pub frame_rungs : List ℕ → List Rung
frame_rungs s = framed 1 s (counts_ok s) (length_ok s)

-- 5: a type, at the offset of its length byte
abbrev pub type_rung : List ℕ → Rung
type_rung s = record { number = 5; file = 1; count = symbols s; ok = type_ok s; place = type_at s }

-- 5: a statement, at its offset; free is the number of the table's free symbols
abbrev pub statement_rung : List ℕ → ℕ → Rung
statement_rung s free =
    record { number = 5; file = 1; count = statements s; ok = statement_ok s free; place = place_of 2 (statements_at s) }

-- what type_of asks: 1 to 4, and the types
abbrev pub type_rungs : List ℕ → List Rung
type_rungs s = frame_rungs s ++ (type_rung s ∷ [])

-- 1 to 5
abbrev pub list_rungs : List ℕ → ℕ → List Rung
list_rungs s free = type_rungs s ++ (statement_rung s free ∷ [])
