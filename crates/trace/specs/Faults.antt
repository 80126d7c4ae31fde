-- The faults of a trace as rungs, numbers 1 to 6. Assumes nothing: these are definitions.
use Rattle.std.specs.Prelude.{List, [], ◌∷◌, ◌++◌, ℕ}
use Rattle.answers.specs.Ladder.{Rung}
use Rattle.entries.specs.Faults.{node_rung, twin_rung}
use Rattle.opening.specs.Opening.{version, framed}
use Rattle.trace.specs.Layout.{values, supplies, startings, starts_at, supplies_at, index_place, index_ok, counts_ok, length_ok}

-- numbers 1 to 4: the parts of the trace are there
abbrev pub frame_rungs : List ℕ → List Rung
frame_rungs s = framed 2 s (counts_ok s) (length_ok s)

-- number 5 of the values
abbrev pub value_rung : List ℕ → Rung
value_rung s = node_rung s 3 2 (version s) 10 0 (values s)

-- number 5 of the 16-bit indexes from a base offset on, each at its own offset
abbrev pub index_rung : List ℕ → ℕ → ℕ → ℕ → ℕ → Rung
index_rung s file base limit count =
    record { number = 5; file = file; count = count; ok = index_ok s base limit; place = index_place base }

-- number 5 of the starting values, and of the supply
abbrev pub start_rung : List ℕ → Rung
start_rung s = index_rung s 2 (starts_at s) (values s) (startings s)

abbrev pub supply_rung : List ℕ → Rung
supply_rung s = index_rung s 2 (supplies_at s) (values s) (supplies s)

abbrev pub held_rungs : List ℕ → List Rung
held_rungs s = start_rung s ∷ supply_rung s ∷ []

-- number 5, in the order of the file
abbrev pub entry_rungs : List ℕ → List Rung
entry_rungs s = value_rung s ∷ held_rungs s

-- number 6: a value equal to an earlier one
abbrev pub equal_rung : List ℕ → Rung
equal_rung s = twin_rung s 3 2 10 (values s)

-- numbers 5 and 6
abbrev pub rest_rungs : List ℕ → List Rung
rest_rungs s = entry_rungs s ++ equal_rung s ∷ []

-- all faults of a trace, in document 01's order
abbrev pub trace_rungs : List ℕ → List Rung
trace_rungs s = frame_rungs s ++ rest_rungs s
