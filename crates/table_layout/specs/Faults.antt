-- The faults of a role table that its frame and its entries show, numbers 1 to 5. Assumes nothing: these are definitions.
use Rattle.std.specs.Prelude.{List, [], ◌∷◌, ℕ, ◌+◌}
use Rattle.answers.specs.Ladder.{Rung}
use Rattle.opening.specs.Opening.{version, framed}
use Rattle.entries.specs.Fields.{place_of}
use Rattle.entries.specs.Faults.{node_rung}
use Rattle.table_layout.specs.Layout.{symbols, terms, steps, terms_at, steps_at, counts_ok, length_ok, symbol_ok, step_ok}

-- 1 to 4: header, mark, version, counts, length
abbrev pub frame_rungs : List ℕ → List Rung
frame_rungs s = framed 0 s (counts_ok s) (length_ok s)

-- 5: symbols, then terms, then steps, at their offsets
abbrev pub symbol_rung : List ℕ → Rung
symbol_rung s = record { number = 5; file = 0; count = symbols s; ok = symbol_ok s; place = λ i. 8 + i }

abbrev pub term_rung : List ℕ → Rung
term_rung s = node_rung s 0 0 (version s) (terms_at s) (symbols s) (terms s)

abbrev pub step_rung : List ℕ → Rung
step_rung s = record { number = 5; file = 0; count = steps s; ok = step_ok s; place = place_of 1 (steps_at s) }

abbrev pub entry_rungs : List ℕ → List Rung
entry_rungs s = symbol_rung s ∷ term_rung s ∷ step_rung s ∷ []
