-- The faults of terms and of values as rungs: number 5, an entry out of order, and number 6, an entry equal to an earlier one.
-- Assumes nothing: these are definitions.
use Rattle.std.specs.Prelude.{Bool, not, List, ℕ}
use Rattle.base.specs.Search.{first, all_right}
use Rattle.answers.specs.Ladder.{Rung}
use Rattle.codes.specs.Rows.{atom_kinds, limits_of}
use Rattle.entries.specs.Fields.{place_of, entry_ok, same_entry}

-- a term or a value is in order among its symbols: its parts are lower
unfoldable pub node_ok : List ℕ → ℕ → ℕ → ℕ → ℕ → ℕ → Bool
node_ok s kind version base symbols i = entry_ok s kind version base i (limits_of i symbols (atom_kinds version) 0 0)

-- number 5, at the entry's offset
abbrev pub node_rung : List ℕ → ℕ → ℕ → ℕ → ℕ → ℕ → ℕ → Rung
node_rung s kind file version base symbols count =
    record { number = 5; file = file; count = count; ok = node_ok s kind version base symbols; place = place_of kind base }

-- an entry has no equal before it
unfoldable pub alone : List ℕ → ℕ → ℕ → ℕ → Bool
alone s kind base i = all_right (first (λ j. not (same_entry s kind base i j)) 0 i)

-- number 6, at the entry's index
abbrev pub twin_rung : List ℕ → ℕ → ℕ → ℕ → ℕ → Rung
twin_rung s kind file base count =
    record { number = 6; file = file; count = count; ok = alone s kind base; place = λ i. i }
