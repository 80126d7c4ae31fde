-- What the reader of a role table answers: the least fault, or the counts. Assumes nothing: these are definitions.
use Rattle.std.specs.Prelude.{List, ℕ, Result, Ok, Err}
use Rattle.answers.specs.Ladder.{least, Check}
use Rattle.answers.specs.declared.Refusal.{Refusal}
use Rattle.table_layout.specs.Layout.{symbols, terms, steps}
use Rattle.table.specs.Faults.{table_rungs}
use Rattle.table.specs.declared.Counts.{Counts}

abbrev pub read_or : List ℕ → Check → Result Counts Refusal
read_or s (Ok _) = Ok (record { symbols = symbols s; terms = terms s; steps = steps s })
read_or s (Err x) = Err x

unfoldable pub table_read : List ℕ → Result Counts Refusal
table_read s = read_or s (least (table_rungs s))
