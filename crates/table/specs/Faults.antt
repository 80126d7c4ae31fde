-- The faults of a role table, numbers 1 to 9, in document 01's order. Assumes nothing: these are definitions.
use Rattle.std.specs.Prelude.{List, ◌++◌, ℕ}
use Rattle.answers.specs.Ladder.{Rung}
use Rattle.table_layout.specs.Faults.{frame_rungs, entry_rungs}
use Rattle.table_naming.specs.Naming.{term_rungs}
use Rattle.table_binding.specs.Binding.{bind_rungs}

abbrev pub table_rungs : List ℕ → List Rung
table_rungs s = frame_rungs s ++ (entry_rungs s ++ (term_rungs s ++ bind_rungs s))
