-- Tables of texts as files: a table's file stands for it, numbers 1 to 8 never arise from it, and an accepted file is a table that the writer's theorems
-- speak of. Assumes nothing: these are statements.
use Rattle.std.specs.Prelude.{◌≡◌, List, [], ◌∷◌, ℕ, ◌<◌, Ok}
use Rattle.answers.specs.Ladder.{least}
use Rattle.calculus.specs.Tables.{Table, process}
use Rattle.calculus.specs.Scope.{All, Scoped}
use Rattle.calculus.specs.Version1.{signature1}
use Rattle.table_binding.specs.Binding.{scope_rung}
use Rattle.table.specs.Faults.{table_rungs}
use Rattle.decoded.specs.Table.{table_of, table_bytes}
use Rattle.text.specs.Source.{Source}
use Rattle.text.specs.Places.{Reads}
use Rattle.text.specs.Numbering.{stands_for, InLimits}
use Rattle.text.specs.Writing.{source_of}
use Rattle.text.specs.Right.{Right}

-- a table's file stands for that table
abbrev pub FileStandsForTable : Type 0
FileStandsForTable = (t : Table signature1) → table_of (table_bytes t) ≡ t

-- the file of a table in form has only bytes
abbrev pub FileHasBytes : Type 0
FileHasBytes = (t : Table signature1) → Right t → InLimits t → All (λ b. b < 256) (table_bytes t)

-- of the numbers 1 to 9 only 9 can arise from it
abbrev pub OnlyNine : Type 0
OnlyNine = (t : Table signature1) → Right t → InLimits t → least (table_rungs (table_bytes t)) ≡ least (scope_rung (table_bytes t) ∷ [])

-- so it is with the table of a text, where its counts are within the limits
abbrev pub TextsOnlyNine : Type 0
TextsOnlyNine = (s : List ℕ) (d : Source) → Reads s d → InLimits (stands_for d) → least (table_rungs (table_bytes (stands_for d))) ≡ least (scope_rung (table_bytes (stands_for d)) ∷ [])

-- and 9 does not arise where every step is in scope
abbrev pub ScopedPasses : Type 0
ScopedPasses = (t : Table signature1) → Right t → InLimits t → Scoped signature1 (process signature1 t) → least (table_rungs (table_bytes t)) ≡ Ok tt

-- a file that passes 1 to 9 stands for a table in form, within its limits
abbrev pub AcceptedIsRight : Type 0
AcceptedIsRight = (s : List ℕ) → least (table_rungs s) ≡ Ok tt → Right (table_of s) × InLimits (table_of s)

-- what is read of the text written from such a file passes them too
abbrev pub ReadBackPasses : Type 0
ReadBackPasses = (s : List ℕ) → least (table_rungs s) ≡ Ok tt → least (table_rungs (table_bytes (stands_for (source_of (table_of s))))) ≡ Ok tt
