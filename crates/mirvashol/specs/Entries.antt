-- The eight entries of each answer: number, file, place, and what was read where nothing is refused.
-- Assumes nothing: these are definitions.
use Rattle.std.specs.Prelude.{List, [], ◌∷◌, ℕ, ◌-◌, leb, Option, Some, None, Result, Ok, Err}
use Rattle.base.specs.Pick.{pick}
use Rattle.answers.specs.Ladder.{least, Check}
use Rattle.answers.specs.declared.Refusal.{Refusal}
use Rattle.table_layout.specs.Layout as table
use Rattle.table.specs.Faults.{table_rungs}
use Rattle.list.specs.Layout as list
use Rattle.list.specs.Faults.{list_rungs}
use Rattle.list.specs.TypeOf.{part_of}
use Rattle.std.specs.declared.ops.Range.{Range}
use Rattle.machine.specs.declared.Ran.{Ran}
use Rattle.trace.specs.Layout as trace
use Rattle.trace.specs.Faults.{trace_rungs}

-- a refusal: number, file, place
abbrev pub refusal_entries : Refusal → List ℕ
refusal_entries x = x.number ∷ x.file ∷ x.place ∷ 0 ∷ 0 ∷ 0 ∷ 0 ∷ 0 ∷ []

-- a refusal, or three numbers that were read
abbrev pub entries_of : Check → ℕ → ℕ → ℕ → List ℕ
entries_of (Ok tt) a b c = 0 ∷ 0 ∷ 0 ∷ a ∷ b ∷ c ∷ 0 ∷ 0 ∷ []
entries_of (Err x) a b c = refusal_entries x

-- a refusal, or the number of bytes written
abbrev pub written_entries : Result ℕ Refusal → List ℕ
written_entries (Ok n) = 0 ∷ 0 ∷ 0 ∷ n ∷ 0 ∷ 0 ∷ 0 ∷ 0 ∷ []
written_entries (Err x) = refusal_entries x

-- a table: S, T, P
unfoldable pub table_entries : List ℕ → List ℕ
table_entries s = entries_of (least (table_rungs s)) (table.symbols s) (table.terms s) (table.steps s)

-- a list where the table has so many free symbols: S, N, and where the statements begin
-- (a register is named by a byte, so that more free symbols than 65,535 are as many)
unfoldable pub list_entries : List ℕ → ℕ → List ℕ
list_entries s free =
    entries_of (least (list_rungs s (pick (leb free 65535) free 65535))) (list.symbols s) (list.statements s) (list.statements_at s)

-- a trace: V, K, F
unfoldable pub trace_entries : List ℕ → List ℕ
trace_entries s = entries_of (least (trace_rungs s)) (trace.values s) (trace.supplies s) (trace.startings s)

-- the part of a list that holds a symbol's type: where it starts and how long it is; 0 0 where it is empty
abbrev pub part_entries : Option (Range ℕ) → List ℕ
part_entries (Some part) = 0 ∷ 0 ∷ 0 ∷ part.start ∷ (part.end - part.start) ∷ 0 ∷ 0 ∷ 0 ∷ []
part_entries None = 0 ∷ 0 ∷ 0 ∷ 0 ∷ 0 ∷ 0 ∷ 0 ∷ 0 ∷ []

unfoldable pub type_of_entries : List ℕ → ℕ → List ℕ
type_of_entries s x = part_entries (part_of s x)

-- a run: ending, statement index, supplies used, messages logged, values in the table
abbrev pub run_entries : Result Ran Refusal → List ℕ
run_entries (Ok r) = 0 ∷ 0 ∷ 0 ∷ r.ending ∷ r.place ∷ r.used ∷ r.logged ∷ r.count ∷ []
run_entries (Err x) = refusal_entries x
