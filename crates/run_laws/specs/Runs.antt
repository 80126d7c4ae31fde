-- Demand 3, said of the three files: of a checked table, an accepted list and a checked trace that starts. Assumes nothing: these are
-- definitions.
use Rattle.std.specs.Prelude.{◌≡◌, List, ℕ, Ok}
use Rattle.answers.specs.Ladder.{least}
use Rattle.entries.specs.Tiling.{listed}
use Rattle.table_layout.specs.Layout.{symbols}
use Rattle.table.specs.Faults.{table_rungs}
use Rattle.trace.specs.Layout.{startings, starting}
use Rattle.trace.specs.Faults.{trace_rungs}
use Rattle.calculus.specs.Figure2.{Env}
use Rattle.calculus.specs.Typing.{widest, AnswerIs}
use Rattle.calculus.specs.Version1.{signature1}
use Rattle.rendering.specs.Rendering.{halves, Faithful}
use Rattle.running.specs.Demand3.{Starts, types_of, Demand3}
use Rattle.decoded.specs.Table.{table_of, free_of}
use Rattle.decoded.specs.Values.{values_of}
use Rattle.decoded_list.specs.Decoded.{Decoded}
use Rattle.decoded_list.specs.Statements.{statements_of}
use Rattle.decoded_list.specs.Bytes.{types_to}
use Rattle.machine.specs.Statements.{trace_of}

-- a table without faults 1 to 10, a list whose types are the widest and whose statements render the table faithfully (11 to 13), and a
-- trace without faults 1 to 6 whose starting values visibly have their types (14): the run keeps demand 3
abbrev pub AcceptedRunsKeepDemand3 : Type 0
AcceptedRunsKeepDemand3 = (t l tr : List ℕ) (Γ : Env signature1) → least (table_rungs t) ≡ Ok tt → AnswerIs signature1 (table_of t) (widest Γ) → (d : Decoded l)
    → d.types ≡ types_to Γ (symbols t) → Faithful signature1 halves (table_of t) (statements_of l) → least (trace_rungs tr) ≡ Ok tt
    → Starts signature1 (types_of signature1 d.types) (values_of tr) (free_of t) (listed (starting tr) 0 (startings tr))
    → Demand3 signature1 (table_of t) (types_of signature1 d.types) (statements_of l) (trace_of tr)
