-- What is expected of an example, and what the meaning layer's own functions give for it: both as outcomes, which can be compared by
-- computation. Assumes nothing: these are definitions.
use mathlib.Core.Bool.{Bool, true, false, ◌&&◌}
use mathlib.Core.List.{List, [], ◌∷◌}
use Prim.Native.Nat.{ℕ, ◌-◌}
use lib.ListN.{length}
use Rattle.answers.specs.Ladder.{refusal, least, Check}
use Rattle.answers.specs.declared.Refusal.{Refusal}
use Rattle.entries.specs.Tiling.{listed, joined}
use Rattle.table_layout.specs.Layout.{symbols}
use Rattle.table.specs.Faults.{table_rungs}
use Rattle.list.specs.Faults.{list_rungs}
use Rattle.trace.specs.Layout.{supplies, startings, starting}
use Rattle.trace.specs.Faults.{trace_rungs}
use Rattle.types.specs.Version1.{T}
use Rattle.calculus.specs.Terms.{Atom}
use Rattle.calculus.specs.Tables.{Entry}
use Rattle.calculus.specs.Figure2.{Env}
use Rattle.calculus.specs.Typing.{Answer, widest, untyped}
use Rattle.calculus.specs.Inference.{infer}
use Rattle.calculus.specs.Version1.{signature1}
use Rattle.rendering.specs.Rendering.{halves}
use Rattle.rendering.specs.Judge.{judge}
use Rattle.rendering.specs.Lists.{StatementList}
use Rattle.running.specs.Values.{visible, index}
use Rattle.running.specs.Acts.{number_of, typed as by_types, Result}
use Rattle.running.specs.Demand3.{types_of, said}
use Rattle.decoded.specs.Table.{table_of, free_count, free_of}
use Rattle.decoded.specs.Values.{values_of}
use Rattle.decoded_list.specs.Bytes.{list_bytes, types_to}
use Rattle.decoded_list.specs.Statements.{statements_of}
use Rattle.value_table.specs.Values.{value_bytes}
use Rattle.run_parts.specs.Messages.{message_bytes}
use Rattle.machine.specs.Statements.{trace_of, run_of}
use Rattle.machine.specs.declared.Ran.{Ran}
use Rattle.type_service.specs.Services.{types_file}
use Rattle.compile_service.specs.Files.{list_file}
use Rattle.judge_service.specs.Judged.{verdict_check}
use Rattle.run_service.specs.Read.{process_of}
use Rattle.worked.specs.Examples.{Messages, Example, refused_table, typed, compiled, judged_as, ran_as}
use Rattle.std.proofs.Common.{Ok, Err}

-- ── Tables ──

-- what numbers 1 to 10 say of a table: refused, or its widest types
pub data Typing : Type 0 where
  turned_down : Refusal → Typing
  types_are : Env signature1 → Typing

-- by inference
unfoldable pub inferred : Answer signature1 → Typing
inferred (widest Γ) = types_are Γ
inferred (untyped k) = turned_down (refusal 10 0 k)

-- by the checks 1 to 9 before it
unfoldable pub checked : Check → Answer signature1 → Typing
checked (Ok tt) a = inferred a
checked (Err x) a = turned_down x

-- of a table's bytes
unfoldable pub typing_of : List ℕ → Typing
typing_of t = checked (least (table_rungs t)) (infer signature1 (table_of t))

-- ── Outcomes ──

-- the judge's answer, with the file that was judged; how a run goes, after the judge's outcome, the trace's checks and number 14
pub data Outcome : Type 0 where
  refuses : Refusal → Outcome
  writes : List ℕ → Outcome
  judges : Check → List ℕ → Outcome
  runs : Outcome → Check → Bool → Ran → List ℕ → List ℕ → Messages → Messages → Outcome

-- what is expected
unfoldable pub expected : Example → Outcome
expected (refused_table t x) = refuses x
expected (typed t bytes) = writes bytes
expected (compiled t bytes) = writes bytes
expected (judged_as t l c) = judges c l
expected (ran_as t l tr r v o told all) = runs (judges (Ok tt) l) (Ok tt) true r v o told all

-- a file that is made of the widest types
unfoldable pub file_outcome : (Env signature1 → List ℕ) → Typing → Outcome
file_outcome file (turned_down x) = refuses x
file_outcome file (types_are Γ) = writes (file Γ)

-- a list of the widest types with the statements of l
abbrev pub as_widest : List ℕ → List ℕ → Env signature1 → StatementList signature1
as_widest t l Γ = record { types = types_to Γ (symbols t); statements = statements_of l }

-- a list after its checks 1 to 5
unfoldable pub list_outcome : List ℕ → List ℕ → Env signature1 → Check → Outcome
list_outcome t l Γ (Ok tt) = judges (verdict_check (judge signature1 halves (table_of t) (statements_of l))) (list_bytes (as_widest t l Γ))
list_outcome t l Γ (Err x) = judges (Err x) l

-- a list after the table's typing
unfoldable pub judge_outcome : List ℕ → List ℕ → Typing → Outcome
judge_outcome t l (turned_down x) = judges (Err x) l
judge_outcome t l (types_are Γ) = list_outcome t l Γ (least (list_rungs l (free_count t)))

-- each free symbol has a starting value that visibly has its type
unfoldable pub starts_ok : (ℕ → T) → List (Entry signature1 Atom) → List ℕ → List ℕ → Bool
starts_ok Γ es [] [] = true
starts_ok Γ es [] (i ∷ is) = false
starts_ok Γ es (x ∷ xs) [] = false
starts_ok Γ es (x ∷ xs) (i ∷ is) = visible signature1 (index signature1 es) (Γ x) i && starts_ok Γ es xs is

-- the answer that tells how a run on the trace tr went
unfoldable pub ran_of : List ℕ → Result ℕ (List (Entry signature1 Atom)) → Ran
ran_of tr R = record {
  ending = number_of R.ending;
  place = R.place;
  used = supplies tr - length R.rest;
  logged = length R.log;
  count = length R.store;
}

-- a run under the types As
unfoldable pub result_outcome : List ℕ → List ℕ → List ℕ → List T → Outcome → Outcome
result_outcome t l tr As j =
    let R = run_of l tr As in
    runs j (least (trace_rungs tr)) (starts_ok (types_of signature1 As) (values_of tr) (free_of t) (listed (starting tr) 0 (startings tr))) (ran_of tr R)
    (joined value_bytes R.store) (joined message_bytes R.log) (said signature1 (by_types (types_of signature1 As)) (statements_of l) (trace_of tr)) (process_of t tr).log

-- a run after the table's typing
unfoldable pub run_outcome : List ℕ → List ℕ → List ℕ → Typing → Outcome
run_outcome t l tr (turned_down x) = refuses x
run_outcome t l tr (types_are Γ) = result_outcome t l tr (types_to Γ (symbols t)) (list_outcome t l Γ (least (list_rungs l (free_count t))))

-- what is computed
unfoldable pub computed : Example → Outcome
computed (refused_table t x) = file_outcome (types_file t) (typing_of t)
computed (typed t bytes) = file_outcome (types_file t) (typing_of t)
computed (compiled t bytes) = file_outcome (list_file t) (typing_of t)
computed (judged_as t l c) = judge_outcome t l (typing_of t)
computed (ran_as t l tr r v o told all) = run_outcome t l tr (typing_of t)
