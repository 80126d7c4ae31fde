-- Demand 3 of the runs of accepted lists on checked traces. Assumes nothing.
use mathlib.Core.Path.{◌≡◌}
use mathlib.Core.List.{List}
use Prim.Native.Nat.{ℕ, ◌<◌}
use native.Mathlib.Omega.{arith}
use lib.ListN.{length}
use Rattle.answers.specs.Ladder.{least}
use Rattle.entries.specs.Tiling.{listed}
use Rattle.entries.proofs.Tiling.{listed_length}
use Rattle.table_layout.specs.Layout.{symbols}
use Rattle.table.specs.Faults.{table_rungs}
use Rattle.trace.specs.Layout.{values, supplies, startings, starting, supply}
use Rattle.trace.specs.Faults.{trace_rungs}
use Rattle.trace.proofs.Passes.{trace_passes}
use Rattle.types.specs.Types.{Message}
use Rattle.types.specs.Version1.{T}
use Rattle.calculus.specs.Figure2.{Env}
use Rattle.calculus.specs.Tables.{process}
use Rattle.calculus.specs.Scope.{All}
use Rattle.calculus.specs.Typing.{Typed, widest, AnswerIs, is_widest}
use Rattle.calculus.specs.Version1.{signature1}
use Rattle.calculus.proofs.Lists.{all_of}
use Rattle.rendering.specs.Rendering.{halves}
use Rattle.running.specs.Demand3.{CheckedTrace, types_of}
use Rattle.running.proofs.Version1Laws.{demand_3_holds1}
use Rattle.decoded.specs.Table.{sort_at, table_of}
use Rattle.decoded.specs.Values.{values_of}
use Rattle.decoded.proofs.Listed.{listed_in, listed_all_at}
use Rattle.decoded.proofs.Checked.{table_checked}
use Rattle.decoded.proofs.ValueLaws.{values_length}
use Rattle.decoded.proofs.TraceValues.{trace_values}
use Rattle.decoded_list.specs.Statements.{statements_of}
use Rattle.decoded_list.specs.Bytes.{types_to}
use Rattle.statement_counts.proofs.Ranged.{in_range}
use Rattle.machine.specs.Statements.{trace_of}
use Rattle.run_laws.specs.Runs.{AcceptedRunsKeepDemand3}
use Rattle.run_laws.proofs.Agreeing.{typed_same}
use Rattle.run_laws.proofs.Occurring.{process_below}
use Rattle.std.proofs.Common.{Ok}

-- ── The types of a list ──

-- a process that is typed under Γ is typed under the list of Γ's types, with Message outside it
pub typed_under_list : (t : List ℕ) (Γ : Env signature1) (As : List T) → least (table_rungs t) ≡ Ok tt → As ≡ types_to Γ (symbols t)
    → Typed signature1 Γ (process signature1 (table_of t)) → Typed signature1 (types_of signature1 As) (process signature1 (table_of t))
typed_under_list t Γ As e q ty = typed_same signature1 (length (table_of t).sorts) Γ (types_of signature1 As) same ty (process_below (table_of t) (table_checked t e) (in_range t e))
  where
    same : (x : ℕ) → x < length (table_of t).sorts → types_of signature1 As x ≡ Γ x
    same x h = rw q (listed_all_at Γ Message (symbols t) x (rw (listed_length (sort_at t) 0 (symbols t)) at h))

-- the widest typing is a typing
widest_typed : (t : List ℕ) (Γ : Env signature1) → AnswerIs signature1 (table_of t) (widest Γ) → Typed signature1 Γ (process signature1 (table_of t))
widest_typed t Γ (is_widest p h) = p.1

-- ── The trace ──

-- indexes below V name values
named : (tr : List ℕ) (f : ℕ → ℕ) (n : ℕ) → ((i : ℕ) → i < n → f i < values tr) → All (λ i. i < length (values_of tr)) (listed f 0 n)
named tr f n h = all_of (listed f 0 n) (λ x a. let (k, l, u, e) = listed_in f 0 n a in rw (e, values_length tr) (h k (omega arith)))

-- a trace that passes 1 to 6 is checked in the meaning's sense
pub checked_trace : (tr : List ℕ) → least (trace_rungs tr) ≡ Ok tt → CheckedTrace signature1 (trace_of tr)
unfolding trace_of
checked_trace tr e =
    let v = trace_values tr e in
    let s = ((trace_passes tr).0 e).values_right in
    record {
      closed = v.0;
      once = v.1;
      starts = named tr (starting tr) (startings tr) s.each_starting;
      supplies = named tr (supply tr) (supplies tr) s.each_supply;
    }

-- ── Demand 3 ──

pub accepted_runs_keep_demand_3 : AcceptedRunsKeepDemand3
unfolding trace_of
accepted_runs_keep_demand_3 t l tr Γ e a d q f k st =
    demand_3_holds1 halves (table_of t) (types_of signature1 d.types) (statements_of l) (trace_of tr) (table_checked t e)
    (typed_under_list t Γ d.types e q (widest_typed t Γ a)) f (checked_trace tr k) st
