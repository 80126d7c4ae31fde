-- What a run of a judged list on a trace answers and writes: document 01's "Runs". Assumes nothing: these are definitions.
use Rattle.std.specs.Prelude.{◌≡◌, List, ℕ, ◌+◌, ◌-◌, ◌*◌, ◌≤◌, length, Ok}
use Rattle.answers.specs.Ladder.{least}
use Rattle.buffers.specs.Over.{over}
use Rattle.entries.specs.Tiling.{listed, joined}
use Rattle.list.specs.Faults.{list_rungs}
use Rattle.trace.specs.Layout.{values, supplies, startings, starting, supply}
use Rattle.trace.specs.Faults.{trace_rungs}
use Rattle.types.specs.Version1.{T}
use Rattle.calculus.specs.Terms.{Atom}
use Rattle.calculus.specs.Tables.{Entry}
use Rattle.calculus.specs.Version1.{signature1}
use Rattle.running.specs.Acts.{number_of, typed, Result}
use Rattle.running.specs.Demand3.{Trace, builds, messages, types_of, list_run}
use Rattle.decoded.specs.Values.{values_of}
use Rattle.decoded_list.specs.Statements.{statements_of}
use Rattle.value_table.specs.Values.{value_bytes}
use Rattle.run_parts.specs.Messages.{message_bytes}
use Rattle.run_parts.specs.Types.{TypesAre}
use Rattle.machine.specs.declared.Ran.{Ran}

-- what a trace's bytes stand for: its values, the starting values, the supply
unfoldable pub trace_of : List ℕ → Trace signature1
trace_of tr = record {
  values = values_of tr;
  starting = listed (starting tr) 0 (startings tr);
  supply = listed (supply tr) 0 (supplies tr);
}

-- the run of the list l, under the types As, on the trace tr
unfoldable pub run_of : List ℕ → List ℕ → List T → Result ℕ (List (Entry signature1 Atom))
run_of l tr As = list_run signature1 (typed (types_of signature1 As)) (statements_of l) (trace_of tr)

-- the answer r and the buffers, z now v and y now o, say how the run R went
pub record Told (tr z v y o : List ℕ) (R : Result ℕ (List (Entry signature1 Atom))) (r : Ran) : Type 0 where
  pub ending : r.ending ≡ number_of R.ending
  pub place : r.place ≡ R.place
  pub used : r.used ≡ supplies tr - length R.rest
  pub logged : r.logged ≡ length R.log
  pub count : r.count ≡ length R.store
  pub values_written : v ≡ over (joined value_bytes R.store) z
  pub messages_written : o ≡ over (joined message_bytes R.log) y

-- a list and a trace that pass their checks, and buffers with room for what the list may make and say
pub record StatementsRun (l tr z v y o : List ℕ) (r : Ran) : Type 0 where
  pub ran : (As : List T) → TypesAre l As → least (list_rungs l (startings tr)) ≡ Ok tt → least (trace_rungs tr) ≡ Ok tt
      → 5 * (values tr + builds signature1 (statements_of l)) ≤ length z → 5 * messages signature1 (statements_of l) ≤ length y
      → Told tr z v y o (run_of l tr As) r
