-- `run_service::check_run` meets its contract. Assumes nothing.
use Rattle.answers.proofs.Layers.{passed_on}
use mathlib.Core.Path.{◌≡◌, sym, ◌∙◌}
use mathlib.Core.List.{List}
use Prim.Native.Nat.{ℕ, ◌+◌, ◌*◌, ◌≤◌}
use native.Mathlib.Omega.{arith}
use lib.ListN.{length}
use Rattle.answers.specs.Ladder.{least, Check}
use Rattle.entries.specs.Words.{Bytes}
use Rattle.entries.proofs.Words.{slice_bytes}
use Rattle.trace.specs.Layout.{values}
use Rattle.trace.specs.Faults.{trace_rungs}
use Rattle.calculus.specs.Version1.{signature1}
use Rattle.running.specs.Demand3.{builds}
use Rattle.decoded_list.specs.Statements.{statements_of}
use Rattle.starting.specs.Fourteen.{StartsChecked}
use Rattle.type_service.specs.Services.{RoomChecked}
use Rattle.type_service.proofs.ServiceLaws.{room_left}
use Rattle.judge_service.specs.Judged.{Judged}
use Rattle.run_service.specs.Runs.{value_need}
use Rattle.run_service.proofs.Stages.{Started, started, sound, judge_stops, trace_stops, starts_stop, values_stop, messages_left}
use Rattle.run_service.proofs.check_run.Goals as goal
use Rattle.std.proofs.Common.{Ok}

-- the judge accepts the list
judged : (t l : List ℕ) (a : Check) → Judged t l a → a ≡ Ok tt → Judged t l (Ok tt)
judged t l a j e = rw e at j

-- number 14 is tested
tested : (t l tr : List ℕ) (a b c : Check) → Bytes l → Judged t l a → a ≡ Ok tt → b ≡ least (trace_rungs tr) → b ≡ Ok tt → StartsChecked t l tr c → Started t l tr c
tested t l tr a b c h j e k f s = started t l tr h (judged t l a j e) (sym k ∙ f) c s

-- so many bytes are needed for the values
needed : (l tr : List ℕ) (v b : ℕ) → v ≡ values tr → b ≡ builds signature1 (statements_of l) → 5 * (v + b) ≡ value_need l tr
needed l tr v b e f = omega arith

-- number 15 of the values' buffer is passed
room_there : (l tr z : List ℕ) (v b : ℕ) (d : Check) → v ≡ values tr → b ≡ builds signature1 (statements_of l) → RoomChecked (5 * (v + b)) (length z) d → d ≡ Ok tt → value_need l tr ≤ length z
room_there l tr z v b d e f r q = rw (needed l tr v b e f) at (room_left _ _ _ r q)

pub returns-in_err-judge_list : goal.returns-in_err-judge_list
returns-in_err-judge_list c = judge_stops _ _ _ _ _ _ _ _ c.judge_list.ensures c.in_err-judge_list.was (passed_on c.from_residual.ensures.1)

pub returns-in_err-check_trace : goal.returns-in_err-check_trace
returns-in_err-check_trace c = trace_stops _ _ _ _ _ (judged _ _ _ c.judge_list.ensures c.in_ok-judge_list.was) _ _ _ c.check_trace.ensures c.in_err-check_trace.was (passed_on c.from_residual-in_err-check_trace.ensures.1)

pub returns-in_err-check_starts : goal.returns-in_err-check_starts
returns-in_err-check_starts c =
    let s = tested _ _ _ _ _ _ (slice_bytes c.args.list.now c.type_inv.list) c.judge_list.ensures c.in_ok-judge_list.was c.check_trace.ensures c.in_ok-check_trace.was c.check_starts.ensures in
    starts_stop _ _ _ _ _ _ _ _ s c.in_err-check_starts.was (passed_on c.from_residual-in_err-check_starts.ensures.1)

pub returns-in_err-check_room : goal.returns-in_err-check_room
returns-in_err-check_room c =
    let s = tested _ _ _ _ _ _ (slice_bytes c.args.list.now c.type_inv.list) c.judge_list.ensures c.in_ok-judge_list.was c.check_trace.ensures c.in_ok-check_trace.was c.check_starts.ensures in
    let n = needed c.args.list.now c.args.trace.now _ _ c.value_count.ensures c.build_count.ensures in
    values_stop _ _ _ _ _ (sound _ _ _ _ s c.in_ok-check_starts.was) _ _ _ _ n c.check_room.ensures c.in_err-check_room.was (passed_on c.from_residual-in_err-check_room.ensures.1)

pub returns : goal.returns
returns c =
    let s = tested _ _ _ _ _ _ (slice_bytes c.args.list.now c.type_inv.list) c.judge_list.ensures c.in_ok-judge_list.was c.check_trace.ensures c.in_ok-check_trace.was c.check_starts.ensures in
    let h = room_there c.args.list.now c.args.trace.now c.args.values.now _ _ _ c.value_count.ensures c.build_count.ensures c.check_room.ensures c.in_ok-check_room.was in
    messages_left _ _ _ _ _ (sound _ _ _ _ s c.in_ok-check_starts.was) h _ _ (omega (arith, c.message_count.ensures)) c.check_room-2.ensures
