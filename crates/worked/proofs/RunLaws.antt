-- What is computed of a run leaves the run service no other answer. Assumes nothing.
use mathlib.Core.Path.{◌≡◌, refl, sym, ap, ◌∙◌}
use mathlib.Core.Bool.{true, false≢true}
use mathlib.Core.List.{List, [], ◌∷◌}
use Prim.Native.Nat.{ℕ, suc, ◌≤◌}
use native.Mathlib.Omega.{arith}
use lib.ListN.{length}
use Rattle.answers.specs.Ladder.{least}
use Rattle.entries.specs.Tiling.{listed, joined}
use Rattle.entries.proofs.Tiling.{listed_length}
use Rattle.table_layout.specs.Layout.{symbols}
use Rattle.list.specs.Faults.{list_rungs}
use Rattle.trace.specs.Layout.{startings, starting}
use Rattle.trace.specs.Faults.{trace_rungs}
use Rattle.buffers.specs.Over.{over}
use Rattle.types.specs.Version1.{T}
use Rattle.calculus.specs.Terms.{Atom}
use Rattle.calculus.specs.Tables.{Entry}
use Rattle.calculus.specs.Figure2.{Env}
use Rattle.calculus.specs.Version1.{signature1}
use Rattle.rendering.proofs.Base.{and_left, and_right}
use Rattle.running.specs.Values.{visible, index}
use Rattle.running.specs.Acts.{Result, typed as by_types}
use Rattle.running.specs.Demand3.{Starts, starts_nil, starts_cons, types_of, said}
use Rattle.decoded.specs.Values.{values_of}
use Rattle.decoded.specs.Table.{free_count, free_of}
use Rattle.decoded_list.specs.Decoded.{Decoded}
use Rattle.decoded_list.specs.Statements.{statements_of}
use Rattle.decoded_list.specs.Bytes.{types_to}
use Rattle.value_table.specs.Values.{value_bytes}
use Rattle.run_parts.specs.Messages.{message_bytes}
use Rattle.machine.specs.Statements.{run_of, Told, trace_of}
use Rattle.machine.specs.declared.Ran.{Ran}
use Rattle.starting.specs.Fourteen.{Fourteen, starts}
use Rattle.type_service.specs.Services.{IsWidest}
use Rattle.run_service.specs.Runs.{value_need, message_need, Sound, RunAnswered, ran}
use Rattle.run_service.specs.Read.{process_of}
use Rattle.run_service.proofs.ReadBack.{run_reads_back}
use Rattle.worked.specs.Examples.{Messages, Runs}
use Rattle.worked.proofs.Computed.{Typing, judges, runs, list_outcome, starts_ok, ran_of, result_outcome, run_outcome}
use Rattle.worked.proofs.TableLaws.{only_run, TypingIs, is_refused, is_typed, list_outcome_lem, list_decoded}
use Rattle.std.proofs.Common.{Ok}

-- ── Number 14 ──

-- the test of number 14 is right
starts_ok_lem : (Γ : ℕ → T) (es : List (Entry signature1 Atom)) (xs is : List ℕ) → starts_ok Γ es xs is ≡ true → Starts signature1 Γ es xs is
unfolding starts_ok
starts_ok_lem Γ es [] [] e = starts_nil
starts_ok_lem Γ es [] (i ∷ is) e = absurd (false≢true e)
starts_ok_lem Γ es (x ∷ xs) [] e = absurd (false≢true e)
starts_ok_lem Γ es (x ∷ xs) (i ∷ is) e =
    let v = visible signature1 (index signature1 es) (Γ x) i in
    starts_cons (and_left v (starts_ok Γ es xs is) e) (starts_ok_lem Γ es xs is (and_right v (starts_ok Γ es xs is) e))

-- as many starting values as free symbols
as_many : {Γ : ℕ → T} {es : List (Entry signature1 Atom)} {xs is : List ℕ} → Starts signature1 Γ es xs is → length is ≡ length xs
as_many starts_nil = refl
as_many (starts_cons v s) = ap (λ (n : ℕ). suc n) (as_many s)

-- so number 14 does not apply
fourteen_passes : (t : List ℕ) (As : List T) (tr : List ℕ) → starts_ok (types_of signature1 As) (values_of tr) (free_of t) (listed (starting tr) 0 (startings tr)) ≡ true → Fourteen t As tr (Ok tt)
fourteen_passes t As tr e =
    let s = starts_ok_lem (types_of signature1 As) (values_of tr) (free_of t) (listed (starting tr) 0 (startings tr)) e in
    starts (sym (listed_length (starting tr) 0 (startings tr)) ∙ as_many s) s

-- ── The run ──

-- a run and the answer made of it
told_of : (tr z y : List ℕ) (R : Result ℕ (List (Entry signature1 Atom))) → Told tr z (over (joined value_bytes R.store) z) y (over (joined message_bytes R.log) y) R (ran_of tr R)
unfolding ran_of
told_of tr z y R = record { ending = refl; place = refl; used = refl; logged = refl; count = refl; values_written = refl; messages_written = refl }

-- a run is computed
module _ (t l tr : List ℕ) (r : Ran) (values messages : List ℕ) (told all : Messages) where
  -- under the widest types
  result_runs : (Γ : Env signature1) → IsWidest t Γ
      → result_outcome t l tr (types_to Γ (symbols t)) (list_outcome t l Γ (least (list_rungs l (free_count t)))) ≡ runs (judges (Ok tt) l) (Ok tt) true r values messages told all
      → Runs t l tr r values messages told all
  unfolding result_outcome run_of
  result_runs Γ w e =
      let As = types_to Γ (symbols t) in
      let R = run_of l tr As in
      let judged : list_outcome t l Γ (least (list_rungs l (free_count t))) ≡ judges (Ok tt) l = cc in
      let sound : least (trace_rungs tr) ≡ (Ok tt) = cc in
      let start : starts_ok (types_of signature1 As) (values_of tr) (free_of t) (listed (starting tr) 0 (startings tr)) ≡ true = cc in
      let answer : ran_of tr R ≡ r = cc in
      let store : joined value_bytes R.store ≡ values = cc in
      let log : joined message_bytes R.log ≡ messages = cc in
      let terms : said signature1 (by_types (types_of signature1 As)) (statements_of l) (trace_of tr) ≡ told = cc in
      let process : (process_of t tr).log ≡ all = cc in
      let d : Decoded l = record { types = As; is_file = sym (list_decoded t l Γ (least (list_rungs l (free_count t))) judged) } in
      let s : Sound t l tr = record { accepted = list_outcome_lem t l Γ (least (list_rungs l (free_count t))) (Ok tt) w refl judged; trace_sound = sound; decoded = d; starts = fourteen_passes t As tr start } in
      let ran_so : (z y : List ℕ) → value_need l tr ≤ length z → message_need l ≤ length y → RunAnswered t l tr z y (over values z) (over messages y) (Ok r) =
      λ z y h k. rw (← answer, ← store, ← log) (ran (record { sound = s; value_room = h; message_room = k }) (told_of tr z y R)) in
      record {
        answers = λ z y h k. only_run t l tr z y (over values z) (over messages y) (Ok r) (ran_so z y h k);
        list_says = λ z y h k. let (b, c, n) = run_reads_back t l tr z y (over values z) (over messages y) r d (ran_so z y h k) in n ∙ terms;
        process_says = process;
      }

  -- after the table's typing
  pub outcome_runs : (a : Typing) → TypingIs t a → run_outcome t l tr a ≡ runs (judges (Ok tt) l) (Ok tt) true r values messages told all → Runs t l tr r values messages told all
  unfolding run_outcome
  outcome_runs a (is_refused q) e = let y : ◌≡◌ {A = ℕ} 0 1 = cc in absurd (omega arith)
  outcome_runs a (is_typed {Γ = Γ} w) e = result_runs Γ w e
