-- What a run answers, in the words of the meaning: the first refusal by document 01's order, or the run. Assumes nothing: these are
-- definitions.
use Rattle.std.specs.Prelude.{◌≡◌, List, ℕ, ◌+◌, ◌*◌, ◌≤◌, ◌<◌, length, Result, Ok, Err}
use Rattle.answers.specs.Ladder.{refusal, least, Check}
use Rattle.answers.specs.declared.Refusal.{Refusal}
use Rattle.trace.specs.Layout.{values}
use Rattle.trace.specs.Faults.{trace_rungs}
use Rattle.calculus.specs.Version1.{signature1}
use Rattle.running.specs.Demand3.{builds, messages}
use Rattle.decoded_list.specs.Decoded.{Decoded}
use Rattle.decoded_list.specs.Statements.{statements_of}
use Rattle.machine.specs.Statements.{run_of, Told}
use Rattle.machine.specs.declared.Ran.{Ran}
use Rattle.starting.specs.Fourteen.{Fourteen}
use Rattle.judge_service.specs.Judged.{Judged}

-- the bytes that a run needs: for its values, and for its messages
abbrev pub value_need : List ℕ → List ℕ → ℕ
value_need l tr = 5 * (values tr + builds signature1 (statements_of l))

abbrev pub message_need : List ℕ → ℕ
message_need l = 5 * messages signature1 (statements_of l)

-- the list is accepted, the trace has no fault 1 to 6, and each free symbol has a starting value that visibly has its type
pub record Sound (t l tr : List ℕ) : Type 0 where
  pub accepted : Judged t l (Ok tt)
  pub trace_sound : least (trace_rungs tr) ≡ Ok tt
  pub decoded : Decoded l
  pub starts : Fourteen t decoded.types tr (Ok tt)

-- a run is refused: by the judge; by the trace's 1 to 6; by 14; by 15 for the values' buffer z, or for the messages' buffer y
pub data RunRefused (t l tr z y : List ℕ) : Refusal → Type 0 where
  not_accepted : {x : Refusal} → Judged t l (Err x) → RunRefused t l tr z y x
  trace_faulty : {x : Refusal} → Judged t l (Ok tt) → least (trace_rungs tr) ≡ Err x → RunRefused t l tr z y x
  start_lacks : {x : Refusal} → Judged t l (Ok tt) → least (trace_rungs tr) ≡ Ok tt → (d : Decoded l) → Fourteen t d.types tr (Err x) → RunRefused t l tr z y x
  values_short : Sound t l tr → length z < value_need l tr → RunRefused t l tr z y (refusal 15 3 (value_need l tr))
  messages_short : Sound t l tr → value_need l tr ≤ length z → length y < message_need l → RunRefused t l tr z y (refusal 15 3 (message_need l))

-- nothing is refused
pub record Runnable (t l tr z y : List ℕ) : Type 0 where
  pub sound : Sound t l tr
  pub value_room : value_need l tr ≤ length z
  pub message_room : message_need l ≤ length y

-- all the tests before a run
abbrev pub RunChecked : List ℕ → List ℕ → List ℕ → List ℕ → List ℕ → Check → Type 0
RunChecked t l tr z y (Ok tt) = Runnable t l tr z y
RunChecked t l tr z y (Err x) = RunRefused t l tr z y x

-- the answer: a refusal leaves both buffers, z and y, as they were; else answer and buffers say how the meaning layer's run went
pub data RunAnswered (t l tr z y : List ℕ) : List ℕ → List ℕ → Result Ran Refusal → Type 0 where
  refused : {x : Refusal} → RunRefused t l tr z y x → RunAnswered t l tr z y z y (Err x)
  ran : {v o : List ℕ} {r : Ran} (s : Runnable t l tr z y) → Told tr z v y o (run_of l tr s.sound.decoded.types) r → RunAnswered t l tr z y v o (Ok r)
