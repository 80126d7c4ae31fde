-- What an example is, and when it holds: the services' promises have that answer and those bytes, and no other. Assumes nothing: these
-- are definitions.
use Rattle.std.specs.Prelude.{◌≡◌, List, ℕ, ◌≤◌, length, Result, Ok, Err}
use Rattle.answers.specs.declared.Refusal.{Refusal}
use Rattle.buffers.specs.Over.{over}
use Rattle.calculus.specs.Terms.{Value}
use Rattle.calculus.specs.Figure2.{Env}
use Rattle.calculus.specs.Version1.{signature1}
use Rattle.running.specs.Acts.{Logged}
use Rattle.machine.specs.declared.Ran.{Ran}
use Rattle.type_service.specs.Services.{Answered, types_file}
use Rattle.compile_service.specs.Files.{list_file}
use Rattle.judge_service.specs.Judged.{Judged}
use Rattle.run_service.specs.Runs.{value_need, message_need, RunAnswered}
use Rattle.run_service.specs.Read.{messages_read, process_of}
use Rattle.answers.specs.Ladder.{Check}

-- messages as terms
abbrev pub Messages : Type 0
Messages = List (Logged (Value signature1))

-- ── Examples ──

-- the files that a service is given, and what is expected of it
pub data Example : Type 0 where
  -- a table, and its refusal
  refused_table : List ℕ → Refusal → Example
  -- a table, and its symbols' types with their length bytes
  typed : List ℕ → List ℕ → Example
  -- a table, and its list
  compiled : List ℕ → List ℕ → Example
  -- a table, a list, and what the judge answers
  judged_as : List ℕ → List ℕ → Check → Example
  -- a table, a list and a trace; the answer, the values' bytes, the messages' bytes, the messages as terms; and the process's messages
  ran_as : List ℕ → List ℕ → List ℕ → Ran → List ℕ → List ℕ → Messages → Messages → Example

-- ── When they hold ──

-- a promise has this answer, and no other
abbrev pub Only : {A : Type 0} → (A → Type 0) → A → Type 0
Only {A} P a = P a × ((b : A) → P b → b ≡ a)

-- a service that writes a file, with the buffer z: its answer, and the buffer after it
abbrev pub Filed : (List ℕ → Env signature1 → List ℕ) → List ℕ → List ℕ → Result ℕ Refusal × List ℕ → Type 0
Filed file t z r = Answered (file t) t z r.1 r.0

-- a run with the buffers z and y: its answer, and the buffers after it
abbrev pub Running : List ℕ → List ℕ → List ℕ → List ℕ → List ℕ → Result Ran Refusal × List ℕ × List ℕ → Type 0
Running t l tr z y r = RunAnswered t l tr z y r.1 r.2 r.0

-- all four services refuse the table, whatever else they are given; the buffers stay as they were
pub record Refused (t : List ℕ) (x : Refusal) : Type 0 where
  pub by_type : (z : List ℕ) → Only (Filed types_file t z) (Err x, z)
  pub by_compile : (z : List ℕ) → Only (Filed list_file t z) (Err x, z)
  pub by_judge : (l : List ℕ) → Only (Judged t l) (Err x)
  pub by_run : (l tr z y : List ℕ) → Only (Running t l tr z y) (Err x, z, y)

-- a service writes these bytes to the start of every buffer that is long enough; bytes beyond keep their values
abbrev pub Writes : (List ℕ → Env signature1 → List ℕ) → List ℕ → List ℕ → Type 0
Writes file t bytes = (z : List ℕ) → length bytes ≤ length z → Only (Filed file t z) (Ok (length bytes), over bytes z)

-- a run in buffers that are long enough has this answer, writes these bytes of values and of messages, which as terms are said; and the
-- process says all these
pub record Runs (t l tr : List ℕ) (answer : Ran) (values messages : List ℕ) (said all : Messages) : Type 0 where
  pub answers : (z y : List ℕ) → value_need l tr ≤ length z → message_need l ≤ length y → Only (Running t l tr z y) (Ok answer, over values z, over messages y)
  pub list_says : (z y : List ℕ) → value_need l tr ≤ length z → message_need l ≤ length y → messages_read (over values z) (over messages y) answer ≡ said
  pub process_says : (process_of t tr).log ≡ all

-- the example holds
abbrev pub Holds : Example → Type 0
Holds (refused_table t x) = Refused t x
Holds (typed t bytes) = Writes types_file t bytes
Holds (compiled t bytes) = Writes list_file t bytes
Holds (judged_as t l c) = Only (Judged t l) c
Holds (ran_as t l tr r v o said all) = Runs t l tr r v o said all
