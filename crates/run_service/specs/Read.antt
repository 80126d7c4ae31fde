-- What stands in the two buffers after a run, read back as terms; the statement index and demand 3, said of a run's own answer and bytes.
-- Assumes nothing: these are definitions.
use Rattle.std.specs.Prelude.{◌≡◌, List, ◌++◌, map, ℕ, zero, suc, ◌+◌, ◌*◌, ◌≤◌, ◌<◌, drop}
use Rattle.base.specs.Bytes.{byte, word}
use Rattle.entries.specs.Tiling.{listed}
use Rattle.list.specs.Layout.{statements}
use Rattle.trace.specs.Layout.{supplies}
use Rattle.calculus.specs.Terms.{Value}
use Rattle.calculus.specs.Tables.{process}
use Rattle.calculus.specs.Version1.{signature1}
use Rattle.running.specs.Acts.{Ending, finished, number_of, Direction, sent, received, Logged, logged, on_logged, Result}
use Rattle.running.specs.Demand3.{ByType, step_of, value_of, supplied, types_of, start, process_run, Lacking}
use Rattle.decoded.specs.Table.{table_of}
use Rattle.decoded_list.specs.Decoded.{Decoded}
use Rattle.decoded_list.specs.Statements.{statements_of}
use Rattle.value_table.specs.Values.{table_at}
use Rattle.machine.specs.Statements.{trace_of}
use Rattle.machine.specs.declared.Ran.{Ran}

-- ── The buffers ──

-- 0 sent, else received
unfoldable pub direction_of : ℕ → Direction
direction_of zero = sent
direction_of (suc n) = received

-- message i of a buffer, five bytes: its direction, and the indexes of its channel and its value
unfoldable pub message_in : List ℕ → ℕ → Logged ℕ
message_in o i = logged (direction_of (byte o (5 * i))) (word o (5 * i + 1)) (word o (5 * i + 3))

-- the first n messages of a buffer
unfoldable pub messages_in : List ℕ → ℕ → List (Logged ℕ)
messages_in o n = listed (message_in o) 0 n

-- the messages of the answer r, with the values' buffer v and the messages' buffer o, as terms
unfoldable pub messages_read : List ℕ → List ℕ → Ran → List (Logged (Value signature1))
messages_read v o r = map (on_logged (value_of signature1 (table_at v r.count))) (messages_in o r.logged)

-- ── The statement index ──

-- of the answer r: the list's N where the run finished, else below N
pub record EndsInList (l : List ℕ) (r : Ran) : Type 0 where
  pub finished_after : r.ending ≡ 0 → r.place ≡ statements l
  pub stopped_before : ¬ (r.ending ≡ 0) → r.place < statements l

-- ── Demand 3 ──

-- the process's run on the trace's supply: no types
abbrev pub process_of : List ℕ → List ℕ → Result (Value signature1) (Unit {0})
process_of t tr = process_run signature1 (table_of t) (trace_of tr)

-- the supply after the values that the answer r says are used, as terms
abbrev pub supply_left : List ℕ → Ran → List (Value signature1)
supply_left tr r = drop r.used (supplied signature1 (trace_of tr))

-- the step of the statement at which the answer r says the list l ended
abbrev pub step_ended : List ℕ → Ran → ℕ
step_ended l r = step_of signature1 (statements_of l) r.place

-- the answer r does not end by type
abbrev pub NotByType : Ran → Type 0
NotByType r = (¬ (r.ending ≡ 4)) × (¬ (r.ending ≡ 5)) × (¬ (r.ending ≡ 7))

-- of the answer r, the buffers v and o, and the process of the table t on the trace tr
pub record KeepsDemand3 (t l tr v o : List ℕ) (r : Ran) : Type 0 where
  -- the list's types
  pub decoded : Decoded l
  -- the messages are the opening part of the process's
  pub opening : (more : List (Logged (Value signature1))) × (messages_read v o r ++ more ≡ (process_of t tr).log)
  -- all of them unless the list ended by type
  pub complete : NotByType r → messages_read v o r ≡ (process_of t tr).log
  -- else it stops where the process stops too: for that cause, at that very step, with equal supplies used
  pub stops : NotByType r → (number_of (process_of t tr).ending ≡ r.ending) × ((process_of t tr).place ≡ step_ended l r) × ((process_of t tr).rest ≡ supply_left tr r)
  -- it finishes only if the process finishes
  pub finishes : r.ending ≡ 0 → (process_of t tr).ending ≡ finished
  -- by type: the value named really lacks the type, and the process passes that step
  pub lacking : (e : Ending) → ByType e → r.ending ≡ number_of e
      → Lacking signature1 (types_of signature1 decoded.types) (process signature1 (table_of t)) (start signature1 (table_of t) (trace_of tr)) (supplied signature1 (trace_of tr)) e (step_ended l r) (messages_read v o r) (supply_left tr r)
  -- a split never meets a non-pair, a decryption never a non-ciphertext
  pub known : r.ending ≤ 7
  -- no more is used than is supplied
  pub among : r.used ≤ supplies tr
