-- What a run wrote is read back: the values, the messages, and the messages as terms. Assumes nothing.
use mathlib.Core.Path.{◌≡◌, refl, sym, ap, ◌∙◌}
use mathlib.Core.List.{List, [], ◌∷◌, ◌++◌, append_assoc, map}
use Prim.Native.Nat.{ℕ, suc, ◌+◌, ◌*◌}
use native.Mathlib.Omega.{arith}
use lib.ListN.{length, drop, get_or}
use lib.Seq.{get_or-drop, drop-drop}
use Rattle.base.specs.Bytes.{byte, word}
use Rattle.buffers.specs.Over.{over}
use Rattle.entries.specs.Tiling.{listed, joined}
use Rattle.calculus.specs.Terms.{Atom}
use Rattle.calculus.specs.Tables.{Entry}
use Rattle.calculus.specs.Version1.{signature1}
use Rattle.running.specs.Acts.{Direction, sent, received, Logged, logged, on_logged, typed, Result}
use Rattle.running.specs.Demand3.{value_of, types_of, said}
use Rattle.decoded_list.specs.Decoded.{Decoded}
use Rattle.decoded_list.specs.Statements.{statements_of}
use Rattle.value_table.specs.Values.{table_at, five_bytes}
use Rattle.value_table.proofs.Keeping.{kept_table}
use Rattle.run_parts.specs.Messages.{direction_number, message_bytes}
use Rattle.machine.specs.Statements.{trace_of, run_of, Told}
use Rattle.machine.specs.declared.Ran.{Ran}
use Rattle.run_service.specs.Runs.{RunAnswered, ran}
use Rattle.run_service.specs.Read.{direction_of, message_in, messages_in, messages_read}
use Rattle.run_service.proofs.Once.{same_types}
use Rattle.std.proofs.Common.{Ok}

-- ── A message ──

-- its direction, by its number
direction_of_lem : (d : Direction) → direction_of (direction_number d) ≡ d
unfolding direction_of direction_number
direction_of_lem sent = refl
direction_of_lem received = refl

-- five bytes at a place
module _ (o r : List ℕ) (p t a b : ℕ) (e : drop p o ≡ five_bytes t a b ++ r) where
  -- one of them
  byte_there : (q j : ℕ) → q ≡ p + j → byte o q ≡ get_or (five_bytes t a b ++ r) j 0
  unfolding byte
  byte_there q j h = ap (λ (k : ℕ). get_or o k 0) h ∙ sym (get_or-drop p o j 0) ∙ ap (λ (l : List ℕ). get_or l j 0) e

  -- the first, the two numbers, what comes after
  tag_there : byte o p ≡ t
  unfolding five_bytes
  tag_there = byte_there p 0 (omega arith)

  first_there : word o (p + 1) ≡ a
  unfolding word five_bytes
  first_there = rw (byte_there (p + 1) 1 refl, byte_there (p + 1 + 1) 2 (omega arith)) (omega arith)

  second_there : word o (p + 3) ≡ b
  unfolding word five_bytes
  second_there = rw (byte_there (p + 3) 3 refl, byte_there (p + 3 + 1) 4 (omega arith)) (omega arith)

  next_there : drop (p + 5) o ≡ r
  unfolding five_bytes
  next_there = rw (← drop-drop 5 p o, e)

-- message i, and what comes after it
message_there : (o r : List ℕ) (i : ℕ) (m : Logged ℕ) → drop (5 * i) o ≡ message_bytes m ++ r → (message_in o i ≡ m) × (drop (5 * suc i) o ≡ r)
unfolding message_in message_bytes
message_there o r i (logged d a b) e =
    let n : 5 * suc i ≡ 5 * i + 5 = omega arith in (
      rw (tag_there o r (5 * i) _ a b e, first_there o r (5 * i) _ a b e, second_there o r (5 * i) _ a b e, direction_of_lem d),
      rw n (next_there o r (5 * i) _ a b e),
    )

-- messages one after the other
messages_there : (o r : List ℕ) (i : ℕ) (ms : List (Logged ℕ)) → drop (5 * i) o ≡ joined message_bytes ms ++ r → listed (message_in o) i (length ms) ≡ ms
unfolding listed joined
messages_there o r i [] e = refl
messages_there o r i (m ∷ ms) e =
    let (p, q) = message_there o (joined message_bytes ms ++ r) i m (e ∙ append_assoc (message_bytes m) (joined message_bytes ms) r) in
    rw (p, messages_there o r (suc i) ms q)

-- ── Answer and buffers ──

module _ {tr z v y o : List ℕ} {R : Result ℕ (List (Entry signature1 Atom))} {r : Ran} (m : Told tr z v y o R r) where
  -- the values of the run
  pub told_values : table_at v r.count ≡ R.store
  told_values = kept_table {z = z} (record { count = m.count; bytes = m.values_written })

  -- its messages, by indexes
  pub told_messages : messages_in o r.logged ≡ R.log
  unfolding messages_in over
  told_messages = rw m.logged (messages_there o (drop (length (joined message_bytes R.log)) y) 0 R.log m.messages_written)

  -- its messages, as terms
  pub told_terms : messages_read v o r ≡ map (on_logged (value_of signature1 R.store)) R.log
  unfolding messages_read
  told_terms = rw (told_values, told_messages)

-- ── The service ──

-- the meaning layer's run, of the list's types, is what stands in the buffers: its values, its messages, what they say
pub run_reads_back : (t l tr z y v o : List ℕ) (r : Ran) (d : Decoded l) → RunAnswered t l tr z y v o (Ok r)
    → (table_at v r.count ≡ (run_of l tr d.types).store) × (messages_in o r.logged ≡ (run_of l tr d.types).log)
    × (messages_read v o r ≡ said signature1 (typed (types_of signature1 d.types)) (statements_of l) (trace_of tr))
unfolding run_of
run_reads_back t l tr z y v o r d (ran s m) =
    let k : Told tr z v y o (run_of l tr d.types) r = rw (same_types l s.sound.decoded d) at m in
    (told_values k, told_messages k, told_terms k)
