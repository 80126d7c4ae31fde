-- A step as it is written: its terms, then its statements, then the registers of the symbols that it binds. Assumes that 1 to 9 pass.
use mathlib.Core.Path.{◌≡◌, refl}
use mathlib.Core.List.{List, map}
use Prim.Native.Nat.{ℕ, zero, suc, ◌+◌, ◌<◌, ◌≤◌}
use native.Mathlib.Omega.{arith}
use lib.ListN.{length, length-append}
use Rattle.answers.specs.Ladder.{least}
use Rattle.buffers.specs.Over.{Appended}
use Rattle.entries.specs.Fields.{code}
use Rattle.table_layout.specs.Layout.{steps, steps_at, step_field}
use Rattle.table.specs.Faults.{table_rungs}
use Rattle.calculus.specs.Terms.{map_act, binders}
use Rattle.calculus.specs.Version1.{signature1}
use Rattle.rendering.specs.Rendering.{halves, dues_of}
use Rattle.rendering.specs.Judge.{Meaning, symbol}
use Rattle.rendering.specs.Translation.{stated}
use Rattle.entries.specs.Tiling.{joined}
use Rattle.decoded.specs.Table.{act_of, step_at}
use Rattle.decoded_list.specs.Bytes.{statement_bytes, statements_bytes, half_op}
use Rattle.decoded.specs.Indexes.{entries_of, meaning_of}
use Rattle.registers.specs.Held.{register_at, Held, register_in}
use Rattle.registers.proofs.RegisterLaws.{register_right}
use Rattle.translate.specs.declared.Progress.{Progress}
use Rattle.translate.specs.Stepwise.{Making, more, after, operands_built, step_stated, step_bound, step_made}
use Rattle.translate.specs.Making.{Holds, Stands, Ready, state_bytes, step_stated_bytes}
use Rattle.decoded.proofs.Tabled.{step_as, step_known}
use Rattle.translate.proofs.StepLaws.{first_there, second_there}
use Rattle.translate.proofs.Writing.{room_after, stated_after, ready_first, ready_second, stands_both, ready_as, stands_as}
use Rattle.std.proofs.Common.{Ok}

stated_of : (s : List ℕ) (k op : ℕ) → code s 1 (steps_at s) k ≡ op → (ns : List Meaning)
    → step_stated s k ns ≡ map (stated signature1 (entries_of s) ns) (dues_of signature1 halves (act_of op (step_field s k 0) (step_field s k 1) (step_field s k 2) (step_field s k 3)))
unfolding step_stated
stated_of s k op c ns = rw (step_as s k op c)

bytes_of : (s : List ℕ) (k op : ℕ) → code s 1 (steps_at s) k ≡ op → (symbols array : List ℕ) (registers : ℕ)
    → step_stated_bytes s k symbols array registers ≡ state_bytes op (register_in s (step_field s k 0) symbols array registers) (register_in s (step_field s k 1) symbols array registers) (step_field s k 2) (step_field s k 3)
unfolding step_stated_bytes
bytes_of s k op c symbols array registers = rw c

module _ (s : List ℕ) (e : least (table_rungs s) ≡ Ok tt) (k : ℕ) (h : k < steps s) where
  -- what the code writes are the step's statements
  pub step_right : (ns : List Meaning) {symbols array : List ℕ} {registers : ℕ} → Held ns symbols array registers → step_stated_bytes s k symbols array registers ≡ statements_bytes (step_stated s k ns)
  unfolding stated dues_of map_act act_of statement_bytes half_op joined state_bytes register_at meaning_of
  step_right ns {symbols} {array} {registers} t = by_op (code s 1 (steps_at s) k) refl (step_known s e k h)
    where
      by_op : (op : ℕ) → code s 1 (steps_at s) k ≡ op → op < 6 → step_stated_bytes s k symbols array registers ≡ statements_bytes (step_stated s k ns)
      by_op zero c u = rw (stated_of s k 0 c ns, bytes_of s k 0 c symbols array registers, register_right s e (step_field s k 0) (first_there s k e h 0 c (omega arith) (λ z. absurd (omega arith))) ns t, register_right s e (step_field s k 1) (second_there s k e h 0 c (omega arith) (λ z. absurd (omega arith)) (λ z. absurd (omega arith)) (λ z. absurd (omega arith))) ns t)
      by_op (suc zero) c u = rw (stated_of s k 1 c ns, bytes_of s k 1 c symbols array registers, register_right s e (step_field s k 0) (first_there s k e h 1 c (omega arith) (λ z. absurd (omega arith))) ns t)
      by_op (suc (suc zero)) c u = rw (stated_of s k 2 c ns, bytes_of s k 2 c symbols array registers)
      by_op (suc (suc (suc zero))) c u = rw (stated_of s k 3 c ns, bytes_of s k 3 c symbols array registers, register_right s e (step_field s k 0) (first_there s k e h 3 c (omega arith) (λ z. absurd (omega arith))) ns t, register_right s e (step_field s k 1) (second_there s k e h 3 c (omega arith) (λ z. absurd (omega arith)) (λ z. absurd (omega arith)) (λ z. absurd (omega arith))) ns t)
      by_op (suc (suc (suc (suc zero)))) c u = rw (stated_of s k 4 c ns, bytes_of s k 4 c symbols array registers, register_right s e (step_field s k 0) (first_there s k e h 4 c (omega arith) (λ z. absurd (omega arith))) ns t)
      by_op (suc (suc (suc (suc (suc zero))))) c u = rw (stated_of s k 5 c ns, bytes_of s k 5 c symbols array registers, register_right s e (step_field s k 0) (first_there s k e h 5 c (omega arith) (λ z. absurd (omega arith))) ns t, register_right s e (step_field s k 1) (second_there s k e h 5 c (omega arith) (λ z. absurd (omega arith)) (λ z. absurd (omega arith)) (λ z. absurd (omega arith))) ns t)
      by_op (suc (suc (suc (suc (suc (suc op)))))) c u = absurd (omega arith)

  bound_grows : (ms : List Meaning) → length ms ≤ length (step_bound s k ms)
  unfolding step_bound
  bound_grows ms = rw (length-append ms (map symbol (binders signature1 (step_at s k)))) (omega arith)

  -- its statements, and what it binds
  abbrev states : List Meaning → Making
  states ns = (step_stated s k ns, step_bound s k ns)

  made_as : (ms : List Meaning) → step_made s k ms ≡ after (operands_built s k) states ms
  unfolding step_made
  made_as ms = refl

  module _ {r : Making} {p : Progress} {y o : List ℕ} (q : Ready (step_made s k) r p y o) where
    both_ready : Ready (after (operands_built s k) states) r p y o
    both_ready = ready_as (step_made s k) (after (operands_built s k) states) r (made_as r.1) q

    pub operands_ready : Ready (operands_built s k) r p y o
    operands_ready = ready_first (operands_built s k) states r both_ready (bound_grows (operands_built s k r.1).1)

    -- its terms are built
    module _ {p₁ : Progress} {o₁ : List ℕ} (d : Stands (more (operands_built s k) r) p₁ y o₁) where
      states_ready : Ready states (more (operands_built s k) r) p₁ y o₁
      states_ready = ready_second (operands_built s k) states r both_ready d

      statements_right : step_stated_bytes s k p₁.symbols p₁.terms p₁.registers ≡ statements_bytes (step_stated s k (operands_built s k r.1).1)
      statements_right = step_right (operands_built s k r.1).1 d.holds

      pub states_room : p₁.at + length (step_stated_bytes s k p₁.symbols p₁.terms p₁.registers) ≤ length o₁
      states_room = rw statements_right (room_after d (step_stated s k (operands_built s k r.1).1) states_ready.fits.room)

      pub few_given : p₁.registers < 254
      few_given = omega (arith, d.holds.count, bound_grows (operands_built s k r.1).1, states_ready.fits.few)

      pub step_done : {p₂ : Progress} {o₂ : List ℕ} → Appended (step_stated_bytes s k p₁.symbols p₁.terms p₁.registers) p₁.at o₁ o₂ p₂.at → Holds (step_bound s k (operands_built s k r.1).1) p₂
          → Stands (more (step_made s k) r) p₂ y o₂
      step_done a h =
          stands_as (step_made s k) (after (operands_built s k) states) r (made_as r.1) (stands_both (operands_built s k) states r (stated_after d (step_stated s k (operands_built s k r.1).1) (rw statements_right at a) h))
