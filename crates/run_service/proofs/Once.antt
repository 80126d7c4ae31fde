-- No second answer fits a run: the promise determines the answer and each byte of both buffers. Assumes nothing.
use mathlib.Core.Path.{◌≡◌, refl, sym, ap, ◌∙◌}
use mathlib.Core.List.{List}
use Prim.Native.Nat.{ℕ}
use native.Mathlib.Omega.{arith}
use lib.ListN.{length}
use Rattle.answers.specs.Ladder.{least, Check}
use Rattle.answers.specs.declared.Refusal.{Refusal}
use Rattle.trace.specs.Faults.{trace_rungs}
use Rattle.calculus.specs.Version1.{signature1}
use Rattle.rendering.specs.Lists.{StatementList}
use Rattle.decoded_list.specs.Decoded.{Decoded}
use Rattle.decoded_list.specs.Statements.{statements_of}
use Rattle.decoded_list.proofs.Once.{decoded_once}
use Rattle.machine.specs.Statements.{run_of, Told}
use Rattle.machine.specs.declared.Ran.{Ran}
use Rattle.machine.proofs.OneAnswer.{told_once}
use Rattle.starting.specs.Fourteen.{Fourteen}
use Rattle.starting.proofs.Once.{fourteen_once}
use Rattle.type_service.specs.Services.{RoomChecked, enough, short}
use Rattle.judge_service.specs.Judged.{Judged}
use Rattle.judge_service.proofs.Exact.{judged_once}
use Rattle.run_service.specs.Runs.{value_need, message_need, Sound, RunRefused, not_accepted, trace_faulty, start_lacks, values_short, messages_short, Runnable, RunAnswered, refused, ran}
use Rattle.std.proofs.Common.{Result, Ok, Err}

-- ── Tests one after the other ──

-- of a test and the rest: the first refusal
data Then (P Q : Check → Type 0) : Check → Type 0 where
  stopped : {x : Refusal} → P (Err x) → Then P Q (Err x)
  passed : {c : Check} → P (Ok tt) → Q c → Then P Q c

-- no two answers fit
abbrev Single : (Check → Type 0) → Type 0
Single P = (a b : Check) → P a → P b → a ≡ b

-- passed and refused are two
apart : {C : Type 0} (x : Refusal) → ◌≡◌ {A = Check} (Ok tt) (Err x) → C
apart x e = let y : ◌≡◌ {A = ℕ} 0 1 = cc in absurd (omega arith)

-- a test that has one answer, then another such
then_once : {P Q : Check → Type 0} → Single P → Single Q → Single (Then P Q)
then_once f g a b (stopped p) (stopped q) = f _ _ p q
then_once f g a b (stopped {x = x} p) (passed q r) = apart x (f _ _ q p)
then_once f g a b (passed p r) (stopped {x = x} q) = apart x (f _ _ p q)
then_once f g a b (passed p r) (passed q s) = g _ _ r s

-- a buffer is long enough, or 15 with the need
room_once : {need room : ℕ} → Single (RoomChecked need room)
room_once a b (enough h) (enough k) = refl
room_once a b (enough h) (short k) = absurd (omega arith)
room_once a b (short h) (enough k) = absurd (omega arith)
room_once a b (short h) (short k) = refl

-- ── The tests of a run ──

-- a file has one list of types
pub same_types : (l : List ℕ) (d e : Decoded l) → d.types ≡ e.types
same_types l d e = ap (λ (m : StatementList signature1). m.types) (decoded_once l e (record { types = d.types; statements = statements_of l }) d.is_file)

module _ (t l tr : List ℕ) where
  -- the trace's 1 to 6
  abbrev Traced : Check → Type 0
  Traced c = least (trace_rungs tr) ≡ c

  -- one of them is the least
  traced_once : Single Traced
  traced_once a b e f = sym e ∙ f

  -- number 14, by the list's types
  abbrev Started : Check → Type 0
  Started c = (d : Decoded l) × Fourteen t d.types tr c

  -- it has one answer
  started_once : Single Started
  started_once a b (d, p) (e, q) = fourteen_once (rw (same_types l d e) at p) q

  module _ (z y : List ℕ) where
    -- all tests in order
    abbrev Tested : Check → Type 0
    Tested = Then (Judged t l) (Then Traced (Then Started (Then (RoomChecked (value_need l tr) (length z)) (RoomChecked (message_need l) (length y)))))

    -- they have one answer
    tested_once : Single Tested
    tested_once = then_once (judged_once t l) (then_once traced_once (then_once started_once (then_once room_once room_once)))

    -- sound, then the rooms
    sound_then : {c : Check} → Sound t l tr → Then (RoomChecked (value_need l tr) (length z)) (RoomChecked (message_need l) (length y)) c → Tested c
    sound_then s p = passed s.accepted (passed s.trace_sound (passed (s.decoded, s.starts) p))

    -- what a run's refusal says, test by test
    refused_tested : (x : Refusal) → RunRefused t l tr z y x → Tested (Err x)
    refused_tested x (not_accepted j) = stopped j
    refused_tested x (trace_faulty j e) = passed j (stopped e)
    refused_tested x (start_lacks j e d f) = passed j (passed e (stopped (d, f)))
    refused_tested x (values_short s h) = sound_then s (stopped (short h))
    refused_tested x (messages_short s v h) = sound_then s (passed (enough v) (short h))

    -- where nothing is refused, all are passed
    runnable_tested : Runnable t l tr z y → Tested (Ok tt)
    runnable_tested r = sound_then r.sound (passed (enough r.value_room) (enough r.message_room))

    -- so nothing is both
    refused_or_not : {C : Type 0} (x : Refusal) → RunRefused t l tr z y x → Runnable t l tr z y → C
    refused_or_not x r s = apart x (tested_once _ _ (runnable_tested s) (refused_tested x r))

-- ── The answer ──

-- two answers, with two contents of both buffers, that both meet the promise are equal
pub run_answered_once : (t l tr z y v v' o o' : List ℕ) (a b : Result Ran Refusal) → RunAnswered t l tr z y v o a → RunAnswered t l tr z y v' o' b
    → (v ≡ v') × (o ≡ o') × (a ≡ b)
run_answered_once t l tr z y v v' o o' a b (refused {x = x} f) (refused {x = x'} g) =
    let e : ◌≡◌ {A = Check} (Err x) (Err x') = tested_once t l tr z y _ _ (refused_tested t l tr z y x f) (refused_tested t l tr z y x' g) in
    let h : x ≡ x' = cc in (refl, refl, ap Err h)
run_answered_once t l tr z y v v' o o' a b (refused {x = x} f) (ran s m) = refused_or_not t l tr z y x f s
run_answered_once t l tr z y v v' o o' a b (ran s m) (refused {x = x} f) = refused_or_not t l tr z y x f s
run_answered_once t l tr z y v v' o o' a b (ran {r = r} s m) (ran u n) =
    let e : s.sound.decoded.types ≡ u.sound.decoded.types = same_types l s.sound.decoded u.sound.decoded in
    let k : Told tr z v y o (run_of l tr u.sound.decoded.types) r = rw e at m in
    let (f, g, h) = told_once k n in
    (g, h, ap Ok f)
