-- The stages of a run, each passed on or left behind. Assumes nothing.
use mathlib.Core.Path.{◌≡◌, refl, sym, ap, ◌∙◌}
use mathlib.Core.List.{List}
use Prim.Native.Nat.{ℕ, ◌≤◌}
use native.Mathlib.Omega.{arith}
use lib.ListN.{length}
use Rattle.answers.specs.Ladder.{refusal, least, Check}
use Rattle.answers.specs.declared.Refusal.{Refusal}
use Rattle.entries.specs.Words.{Bytes}
use Rattle.entries.proofs.Tiling.{listed_length}
use Rattle.table_layout.specs.Layout as table
use Rattle.list.specs.Layout.{symbols}
use Rattle.list.specs.Faults.{list_rungs}
use Rattle.trace.specs.Layout.{startings}
use Rattle.trace.specs.Faults.{trace_rungs}
use Rattle.types.specs.Version1.{T}
use Rattle.calculus.specs.Figure2.{Env}
use Rattle.calculus.specs.Version1.{signature1}
use Rattle.rendering.specs.Rendering.{halves, Faithful}
use Rattle.rendering.specs.Lists.{StatementList}
use Rattle.decoded.specs.Table.{table_of, free_count}
use Rattle.decoded_list.specs.Decoded.{Decoded}
use Rattle.decoded_list.specs.Statements.{statements_of}
use Rattle.decoded_list.proofs.Reading.{list_decoded}
use Rattle.decoded_list.proofs.Once.{decoded_once, decoded_symbols, decoded_body}
use Rattle.decoded_list.specs.Bytes.{types_to}
use Rattle.machine.specs.Statements.{StatementsRun}
use Rattle.machine.specs.declared.Ran.{Ran}
use Rattle.starting.specs.Fourteen.{Fourteen, starts, StartsChecked}
use Rattle.type_service.specs.Services.{IsWidest, RoomChecked, enough, short}
use Rattle.judge_service.specs.Judged.{Judged}
use Rattle.judge_service.proofs.Exact.{accepted_is_faithful}
use Rattle.run_service.specs.Runs.{value_need, message_need, Sound, not_accepted, trace_faulty, start_lacks, values_short, messages_short, Runnable, RunChecked, RunAnswered, refused, ran}
use Rattle.std.proofs.Common.{Result, Ok, Err}

-- ── What an accepted list is ──

-- its types are the widest ones, and its statements render the table
pub record Accepted (t l : List ℕ) (d : Decoded l) : Type 0 where
  pub Γ : Env signature1
  pub widest : IsWidest t Γ
  pub in_order : least (list_rungs l (free_count t)) ≡ Ok tt
  pub same_types : d.types ≡ types_to Γ (table.symbols t)
  pub renders : Faithful signature1 halves (table_of t) (statements_of l)

pub accepted : (t l : List ℕ) (d : Decoded l) → Judged t l (Ok tt) → Accepted t l d
accepted t l d j =
    let f = accepted_is_faithful t l (Ok tt) j refl in
    let q : f.list ≡ record { types = d.types; statements = statements_of l } = decoded_once l d f.list f.is_file in
    let types : d.types ≡ f.list.types = ap (λ (m : StatementList signature1). m.types) (sym q) in
    record {
      Γ = f.Γ;
      widest = f.widest;
      in_order = f.in_order;
      same_types = types ∙ f.faithful.same_types;
      renders = rw q at f.faithful.renders;
    }

pub as_many : (t l : List ℕ) (d : Decoded l) → Accepted t l d → symbols l ≡ table.symbols t
as_many t l d a = sym (decoded_symbols l d) ∙ ap (λ (k : List T). length k) a.same_types ∙ listed_length a.Γ 0 (table.symbols t)

-- ── The tests ──

-- the list is accepted, the trace has no fault, and number 14 was tested, with the answer c
pub record Started (t l tr : List ℕ) (c : Check) : Type 0 where
  pub accepted : Judged t l (Ok tt)
  pub trace_sound : least (trace_rungs tr) ≡ Ok tt
  pub decoded : Decoded l
  pub starts : Fourteen t decoded.types tr c

pub started : (t l tr : List ℕ) → Bytes l → Judged t l (Ok tt) → least (trace_rungs tr) ≡ Ok tt → (c : Check) → StartsChecked t l tr c → Started t l tr c
started t l tr b j e c s =
    let d : Decoded l = list_decoded l (free_count t) b (accepted_is_faithful t l (Ok tt) j refl).in_order in
    let k = accepted t l d j in
    record { accepted = j; trace_sound = e; decoded = d; starts = s.checked k.widest.sound (free_count t) k.in_order e d (as_many t l d k) }

pub sound : (t l tr : List ℕ) (c : Check) → Started t l tr c → c ≡ Ok tt → Sound t l tr
sound t l tr c s q = record { accepted = s.accepted; trace_sound = s.trace_sound; decoded = s.decoded; starts = rw q at s.starts }

module _ (t l tr z y : List ℕ) where
  -- the judge's refusal
  pub judge_stops : (a : Check) (x : Refusal) (b : Check) → Judged t l a → a ≡ Err x → b ≡ Err x → RunChecked t l tr z y b
  judge_stops a x b j e p = rw p (not_accepted (rw e at j))

  -- the trace's
  pub trace_stops : Judged t l (Ok tt) → (a : Check) (x : Refusal) (b : Check) → a ≡ least (trace_rungs tr) → a ≡ Err x → b ≡ Err x → RunChecked t l tr z y b
  trace_stops j a x b e q p = rw p (trace_faulty j (sym e ∙ q))

  -- number 14
  pub starts_stop : (c : Check) (x : Refusal) (b : Check) → Started t l tr c → c ≡ Err x → b ≡ Err x → RunChecked t l tr z y b
  starts_stop c x b s q p = rw p (start_lacks s.accepted s.trace_sound s.decoded (rw q at s.starts))

  module _ (s : Sound t l tr) where
    -- number 15 of the values' buffer
    pub values_stop : (need : ℕ) (d : Check) (x : Refusal) (b : Check) → need ≡ value_need l tr → RoomChecked need (length z) d → d ≡ Err x → b ≡ Err x → RunChecked t l tr z y b
    values_stop need d x b n (enough h) g p = let v : ◌≡◌ {A = ℕ} 0 1 = cc in absurd (omega arith)
    values_stop need d x b n (short h) g p = let e : x ≡ refusal 15 3 need = cc in rw (p, e, n) (values_short s (rw n at h))

    -- of the messages' buffer, or no refusal
    pub messages_left : value_need l tr ≤ length z → (need : ℕ) (r : Check) → need ≡ message_need l → RoomChecked need (length y) r → RunChecked t l tr z y r
    messages_left h need r n (short o) = rw n (messages_short s h (rw n at o))
    messages_left h need r n (enough o) = record { sound = s; value_room = h; message_room = rw n at o }

  -- ── The run ──

  -- a refusal is passed on
  pub run_refused : (a : Check) (x : Refusal) (r : Result Ran Refusal) → RunChecked t l tr z y a → a ≡ Err x → r ≡ Err x → RunAnswered t l tr z y z y r
  run_refused a x r c e p = rw p (refused (rw e at c))

  -- the run is told
  pub run_told : (a : Check) (v o : List ℕ) (r : Ran) → RunChecked t l tr z y a → a ≡ Ok tt → StatementsRun l tr z v y o r → RunAnswered t l tr z y v o (Ok r)
  run_told a v o r c e m =
      let s : Runnable t l tr z y = rw e at c in
      let d = s.sound.decoded in
      let k = accepted t l d s.sound.accepted in
      let n : startings tr ≡ free_count t = started s.sound.starts in
      let p : least (list_rungs l (startings tr)) ≡ (Ok tt) = rw n k.in_order in
      ran s (m.ran d.types (record { count = decoded_symbols l d; bytes_are = decoded_body l d }) p s.sound.trace_sound s.value_room s.message_room)
    where
      started : {As : List T} → Fourteen t As tr (Ok tt) → startings tr ≡ free_count t
      started (starts h q) = h
