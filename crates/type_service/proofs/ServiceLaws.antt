-- Stages of a service that writes a file, and that it has no second answer. Assumes nothing.
use mathlib.Core.Path.{◌≡◌, refl, sym, ap, ◌∙◌}
use mathlib.Core.List.{List}
use Prim.Native.Nat.{ℕ, ◌≤◌, ◌<◌}
use native.Mathlib.Omega.{arith}
use lib.ListN.{length}
use Rattle.answers.specs.Ladder.{refusal, least, Check}
use Rattle.answers.specs.declared.Refusal.{Refusal}
use Rattle.table_layout.specs.Layout.{symbols}
use Rattle.table.specs.Faults.{table_rungs}
use Rattle.decoded.proofs.Passes.{table_passes}
use Rattle.buffers.specs.Over.{over}
use Rattle.calculus.specs.Figure2.{Env}
use Rattle.calculus.specs.Typing.{widest, untyped}
use Rattle.calculus.specs.Version1.{signature1}
use Rattle.calculus.proofs.Version1Laws.{one_answer1}
use Rattle.decoded.specs.Table.{table_of}
use Rattle.decoded_list.specs.Bytes.{types_bytes, types_to}
use Rattle.slots.specs.Slots.{Holds}
use Rattle.type_lists.specs.Lists.{SizeIs, TypesPut}
use Rattle.typing.specs.Answers.{typing_check, TableInferred}
use Rattle.typing.specs.Typing.{Typing}
use Rattle.type_service.specs.Services.{IsWidest, TableRefused, faulty, no_typing, SlotsTyped, SlotsPut, RoomChecked, enough, short, Answered, table_refused, too_short, written, types_file}
use Rattle.std.proofs.Common.{Result, Ok, Err}

-- ── Numbers 1 to 10 ──

pub slots_faulty : (s w o : List ℕ) (x : Refusal) (a b : Check) → a ≡ least (table_rungs s) → a ≡ Err x → b ≡ Err x → SlotsPut s w o b
slots_faulty s w o x a b e q p = rw p (record { typed = λ l. faulty (sym e ∙ q) })

module _ (s w o : List ℕ) (a : Check) (e : a ≡ least (table_rungs s)) (q : a ≡ Ok tt) where
  pub slots_inferred : (a : Typing) (r : Check) → TableInferred s w o a → r ≡ typing_check a → SlotsPut s w o r
  slots_inferred (Ok u) r i j = rw j (record { typed = λ l. let (Γ, h, t) = i.answer l (sym e ∙ q) in (Γ, h, record { sound = sym e ∙ q; typing = t }) })
  slots_inferred (Err n) r i j = rw j (record { typed = λ l. no_typing (sym e ∙ q) (i.answer l (sym e ∙ q)) refl })

-- ── The slots of a table that passes ──

-- a table that passes has at most 96 symbols
few_symbols : (s : List ℕ) (Γ : Env signature1) → IsWidest s Γ → symbols s ≤ 96
few_symbols s Γ t = ((table_passes s).0 t.sound).frame.few_symbols

-- the slots o hold the widest types Γ of all n symbols
pub record Typed (s o : List ℕ) (n : ℕ) : Type 0 where
  pub Γ : Env signature1
  pub holds : Holds o Γ
  pub widest : IsWidest s Γ
  pub all : n ≡ symbols s
  pub few : n ≤ 96

pub typed : (s o : List ℕ) (n : ℕ) → SlotsTyped s o (Ok tt) → n ≡ symbols s → Typed s o n
typed s o n (Γ, h, t) e = record { Γ = Γ; holds = h; widest = t; all = e; few = rw e (few_symbols s Γ t) }

module _ (s o : List ℕ) (n : ℕ) (k : Typed s o n) where
  -- their bytes are counted
  pub types_counted : (r : ℕ) → SizeIs o n r → r ≡ length (types_file s k.Γ)
  types_counted r i = i.is k.Γ k.few k.holds ∙ ap (λ (m : ℕ). length (types_bytes (types_to k.Γ m))) k.all

  -- and written, where they fit
  pub types_written : (z y : List ℕ) → TypesPut o n z y → length (types_file s k.Γ) ≤ length z → y ≡ over (types_file s k.Γ) z
  types_written z y p f = (rw k.all at (p.wrote k.Γ k.few k.holds)) f

-- ── Number 15 ──

pub room_short : (need room : ℕ) (r : Check) → room < need → r ≡ Err (refusal 15 3 need) → RoomChecked need room r
room_short need room r l q = rw q (short l)

pub room_left : (need room : ℕ) (r : Check) → RoomChecked need room r → r ≡ Ok tt → need ≤ room
room_left need room r (enough l) q = l
room_left need room r (short l) q = let y : ◌≡◌ {A = ℕ} 0 1 = cc in absurd (omega arith)

-- ── One widest typing, one refusal ──

pub same_widest : (s : List ℕ) (Γ Δ : Env signature1) → IsWidest s Γ → IsWidest s Δ → Γ ≡ Δ
same_widest s Γ Δ t u = let e : widest Γ ≡ widest Δ = one_answer1 (table_of s) (widest Γ) (widest Δ) t.typing u.typing in cc

pub not_both : (s : List ℕ) (Γ : Env signature1) (x : Refusal) → IsWidest s Γ → TableRefused s x → ⊥
not_both s Γ x t (faulty e) = let q = t.sound in let y : ◌≡◌ {A = ℕ} 0 1 = cc in absurd (omega arith)
not_both s Γ x t (no_typing {k = k} p u n) =
    let e : widest Γ ≡ untyped k = one_answer1 (table_of s) (widest Γ) (untyped k) t.typing u in
    let y : ◌≡◌ {A = ℕ} 0 1 = cc in absurd (omega arith)

pub refused_once : (s : List ℕ) (x y : Refusal) → TableRefused s x → TableRefused s y → x ≡ y
refused_once s x y (faulty e) (faulty f) = cc
refused_once s x y (faulty e) (no_typing p u n) = let y : ◌≡◌ {A = ℕ} 0 1 = cc in absurd (omega arith)
refused_once s x y (no_typing p u n) (faulty e) = let y : ◌≡◌ {A = ℕ} 0 1 = cc in absurd (omega arith)
refused_once s x y (no_typing {k = i} p u n) (no_typing {k = k} q v m) =
    let e : untyped i ≡ untyped k = one_answer1 (table_of s) (untyped i) (untyped k) u v in
    let f : i ≡ k = cc in
    let g : Err x ≡ Err y = sym n ∙ ap (λ (j : ℕ). typing_check (Err (record { place = j }))) f ∙ m in cc

-- ── The answer ──

module _ (file : Env signature1 → List ℕ) (s z : List ℕ) where
  -- a refusal of the table is passed on
  pub not_typed : (o : List ℕ) (a : Check) (x : Refusal) (b : Result ℕ Refusal) → SlotsTyped s o a → a ≡ Err x → b ≡ Err x → Answered file s z z b
  not_typed o a x b t q p = rw p (table_refused (rw q at t))

  module _ (Γ : Env signature1) (t : IsWidest s Γ) (need : ℕ) (n : need ≡ length (file Γ)) where
    -- number 15 is
    pub no_room : (a : Check) (x : Refusal) (b : Result ℕ Refusal) → RoomChecked need (length z) a → a ≡ Err x → b ≡ Err x → Answered file s z z b
    no_room a x b (enough l) q p = let y : ◌≡◌ {A = ℕ} 0 1 = cc in absurd (omega arith)
    no_room a x b (short l) q p = let e : x ≡ refusal 15 3 need = cc in rw (p, e, n) (too_short t (rw n at l))

    -- there is room
    pub room_for : (b : Check) → RoomChecked need (length z) b → b ≡ Ok tt → length (file Γ) ≤ length z
    room_for b r q = rw n at (room_left need (length z) b r q)

    -- the file is written
    pub all_written : (b : Check) (o : List ℕ) → RoomChecked need (length z) b → b ≡ Ok tt → o ≡ over (file Γ) z → Answered file s z o (Ok need)
    all_written b o r q w = rw (w, n) (written t (room_for b r q))

  -- ── No second answer ──

  -- two answers, with two contents of the buffer, that both meet the promise are equal
  pub answered_once : (o p : List ℕ) (a b : Result ℕ Refusal) → Answered file s z o a → Answered file s z p b → (o ≡ p) × (a ≡ b)
  answered_once o p a b (table_refused r) (table_refused q) = (refl, ap Err (refused_once s _ _ r q))
  answered_once o p a b (table_refused r) (too_short t l) = absurd (not_both s _ _ t r)
  answered_once o p a b (table_refused r) (written t l) = absurd (not_both s _ _ t r)
  answered_once o p a b (too_short t l) (table_refused r) = absurd (not_both s _ _ t r)
  answered_once o p a b (too_short t l) (too_short u k) = rw (same_widest s _ _ t u) (refl, refl)
  answered_once o p a b (too_short {Γ = Γ} t l) (written {Γ = Δ} u k) = let e : Γ ≡ Δ = same_widest s _ _ t u in absurd (omega (arith, rw e at l))
  answered_once o p a b (written t l) (table_refused r) = absurd (not_both s _ _ t r)
  answered_once o p a b (written {Γ = Γ} t l) (too_short {Γ = Δ} u k) = let e : Γ ≡ Δ = same_widest s _ _ t u in absurd (omega (arith, rw e at l))
  answered_once o p a b (written t l) (written u k) = rw (same_widest s _ _ t u) (refl, refl)
