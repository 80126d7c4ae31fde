-- What the services that write a file answer, in the words of the meaning: a refusal of the table, number 15, or the file.
-- Assumes nothing: these are definitions.
use Rattle.std.specs.Prelude.{◌≡◌, List, ℕ, ◌≤◌, ◌<◌, length, Result, Ok, Err}
use Rattle.answers.specs.Ladder.{refusal, least, Check}
use Rattle.answers.specs.declared.Refusal.{Refusal}
use Rattle.table_layout.specs.Layout.{symbols}
use Rattle.table.specs.Faults.{table_rungs}
use Rattle.buffers.specs.Over.{over}
use Rattle.calculus.specs.Figure2.{Env}
use Rattle.calculus.specs.Typing.{PrintedFrom, widest, untyped, AnswerIs}
use Rattle.calculus.specs.Version1.{signature1}
use Rattle.decoded.specs.Table.{table_of}
use Rattle.decoded_list.specs.Bytes.{types_bytes, types_to}
use Rattle.slots.specs.Slots.{Holds}
use Rattle.typing.specs.Answers.{typing_check}

-- a typing of the steps from i on exists, by Figure 2 as it is printed, with every name's type at or below Name
abbrev pub Typable : List ℕ → ℕ → Type 0
Typable s i = (Γ : Env signature1) × PrintedFrom signature1 (table_of s) i Γ

-- Γ is the widest typing of a table without faults 1 to 9
pub record IsWidest (s : List ℕ) (Γ : Env signature1) : Type 0 where
  pub sound : least (table_rungs s) ≡ Ok tt
  pub typing : AnswerIs signature1 (table_of s) (widest Γ)

-- a table is refused: the least of its faults 1 to 9; or there is no typing, which `typing_check` makes number 10 with its place
pub data TableRefused (s : List ℕ) : Refusal → Type 0 where
  faulty : {x : Refusal} → least (table_rungs s) ≡ Err x → TableRefused s x
  no_typing : {k : ℕ} {x : Refusal} → least (table_rungs s) ≡ Ok tt → AnswerIs signature1 (table_of s) (untyped k) → typing_check (Err (record { place = k })) ≡ Err x → TableRefused s x

-- numbers 1 to 10: the table is refused, or the slots hold its widest types
abbrev pub SlotsTyped : List ℕ → List ℕ → Check → Type 0
SlotsTyped s o (Ok tt) = (Γ : Env signature1) × Holds o Γ × IsWidest s Γ
SlotsTyped s o (Err x) = TableRefused s x

-- so it is if the lent array w is 96 slots of 129 bytes, whatever they held
pub record SlotsPut (s w o : List ℕ) (r : Check) : Type 0 where
  pub typed : length w ≡ 12384 → SlotsTyped s o r

-- room for the bytes needed; or number 15
pub data RoomChecked (need room : ℕ) : Check → Type 0 where
  enough : need ≤ room → RoomChecked need room (Ok tt)
  short : room < need → RoomChecked need room (Err (refusal 15 3 need))

-- a service that writes a file made of the widest types: a refusal leaves the lent buffer z as it was; else the file stands at its
-- start, bytes beyond stay, and the answer is the file's length
pub data Answered (file : Env signature1 → List ℕ) (s z : List ℕ) : List ℕ → Result ℕ Refusal → Type 0 where
  table_refused : {x : Refusal} → TableRefused s x → Answered file s z z (Err x)
  too_short : {Γ : Env signature1} → IsWidest s Γ → length z < length (file Γ) → Answered file s z z (Err (refusal 15 3 (length (file Γ))))
  written : {Γ : Env signature1} → IsWidest s Γ → length (file Γ) ≤ length z → Answered file s z (over (file Γ) z) (Ok (length (file Γ)))

-- the type service's file: the types of all symbols, with their length bytes
abbrev pub types_file : List ℕ → Env signature1 → List ℕ
types_file s Γ = types_bytes (types_to Γ (symbols s))
