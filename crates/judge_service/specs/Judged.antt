-- What the judge answers, in the words of the meaning: the table is refused, the list is refused by itself, or the list is judged
-- against the table with its widest types; and what the file of a faithful list is. Assumes nothing: these are definitions.
use Rattle.std.specs.Prelude.{◌≡◌, List, ℕ, ◌<◌, Ok, Err}
use Rattle.answers.specs.Ladder.{refusal, least, Check}
use Rattle.answers.specs.declared.Refusal.{Refusal}
use Rattle.table_layout.specs.Layout.{symbols}
use Rattle.table.specs.Faults.{table_rungs}
use Rattle.list.specs.Faults.{list_rungs}
use Rattle.calculus.specs.Figure2.{Env}
use Rattle.calculus.specs.Version1.{signature1}
use Rattle.rendering.specs.Rendering.{halves}
use Rattle.rendering.specs.Judge.{Verdict, accepted, not_due, unfinished, judge}
use Rattle.rendering.specs.Lists.{StatementList, FaithfulList, Answer, types_differ, judged, ListAnswerIs}
use Rattle.decoded.specs.Table.{table_of, free_count}
use Rattle.decoded_list.specs.Bytes.{list_bytes, types_to}
use Rattle.decoded_list.specs.Statements.{statements_of}
use Rattle.slots.specs.Slots.{Holds}
use Rattle.type_service.specs.Services.{IsWidest, TableRefused}

-- document 01's number of a verdict, with file and place
unfoldable pub verdict_check : Verdict → Check
verdict_check accepted = Ok tt
verdict_check (not_due i) = Err (refusal 12 1 i)
verdict_check (unfinished k) = Err (refusal 13 1 k)

-- and of an answer
unfoldable pub answer_check : Answer → Check
answer_check (types_differ i) = Err (refusal 11 1 i)
answer_check (judged v) = verdict_check v

-- the verdict on the statements of a list without faults 1 to 5 was given
pub record VerdictGiven (t l : List ℕ) (r : Check) : Type 0 where
  pub given : least (table_rungs t) ≡ Ok tt → least (list_rungs l (free_count t)) ≡ Ok tt → r ≡ verdict_check (judge signature1 halves (table_of t) (statements_of l))

-- the answer: a refusal of the table; a refusal of the list by itself; or what the list m is, whose file l is, beside the table and its
-- widest types: `ListAnswerIs` says when it is accepted, and what 11, 12 and 13 and their places mean
pub data Judged (t l : List ℕ) : Check → Type 0 where
  table_refused : {x : Refusal} → TableRefused t x → Judged t l (Err x)
  list_refused : {Γ : Env signature1} {x : Refusal} → IsWidest t Γ → least (list_rungs l (free_count t)) ≡ Err x → Judged t l (Err x)
  list_judged : {Γ : Env signature1} {m : StatementList signature1} {a : Answer} → IsWidest t Γ → least (list_rungs l (free_count t)) ≡ Ok tt → l ≡ list_bytes m
      → ListAnswerIs signature1 halves (table_of t) (types_to Γ (symbols t)) m a → Judged t l (answer_check a)

-- so it is of a table that is typed already: the slots w hold its widest types
pub record TypedJudged (t w l : List ℕ) (r : Check) : Type 0 where
  pub judged : (Γ : Env signature1) → Holds w Γ → IsWidest t Γ → Judged t l r

-- a refusal that four bytes can hold, and that is not four zeros: its number is above 0, and its place fits 16 bits
abbrev pub Fits : Refusal → Type 0
Fits x = (0 < x.number) × (x.place < 65536)

-- a list that is the file of a faithful rendering of the table with its widest types, and has no fault 1 to 5
pub record FaithfulFile (t l : List ℕ) : Type 0 where
  pub Γ : Env signature1
  pub list : StatementList signature1
  pub widest : IsWidest t Γ
  pub in_order : least (list_rungs l (free_count t)) ≡ Ok tt
  pub is_file : l ≡ list_bytes list
  pub faithful : FaithfulList signature1 halves (table_of t) (types_to Γ (symbols t)) list
