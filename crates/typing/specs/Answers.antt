-- What the inference answers of a role table without faults 1 to 9, in the words of the meaning. Assumes nothing: these are definitions.
use Rattle.std.specs.Prelude.{◌≡◌, Ok, Err, List, ℕ, length}
use Rattle.answers.specs.Ladder.{refusal, least, Check}
use Rattle.table.specs.Faults.{table_rungs}
use Rattle.calculus.specs.Figure2.{Env}
use Rattle.calculus.specs.Typing.{widest, untyped, AnswerIs}
use Rattle.calculus.specs.Version1.{signature1}
use Rattle.decoded.specs.Table.{table_of}
use Rattle.slots.specs.Slots.{Holds}
use Rattle.typing.specs.Typing.{Typing}

-- the slots hold the widest typing; or the rest of the steps from k on has none, and k is the highest such step (number 10)
abbrev pub TypingIs : List ℕ → List ℕ → Typing → Type 0
TypingIs s o (Ok u) = (Γ : Env signature1) × Holds o Γ × AnswerIs signature1 (table_of s) (widest Γ)
TypingIs s o (Err e) = AnswerIs signature1 (table_of s) (untyped e.place)

-- document 01's number of the inference's answer, with file and place
abbrev pub typing_check : Typing → Check
typing_check (Ok u) = Ok tt
typing_check (Err e) = Err (refusal 10 0 e.place)

-- so it is for a table without faults 1 to 9, if the lent array w is 96 slots of 129 bytes, whatever they held
pub record TableInferred (s w o : List ℕ) (r : Typing) : Type 0 where
  pub answer : length w ≡ 12384 → least (table_rungs s) ≡ Ok tt → TypingIs s o r
