-- What a turn of the walk needs and leaves, in the judge's own terms. Assumes nothing: these are definitions.
use Rattle.std.specs.Prelude.{◌≡◌, true, Option as Optional, Some, None, List, ◌++◌, ℕ, ◌+◌, ◌<◌, length, Ok}
use Rattle.std.proofs.Math.Option.{Option, none, some}
use Rattle.base.specs.Search.{Search, clean, wrong}
use Rattle.codes.specs.Rows.{cell}
use Rattle.answers.specs.Ladder.{least}
use Rattle.entries.specs.Fields.{code, field}
use Rattle.table_layout.specs.Layout.{steps, steps_at}
use Rattle.table.specs.Faults.{table_rungs}
use Rattle.calculus.specs.Signature.{Two}
use Rattle.calculus.specs.Terms.{build2, Statement, build}
use Rattle.calculus.specs.Version1.{Seal1, signature1}
use Rattle.rendering.specs.Judge.{Meaning, DuesByIndex, turn}
use Rattle.decoded.specs.Table.{two_code}
use Rattle.decoded_list.specs.Statements.{statement_of}
use Rattle.decoded.specs.Indexes.{entries_of}
use Rattle.judging.specs.Meanings.{Meant, Known}
use Rattle.judging.specs.Due.{due_from, step_after, half_after}
use Rattle.judging.specs.declared.Registers.{Registers}
use Rattle.judging.specs.declared.State.{State}

-- the first term that fits is the first at which not to fit fails
abbrev pub found_as : Optional ℕ → Search
found_as (Some i) = wrong i
found_as None = clean

-- what is due after a statement of step k
pub record Next (op k : ℕ) (a : State) : Type 0 where
  pub step_right : a.step ≡ step_after op k
  pub half_right : a.half ≡ half_after op

-- only the left half of a split is ever done by itself
abbrev pub HalfDone : List ℕ → State → Type 0
HalfDone t a = a.half ≡ true → (a.step < steps t) × (code t 1 (steps_at t) a.step ≡ 4)

-- what the judge answers to a statement
abbrev pub Answer : Type 0
Answer = Option (List Meaning × DuesByIndex signature1)

-- the judge goes on: what the statement gives is known, and the state says what is due
pub record WentOn (t : List ℕ) (ms : List Meaning) (r : Registers) (op : ℕ) (o : Answer) (a : State) : Type 0 where
  pub new : List Meaning
  pub turned : o ≡ some (new, due_from t a.step a.half)
  pub count : length new ≡ cell 2 op 4
  pub known : Known (ms ++ new) r
  pub done : HalfDone t a

-- the turn is the judge's
unfoldable pub Turned : List ℕ → List Meaning → Registers → ℕ → Answer → Optional State → Type 0
Turned t ms r op o None = o ≡ none
Turned t ms r op o (Some a) = WentOn t ms r op o a

-- where 1 to 9 pass, whatever the registers mean: the turn at a statement of an op whose operand registers mean p and q
abbrev pub TurnsAt : List ℕ → ℕ → (ℕ → ℕ → Statement signature1) → ℕ → ℕ → Registers → Registers → State → Optional State → Type 0
TurnsAt t op statement p q r r' a b =
    least (table_rungs t) ≡ Ok tt → (ms : List Meaning) (u v : ℕ) → Known ms r → HalfDone t a
    → (¬ (op ≡ 2) → Meant ms u p × Meant ms v q)
    → Turned t ms r' op (turn signature1 (entries_of t) ms (due_from t a.step a.half) (statement u v)) b

-- a build of a kind that has two parts
abbrev pub BuildTurns : List ℕ → ℕ → ℕ → ℕ → Registers → Registers → State → Optional State → Type 0
BuildTurns t kind p q r r' a b = (k : Two Seal1) → kind ≡ two_code k → TurnsAt t (kind + 6) (λ u v. build (build2 k u v)) p q r r' a b

-- any other statement
abbrev pub SayTurns : List ℕ → ℕ → ℕ → ℕ → ℕ → Registers → Registers → State → Optional State → Type 0
SayTurns t op p q x r r' a b = op < 7 → TurnsAt t op (λ u v. statement_of op u v x) p q r r' a b

-- a statement of a known op whose registers are given already
pub record Readable (l : List ℕ) (base i registers : ℕ) : Type 0 where
  pub known : code l 2 base i < 9
  pub operands : ¬ (code l 2 base i ≡ 2) → (field l 2 base i 0 < registers) × (field l 2 base i 1 < registers)

-- the turn at statement i of a list
abbrev pub Turns : List ℕ → List ℕ → ℕ → ℕ → Registers → Registers → State → Optional State → Type 0
Turns t l base i r r' a b =
    least (table_rungs t) ≡ Ok tt → (ms : List Meaning) → Readable l base i (length ms) → Known ms r → HalfDone t a
    → Turned t ms r' (code l 2 base i)
    (turn signature1 (entries_of t) ms (due_from t a.step a.half) (statement_of (code l 2 base i) (field l 2 base i 0) (field l 2 base i 1) (field l 2 base i 2))) b
