-- The verdict on a list's statements: numbers 12 and 13, as the judge of the meaning layer gives them. Assumes nothing: these are definitions.
use Rattle.std.specs.Prelude.{◌≡◌, Result, Ok, Err, List, ℕ, ltb}
use Rattle.base.specs.Pick.{pick}
use Rattle.answers.specs.Ladder.{least}
use Rattle.table_layout.specs.Layout.{steps}
use Rattle.table.specs.Faults.{table_rungs}
use Rattle.list.specs.Faults.{list_rungs}
use Rattle.calculus.specs.Version1.{signature1}
use Rattle.rendering.specs.Rendering.{halves}
use Rattle.rendering.specs.Judge.{Verdict, accepted, not_due, unfinished, judge}
use Rattle.decoded.specs.Table.{table_of, free_count}
use Rattle.decoded_list.specs.Statements.{statements_of}
use Rattle.judging.specs.declared.State.{State}
use Rattle.judging.specs.declared.Unfaithful.{Unfaithful}
use Rattle.judging.specs.declared.Unfaithful.TheVariants.{NotDue, Unfinished}

-- accepted; 12 with the statement's index; 13 with the step
abbrev pub verdict_of : Result (Unit {0}) Unfaithful → Verdict
verdict_of (Ok u) = accepted
verdict_of (Err (NotDue i)) = not_due i
verdict_of (Err (Unfinished k)) = unfinished k

-- after the last statement
unfoldable pub at_end_of : List ℕ → State → Result (Unit {0}) Unfaithful
at_end_of t a = pick (ltb a.step (steps t)) (Err (Unfinished a.step)) (Ok tt)

-- where the table passes 1 to 9 and the list passes 1 to 5, the verdict is the judge's
pub record StatementsJudged (t l : List ℕ) (r : Result (Unit {0}) Unfaithful) : Type 0 where
  pub verdict : least (table_rungs t) ≡ Ok tt → least (list_rungs l (free_count t)) ≡ Ok tt
      → verdict_of r ≡ judge signature1 halves (table_of t) (statements_of l)
