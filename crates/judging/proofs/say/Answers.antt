-- `judging::say` meets its contract. Assumes nothing.
use mathlib.Core.Path.{sym, ◌∙◌}
use Rattle.judging.specs.Turns.{Turned}
use Rattle.judging.proofs.SaidLaws.{said_end, said_not, said_on}
use Rattle.judging.proofs.say.Goals.{else-k-step_count-via-then-k-step_count+else-is_due, else-k-step_count-via-else-k-step_count}
use Rattle.judging.proofs.say.Goals as goal

pub returns-then-is_due : goal.returns-then-is_due
unfolding Turned
returns-then-is_due c =
    let a = c.args in
    let h = rw c.step_count.ensures at c.if-k-step_count.true in
    let d = sym c.is_due.ensures ∙ c.if-is_due.true in
    λ l e ms u v known g o. said_on a.s.now e ms a.state g a.statement.op u v a.statement.p a.statement.q a.statement.x l o h _ _ _ d known c.bind.ensures c.after.ensures

pub returns : goal.returns
unfolding Turned
returns c =
    let a = c.args in
    λ l e ms u v known g o. elim c.else-k-step_count.branch [
      | else-k-step_count-via-then-k-step_count+else-is_due w ↦
          let h = rw c.step_count.ensures at w.if-k-step_count.true in
          said_not a.s.now e ms a.state g a.statement.op u v a.statement.p a.statement.q a.statement.x l o h (sym w.is_due.ensures ∙ w.if-is_due.false)
      | else-k-step_count-via-else-k-step_count w ↦
          said_end a.s.now e ms a.state g a.statement.op u v a.statement.p a.statement.q a.statement.x l o (rw c.step_count.ensures at w.if-k-step_count.false)
    ]
