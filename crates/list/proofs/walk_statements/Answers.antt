-- `list::walk_statements` meets its contract. Assumes nothing.
use mathlib.Core.Path.{sym, ◌∙◌}
use native.Mathlib.Omega.{arith}
use Rattle.answers.proofs.Ladder.{rung_found}
use Rattle.list.specs.Layout.{statement_ok}
use Rattle.list.specs.Faults.{statement_rung}
use Rattle.list.proofs.walk_statements.Goals as goal

pub returns-then-not-statement_ok : goal.returns-then-not-statement_ok
unfolding statement_ok
returns-then-not-statement_ok c =
    let l = c.loop-i in
    let b = c.statements_at-base.ensures in
    c.refuse.ensures ∙ rung_found (statement_rung c.args.s.now c.args.free) l.i _ l.invariant.2 (omega arith) (rw (← l.invariant.1, ← b) (sym c.statement_ok.ensures ∙ c.if-not-statement_ok.true)) (rw (c.place_of.ensures, b))
