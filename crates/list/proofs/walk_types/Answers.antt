-- `list::walk_types` meets its contract. Assumes nothing.
use mathlib.Core.Path.{sym, ◌∙◌}
use native.Mathlib.Omega.{arith}
use Rattle.answers.proofs.Ladder.{rung_found}
use Rattle.list.specs.Layout.{type_ok}
use Rattle.list.specs.Faults.{type_rung}
use Rattle.list.proofs.walk_types.Goals as goal

pub returns-then-not-type_ok : goal.returns-then-not-type_ok
unfolding type_ok
returns-then-not-type_ok c =
    let l = c.loop in
    c.refuse.ensures ∙ rung_found (type_rung c.args.s.now) l.counter _ l.invariant.2 (omega arith) (rw (← l.invariant.1) (sym c.type_ok.ensures ∙ c.if-not-type_ok.true)) (rw l.invariant.1)
