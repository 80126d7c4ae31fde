-- `table_binding::bind_all` meets its contract. Assumes nothing.
use mathlib.Core.Path.{refl, sym, ◌∙◌}
use native.Mathlib.Omega.{arith}
use Rattle.base.proofs.Searched.{first_right}
use Rattle.answers.proofs.Ladder.{rung_found, rung_clean}
use Rattle.table_binding.proofs.PassLaws.{binders_start, binders_more}
use Rattle.table_binding.specs.Binding.{bind_rung}
use Rattle.table_binding.proofs.bind_all.Goals as goal

pub loop-k-init : goal.loop-k-init
loop-k-init c = record { right_so_far = refl; noted_so_far = binders_start _ _ c.requires }

pub returns-then-not-binds_new-clause-number : goal.returns-then-not-binds_new-clause-number
returns-then-not-binds_new-clause-number c =
    c.refuse.ensures ∙ rung_found (bind_rung c.args.s.now) _ _ c.loop-k.invariant.right_so_far (omega arith) (sym c.binds_new.ensures ∙ c.if-not-binds_new.true) (rw c.wide.ensures)

pub loop-k-preserved : goal.loop-k-preserved
loop-k-preserved c = record {
  right_so_far = c.loop-k.invariant.right_so_far ∙ first_right _ _ _ (omega arith) (sym c.binds_new.ensures ∙ c.if-not-binds_new.false);
  noted_so_far = binders_more _ _ _ _ c.loop-k.invariant.noted_so_far c.bind_step.ensures;
}

pub returns-clause-number : goal.returns-clause-number
returns-clause-number c = rung_clean (bind_rung c.args.s.now) _ c.loop-k.invariant.right_so_far (omega arith)
