-- `translate::bind_step` meets its contract. Assumes nothing.
use Rattle.std.proofs.Common.{◌<◌, sym, ◌∙◌, arith}
use borrow.Author.Rules.{rules}
use Rattle.translate.proofs.StepLaws.{binds_none, binds_one, binds_two}
use Rattle.translate.proofs.bind_step.Goals as goal

pub returns-in-0-clause-bound : goal.returns-in-0-clause-bound
returns-in-0-clause-bound c ms h = rw (binds_none _ _ _ (sym c.step_code.ensures) c.in-0.is ms) h

pub returns-in-4-clause-bound : goal.returns-in-4-clause-bound
returns-in-4-clause-bound c ms h =
    rw (binds_two _ _ (sym c.step_code.ensures ∙ c.in-4.is) ms, ← c.step_field-x.ensures, ← c.step_field.ensures) (c.bind-in-4.ensures.given.holds _ (c.bind.ensures.given.holds ms h))

pub returns-in_default-clause-bound : goal.returns-in_default-clause-bound
returns-in_default-clause-bound c ms h =
    let g = c.step_code.ensures in
    let u : c.step_code.result < 6 = omega (arith, c.requires.0, g) in
    rw (binds_one _ _ _ (sym g) u (search rules) (search rules) (search rules) ms, ← c.step_field-x.ensures) (c.bind-in_default.ensures.given.holds ms h)
