-- `table_layout::check_steps` meets its contract. Assumes nothing.
use mathlib.Core.Path.{◌∙◌}
use borrow.Author.Rules.{rules}
use borrow.Author.Tests.{tests}
use Rattle.base.proofs.Ranges.{find_in_range}
use Rattle.answers.proofs.Finds.{find_passes, find_refuses}
use Rattle.table_layout.specs.Faults.{step_rung}
use Rattle.table_layout.proofs.check_steps.Goals as goal

pub returns-in-None : goal.returns-in-None
returns-in-None c =
    find_passes (step_rung c.args.s.now) (rw (← c.step_count.ensures) (find_in_range _ _ _ _ c.find.ensures.ran (λ x b q k. search (rules, tests)))) c.in-None.is

pub returns-in-Some : goal.returns-in-Some
returns-in-Some c =
    c.refuse.ensures ∙ find_refuses (step_rung c.args.s.now) (rw (← c.step_count.ensures) (find_in_range _ _ _ _ c.find.ensures.ran (λ x b q k. search (rules, tests)))) c.in-Some.is (rw (c.place_of.ensures, c.steps_at.ensures))
