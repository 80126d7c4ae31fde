-- `table_naming::first_idle` meets its contract. Assumes nothing.
use mathlib.Core.Path.{◌∙◌}
use borrow.Author.Rules.{rules}
use borrow.Author.Tests.{tests}
use Rattle.base.proofs.Ranges.{find_in_range}
use Rattle.answers.proofs.Finds.{find_passes, find_refuses}
use Rattle.table_naming.specs.Naming.{idle_rung}
use Rattle.table_naming.proofs.Idle.{marks_walked}
use Rattle.table_naming.proofs.first_idle.Goals as goal

pub returns-in-None : goal.returns-in-None
returns-in-None c =
    find_passes (idle_rung c.args.s.now) (rw (← c.term_count.ensures) (find_in_range _ _ _ _ c.find.ensures.ran (λ x b q k. search (rules, tests)) ∙ marks_walked c.requires _ (search rules))) c.in-None.is

pub returns-in-Some : goal.returns-in-Some
returns-in-Some c =
    c.refuse.ensures ∙ find_refuses (idle_rung c.args.s.now) (rw (← c.term_count.ensures) (find_in_range _ _ _ _ c.find.ensures.ran (λ x b q k. search (rules, tests)) ∙ marks_walked c.requires _ (search rules))) c.in-Some.is (rw c.wide.ensures)
