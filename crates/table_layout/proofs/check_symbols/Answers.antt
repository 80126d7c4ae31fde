-- `table_layout::check_symbols` meets its contract. Assumes nothing.
use mathlib.Core.Path.{◌∙◌}
use borrow.Author.Rules.{rules}
use borrow.Author.Tests.{tests}
use Rattle.base.proofs.Ranges.{find_in_range}
use Rattle.answers.proofs.Finds.{find_passes, find_refuses}
use Rattle.table_layout.specs.Layout.{symbol_ok}
use Rattle.table_layout.specs.Faults.{symbol_rung}
use Rattle.table_layout.proofs.check_symbols.Goals as goal

pub returns-in-None : goal.returns-in-None
unfolding symbol_ok
returns-in-None c =
    find_passes (symbol_rung c.args.s.now) (rw (← c.symbol_count.ensures) (find_in_range _ _ _ _ c.find.ensures.ran (λ x b q k. search (rules, tests)))) c.in-None.is

pub returns-in-Some : goal.returns-in-Some
unfolding symbol_ok
returns-in-Some c =
    c.refuse.ensures ∙ find_refuses (symbol_rung c.args.s.now) (rw (← c.symbol_count.ensures) (find_in_range _ _ _ _ c.find.ensures.ran (λ x b q k. search (rules, tests)))) c.in-Some.is (rw c.wide.ensures)
