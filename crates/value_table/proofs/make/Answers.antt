-- `value_table::make` meets its contract. Assumes nothing.
use mathlib.Core.Path.{sym, ◌∙◌}
use Rattle.value_table.proofs.Finding.{makes_there, makes_new}
use Rattle.value_table.proofs.make.Goals as goal

pub returns-in-Some : goal.returns-in-Some
returns-in-Some c = makes_there _ _ _ _ _ _ (sym c.in-Some.is ∙ c.find.ensures)

pub returns : goal.returns
returns c = makes_new _ _ _ _ _ _ (sym c.in_default.is ∙ c.find.ensures) c.append.ensures
