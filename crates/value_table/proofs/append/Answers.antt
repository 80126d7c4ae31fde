-- `value_table::append` meets its contract. Assumes nothing.
use mathlib.Core.Path.{refl}
use Rattle.value_table.proofs.Keeping.{appended_past, appended_there}
use Rattle.value_table.proofs.append.Goals as goal

pub returns-then-at-out : goal.returns-then-at-out
returns-then-at-out c = appended_there _ _ _ _ _ _ _ refl c.put_numbers.ensures

pub returns-else-at-out : goal.returns-else-at-out
returns-else-at-out c = appended_past _ _ _ _ _ c.if-at-out.false
