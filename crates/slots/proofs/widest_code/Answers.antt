-- `slots::widest_code` meets its contract. Assumes nothing.
use mathlib.Core.Path.{sym, ◌∙◌}
use Rattle.slots.proofs.TermLaws.{widest_name, widest_variable, widest_past}
use Rattle.slots.proofs.widest_code.Goals.{else-x-symbol_count-via-then-x-symbol_count+else-sort_at-eq0, else-x-symbol_count-via-else-x-symbol_count}
use Rattle.slots.proofs.widest_code.Goals as goal

pub returns-then-sort_at-eq0 : goal.returns-then-sort_at-eq0
returns-then-sort_at-eq0 c = widest_name _ _ (rw c.symbol_count.ensures at c.if-x-symbol_count.true) (sym c.sort_at.ensures ∙ c.if-sort_at-eq0.true)

pub returns-else-x-symbol_count : goal.returns-else-x-symbol_count
returns-else-x-symbol_count c = elim c.else-x-symbol_count.branch [
  | else-x-symbol_count-via-then-x-symbol_count+else-sort_at-eq0 w ↦ widest_variable _ _ (rw c.symbol_count.ensures at w.if-x-symbol_count.true) (rw w.sort_at.ensures at w.if-sort_at-eq0.false)
  | else-x-symbol_count-via-else-x-symbol_count w ↦ widest_past _ _ (rw c.symbol_count.ensures at w.if-x-symbol_count.false)
]
