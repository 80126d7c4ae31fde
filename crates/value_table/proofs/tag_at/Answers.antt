-- `value_table::tag_at` meets its contract. Assumes nothing.
use Rattle.value_table.specs.Values.{tag_at}
use mathlib.Core.Path.{sym, ◌∙◌}
use Rattle.value_table.proofs.tag_at.Goals as goal

pub returns-then-is_known : goal.returns-then-is_known
unfolding tag_at
returns-then-is_known c = rw (sym c.is_known.ensures ∙ c.if-is_known.true) c.code_at.ensures

pub returns : goal.returns
unfolding tag_at
returns c = rw (sym c.is_known.ensures ∙ c.if-is_known.false)
