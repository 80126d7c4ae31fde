-- `table_layout::step_in_range` meets its contract. Assumes nothing.
use mathlib.Core.Path.{◌∙◌}
use Rattle.table_layout.specs.Layout.{step_in_range}
use Rattle.table_layout.proofs.step_in_range.Goals as goal

pub returns : goal.returns
unfolding step_in_range
returns c = c.entry_ok.ensures ∙ rw (c.limits-limits.ensures, c.wide-2.ensures, c.term_count.ensures, c.wide.ensures, c.symbol_count.ensures, c.word_at.ensures, c.steps_at.ensures)
