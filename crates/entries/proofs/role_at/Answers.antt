-- `entries::role_at` meets its contract. Assumes nothing.
use mathlib.Core.Path.{◌∙◌}
use Rattle.entries.specs.Fields.{role}
use Rattle.entries.proofs.role_at.Goals as goal

pub returns : goal.returns
unfolding role
returns c = c.cell_at.ensures ∙ rw (c.number.ensures, c.code_at.ensures)
