-- `entries::code_at` meets its contract. Assumes nothing.
use mathlib.Core.Path.{◌∙◌}
use Rattle.entries.specs.Fields.{code}
use Rattle.entries.proofs.code_at.Goals as goal

pub returns : goal.returns
unfolding code
returns c = c.byte_at.ensures ∙ rw c.place_of.ensures
