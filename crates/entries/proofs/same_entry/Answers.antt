-- `entries::same_entry` meets its contract. Assumes nothing.
use Rattle.std.proofs.lemmas.Grind.{common_steps}
use native.Mathlib.Omega.{arith}
use Rattle.entries.specs.Fields.{same_entry}
use Rattle.entries.proofs.same_entry.Goals as goal

pub returns-then-field_at : goal.returns-then-field_at
unfolding same_entry
returns-then-field_at c = grind (arith, common_steps)

pub returns-else-field_at : goal.returns-else-field_at
unfolding same_entry
returns-else-field_at c = grind (arith, common_steps)
