-- `table_binding::in_scope` meets its contract. Assumes nothing.
use native.Mathlib.Omega.{arith}
use Rattle.std.proofs.lemmas.Grind.{common_steps}
use Rattle.table_binding.specs.Binding.{in_scope}
use Rattle.table_binding.proofs.in_scope.Goals as goal

pub returns-then-field_in_scope : goal.returns-then-field_in_scope
unfolding in_scope
returns-then-field_in_scope c = grind (arith, common_steps)

pub returns-else-field_in_scope : goal.returns-else-field_in_scope
unfolding in_scope
returns-else-field_in_scope c = grind (arith, common_steps)
