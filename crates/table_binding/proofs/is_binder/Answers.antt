-- `table_binding::is_binder` meets its contract. Assumes nothing.
use native.Mathlib.Omega.{arith}
use Rattle.std.proofs.lemmas.Grind.{common_steps}
use Rattle.table_binding.specs.Binding.{is_binder}
use Rattle.table_binding.proofs.is_binder.Goals as goal

pub returns-then-role-eq-NAME : goal.returns-then-role-eq-NAME
unfolding is_binder
returns-then-role-eq-NAME c = grind (arith, common_steps)

pub returns-else-role-eq-NAME : goal.returns-else-role-eq-NAME
unfolding is_binder
returns-else-role-eq-NAME c = grind (arith, common_steps)
