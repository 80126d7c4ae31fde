-- `table_binding::binds_new` meets its contract. Assumes nothing.
use native.Mathlib.Omega.{arith}
use Rattle.std.proofs.lemmas.Grind.{common_steps}
use Rattle.table_binding.specs.Binding.{binds_new}
use Rattle.table_binding.proofs.binds_new.Goals as goal

pub returns-then-not-binds_again-2 : goal.returns-then-not-binds_again-2
unfolding binds_new
returns-then-not-binds_again-2 c = grind (arith, common_steps)

pub returns-else-not-binds_again-2 : goal.returns-else-not-binds_again-2
unfolding binds_new
returns-else-not-binds_again-2 c = grind (arith, common_steps)
