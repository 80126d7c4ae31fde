-- `table_binding::binds_again` meets its contract. Assumes nothing.
use native.Mathlib.Omega.{arith}
use Rattle.std.proofs.lemmas.Grind.{common_steps}
use Rattle.table_binding.specs.Binding.{again}
use Rattle.table_binding.proofs.binds_again.Goals as goal

pub returns-then-is_binder : goal.returns-then-is_binder
unfolding again
returns-then-is_binder c = grind (arith, common_steps)

pub returns-else-is_binder : goal.returns-else-is_binder
unfolding again
returns-else-is_binder c = grind (arith, common_steps)
