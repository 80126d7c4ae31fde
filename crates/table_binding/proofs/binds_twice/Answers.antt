-- `table_binding::binds_twice` meets its contract. Assumes nothing.
use native.Mathlib.Omega.{arith}
use Rattle.std.proofs.lemmas.Grind.{common_steps}
use Rattle.table_binding.specs.Binding.{twice}
use Rattle.table_binding.proofs.binds_twice.Goals as goal

pub returns-then-is_binder-2 : goal.returns-then-is_binder-2
unfolding twice
returns-then-is_binder-2 c = grind (arith, common_steps)

pub returns-else-is_binder-2 : goal.returns-else-is_binder-2
unfolding twice
returns-else-is_binder-2 c = grind (arith, common_steps)
