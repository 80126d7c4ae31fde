-- `table_layout::step_ok` meets its contract. Assumes nothing.
use native.Mathlib.Omega.{arith}
use Rattle.std.proofs.lemmas.Grind.{common_steps}
use Rattle.table_layout.specs.Layout.{step_ok}
use Rattle.table_layout.proofs.step_ok.Goals as goal

pub returns-then-sort_ok : goal.returns-then-sort_ok
unfolding step_ok
returns-then-sort_ok c = grind (arith, common_steps)

pub returns-else-sort_ok : goal.returns-else-sort_ok
unfolding step_ok
returns-else-sort_ok c = grind (arith, common_steps)
