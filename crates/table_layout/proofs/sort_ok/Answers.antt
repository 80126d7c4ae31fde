-- `table_layout::sort_ok` meets its contract. Assumes nothing.
use native.Mathlib.Omega.{arith}
use Rattle.std.proofs.lemmas.Grind.{common_steps}
use Rattle.table_layout.specs.Layout.{sort_ok}
use Rattle.table_layout.proofs.sort_ok.Goals as goal

pub returns-in-6 : goal.returns-in-6
unfolding sort_ok
returns-in-6 c = grind (arith, common_steps)

pub returns-in-7 : goal.returns-in-7
unfolding sort_ok
returns-in-7 c = grind (arith, common_steps)

pub returns-in_default : goal.returns-in_default
unfolding sort_ok
returns-in_default c = grind (arith, common_steps)
