-- `table_layout::counts_ok` meets its contract. Assumes nothing.
use native.Mathlib.Omega.{arith}
use Rattle.std.proofs.lemmas.Grind.{common_steps}
use Rattle.table_layout.specs.Layout.{counts_ok}
use Rattle.table_layout.proofs.counts_ok.Goals as goal

pub returns-then-term_count-le128 : goal.returns-then-term_count-le128
unfolding counts_ok
returns-then-term_count-le128 c = grind (arith, common_steps)

pub returns-else-term_count-le128 : goal.returns-else-term_count-le128
unfolding counts_ok
returns-else-term_count-le128 c = grind (arith, common_steps)
