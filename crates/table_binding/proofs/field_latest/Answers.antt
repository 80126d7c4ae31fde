-- `table_binding::field_latest` meets its contract. Assumes nothing.
use native.Mathlib.Omega.{arith}
use Rattle.std.proofs.lemmas.Grind.{common_steps}
use Rattle.table_binding.specs.Binding.{field_latest}
use Rattle.table_binding.proofs.PassLaws.{latest_past}
use Rattle.table_binding.proofs.field_latest.Goals as goal

pub returns-then-role-eq-SYMBOL : goal.returns-then-role-eq-SYMBOL
unfolding field_latest
returns-then-role-eq-SYMBOL c = grind (arith, common_steps)

pub returns-then-v-i : goal.returns-then-v-i
unfolding field_latest
returns-then-v-i c = grind (arith, common_steps)

pub returns-else-role-eq-PART : goal.returns-else-role-eq-PART
unfolding field_latest
returns-else-role-eq-PART c = grind (arith, common_steps, latest_past c.args.s.now c.args.i c.term_field-v.result)
