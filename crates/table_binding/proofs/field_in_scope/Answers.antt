-- `table_binding::field_in_scope` meets its contract. Assumes nothing.
use native.Mathlib.Omega.{arith}
use Rattle.std.proofs.lemmas.Grind.{common_steps}
use Rattle.table_binding.specs.Binding.{field_in_scope}
use Rattle.table_layout.specs.Layout.{terms}
use Rattle.table_binding.proofs.PassLaws.{latest_past}
use Rattle.table_binding.proofs.field_in_scope.Goals as goal

pub returns-then-term_count-t : goal.returns-then-term_count-t
unfolding field_in_scope
returns-then-term_count-t c = grind (arith, common_steps, latest_past c.args.s.now (terms c.args.s.now) c.step_field-t.result)

pub returns-else-term_count-t : goal.returns-else-term_count-t
unfolding field_in_scope
returns-else-term_count-t c = grind (arith, common_steps)
