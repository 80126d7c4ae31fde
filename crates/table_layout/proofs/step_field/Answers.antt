-- `table_layout::step_field` meets its contract. Assumes nothing.
use mathlib.Core.Path.{sym, ap, ◌∙◌}
use native.Mathlib.Omega.{arith}
use Rattle.table_layout.proofs.FieldLaws.{step_field_byte}
use Rattle.base.specs.Bytes.{byte}
use Rattle.table_layout.proofs.step_field.Goals as goal

pub returns : goal.returns
returns c = c.byte_at.ensures ∙ ap (byte c.args.s.now) (omega arith) ∙ sym (step_field_byte _ _ _ _)
