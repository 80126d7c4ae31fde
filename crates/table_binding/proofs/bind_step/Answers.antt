-- `table_binding::bind_step` meets its contract. Assumes nothing.
use Rattle.table_binding.specs.Binding.{binds}
use Rattle.marks.proofs.PutLaws.{put_both}
use Rattle.table_binding.proofs.bind_step.Goals as goal

pub returns : goal.returns
unfolding binds
returns c = put_both c.bind_field.ensures c.bind_field-2.ensures
