-- `table_naming::mark_use` meets its contract. Assumes nothing.
use Rattle.marks.proofs.PutLaws.{put_as}
use Rattle.table_naming.specs.Naming.{use_at}
use Rattle.table_naming.proofs.mark_use.Goals as goal

pub returns : goal.returns
unfolding use_at
returns c = put_as (λ i. rw (c.step_role-wanted.ensures, c.step_field.ensures)) c.put.ensures
