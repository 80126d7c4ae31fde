-- `table_naming::mark_part` meets its contract. Assumes nothing.
use Rattle.marks.proofs.PutLaws.{put_as}
use Rattle.table_naming.specs.Naming.{part_at}
use Rattle.table_naming.proofs.mark_part.Goals as goal

pub returns : goal.returns
unfolding part_at
returns c = put_as (λ i. rw (c.term_role-wanted.ensures, c.term_field.ensures)) c.put.ensures
