-- `table_naming::mark_parts` meets its contract. Assumes nothing.
use Rattle.marks.proofs.PutLaws.{put_both}
use Rattle.table_naming.specs.Naming.{has_part}
use Rattle.table_naming.proofs.mark_parts.Goals as goal

pub returns : goal.returns
unfolding has_part
returns c = put_both c.mark_part.ensures c.mark_part-2.ensures
