-- `table_naming::check_named` meets its contract. Assumes nothing.
use Rattle.marks.specs.Put.{blank}
use Rattle.marks.proofs.PutLaws.{put_both}
use Rattle.table_naming.specs.Naming.{named}
use Rattle.table_naming.proofs.check_named.Goals as goal

pub first_idle-requires : goal.first_idle-requires
unfolding named blank
first_idle-requires c = put_both c.mark_all_parts.ensures c.mark_all_uses.ensures
