-- `table_naming::mark_uses` meets its contract. Assumes nothing.
use Rattle.marks.proofs.PutLaws.{put_both}
use Rattle.table_naming.specs.Naming.{uses_term}
use Rattle.table_naming.proofs.mark_uses.Goals as goal

pub returns : goal.returns
unfolding uses_term
returns c = put_both c.mark_use.ensures c.mark_use-2.ensures
