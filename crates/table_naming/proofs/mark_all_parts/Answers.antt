-- `table_naming::mark_all_parts` meets its contract. Assumes nothing.
use Rattle.marks.proofs.PutLaws.{put_start, put_more}
use Rattle.table_naming.specs.Naming.{has_part}
use Rattle.table_naming.proofs.mark_all_parts.Goals as goal

pub loop-e-init : goal.loop-e-init
loop-e-init c = put_start _ (has_part c.args.s.now) 1

pub loop-e-preserved : goal.loop-e-preserved
loop-e-preserved c = put_more (has_part c.args.s.now) _ c.loop-e.invariant c.mark_parts.ensures
