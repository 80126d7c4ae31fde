-- `table_naming::mark_all_uses` meets its contract. Assumes nothing.
use Rattle.marks.proofs.PutLaws.{put_start, put_more}
use Rattle.table_naming.specs.Naming.{uses_term}
use Rattle.table_naming.proofs.mark_all_uses.Goals as goal

pub loop-k-init : goal.loop-k-init
loop-k-init c = put_start _ (uses_term c.args.s.now) 1

pub loop-k-preserved : goal.loop-k-preserved
loop-k-preserved c = put_more (uses_term c.args.s.now) _ c.loop-k.invariant c.mark_uses.ensures
