-- `marks::put` meets its contract. Assumes nothing.
use Rattle.marks.proofs.PutLaws.{put_one, put_none}
use Rattle.marks.proofs.put.Goals as goal

pub returns-then-wanted : goal.returns-then-wanted
returns-then-wanted c = rw c.wide.ensures (put_one _ _ _ _ c.if-wanted.true)

pub returns-else-wanted : goal.returns-else-wanted
returns-else-wanted c = put_none _ _ _ _ c.if-wanted.false
