-- `marks::get` meets its contract. Assumes nothing.
use Rattle.marks.proofs.get.Goals as goal

pub returns : goal.returns
returns c = rw c.wide.ensures
