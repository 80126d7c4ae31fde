-- `freshness::mark` meets its contract. Assumes nothing.
use Rattle.freshness.proofs.MarkLaws.{mark_there}
use Rattle.freshness.proofs.mark.Goals as goal

pub returns-then-w-below : goal.returns-then-w-below
returns-then-w-below c = mark_there _ _ _ c.if-w-below.true
