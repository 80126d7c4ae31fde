-- `shelf_service::add_up` meets its contract. Assumes nothing.
use Rattle.shelf_service.proofs.Totals.{too_long}
use Rattle.shelf_service.proofs.add_up.Goals as goal

pub returns-in_default : goal.returns-in_default
returns-in_default c = too_long _ _ _ _ c.loop-n.invariant c.loop-n-test.true c.in_default.ensures
