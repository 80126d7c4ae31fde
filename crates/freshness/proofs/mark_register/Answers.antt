-- `freshness::mark_register` meets its contract. Assumes nothing.
use Rattle.freshness.proofs.HeldLaws.{register_symbol, register_term}
use Rattle.freshness.proofs.mark_register.Goals as goal

pub returns-then-number-eq1 : goal.returns-then-number-eq1
returns-then-number-eq1 c = register_symbol _ _ _ c.if-number-eq1.true _ c.mark.ensures

pub returns-else-number-eq1 : goal.returns-else-number-eq1
returns-else-number-eq1 c = register_term _ _ _ c.if-number-eq1.false
