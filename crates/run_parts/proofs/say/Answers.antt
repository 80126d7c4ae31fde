-- `run_parts::say` meets its contract. Assumes nothing.
use Rattle.run_parts.proofs.KeptLaws.{says_more, says_full}
use Rattle.run_parts.proofs.say.Goals as goal

pub returns-then-logged-eq65535 : goal.returns-then-logged-eq65535
returns-then-logged-eq65535 c = says_full _ _ _ _ _ _ _ c.if-logged-eq65535.true

pub returns : goal.returns
returns c = says_more _ _ _ _ _ _ c.append.ensures
