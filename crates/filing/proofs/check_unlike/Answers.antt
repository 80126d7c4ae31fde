-- `filing::check_unlike` meets its contract. Assumes nothing.
use Rattle.filing.proofs.Filing.{all_free}
use Rattle.filing.proofs.check_unlike.Goals as goal

pub check_filed-requires : goal.check_filed-requires
check_filed-requires c = all_free 3069
