-- `machine::ended` meets its contract. Assumes nothing.
use Rattle.effects.proofs.EndingLaws.{ending_cast}
use Rattle.machine.proofs.ended.Goals as goal

pub returns : goal.returns
returns c = rw (ending_cast c.args.ending)
