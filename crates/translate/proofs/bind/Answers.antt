-- `translate::bind` meets its contract. Assumes nothing.
use Rattle.std.proofs.Common.{refl}
use Rattle.translate.proofs.Giving.{symbol_given}
use Rattle.translate.proofs.bind.Goals as goal

pub returns-clause-given : goal.returns-clause-given
returns-clause-given c = symbol_given refl _ c.ranges.x.fits refl c.note.ensures
