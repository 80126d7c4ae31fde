-- `translate::make_term` meets its contract. Assumes nothing.
use Rattle.std.proofs.Common.{refl}
use Rattle.translate.proofs.Giving.{term_given}
use Rattle.translate.proofs.make_term.Goals as goal

pub returns-clause-given : goal.returns-clause-given
returns-clause-given c = term_given refl _ c.ranges.i.fits refl c.note.ensures
