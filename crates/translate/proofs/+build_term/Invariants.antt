-- `translate::build_term` ends: the parts of a term have lower indices. Assumes nothing.
use Rattle.translate.proofs.+build_term.Given as goal

abbrev pub decreases-build_term : goal.decreases-build_term
decreases-build_term l = l.i
