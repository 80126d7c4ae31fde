-- `visible::is_atom_of` meets its contract. Assumes nothing.
use native.Mathlib.Omega.{arith}
use borrow.Author.Tests.{tests}
use Rattle.visible.specs.Seen.{atom_of}
use Rattle.visible.proofs.is_atom_of.Goals as goal

pub returns-then-b-eq1 : goal.returns-then-b-eq1
unfolding atom_of
returns-then-b-eq1 c = grind (arith, tests)

pub returns-else-b-eq1 : goal.returns-else-b-eq1
unfolding atom_of
returns-else-b-eq1 c = grind (arith, tests)

pub returns-else-tag-eq0 : goal.returns-else-tag-eq0
unfolding atom_of
returns-else-tag-eq0 c = grind (arith, tests)
