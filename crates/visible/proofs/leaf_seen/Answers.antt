-- `visible::leaf_seen` meets its contract. Assumes nothing.
use native.Mathlib.Omega.{arith}
use borrow.Author.Tests.{tests}
use Rattle.visible.specs.Seen.{leaf_of}
use Rattle.visible.proofs.leaf_seen.Goals as goal

pub returns-in-0 : goal.returns-in-0
unfolding leaf_of
returns-in-0 c = grind (arith, tests)

pub returns-in-5 : goal.returns-in-5
unfolding leaf_of
returns-in-5 c = grind (arith, tests)

pub returns-in_default : goal.returns-in_default
unfolding leaf_of
returns-in_default c = grind (arith, tests)
