-- `run_parts::value_in` meets its contract. Assumes nothing.
use borrow.Author.Tests.{lt-ltb, le-ltb}
use Rattle.run_parts.specs.Registers.{value_in}
use Rattle.run_parts.proofs.value_in.Goals as goal

pub returns-then-p-given : goal.returns-then-p-given
unfolding value_in
returns-then-p-given c = rw (lt-ltb _ _ c.if-p-given.true, c.wide.ensures)

pub returns : goal.returns
unfolding value_in
returns c = rw (le-ltb _ _ c.if-p-given.false)
