-- `mirvashol::at_most` meets its contract. Assumes nothing.
use borrow.Author.Tests.{le-leb, lt-leb}
use Rattle.mirvashol.proofs.at_most.Goals as goal

pub returns-then-free-le65535 : goal.returns-then-free-le65535
returns-then-free-le65535 c = rw (le-leb _ _ c.if-free-le65535.true)

pub returns : goal.returns
returns c = rw (lt-leb _ _ c.if-free-le65535.false)
