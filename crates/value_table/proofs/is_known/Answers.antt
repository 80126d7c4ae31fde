-- `value_table::is_known` meets its contract. Assumes nothing.
use Rattle.value_table.specs.Values.{known}
use borrow.Author.Tests.{lt-ltb, le-ltb}
use Rattle.value_table.proofs.is_known.Goals as goal

pub returns-then-i-count : goal.returns-then-i-count
unfolding known
returns-then-i-count c = rw (lt-ltb _ _ c.if-i-count.true, c.code_at.ensures)

pub returns-else-i-count : goal.returns-else-i-count
unfolding known
returns-else-i-count c = rw (le-ltb _ _ c.if-i-count.false)
