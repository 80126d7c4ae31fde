-- `value_table::copy_values` meets its contract. Assumes nothing.
use borrow.Author.Rules.{rules}
use native.Mathlib.Omega.{arith}
use Rattle.entries.proofs.Words.{slice_bytes}
use Rattle.value_table.proofs.Copying.{copied_not, copied_all}
use Rattle.value_table.proofs.copy_values.Goals as goal

pub returns-then-end-trace : goal.returns-then-end-trace
returns-then-end-trace c = copied_all c.args.trace.now c.args.values.now _ _ (slice_bytes c.args.trace.now (search rules)) (omega (arith, c.value_count.ensures)) c.if-end-trace.true c.copy.ensures.written

pub returns-else-end-trace : goal.returns-else-end-trace
returns-else-end-trace c = copied_not _ _ _ (omega (arith, c.value_count.ensures, c.if-end-trace.false))
