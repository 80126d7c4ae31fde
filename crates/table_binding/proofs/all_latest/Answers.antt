-- `table_binding::all_latest` meets its contract. Assumes nothing.
use borrow.Author.Rules.{rules}
use Rattle.table_binding.proofs.PassLaws.{latest_more, larger_max}
use Rattle.table_binding.proofs.all_latest.Goals as goal

pub loop-i-preserved : goal.loop-i-preserved
loop-i-preserved c = latest_more _ _ _ _ (search rules) c.loop-i.invariant (rw (c.max.ensures, ← larger_max c.field_latest-a.result c.field_latest-b.result, c.field_latest-b.ensures, c.field_latest-a.ensures) at c.put.ensures)
