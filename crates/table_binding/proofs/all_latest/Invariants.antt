-- `table_binding::all_latest` meets its contract. Assumes nothing.
use Rattle.table_binding.specs.Tables.{Latest}
use Rattle.table_binding.proofs.all_latest.Given as goal

abbrev pub invariant-loop-i : goal.invariant-loop-i
invariant-loop-i l = Latest l.s l.i l.late
