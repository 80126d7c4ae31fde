-- `free_symbols::list_free` meets its contract. Assumes nothing.
use mathlib.Core.Path.{◌≡◌}
use Prim.Native.Nat.{◌≤◌}
use lib.ListN.{length}
use Rattle.answers.specs.Ladder.{least}
use Rattle.table.specs.Faults.{table_rungs}
use Rattle.free_symbols.specs.Free.{free_to, Lists}
use Rattle.free_symbols.proofs.list_free.Given as goal
use Rattle.std.proofs.Common.{Ok}

abbrev pub invariant-loop-x : goal.invariant-loop-x
invariant-loop-x l = (l.count ≤ l.x) × (least (table_rungs l.s) ≡ Ok tt → length l.initial.list ≡ 256 → Lists (free_to l.s l.x) l.list l.count)
