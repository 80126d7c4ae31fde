-- `registers::note_free` meets its contract. Assumes nothing.
use mathlib.Core.Path.{◌≡◌}
use Rattle.answers.specs.Ladder.{least}
use Rattle.marks.specs.Put.{blank}
use Rattle.table.specs.Faults.{table_rungs}
use Rattle.registers.specs.Held.{HeldSymbols}
use Rattle.registers.proofs.Marking.{free_to}
use Rattle.registers.proofs.note_free.Given as goal
use Rattle.std.proofs.Common.{Ok}

abbrev pub invariant-loop-i : goal.invariant-loop-i
invariant-loop-i l = least (table_rungs l.s) ≡ Ok tt → l.initial.symbols ≡ blank → HeldSymbols (free_to l.s l.i) l.symbols
