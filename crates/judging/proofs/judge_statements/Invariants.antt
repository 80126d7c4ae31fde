-- `judging::judge_statements` meets its contract. Assumes nothing.
use mathlib.Core.Path.{◌≡◌}
use Rattle.answers.specs.Ladder.{least}
use Rattle.table.specs.Faults.{table_rungs}
use Rattle.list.proofs.Framed.{Listed}
use Rattle.decoded.specs.Table.{free_count}
use Rattle.judging.proofs.WalkLaws.{Going}
use Rattle.judging.proofs.judge_statements.Given as goal
use Rattle.std.proofs.Common.{Ok}

abbrev pub invariant-loop-i : goal.invariant-loop-i
invariant-loop-i l = least (table_rungs l.table) ≡ Ok tt → Listed l.list (free_count l.table) → Going l.table l.list l.registers l.state l.i
