-- `list::walk_statements`: the loop has come to statement i, all statements before it are in order, and the registers given before it are
-- counted. Assumes nothing.
use mathlib.Core.Path.{◌≡◌}
use Prim.Native.Nat.{◌+◌, ◌*◌, ◌≤◌}
use Rattle.base.specs.Search.{first}
use Rattle.list.specs.Layout.{statements, given, statement_ok}
use Rattle.list.proofs.walk_statements.Given as goal

abbrev pub invariant-loop-i : goal.invariant-loop-i
invariant-loop-i l =
    (l.registers ≤ l.free + 255 * l.i) × (l.registers ≡ given l.s l.free l.i)
    × (first (statement_ok l.s l.free) 0 (statements l.s) ≡ first (statement_ok l.s l.free) l.i (statements l.s))
