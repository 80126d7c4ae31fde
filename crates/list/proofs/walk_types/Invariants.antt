-- `list::walk_types`: the loop has come to a type, all types before it are in order, and the place is that of the type. Assumes nothing.
use mathlib.Core.Path.{◌≡◌}
use Prim.Native.Nat.{◌+◌, ◌*◌, ◌≤◌}
use Rattle.base.specs.Search.{first}
use Rattle.list.specs.Layout.{symbols, type_at, type_ok}
use Rattle.list.proofs.walk_types.Given as goal

abbrev pub invariant-loop : goal.invariant-loop
invariant-loop l =
    (l.at ≤ 8 + 256 * l.counter) × (l.at ≡ type_at l.s l.counter)
    × (first (type_ok l.s) 0 (symbols l.s) ≡ first (type_ok l.s) l.counter (symbols l.s))
