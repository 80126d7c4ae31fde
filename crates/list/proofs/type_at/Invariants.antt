-- `list::type_at`: the loop has come to a type; its place is at most 256 bytes a type past the header. Assumes nothing.
use mathlib.Core.Path.{◌≡◌}
use Prim.Native.Nat.{◌+◌, ◌*◌, ◌≤◌}
use Rattle.list.specs.Layout.{type_at}
use Rattle.list.proofs.type_at.Given as goal

abbrev pub invariant-loop : goal.invariant-loop
invariant-loop l = (l.at ≤ 8 + 256 * l.counter) × (l.at ≡ type_at l.s l.counter)
