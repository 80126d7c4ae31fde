-- `list::is_type`: what is wanted of the bytes from here on says what one type wants of all. Assumes nothing.
use mathlib.Core.Path.{◌≡◌}
use Prim.Native.Nat.{◌+◌, ◌≤◌}
use lib.ListN.{drop}
use Rattle.list.specs.Layout.{wants}
use Rattle.list.proofs.is_type.Given as goal

abbrev pub invariant-loop-code : goal.invariant-loop-code
invariant-loop-code l = (l.wanted ≤ 1 + l.code-index) × (wants l.version l.wanted (drop l.code-index l.t) ≡ wants l.version 1 l.t)
