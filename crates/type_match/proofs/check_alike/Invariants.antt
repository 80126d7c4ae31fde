-- `type_match::check_alike`: the types before the one that stands at the place are alike. Assumes nothing.
use mathlib.Core.Path.{◌≡◌}
use Prim.Native.Nat.{◌+◌, ◌*◌, ◌≤◌}
use Rattle.list.specs.Layout.{type_at}
use Rattle.type_match.proofs.MatchLaws.{SoFar}
use Rattle.type_match.proofs.check_alike.Given as goal

abbrev pub invariant-loop-i : goal.invariant-loop-i
invariant-loop-i l = (l.at ≡ type_at l.list l.i) × (l.at ≤ 8 + 256 * l.i) × SoFar l.list l.work l.n l.i
