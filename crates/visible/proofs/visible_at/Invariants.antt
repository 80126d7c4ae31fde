-- `visible::visible_at` meets its contract: the pending values and the types from here on decide. Assumes nothing.
use Prim.Native.Nat.{◌-◌}
use lib.ListN.{length}
use Rattle.std.proofs.Common.{reverse}
use Rattle.visible.proofs.WalkLaws.{Walked}
use Rattle.visible.proofs.visible_at.Given as goal

abbrev pub invariant-loop-x : goal.invariant-loop-x
invariant-loop-x l = Walked l.types l.p l.values l.count l.v l.at (reverse l.pending.items)

abbrev pub decreases-loop-x : goal.decreases-loop-x
decreases-loop-x l = length l.types - l.at
