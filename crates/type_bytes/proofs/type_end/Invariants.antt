-- `type_bytes::type_end` meets its contract: the types still wanted, from here on, are the type at p. Assumes nothing.
use Prim.Native.Nat.{◌+◌, ◌-◌, ◌≤◌}
use lib.ListN.{length}
use Rattle.type_bytes.proofs.CountLaws.{Wants}
use Rattle.type_bytes.proofs.type_end.Given as goal

abbrev pub invariant-loop-wanted : goal.invariant-loop-wanted
invariant-loop-wanted l = (l.wanted ≤ 1 + l.at) × Wants l.s l.p l.at l.wanted

abbrev pub decreases-loop-wanted : goal.decreases-loop-wanted
decreases-loop-wanted l = length l.s - l.at
