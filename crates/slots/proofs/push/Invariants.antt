-- `slots::push` meets its contract: the pending terms and the types from here on give the result. Assumes nothing.
use Rattle.std.proofs.Common.{◌-◌, ◌≤◌, length, reverse}
use Rattle.slots.proofs.PushLaws.{Walked}
use Rattle.slots.proofs.push.Given as goal

abbrev pub invariant-loop-u : goal.invariant-loop-u
invariant-loop-u l = (length l.pending.items ≤ 130) × Walked l.initial.work l.table l.t l.ty l.p l.work l.at (reverse l.pending.items)

abbrev pub decreases-loop-u : goal.decreases-loop-u
decreases-loop-u l = length l.ty - l.at
