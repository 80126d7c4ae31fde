-- `slots::slot_meet` meets its contract. Assumes nothing.
use mathlib.Core.Path.{refl}
use Prim.Native.Nat.{ℕ}
use lib.ListN.{length-replicate}
use Rattle.slots.proofs.SlotLaws.{met_past, met_apart, met_put}
use Rattle.slots.proofs.slot_meet.Goals as goal

pub returns-then-work-e : goal.returns-then-work-e
returns-then-work-e c = met_past _ _ _ _ _ _ _ c.slot_at-at.ensures refl c.if-work-e.true

pub returns-in_err-n : goal.returns-in_err-n
returns-in_err-n c = rw c.from_residual.ensures (met_apart _ _ _ _ _ _ c.slot_at-at.ensures refl c.if-work-e.false _ _ (length-replicate {A = ℕ} 129 0) _ c.in_err-n.ensures)

pub returns : goal.returns
returns c = met_put _ _ _ _ _ _ c.slot_at-at.ensures refl c.if-work-e.false _ _ (length-replicate {A = ℕ} 129 0) _ _ c.in_ok-n.ensures c.copy.ensures.written
