-- `freshness::mark_held` meets its contract. Assumes nothing.
use native.Mathlib.Omega.{arith}
use lib.ListN.{length-take}
use lib.Seq.{get_or-take}
use Prim.Native.Nat.{◌<◌}
use Rattle.freshness.proofs.HeldLaws.{held_start, held_more, held_end}
use Rattle.freshness.proofs.mark_held.Goals as goal

pub loop-number-init : goal.loop-number-init
loop-number-init c = held_start _ _ _ _

pub loop-number-preserved : goal.loop-number-preserved
loop-number-preserved c =
    let g = c.args.registers.now in
    let i = c.loop-number.number-index in
    let h : i < c.args.given = omega (arith, length-take c.args.given g) in
    held_more _ _ _ _ _ _ _ h c.loop-number.invariant (rw (get_or-take c.args.given g i 0 h) at c.mark_register.ensures)

pub returns : goal.returns
returns c =
    let l = length-take c.args.given c.args.registers.now in
    held_end _ _ _ _ _ _ (omega (arith, l)) (omega (arith, l)) c.loop-number.invariant
