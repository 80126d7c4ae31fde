-- `translate::write_steps` meets its contract. Assumes nothing.
use Rattle.translate.proofs.StepsLaws.{begun, step_ready, stepped, finished}
use Rattle.translate.proofs.write_steps.Goals as goal

pub loop-k-init : goal.loop-k-init
loop-k-init c = begun _ c.requires.0 c.requires.1

pub write_step-requires : goal.write_step-requires
write_step-requires c =
    let h = rw c.step_count-k-end.ensures at c.loop-k-test.true in
    (c.requires.0, h, (_, _, step_ready _ c.requires.0 c.requires.1 c.loop-k.invariant h))

pub loop-k-preserved : goal.loop-k-preserved
loop-k-preserved c =
    let h = rw c.step_count-k-end.ensures at c.loop-k-test.true in
    let q = c.requires.1 in
    stepped _ c.requires.0 q c.loop-k.invariant h (c.write_step.ensures _ _ (step_ready _ c.requires.0 q c.loop-k.invariant h))

pub returns : goal.returns
returns c = finished _ c.requires.0 c.requires.1 c.loop-k.invariant (rw c.step_count-k-end.ensures at c.loop-k-test.false)
