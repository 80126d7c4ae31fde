-- `typing::infer_steps` meets its contract. Assumes nothing.
use Rattle.std.proofs.Common.{◌≡◌, None, arith}
use Rattle.std.proofs.lemmas.Result.{err_from_is_err_and}
use Rattle.typing.proofs.StepLaws.{typed_start, typed_more, typed_stop, typed_end}
use Rattle.typing.proofs.infer_steps.Goals as goal

pub loop-k-init : goal.loop-k-init
loop-k-init c = typed_start _ _ _ c.step_count-k.ensures

pub loop-k-preserved : goal.loop-k-preserved
loop-k-preserved c = typed_more _ _ _ _ _ _ (omega (arith, c.loop-k-test.true)) (omega (arith, c.loop-k.auto.k, c.step_count-k.ensures)) c.loop-k.invariant (rw c.in_ok-ok_or.ensures.ok_part at c.at_step.ensures)

pub returns-in_err-ok_or : goal.returns-in_err-ok_or
returns-in_err-ok_or c =
    let none : c.at_step.result ≡ None = c.in_err-ok_or.ensures.ok_part in
    let (y, was, same) = err_from_is_err_and c.from_residual.result c.from_residual.ensures.1 in
    let told = rw none at c.in_err-ok_or.ensures.value in
    rw (was, same, told) (typed_stop _ _ _ _ _ _ (omega (arith, c.loop-k-test.true)) (omega (arith, c.loop-k.auto.k, c.step_count-k.ensures)) c.loop-k.invariant (rw none at c.at_step.ensures))

pub returns : goal.returns
returns c = typed_end _ _ _ _ c.loop-k-test.false c.loop-k.invariant
