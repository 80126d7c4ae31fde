-- `machine::run_all` meets its contract. Assumes nothing.
use mathlib.Core.Path.{refl}
use native.Mathlib.Omega.{arith}
use Rattle.machine.proofs.Progress.{run_begins, run_goes_on, run_stops, run_ends, same_still}
use Rattle.machine.proofs.run_all.Goals as goal

pub loop-k-init : goal.loop-k-init
loop-k-init c = (record { list = refl; trace = refl; values = refl; log = refl; registers = refl; values_long = refl; log_long = refl }, run_begins _ _ _ _ _ _)

pub returns-in-Err-clause-ran : goal.returns-in-Err-clause-ran
returns-in-Err-clause-ran c =
    let i = c.loop-k.invariant in
    run_stops _ _ _ _ _ _ _ _ _ _ _ i.1 _ c.statement_count-n.ensures (omega arith) _ c.statements_at-base.ensures _ _ _ _ _ (rw (i.0.list, i.0.trace) at c.execute.ensures.does) _ c.in-Err.is _ c.ended.ensures

pub loop-k-preserved : goal.loop-k-preserved
loop-k-preserved c =
    let i = c.loop-k.invariant in
    (same_still i.0 c.execute.ensures.same, run_goes_on _ _ _ _ _ _ _ _ _ _ _ i.1 _ c.statement_count-n.ensures (omega arith) _ c.statements_at-base.ensures _ _ _ _ _ (rw (i.0.list, i.0.trace) at c.execute.ensures.does) c.in_default.is)

pub returns-clause-ran : goal.returns-clause-ran
returns-clause-ran c = run_ends _ _ _ _ _ _ _ _ _ _ _ c.loop-k.invariant.1 _ c.statement_count-n.ensures (omega arith) (omega arith) _ c.ended-2.ensures
