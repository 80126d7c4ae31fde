-- `type_bytes::copy_type` meets its contract. Assumes nothing.
use Rattle.type_bytes.proofs.EndLaws.{end_inside, copied_none, copied_fits, copied_not}
use Rattle.type_bytes.proofs.copy_type.Goals as goal

pub returns-in_err-e : goal.returns-in_err-e
returns-in_err-e c = rw c.from_residual.ensures (copied_none _ _ _ (rw c.in_err-e.was at c.type_end.ensures))

pub slice_bounds-copy-end : goal.slice_bounds-copy-end
slice_bounds-copy-end c = end_inside _ _ _ c.in_ok-e.ensures

pub returns-then-copy : goal.returns-then-copy
returns-then-copy c = copied_fits _ _ _ c.in_ok-e.ensures _ _ _ c.copy.ensures.fits c.if-copy.true c.copy.ensures.written

pub returns-else-copy : goal.returns-else-copy
returns-else-copy c = copied_not _ _ _ c.in_ok-e.ensures _ _ _ c.copy.ensures.fits c.if-copy.false c.copy.ensures.written
