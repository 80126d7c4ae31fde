-- `typing::mark_step` meets its contract. Assumes nothing.
use mathlib.Core.Path.{refl}
use Rattle.marks.specs.Put.{blank}
use Rattle.typing.proofs.MarkLaws.{step_marked}
use Rattle.typing.proofs.mark_step.Goals as goal

pub returns : goal.returns
unfolding blank
returns c = step_marked _ _ _ _ _ _ refl c.mark_use.ensures c.mark_use-2.ensures c.mark_down.ensures
