-- `list::check_types` meets its contract. Assumes nothing.
use Rattle.answers.proofs.Layers.{layer_stops, layer_passes}
use Rattle.list.specs.Faults.{frame_rungs, type_rung}
use mathlib.Core.List.{[], ◌∷◌}
use Rattle.list.proofs.check_types.Goals as goal

pub returns-in_err-check_frame : goal.returns-in_err-check_frame
returns-in_err-check_frame c = layer_stops (frame_rungs c.args.s.now) (type_rung c.args.s.now ∷ []) c.check_frame.ensures c.in_err-check_frame.was c.from_residual.ensures.1

pub returns : goal.returns
returns c = layer_passes (frame_rungs c.args.s.now) (type_rung c.args.s.now ∷ []) c.check_frame.ensures c.in_ok-check_frame.was c.walk_types.ensures
