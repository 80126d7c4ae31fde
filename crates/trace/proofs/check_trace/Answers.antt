-- `trace::check_trace` meets its contract. Assumes nothing.
use mathlib.Core.List.{[], ◌∷◌}
use Rattle.answers.proofs.Layers.{layer_stops, layer_passes}
use Rattle.trace.specs.Faults.{frame_rungs, entry_rungs, equal_rung, rest_rungs}
use mathlib.Core.Path.{◌∙◌}
use Rattle.trace.proofs.check_trace.Goals as goal

pub returns-in_err-check_frame : goal.returns-in_err-check_frame
returns-in_err-check_frame c =
    let s = c.args.s.now in
    layer_stops (frame_rungs s) (rest_rungs s) c.check_frame.ensures c.in_err-check_frame.was c.from_residual.ensures.1

pub returns-in_err-check_entries : goal.returns-in_err-check_entries
returns-in_err-check_entries c =
    let s = c.args.s.now in
    layer_passes (frame_rungs s) (rest_rungs s) c.check_frame.ensures c.in_ok-check_frame.was (layer_stops (entry_rungs s) (equal_rung s ∷ []) c.check_entries.ensures c.in_err-check_entries.was c.from_residual-in_err-check_entries.ensures.1)

pub returns : goal.returns
returns c =
    let s = c.args.s.now in
    layer_passes (frame_rungs s) (rest_rungs s) c.check_frame.ensures c.in_ok-check_frame.was (layer_passes (entry_rungs s) (equal_rung s ∷ []) c.check_entries.ensures c.in_ok-check_entries.was (c.check_unlike.ensures ∙ rw c.value_count.ensures))
