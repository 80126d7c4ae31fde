-- `trace::check_entries` meets its contract. Assumes nothing.
use mathlib.Core.List.{[], ◌∷◌}
use Rattle.answers.proofs.Layers.{layer_stops, layer_passes}
use Rattle.trace.specs.Faults.{value_rung, held_rungs}
use mathlib.Core.Path.{◌∙◌}
use Rattle.trace.proofs.check_entries.Goals as goal

pub returns-in_err-check_nodes : goal.returns-in_err-check_nodes
returns-in_err-check_nodes c =
    let s = c.args.s.now in
    layer_stops (value_rung s ∷ []) (held_rungs s) (c.check_nodes.ensures ∙ rw (c.word_at.ensures, c.value_count.ensures)) c.in_err-check_nodes.was c.from_residual.ensures.1

pub returns : goal.returns
returns c =
    let s = c.args.s.now in
    layer_passes (value_rung s ∷ []) (held_rungs s) (c.check_nodes.ensures ∙ rw (c.word_at.ensures, c.value_count.ensures)) c.in_ok-check_nodes.was c.check_held.ensures
