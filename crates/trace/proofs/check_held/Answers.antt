-- `trace::check_held` meets its contract. Assumes nothing.
use mathlib.Core.List.{[], ◌∷◌}
use Rattle.answers.proofs.Layers.{layer_stops, layer_passes}
use Rattle.trace.specs.Faults.{start_rung, supply_rung}
use mathlib.Core.Path.{◌∙◌}
use Rattle.trace.proofs.check_held.Goals as goal

pub returns-in_err-check_indexes : goal.returns-in_err-check_indexes
returns-in_err-check_indexes c =
    let s = c.args.s.now in
    layer_stops (start_rung s ∷ []) (supply_rung s ∷ []) (c.check_indexes.ensures ∙ rw (c.value_count-n.ensures, c.starts_at.ensures, c.starting_count.ensures)) c.in_err-check_indexes.was c.from_residual.ensures.1

pub returns : goal.returns
returns c =
    let s = c.args.s.now in
    layer_passes (start_rung s ∷ []) (supply_rung s ∷ []) (c.check_indexes.ensures ∙ rw (c.value_count-n.ensures, c.starts_at.ensures, c.starting_count.ensures)) c.in_ok-check_indexes.was (c.check_indexes-2.ensures ∙ rw (c.value_count-n.ensures, c.supplies_at.ensures, c.supply_count.ensures))
