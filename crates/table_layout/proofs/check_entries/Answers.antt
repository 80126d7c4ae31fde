-- `table_layout::check_entries` meets its contract. Assumes nothing.
use mathlib.Core.List.{[], ◌∷◌}
use Rattle.answers.proofs.Layers.{layer_stops, layer_passes}
use Rattle.table_layout.specs.Faults.{symbol_rung, term_rung, step_rung}
use Rattle.table_layout.proofs.check_entries.Goals as goal

pub returns-in_err-check_symbols : goal.returns-in_err-check_symbols
returns-in_err-check_symbols c =
    let s = c.args.s.now in
    layer_stops (symbol_rung s ∷ []) (term_rung s ∷ step_rung s ∷ []) c.check_symbols.ensures c.in_err-check_symbols.was c.from_residual.ensures.1

pub returns-in_err-check_terms : goal.returns-in_err-check_terms
returns-in_err-check_terms c =
    let s = c.args.s.now in
    layer_passes (symbol_rung s ∷ []) (term_rung s ∷ step_rung s ∷ []) c.check_symbols.ensures c.in_ok-check_symbols.was
    (layer_stops (term_rung s ∷ []) (step_rung s ∷ []) c.check_terms.ensures c.in_err-check_terms.was c.from_residual-in_err-check_terms.ensures.1)

pub returns : goal.returns
returns c =
    let s = c.args.s.now in
    layer_passes (symbol_rung s ∷ []) (term_rung s ∷ step_rung s ∷ []) c.check_symbols.ensures c.in_ok-check_symbols.was
    (layer_passes (term_rung s ∷ []) (step_rung s ∷ []) c.check_terms.ensures c.in_ok-check_terms.was c.check_steps.ensures)
