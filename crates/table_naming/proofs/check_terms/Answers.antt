-- `table_naming::check_terms` meets its contract. Assumes nothing.
use mathlib.Core.List.{[], ◌∷◌}
use Rattle.answers.proofs.Layers.{layer_stops, layer_passes}
use Rattle.table_layout.specs.Layout.{terms, terms_at}
use Rattle.entries.specs.Faults.{twin_rung}
use Rattle.table_naming.specs.Naming.{idle_rung}
use Rattle.table_naming.proofs.check_terms.Goals as goal

pub returns-in_err-check_unlike : goal.returns-in_err-check_unlike
returns-in_err-check_unlike c =
    let s = c.args.s.now in
    layer_stops (twin_rung s 0 0 (terms_at s) (terms s) ∷ []) (idle_rung s ∷ []) (rw (c.terms_at.ensures, c.term_count-count.ensures) at c.check_unlike.ensures) c.in_err-check_unlike.was c.from_residual.ensures.1

pub returns : goal.returns
returns c =
    let s = c.args.s.now in
    layer_passes (twin_rung s 0 0 (terms_at s) (terms s) ∷ []) (idle_rung s ∷ []) (rw (c.terms_at.ensures, c.term_count-count.ensures) at c.check_unlike.ensures) c.in_ok-check_unlike.was c.check_named.ensures
