-- `list::check_list` meets its contract. Assumes nothing.
use Rattle.answers.proofs.Layers.{layer_stops, layer_passes}
use Rattle.list.specs.Faults.{type_rungs, statement_rung}
use mathlib.Core.List.{[], ◌∷◌}
use Rattle.list.proofs.check_list.Goals as goal

pub returns-in_err-check_types : goal.returns-in_err-check_types
returns-in_err-check_types c = layer_stops (type_rungs c.args.s.now) (statement_rung c.args.s.now c.args.free ∷ []) c.check_types.ensures c.in_err-check_types.was c.from_residual.ensures.1

pub returns : goal.returns
returns c = layer_passes (type_rungs c.args.s.now) (statement_rung c.args.s.now c.args.free ∷ []) c.check_types.ensures c.in_ok-check_types.was c.walk_statements.ensures
