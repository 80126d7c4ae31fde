-- `table_binding::check_binding` meets its contract. Assumes nothing.
use mathlib.Core.Path.{refl}
use mathlib.Core.List.{[], ◌∷◌}
use Rattle.answers.proofs.Layers.{layer_stops, layer_passes}
use Rattle.marks.specs.Put.{blank}
use Rattle.table_binding.specs.Binding.{bind_rung, scope_rung}
use Rattle.table_binding.proofs.check_binding.Goals as goal

pub bind_all-requires : goal.bind_all-requires
unfolding blank
bind_all-requires c = refl

pub returns-in_err-bind_all : goal.returns-in_err-bind_all
returns-in_err-bind_all c =
    let s = c.args.s.now in
    layer_stops (bind_rung s ∷ []) (scope_rung s ∷ []) c.bind_all.ensures.number c.in_err-bind_all.was c.from_residual.ensures.1

pub all_latest-requires : goal.all_latest-requires
unfolding blank
all_latest-requires c = (rw c.in_ok-bind_all.was at c.bind_all.ensures.noted, refl)

pub returns : goal.returns
returns c =
    let s = c.args.s.now in
    layer_passes (bind_rung s ∷ []) (scope_rung s ∷ []) c.bind_all.ensures.number c.in_ok-bind_all.was c.check_scope.ensures
