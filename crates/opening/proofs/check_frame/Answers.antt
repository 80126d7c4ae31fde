-- `opening::check_frame` meets its contract. Assumes nothing.
use mathlib.Core.Path.{sym, ◌∙◌}
use Rattle.opening.specs.Opening.{open_rungs}
use Rattle.answers.proofs.Layers.{layer_stops, layer_passes}
use Rattle.answers.proofs.Ladder.{whole_right, whole_wrong, least_none}
use Rattle.opening.proofs.check_frame.Goals as goal

pub returns-in_err-opened : goal.returns-in_err-opened
returns-in_err-opened c = layer_stops (open_rungs _ _) _ c.opened.ensures c.in_err-opened.was c.from_residual.ensures.1

pub returns-then-not-counts : goal.returns-then-not-counts
returns-then-not-counts c = layer_passes (open_rungs _ _) _ c.opened.ensures c.in_ok-opened.was (c.refuse.ensures ∙ sym (whole_wrong 3 _ _ _ (c.if-not-counts.true)))

pub returns-then-not-size : goal.returns-then-not-size
returns-then-not-size c = layer_passes (open_rungs _ _) _ c.opened.ensures c.in_ok-opened.was (c.refuse-then-not-size.ensures ∙ sym (whole_right 3 _ _ _ (c.if-not-counts.false) ∙ whole_wrong 4 _ _ _ (c.if-not-size.true)))

pub returns : goal.returns
returns c = layer_passes (open_rungs _ _) _ c.opened.ensures c.in_ok-opened.was (sym (whole_right 3 _ _ _ (c.if-not-counts.false) ∙ whole_right 4 _ _ _ (c.if-not-size.false) ∙ least_none))
