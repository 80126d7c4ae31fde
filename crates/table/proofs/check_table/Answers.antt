-- `table::check_table` meets its contract. Assumes nothing.
use mathlib.Core.List.{◌++◌}
use borrow.Author.Rules.{rules}
use Rattle.answers.proofs.Layers.{layer_stops, layer_passes}
use Rattle.table_binding.specs.Binding.{bind_rungs}
use Rattle.table_naming.specs.Naming.{term_rungs}
use Rattle.table_layout.specs.Faults.{frame_rungs, entry_rungs}
use Rattle.table.proofs.check_table.Goals as goal

pub returns-in_err-check_frame : goal.returns-in_err-check_frame
returns-in_err-check_frame c =
    let s = c.args.s.now in
    layer_stops (frame_rungs s) (entry_rungs s ++ (term_rungs s ++ bind_rungs s)) c.check_frame.ensures c.in_err-check_frame.was c.from_residual.ensures.1

pub returns-in_err-check_entries : goal.returns-in_err-check_entries
returns-in_err-check_entries c =
    let s = c.args.s.now in
    layer_passes (frame_rungs s) (entry_rungs s ++ (term_rungs s ++ bind_rungs s)) c.check_frame.ensures c.in_ok-check_frame.was
    (layer_stops (entry_rungs s) (term_rungs s ++ bind_rungs s) c.check_entries.ensures c.in_err-check_entries.was c.from_residual-in_err-check_entries.ensures.1)

pub returns-in_err-check_terms : goal.returns-in_err-check_terms
returns-in_err-check_terms c =
    let s = c.args.s.now in
    layer_passes (frame_rungs s) (entry_rungs s ++ (term_rungs s ++ bind_rungs s)) c.check_frame.ensures c.in_ok-check_frame.was
    (layer_passes (entry_rungs s) (term_rungs s ++ bind_rungs s) c.check_entries.ensures c.in_ok-check_entries.was
    (layer_stops (term_rungs s) (bind_rungs s) (search rules) c.in_err-check_terms.was c.from_residual-in_err-check_terms.ensures.1))

pub returns : goal.returns
returns c =
    let s = c.args.s.now in
    layer_passes (frame_rungs s) (entry_rungs s ++ (term_rungs s ++ bind_rungs s)) c.check_frame.ensures c.in_ok-check_frame.was
    (layer_passes (entry_rungs s) (term_rungs s ++ bind_rungs s) c.check_entries.ensures c.in_ok-check_entries.was
    (layer_passes (term_rungs s) (bind_rungs s) (search rules) c.in_ok-check_terms.was c.check_binding.ensures))
