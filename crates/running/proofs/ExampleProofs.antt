-- The examples of specs/Examples.antt, by computation. Assumes nothing.
use mathlib.Core.Path.{refl}
use mathlib.Core.Bool.{decide}
use native.Mathlib.Decide.{ℕ_discrete}
use Rattle.types.specs.Forest.{within, under}
use Rattle.types.specs.Version1.{depth1}
use Rattle.calculus.specs.Version1.{atom_type1}
use Rattle.calculus.specs.Terms.{map_build, built, map_act, operands, binders, bound}
use Rattle.calculus.specs.Tables.{entry_tree, trees_from, is_in, missing}
use Rattle.rendering.specs.Rendering.{dues_of}
use Rattle.rendering.specs.Judge.{meant_by}
use Rattle.rendering.specs.Translation.{register_of, is_built, parts, build_each, build_entry, build_term, stated, translate_from}
use Rattle.running.specs.Values.{cipher_shape, open_shape, turns, basic_shape, pair_shape, visible, pair_parts, tree_shape, is_fresh, is_atom, parts_of, occurs_in, entry_shape, any_of, marks_from, occurs_at}
use Rattle.running.specs.Acts.{opening, passes, splitting, perform, and_then}
use Rattle.running.specs.Lists.{held, in_registers, execute, run, place_from, placed, made}
use Rattle.running.specs.Processes.{look, eval, run_process}
use Rattle.running.specs.Demand3.{bind_all}
use Rattle.running.specs.Examples.{types1, types12, types_renewal, Example1, Example8, Example12, ExampleInside, ExampleNotHeld}

pub example_8 : Example8
unfolding decide ℕ_discrete map_build built map_act operands binders bound entry_tree trees_from is_in missing dues_of meant_by register_of is_built parts build_each build_entry build_term stated translate_from tree_shape entry_shape perform and_then held in_registers execute run place_from placed made look eval run_process bind_all
example_8 = (refl, refl)

pub example_12 : Example12
unfolding decide ℕ_discrete map_build built map_act operands binders bound entry_tree trees_from is_in missing dues_of meant_by register_of is_built parts build_each build_entry build_term stated translate_from basic_shape pair_shape visible pair_parts tree_shape entry_shape passes splitting perform and_then held in_registers execute run look eval run_process bind_all types12
example_12 = (refl, refl)

pub example_1 : Example1
unfolding decide ℕ_discrete map_build built map_act operands binders bound entry_tree trees_from is_in missing dues_of meant_by register_of is_built parts build_each build_entry build_term stated translate_from basic_shape pair_shape visible pair_parts tree_shape entry_shape passes splitting perform and_then held in_registers execute run look eval run_process bind_all cipher_shape open_shape opening turns types1
example_1 = (refl, refl)

pub example_inside : ExampleInside
unfolding decide ℕ_discrete map_build built map_act operands binders bound entry_tree trees_from is_in missing dues_of meant_by register_of is_built parts build_each build_entry build_term stated translate_from basic_shape visible is_fresh is_atom parts_of occurs_in tree_shape entry_shape any_of marks_from occurs_at passes perform and_then held in_registers execute run look eval run_process bind_all types_renewal
example_inside = ((refl, refl), (refl, refl))

pub example_not_held : ExampleNotHeld
unfolding decide ℕ_discrete map_build built map_act operands binders bound entry_tree trees_from is_in missing dues_of meant_by register_of is_built parts build_each build_entry build_term stated translate_from basic_shape visible is_fresh is_atom parts_of occurs_in tree_shape entry_shape any_of marks_from occurs_at passes perform and_then held in_registers execute run look eval run_process bind_all types_renewal under within depth1 atom_type1
example_not_held = (refl, refl)
