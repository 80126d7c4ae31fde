-- E1 to E12 computed: what the meaning layer's own functions give is what is expected. One computation over the whole table. Assumes
-- nothing.
use mathlib.Core.Path.{◌≡◌, refl}
use mathlib.Core.List.{map}
use mathlib.Core.Bool.{decide}
use mathlib.Core.Option.{Option-elim, bind}
use native.Mathlib.Decide.{ℕ_discrete}
use Rattle.base.specs.Bytes.{byte, word}
use Rattle.base.specs.Search.{walk, first, some}
use Rattle.codes.specs.Marks.{mark, header}
use Rattle.codes.specs.Rows.{rows, cell, fields, field_bytes, width, known, atom_kinds}
use Rattle.codes.specs.Types.{type_parts, type_known}
use Rattle.answers.specs.Ladder.{answered, least}
use Rattle.entries.specs.Fields.{number, place_of, code, field, role, field_ok, fields_ok, entry_ok, same_entry}
use Rattle.entries.specs.Faults.{node_ok, alone}
use Rattle.entries.specs.Tiling.{listed, joined}
use Rattle.opening.specs.Opening.{marked}
use Rattle.table_layout.specs.Layout.{counts_ok, length_ok, symbol_ok, sort_ok, step_in_range, step_ok}
use Rattle.table_naming.specs.Naming.{part_at, has_part, use_at, uses_term, named}
use Rattle.table_binding.specs.Binding.{is_binder, binds, binder, again, twice, binds_new, field_latest, latest, field_in_scope, in_scope}
use Rattle.list.specs.Layout.{type_at, counts_ok as list_counts_ok, length_ok as list_length_ok, wants, type_ok_at, type_ok, gives, given, statement_ok_at, statement_ok}
use Rattle.trace.specs.Layout.{index, index_ok, counts_ok as trace_counts_ok, length_ok as trace_length_ok}
use Rattle.types.specs.Forest.{within, under, lower_of}
use Rattle.types.specs.Prefix.{encoded}
use Rattle.types.specs.Types.{meet}
use Rattle.types.specs.Version1.{parent1, depth1, code1}
use Rattle.calculus.specs.Terms.{map_build, built, map_act, operands, binders, bound}
use Rattle.calculus.specs.Tables.{is_in, entry_tree, trees_from, missing}
use Rattle.calculus.specs.Figure2.{pick, extend}
use Rattle.calculus.specs.Typing.{allowed}
use Rattle.calculus.specs.Inference.{mark as calculus_mark, wants as calculus_wants, needs, spread, down, by_entry, push, push_all, needs_at, needs_of, at_step, typing, found, before, infer_by}
use Rattle.calculus.specs.Version1.{atom_type1}
use Rattle.rendering.specs.Rendering.{binds as rendering_binds, dues_of, dues}
use Rattle.rendering.specs.Judge.{same_some, same_option, meant_by, says, fits, find_from, taken, turn, at_end, on_turn, judge_from, judge}
use Rattle.rendering.specs.Translation.{register_of, is_built, parts, build_each, build_entry, build_term, stated, translate_from}
use Rattle.running.specs.Values.{basic_shape, pair_shape, cipher_shape, visible, pair_parts, turns, open_shape, tree_shape, entry_shape}
use Rattle.running.specs.Acts.{number_of, on_logged, passes, splitting, opening, perform, and_then}
use Rattle.running.specs.Lists.{in_registers, execute, run, place_from, placed, made}
use Rattle.running.specs.Processes.{look, eval, run_process}
use Rattle.running.specs.Demand3.{bind_all}
use Rattle.decoded.specs.Table.{sort_of, entry_of, act_of, sort_at, term_at, step_at, two_code}
use Rattle.decoded.specs.Values.{value_of, value_at}
use Rattle.decoded_list.specs.Bytes.{two_op, half_op, statement_bytes, type_with_length, header_bytes, list_bytes}
use Rattle.decoded_list.specs.Statements.{statement_of, statement_at}
use Rattle.value_table.specs.Values.{five_bytes, value_bytes}
use Rattle.run_parts.specs.Messages.{direction_number, message_bytes}
use Rattle.machine.specs.Statements.{trace_of, run_of}
use Rattle.judge_service.specs.Judged.{verdict_check}
use Rattle.worked.proofs.Computed.{inferred, checked, typing_of, expected, file_outcome, list_outcome, judge_outcome, starts_ok, ran_of, result_outcome, run_outcome, computed}
use Rattle.worked.specs.Marked.{examples}

pub examples_computed : map computed examples ≡ map expected examples
unfolding decide Option-elim bind ℕ_discrete byte word walk first some mark header rows cell fields field_bytes width known atom_kinds type_parts type_known answered least number place_of code field role field_ok fields_ok entry_ok same_entry node_ok alone listed joined marked counts_ok length_ok symbol_ok sort_ok step_in_range step_ok part_at has_part use_at uses_term named is_binder binds binder again twice binds_new field_latest latest field_in_scope in_scope type_at list_counts_ok list_length_ok wants type_ok_at type_ok gives given statement_ok_at statement_ok index index_ok trace_counts_ok trace_length_ok within under lower_of encoded meet parent1 depth1 code1 map_build built map_act operands binders bound is_in entry_tree trees_from missing pick extend allowed calculus_mark calculus_wants needs spread down by_entry push push_all needs_at needs_of at_step typing found before infer_by atom_type1 rendering_binds dues_of dues same_some same_option meant_by says fits find_from taken turn at_end on_turn judge_from judge register_of is_built parts build_each build_entry build_term stated translate_from basic_shape pair_shape cipher_shape visible pair_parts turns open_shape tree_shape entry_shape number_of on_logged passes splitting opening perform and_then in_registers execute run place_from placed made look eval run_process bind_all sort_of entry_of act_of sort_at term_at step_at two_code value_of value_at two_op half_op statement_bytes type_with_length header_bytes list_bytes statement_of statement_at five_bytes value_bytes direction_number message_bytes trace_of run_of verdict_check inferred checked typing_of expected file_outcome list_outcome judge_outcome starts_ok ran_of result_outcome run_outcome computed
examples_computed = refl
