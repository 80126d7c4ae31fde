-- Document 01's examples, by computation. Assumes nothing.
use mathlib.Core.Path.{refl}
use mathlib.Core.Bool.{decide}
use native.Mathlib.Decide.{ℕ_discrete}
use Rattle.calculus.specs.Terms.{map_build, map_act, operands, binders, bound}
use Rattle.calculus.specs.Tables.{is_in, missing}
use Rattle.calculus.specs.ExampleTables.{doubling}
use Rattle.rendering.specs.Rendering.{binds, dues_of, dues}
use Rattle.rendering.specs.Judge.{same_some, same_option, meant_by, says, fits, find_from, taken, turn, at_end, on_turn, judge_from, judge}
use Rattle.rendering.specs.Translation.{register_of, is_built, parts, build_each, build_entry, build_term, stated, translate_from}
use Rattle.rendering.specs.Examples.{ExamplesTranslate, ExamplesJudged}

pub examples_translate : ExamplesTranslate
unfolding decide map_build map_act operands binders bound is_in missing binds dues_of dues meant_by register_of is_built parts build_each build_entry build_term stated translate_from doubling ℕ_discrete
examples_translate = (refl, refl, refl, refl, refl, refl)

pub examples_judged : ExamplesJudged
unfolding decide map_build map_act operands binders bound is_in missing binds dues_of dues meant_by register_of is_built parts build_each build_entry build_term stated translate_from doubling same_some same_option says fits find_from taken turn at_end on_turn judge_from judge ℕ_discrete
examples_judged = (refl, refl, refl, refl)
