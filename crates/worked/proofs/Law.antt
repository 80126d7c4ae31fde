-- The law of the examples: where what is computed is what is expected, the services' promises leave no other answer. It is proved once,
-- for every example; with the one computation, E1 to E12 hold together. Assumes nothing.
use mathlib.Core.Path.{◌≡◌}
use mathlib.Core.List.{List, [], ◌∷◌, map}
use Rattle.calculus.specs.Scope.{All, all_nil, all_cons}
use Rattle.type_service.specs.Services.{types_file}
use Rattle.compile_service.specs.Files.{list_file}
use Rattle.worked.specs.Examples.{Example, refused_table, typed, compiled, judged_as, ran_as, Holds}
use Rattle.worked.specs.Marked.{examples, ExamplesHold}
use Rattle.worked.proofs.Computed.{typing_of, expected, computed}
use Rattle.worked.proofs.Computation.{examples_computed}
use Rattle.worked.proofs.TableLaws.{only_judged, typing_is, outcome_refused, outcome_written, outcome_judged}
use Rattle.worked.proofs.RunLaws.{outcome_runs}

-- ── The law ──

-- where what is computed is what is expected, the example holds
pub works : (e : Example) → computed e ≡ expected e → Holds e
unfolding computed expected
works (refused_table t x) e = outcome_refused t x (types_file t) (typing_of t) (typing_is t) e
works (typed t bytes) e = outcome_written types_file t bytes (typing_of t) (typing_is t) e
works (compiled t bytes) e = outcome_written list_file t bytes (typing_of t) (typing_is t) e
works (judged_as t l c) e = only_judged t l c (outcome_judged t l c (typing_of t) (typing_is t) e)
works (ran_as t l tr r v o told all) e = outcome_runs t l tr r v o told all (typing_of t) (typing_is t) e

-- so it is of a list of examples
pub all_work : (es : List Example) → map computed es ≡ map expected es → All Holds es
all_work [] e = all_nil
all_work (x ∷ es) e =
    let f : computed x ≡ expected x = cc in
    let g : map computed es ≡ map expected es = cc in
    all_cons (works x f) (all_work es g)

-- ── E1 to E12 ──

pub examples_hold : ExamplesHold
examples_hold = all_work examples examples_computed
