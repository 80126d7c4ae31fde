-- The values of a trace that passes 1 to 6. Assumes that 1 to 6 pass.
use mathlib.Core.Path.{◌≡◌}
use mathlib.Core.List.{List}
use Prim.Native.Nat.{ℕ, ◌<◌}
use Rattle.answers.specs.Ladder.{least}
use Rattle.opening.specs.Opening.{version}
use Rattle.trace.specs.Layout.{values}
use Rattle.trace.specs.Faults.{trace_rungs}
use Rattle.trace.proofs.Passed.{trace_passed}
use Rattle.calculus.specs.Tables.{denoted, Closed, Unrepeated}
use Rattle.calculus.specs.Version1.{signature1}
use Rattle.decoded.specs.Values.{values_of}
use Rattle.decoded.proofs.ValueLaws.{no_atom, values_closed, values_unrepeated, equal_values_equal_indexes}
use Rattle.std.proofs.Common.{Ok}

-- parts are lower, no value is repeated, and equal values have equal indexes
pub trace_values : (s : List ℕ) → least (trace_rungs s) ≡ Ok tt
    → Closed signature1 no_atom (values_of s) × Unrepeated signature1 no_atom (values_of s)
    × ((i j : ℕ) → i < values s → j < values s → denoted signature1 no_atom (values_of s) i ≡ denoted signature1 no_atom (values_of s) j → i ≡ j)
trace_values s e =
    let p = trace_passed s e in
    let right = p.entered.each_right in
    (values_closed s (version s) right, values_unrepeated s (version s) right p.each_alone, equal_values_equal_indexes s (version s) right p.each_alone)
