-- The rungs of a trace stand in document 01's order, so their answer is the least fault. Assumes nothing.
use mathlib.Core.Path.{refl}
use mathlib.Core.List.{List, [], ◌∷◌}
use Prim.Native.Nat.{ℕ, ◌≤◌, ◌<◌}
use native.Mathlib.Omega.{arith}
use Rattle.base.specs.Bytes.{byte}
use Rattle.codes.specs.Rows.{width}
use Rattle.answers.specs.Ladder.{least}
use Rattle.answers.specs.Least.{Least, Ordered, no_rung}
use Rattle.answers.proofs.Least.{least_fault}
use Rattle.entries.specs.Fields.{place_of}
use Rattle.entries.proofs.Places.{place_rises}
use Rattle.opening.proofs.Frames.{frame_ordered}
use Rattle.trace.specs.Layout.{values, starts_at, supplies_at, index_place, counts_ok, length_ok}
use Rattle.trace.specs.Faults.{value_rung, start_rung, supply_rung, equal_rung, rest_rungs, trace_rungs}
use Rattle.answers.proofs.Leads.{by_place, none_left, and_one, ordered_more, by_numbers}

-- values stand before starting values, and these before the supply
value_start : (s : List ℕ) (i j : ℕ) → i < values s → place_of 3 10 i ≤ index_place (starts_at s) j
unfolding place_of width byte
value_start s i j h = omega arith

value_supply : (s : List ℕ) (i j : ℕ) → i < values s → place_of 3 10 i ≤ index_place (supplies_at s) j
unfolding place_of width byte
value_supply s i j h = omega arith

-- the rungs of a trace stand in order
pub trace_ordered : (s : List ℕ) → Ordered (trace_rungs s)
trace_ordered s =
    frame_ordered 2 s (counts_ok s) (length_ok s) (rest_rungs s) tt
    (ordered_more (value_rung s) (start_rung s ∷ supply_rung s ∷ equal_rung s ∷ []) (place_rises 3 10)
    (and_one (by_place refl refl (value_start s)) (and_one (by_place refl refl (value_supply s)) (by_numbers (value_rung s) (equal_rung s ∷ []) tt)))
    (ordered_more (start_rung s) (supply_rung s ∷ equal_rung s ∷ []) (λ i j h. omega arith)
    (and_one (by_place refl refl λ i j h. omega arith) (by_numbers (start_rung s) (equal_rung s ∷ []) tt))
    (ordered_more (supply_rung s) (equal_rung s ∷ []) (λ i j h. omega arith) (by_numbers (supply_rung s) (equal_rung s ∷ []) tt)
    (ordered_more (equal_rung s) [] (λ i j h. h) none_left no_rung))))

-- the answer is the least fault of the trace
pub trace_least_fault : (s : List ℕ) → Least (trace_rungs s) (least (trace_rungs s))
trace_least_fault s = least_fault (trace_rungs s) (trace_ordered s)
