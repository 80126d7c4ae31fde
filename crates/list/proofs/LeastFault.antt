-- The list's tests stand in document 01's order, so what they answer is the least fault. Assumes nothing.
use mathlib.Core.Path.{refl}
use mathlib.Core.List.{List, [], ◌∷◌}
use Prim.Native.Nat.{ℕ, ◌≤◌, ◌<◌}
use native.Mathlib.Omega.{arith}
use Rattle.answers.specs.Ladder.{least}
use Rattle.answers.specs.Least.{Least, Ordered, no_rung}
use Rattle.answers.proofs.Leads.{by_place, none_left, and_one, ordered_more}
use Rattle.answers.proofs.Least.{least_fault}
use Rattle.entries.specs.Fields.{place_of}
use Rattle.entries.proofs.Places.{place_rises, place_from_lem}
use Rattle.opening.proofs.Frames.{frame_ordered}
use Rattle.list.specs.Layout.{symbols, type_at, statements_at, counts_ok, length_ok}
use Rattle.list.specs.Faults.{frame_rungs, type_rung, statement_rung, list_rungs}
use Rattle.list.proofs.Walks.{type_at_rises}

-- a type stands before every statement
type_before : (s : List ℕ) (i j : ℕ) → i < symbols s → type_at s i ≤ place_of 2 (statements_at s) j
type_before s i j h =
    let p : type_at s i ≤ statements_at s = type_at_rises s i (symbols s) (omega arith) in
    omega (arith, place_from_lem 2 (statements_at s) j)

entries_ordered : (s : List ℕ) (free : ℕ) → Ordered (type_rung s ∷ statement_rung s free ∷ [])
entries_ordered s free =
    ordered_more (type_rung s) (statement_rung s free ∷ []) (λ i j h. type_at_rises s i j h) (and_one (by_place refl refl (type_before s)) none_left)
    (ordered_more (statement_rung s free) [] (place_rises 2 (statements_at s)) none_left no_rung)

-- what 1 to 4 answer is the least fault among 1 to 4
pub frame_least_fault : (s : List ℕ) → Least (frame_rungs s) (least (frame_rungs s))
frame_least_fault s = least_fault (frame_rungs s) (frame_ordered 1 s (counts_ok s) (length_ok s) [] tt no_rung)

-- what the list's tests answer is its least fault
pub list_least_fault : (s : List ℕ) (free : ℕ) → Least (list_rungs s free) (least (list_rungs s free))
list_least_fault s free =
    least_fault (list_rungs s free)
    (frame_ordered 1 s (counts_ok s) (length_ok s) (type_rung s ∷ statement_rung s free ∷ []) tt (entries_ordered s free))
