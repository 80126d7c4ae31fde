-- The table's tests stand in document 01's order, so what they answer is the least fault. Assumes nothing.
use mathlib.Core.Path.{refl}
use mathlib.Core.List.{List, [], ◌∷◌, ◌++◌}
use Prim.Native.Nat.{ℕ, ◌+◌, ◌≤◌, ◌<◌}
use native.Mathlib.Omega.{arith}
use Rattle.base.specs.Bytes.{byte}
use Rattle.codes.specs.Rows.{width}
use Rattle.answers.specs.Ladder.{least}
use Rattle.answers.specs.Least.{Least, Ordered, no_rung}
use Rattle.answers.proofs.Leads.{by_place, and_one, by_numbers, ordered_more}
use Rattle.answers.proofs.Least.{least_fault}
use Rattle.entries.specs.Fields.{place_of}
use Rattle.entries.specs.Faults.{twin_rung}
use Rattle.entries.proofs.Places.{place_rises, place_from_lem}
use Rattle.opening.proofs.Frames.{frame_ordered}
use Rattle.table_layout.specs.Layout.{symbols, terms, terms_at, steps_at, counts_ok, length_ok}
use Rattle.table_layout.specs.Faults.{symbol_rung, term_rung, step_rung, entry_rungs}
use Rattle.table_naming.specs.Naming.{idle_rung, term_rungs}
use Rattle.table_binding.specs.Binding.{bind_rung, scope_rung, bind_rungs}
use Rattle.table.specs.Faults.{table_rungs}

-- a symbol stands before every term and every step
symbol_before_term : (s : List ℕ) (i j : ℕ) → i < symbols s → 8 + i ≤ place_of 0 (terms_at s) j
symbol_before_term s i j h = omega (arith, place_from_lem 0 (terms_at s) j)

symbol_before_step : (s : List ℕ) (i j : ℕ) → i < symbols s → 8 + i ≤ place_of 1 (steps_at s) j
symbol_before_step s i j h = omega (arith, place_from_lem 1 (steps_at s) j)

-- a term stands before every step
term_before_step : (s : List ℕ) (i j : ℕ) → i < terms s → place_of 0 (terms_at s) i ≤ place_of 1 (steps_at s) j
unfolding place_of width byte
term_before_step s i j h = omega arith

-- 6 to 9, in order of their numbers
later_ordered : (s : List ℕ) → Ordered (term_rungs s ++ bind_rungs s)
later_ordered s =
    let last = ordered_more (scope_rung s) [] (λ i j h. h) (by_numbers (scope_rung s) [] tt) no_rung in
    let bind = ordered_more (bind_rung s) (scope_rung s ∷ []) (λ i j h. h) (by_numbers (bind_rung s) (scope_rung s ∷ []) tt) last in
    let idle = ordered_more (idle_rung s) (bind_rungs s) (λ i j h. h) (by_numbers (idle_rung s) (bind_rungs s) tt) bind in
    ordered_more (twin_rung s 0 0 (terms_at s) (terms s)) (idle_rung s ∷ bind_rungs s) (λ i j h. h) (by_numbers (twin_rung s 0 0 (terms_at s) (terms s)) (idle_rung s ∷ bind_rungs s) tt) idle

-- 5, in order of the places, before 6 to 9
entries_ordered : (s : List ℕ) → Ordered (entry_rungs s ++ (term_rungs s ++ bind_rungs s))
entries_ordered s =
    ordered_more (symbol_rung s) (term_rung s ∷ step_rung s ∷ (term_rungs s ++ bind_rungs s)) (λ i j h. omega arith)
    (and_one (by_place refl refl (symbol_before_term s)) (and_one (by_place refl refl (symbol_before_step s)) (by_numbers (symbol_rung s) (term_rungs s ++ bind_rungs s) tt)))
    (ordered_more (term_rung s) (step_rung s ∷ (term_rungs s ++ bind_rungs s)) (place_rises 0 (terms_at s))
    (and_one (by_place refl refl (term_before_step s)) (by_numbers (term_rung s) (term_rungs s ++ bind_rungs s) tt))
    (ordered_more (step_rung s) (term_rungs s ++ bind_rungs s) (place_rises 1 (steps_at s)) (by_numbers (step_rung s) (term_rungs s ++ bind_rungs s) tt) (later_ordered s)))

-- what the table's tests answer is its least fault
pub table_least_fault : (s : List ℕ) → Least (table_rungs s) (least (table_rungs s))
table_least_fault s =
    least_fault (table_rungs s) (frame_ordered 0 s (counts_ok s) (length_ok s) (entry_rungs s ++ (term_rungs s ++ bind_rungs s)) tt (entries_ordered s))
