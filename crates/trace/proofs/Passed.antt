-- What it says of a trace that 1 to 5 pass, and that 1 to 6 do: each of its things is in order. Assumes nothing.
use mathlib.Core.Path.{◌≡◌}
use mathlib.Core.Bool.{true}
use mathlib.Core.List.{List, [], ◌∷◌, ◌++◌}
use Prim.Native.Nat.{ℕ, ◌<◌}
use Rattle.answers.specs.Ladder.{Rung, least}
use Rattle.answers.proofs.Passes.{first_passed, rest_passed}
use Rattle.entries.specs.Faults.{node_ok, alone}
use Rattle.opening.specs.Opening.{version}
use Rattle.opening.proofs.Frames.{Framed, frame_passed}
use Rattle.trace.specs.Layout.{values, supplies, startings, starts_at, supplies_at, index_ok, counts_ok, length_ok}
use Rattle.trace.specs.Faults.{frame_rungs, value_rung, start_rung, supply_rung, entry_rungs, equal_rung, trace_rungs}
use Rattle.std.proofs.Common.{Ok}

-- after 1 to 5: the frame, each value, and each starting and supplied one
pub record Entered (s : List ℕ) : Type 0 where
  pub frame : Framed 2 s (counts_ok s) (length_ok s)
  pub each_right : (i : ℕ) → i < values s → node_ok s 3 (version s) 10 0 i ≡ true
  pub starts_there : (i : ℕ) → i < startings s → index_ok s (starts_at s) (values s) i ≡ true
  pub supplies_there : (i : ℕ) → i < supplies s → index_ok s (supplies_at s) (values s) i ≡ true

-- after 6: no value is repeated
pub record Passed (s : List ℕ) : Type 0 where
  pub entered : Entered s
  pub each_alone : (i : ℕ) → i < values s → alone s 3 10 i ≡ true

-- 1 to 5 pass, whatever follows them
pub entries_passed : (s : List ℕ) (rs : List Rung) → least (frame_rungs s ++ (entry_rungs s ++ rs)) ≡ Ok tt → Entered s × (least rs ≡ Ok tt)
entries_passed s rs e =
    let (f, e₁) = frame_passed 2 s (counts_ok s) (length_ok s) (entry_rungs s ++ rs) e in
    let e₂ = rest_passed (value_rung s) (start_rung s ∷ supply_rung s ∷ rs) e₁ in
    let e₃ = rest_passed (start_rung s) (supply_rung s ∷ rs) e₂ in (
      record {
        frame = f;
        each_right = first_passed (value_rung s) (start_rung s ∷ supply_rung s ∷ rs) e₁;
        starts_there = first_passed (start_rung s) (supply_rung s ∷ rs) e₂;
        supplies_there = first_passed (supply_rung s) rs e₃;
      },
      rest_passed (supply_rung s) rs e₃,
    )

-- 1 to 6 pass
pub trace_passed : (s : List ℕ) → least (trace_rungs s) ≡ Ok tt → Passed s
trace_passed s e =
    let (n, e₁) = entries_passed s (equal_rung s ∷ []) e in
    record { entered = n; each_alone = first_passed (equal_rung s) [] e₁ }
