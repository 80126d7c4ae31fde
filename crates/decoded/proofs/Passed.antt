-- What it says of a role table that 1 to 5 pass, and that 1 to 9 do: each of its things is in order. Assumes nothing.
use mathlib.Core.Path.{◌≡◌}
use mathlib.Core.Bool.{true}
use mathlib.Core.List.{List, [], ◌∷◌, ◌++◌}
use Prim.Native.Nat.{ℕ, ◌<◌}
use Rattle.answers.specs.Ladder.{Rung, least}
use Rattle.answers.proofs.Passes.{first_passed, rest_passed}
use Rattle.entries.specs.Faults.{node_ok, alone, twin_rung}
use Rattle.opening.specs.Opening.{version}
use Rattle.opening.proofs.Frames.{Framed, frame_passed}
use Rattle.table_layout.specs.Layout.{symbols, terms, steps, terms_at, counts_ok, length_ok, symbol_ok, step_ok}
use Rattle.table_layout.specs.Faults.{frame_rungs, symbol_rung, term_rung, step_rung, entry_rungs}
use Rattle.table_naming.specs.Naming.{named, idle_rung, term_rungs}
use Rattle.table_binding.specs.Binding.{binds_new, in_scope, bind_rung, scope_rung, bind_rungs}
use Rattle.table.specs.Faults.{table_rungs}
use Rattle.std.proofs.Common.{Ok}

-- after 1 to 5: the frame, and each symbol, term and step
pub record Entered (s : List ℕ) : Type 0 where
  pub frame : Framed 0 s (counts_ok s) (length_ok s)
  pub symbols_right : (i : ℕ) → i < symbols s → symbol_ok s i ≡ true
  pub terms_right : (i : ℕ) → i < terms s → node_ok s 0 (version s) (terms_at s) (symbols s) i ≡ true
  pub steps_right : (k : ℕ) → k < steps s → step_ok s k ≡ true

-- after 6 to 9: no term is repeated or idle, and no step binds again or is out of scope
pub record Passed (s : List ℕ) : Type 0 where
  pub entered : Entered s
  pub each_alone : (i : ℕ) → i < terms s → alone s 0 (terms_at s) i ≡ true
  pub each_named : (i : ℕ) → i < terms s → named s i ≡ true
  pub each_new : (k : ℕ) → k < steps s → binds_new s k ≡ true
  pub each_scoped : (k : ℕ) → k < steps s → in_scope s k ≡ true

-- 1 to 5 pass, whatever follows them
pub entries_passed : (s : List ℕ) (rs : List Rung) → least (frame_rungs s ++ (entry_rungs s ++ rs)) ≡ Ok tt → Entered s × (least rs ≡ Ok tt)
entries_passed s rs e =
    let (f, e₁) = frame_passed 0 s (counts_ok s) (length_ok s) (entry_rungs s ++ rs) e in
    let e₂ = rest_passed (symbol_rung s) (term_rung s ∷ step_rung s ∷ rs) e₁ in
    let e₃ = rest_passed (term_rung s) (step_rung s ∷ rs) e₂ in (
      record {
        frame = f;
        symbols_right = first_passed (symbol_rung s) (term_rung s ∷ step_rung s ∷ rs) e₁;
        terms_right = first_passed (term_rung s) (step_rung s ∷ rs) e₂;
        steps_right = first_passed (step_rung s) rs e₃;
      },
      rest_passed (step_rung s) rs e₃,
    )

-- 1 to 5 pass by themselves
pub entered : (s : List ℕ) → least (frame_rungs s ++ entry_rungs s) ≡ Ok tt → Entered s
entered s e = (entries_passed s [] e).0

-- 1 to 9 pass
pub table_passed : (s : List ℕ) → least (table_rungs s) ≡ Ok tt → Passed s
table_passed s e =
    let (n, e₁) = entries_passed s (term_rungs s ++ bind_rungs s) e in
    let e₂ = rest_passed (twin_rung s 0 0 (terms_at s) (terms s)) (idle_rung s ∷ bind_rungs s) e₁ in
    let e₃ = rest_passed (idle_rung s) (bind_rungs s) e₂ in
    let e₄ = rest_passed (bind_rung s) (scope_rung s ∷ []) e₃ in
    record {
      entered = n;
      each_alone = first_passed (twin_rung s 0 0 (terms_at s) (terms s)) (idle_rung s ∷ bind_rungs s) e₁;
      each_named = first_passed (idle_rung s) (bind_rungs s) e₂;
      each_new = first_passed (bind_rung s) (scope_rung s ∷ []) e₃;
      each_scoped = first_passed (scope_rung s) [] e₄;
    }
