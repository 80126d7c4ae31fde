-- A wanted type pushed down a term. Assumes nothing: these are definitions.
use Rattle.std.specs.Prelude.{◌≡◌, List, ◌++◌, ℕ, ◌≤◌, length, drop}
use Rattle.types.specs.Version1.{T, bytes}
use Rattle.calculus.specs.Figure2.{Env}
use Rattle.calculus.specs.Inference.{push}
use Rattle.calculus.specs.Version1.{signature1}
use Rattle.slots.specs.Fit.{Fit}
use Rattle.slots.specs.Terms.{entry, InRange}
use Rattle.slots.specs.Slots.{Holds, Left, meet_in}

-- the type of at most 259 bytes that stands at p of y was pushed down term t
pub record Pushed (w s : List ℕ) (t : ℕ) (y : List ℕ) (p : ℕ) (o : List ℕ) (r : Fit) : Type 0 where
  pub left : (Γ : Env signature1) (a : T) (l : List ℕ) → InRange s → Holds w Γ → ◌≡◌ {A = List ℕ} (drop p y) (bytes a ++ l) → length (bytes a) ≤ 259
      → Left (push signature1 meet_in (entry s) a t Γ) o r
