-- What the two arrays of the passes hold. Assumes nothing: these are definitions.
use Rattle.std.specs.Prelude.{◌≡◌, List, ℕ, ◌<◌, length, get_or, Ok, Err}
use Rattle.table_layout.specs.Layout.{steps}
use Rattle.table_binding.specs.Binding.{binder, latest}
use Rattle.answers.specs.Ladder.{Check}

-- each symbol's binding step among the first n steps
pub record Binders (s : List ℕ) (n : ℕ) (array : List ℕ) : Type 0 where
  pub size : length array ≡ 256
  pub at : (x : ℕ) → x < 256 → get_or array x 0 ≡ binder s x n

-- all steps are noted where nothing is refused
abbrev pub BindersIf : List ℕ → List ℕ → Check → Type 0
BindersIf s array (Ok tt) = Binders s (steps s) array
BindersIf s array (Err x) = Unit

-- the latest binding step inside each of the first n terms
pub record Latest (s : List ℕ) (n : ℕ) (array : List ℕ) : Type 0 where
  pub size : length array ≡ 256
  pub at : (i : ℕ) → i < n → get_or array i 0 ≡ get_or (latest s n) i 0
