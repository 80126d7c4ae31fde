-- A list written over the start of a lent buffer. Assumes nothing: these are definitions.
use Rattle.std.specs.Prelude.{◌≡◌, List, ◌++◌, ℕ, ◌+◌, leb, length, drop}
use Rattle.base.specs.Pick.{pick}

-- the buffer z with w written at its start; the bytes beyond keep their values
unfoldable pub over : List ℕ → List ℕ → List ℕ
over w z = w ++ drop (length w) z

-- the buffer z after w was to be written: nothing is written where w does not fit
abbrev pub over_if : List ℕ → List ℕ → List ℕ
over_if w z = pick (leb (length w) (length z)) (over w z) z

-- w was written at a place of the buffer z, which is o now, and r is the place after it: it follows what stands before that place
pub record Appended (w : List ℕ) (at : ℕ) (z o : List ℕ) (r : ℕ) : Type 0 where
  pub ends : r ≡ at + length w
  pub kept : length o ≡ length z
  pub wrote : (v y : List ℕ) → at ≡ length v → z ≡ over v y → o ≡ over (v ++ w) y
