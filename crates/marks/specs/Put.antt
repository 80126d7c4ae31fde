-- Marks in an array that has a place for every byte. Assumes nothing: these are definitions.
use Rattle.std.specs.Prelude.{◌≡◌, Bool, List, ℕ, ◌<◌, length, get_or, replicate}
use Rattle.base.specs.Pick.{pick}

-- the array z has become o: v stands at each index that has the property, and the others are as they were
pub record Put (z o : List ℕ) (f : ℕ → Bool) (v : ℕ) : Type 0 where
  pub size : length o ≡ length z
  pub at : (i : ℕ) → i < length z → get_or o i 0 ≡ pick (f i) v (get_or z i 0)

-- an array with no marks
unfoldable pub blank : List ℕ
blank = replicate 256 0
