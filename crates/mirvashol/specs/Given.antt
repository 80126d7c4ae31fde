-- How an exported function gives its answer: eight entries of a lent array, and the refusal number as its result.
-- Assumes nothing: these are definitions.
use Rattle.std.specs.Prelude.{◌≡◌, List, ◌++◌, ℕ, ◌≤◌, ◌<◌, length, drop, get_or}

-- the array z has become o, and r is the result: the entries stand first, and what stands after them is as it was;
-- an array of fewer than eight entries gets 255, and is as it was
pub record EntriesGiven (z o : List ℕ) (r : ℕ) (entries : List ℕ) : Type 0 where
  pub short : length z < 8 → (r ≡ 255) × (o ≡ z)
  pub long : 8 ≤ length z → (r ≡ get_or entries 0 0) × (o ≡ entries ++ drop 8 z)
