-- The symbols that some step of a file's table binds, and the others in order, by index. Assumes nothing: these are definitions.
use Rattle.std.specs.Prelude.{◌≡◌, Bool, cond, List, [], ◌∷◌, ℕ, ◌<◌, length, get_or, Ok}
use Rattle.base.specs.Search.{some}
use Rattle.answers.specs.Ladder.{least}
use Rattle.entries.specs.Tiling.{listed}
use Rattle.table_layout.specs.Layout.{steps}
use Rattle.table_binding.specs.Binding.{binds}
use Rattle.table.specs.Faults.{table_rungs}
use Rattle.calculus.specs.Terms.{bound}
use Rattle.calculus.specs.Tables.{is_in, missing}
use Rattle.calculus.specs.Version1.{signature1}
use Rattle.decoded.specs.Table.{sort_at, table_of, free_of}

-- a field of some step binds x
unfoldable pub is_bound : List ℕ → ℕ → Bool
is_bound s x = some (λ k. binds s k x) (steps s)

-- the symbols that the steps bind, in order
unfoldable pub bound_in : List ℕ → List ℕ
bound_in s = bound signature1 (table_of s).steps

-- the free ones of the first n symbols
unfoldable pub free_to : List ℕ → ℕ → List ℕ
free_to s n = missing 0 (listed (sort_at s) 0 n) (bound_in s)

-- x, if it is not in l
abbrev pub if_free : List ℕ → ℕ → List ℕ
if_free l x = cond (is_in x l) [] (x ∷ [])

-- an array that has a place for every byte begins with the n numbers of a list
pub record Lists (l array : List ℕ) (n : ℕ) : Type 0 where
  pub size : length array ≡ 256
  pub count : n ≡ length l
  pub at : (i : ℕ) → i < n → get_or array i 0 ≡ get_or l i 0

-- where 1 to 9 pass, an array that has a place for every byte now begins with the n free symbols
abbrev pub FreeListed : List ℕ → List ℕ → List ℕ → ℕ → Type 0
FreeListed s array array' n = least (table_rungs s) ≡ Ok tt → length array ≡ 256 → Lists (free_of s) array' n
