-- The types of a list's symbols, and the test of a value against one. Assumes nothing: these are definitions.
use Rattle.std.specs.Prelude.{◌≡◌, Bool, List, ℕ, ◌<◌, length, get_or}
use Rattle.list.specs.Layout.{symbols, body_at, type_at}
use Rattle.types.specs.Types.{Message}
use Rattle.types.specs.Version1.{T, bytes}
use Rattle.calculus.specs.Version1.{signature1}
use Rattle.running.specs.Values.{visible, index}
use Rattle.running.specs.Demand3.{types_of}
use Rattle.value_table.specs.Values.{table_at}

-- the list l has the types As
pub record TypesAre (l : List ℕ) (As : List T) : Type 0 where
  pub count : length As ≡ symbols l
  pub bytes_are : (x : ℕ) → x < symbols l → body_at l (type_at l x) ≡ bytes (get_or As x Message)

-- the answer r: whether value v of the first n visibly has the type of symbol x
pub record Passes (l : List ℕ) (x : ℕ) (values : List ℕ) (n v : ℕ) (r : Bool) : Type 0 where
  pub passes : (As : List T) → TypesAre l As → r ≡ visible signature1 (index signature1 (table_at values n)) (types_of signature1 As x) v
