-- Marks of values in an array of 1,536 places, and what each marking leaves. Assumes nothing: these are definitions.
use Rattle.std.specs.Prelude.{◌≡◌, Bool, false, not, List, ℕ, suc, ◌<◌, ◌≤◌, eqb, ltb, length, get_or}
use Rattle.base.specs.Pick.{both, either}
use Rattle.base.specs.Search.{some}
use Rattle.calculus.specs.Terms.{Atom}
use Rattle.calculus.specs.Tables.{Entry}
use Rattle.calculus.specs.Version1.{signature1}
use Rattle.running.specs.Values.{occurs_at, is_fresh, index}
use Rattle.running.specs.Lists.{Register, held}
use Rattle.value_table.specs.Values.{table_at}
use Rattle.run_parts.specs.Registers.{register_number, Given}

-- place i is marked
unfoldable pub marked : List Bool → ℕ → Bool
marked m i = get_or m i false

-- value v of a table occurs in a marked one of its first n values
unfoldable pub in_marked : List (Entry signature1 Atom) → ℕ → List Bool → ℕ → Bool
in_marked es v m n = some (λ i. both (marked m i) (occurs_at signature1 es v i)) n

-- value w was marked, if it is one of the first n
pub record OneMarked (n w : ℕ) (z o : List Bool) : Type 0 where
  pub size : length o ≡ length z
  pub at : (i : ℕ) → i < length z → marked o i ≡ either (both (ltb w n) (eqb w i)) (marked z i)

-- the parts of value u were marked, if it was: what lies below u has now all that occurs in marked values
pub record PartsMarked (w : List ℕ) (u : ℕ) (z o : List Bool) : Type 0 where
  pub size : length o ≡ length z
  pub parts : (n v : ℕ) → u < n → n ≤ 1536 → length z ≡ 1536 → v < u → in_marked (table_at w n) v o u ≡ in_marked (table_at w n) v z (suc u)

-- from the last value down to v, parts of marked values were marked
pub record DownMarked (w : List ℕ) (n v : ℕ) (z o : List Bool) : Type 0 where
  pub size : length o ≡ length z
  pub down : n ≤ 1536 → length z ≡ 1536 → v < n → in_marked (table_at w n) v o (suc v) ≡ in_marked (table_at w n) v z n

-- the value in a register of number d was marked, if that means a symbol
pub record RegisterMarked (d n : ℕ) (z o : List Bool) : Type 0 where
  pub size : length o ≡ length z
  pub holds : (r : Register ℕ) (es : List (Entry signature1 Atom)) (v : ℕ) → d ≡ register_number r → register_number r < 131072
      → length es ≡ n → n ≤ 1536 → length z ≡ 1536
      → in_marked es v o n ≡ either (in_marked es v z n) (both r.for_symbol (occurs_at signature1 es v r.value))

-- the values that registers hold for symbols were marked
pub record HeldMarked (g : List ℕ) (m n : ℕ) (z o : List Bool) : Type 0 where
  pub size : length o ≡ length z
  pub holds : (rs : List (Register ℕ)) (es : List (Entry signature1 Atom)) (v : ℕ) → Given rs g m → length es ≡ n → n ≤ 1536 → length z ≡ 1536
      → in_marked es v o n ≡ either (in_marked es v z n) (not (is_fresh signature1 (index signature1 es) (held rs) v))
