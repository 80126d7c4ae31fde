-- The visible-type test, from type bytes and a value table in a buffer. Assumes nothing: these are definitions.
use Rattle.std.specs.Prelude.{◌≡◌, Bool, true, List, ◌++◌, ℕ, ◌+◌, ◌≤◌, eqb, length, drop}
use Rattle.base.specs.Pick.{pick, both}
use Rattle.types.specs.Version1.{T, bytes}
use Rattle.calculus.specs.Version1.{signature1}
use Rattle.running.specs.Values.{visible, index}
use Rattle.value_table.specs.Values.{table_at}

-- an atom of this kind has the basic type of code b: 1 Name, else its kind's own
unfoldable pub atom_of : ℕ → ℕ → ℕ → Bool
atom_of b tag kind = both (eqb tag 0) (pick (eqb b 1) true (eqb (kind + 1) b))

-- a value of this tag and first number has the type of code b, which is no pair: 0 Message, 5 a ciphertext, whose inside is unseen
unfoldable pub leaf_of : ℕ → ℕ → ℕ → Bool
leaf_of b tag kind = pick (eqb b 0) true (pick (eqb b 5) (eqb tag 2) (atom_of b tag kind))

-- the answer r: whether value v of the first n visibly has the type of at most 255 bytes that stands at p of t
pub record Seen (t : List ℕ) (p : ℕ) (values : List ℕ) (n v : ℕ) (r : Bool) : Type 0 where
  pub seen : (A : T) (x : List ℕ) → ◌≡◌ {A = List ℕ} (drop p t) (bytes A ++ x) → length (bytes A) ≤ 255 → r ≡ visible signature1 (index signature1 (table_at values n)) A v
