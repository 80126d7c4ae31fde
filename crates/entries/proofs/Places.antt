-- Where entries stand, and roles with no limit. Assumes nothing.
use mathlib.Core.Path.{◌≡◌, sym}
use mathlib.Core.Bool.{false}
use mathlib.Core.List.{List}
use Prim.Native.Nat.{ℕ, ◌≤◌, ◌<◌}
use native.Mathlib.Omega.{arith}
use native.Mathlib.Nat.{mul-le-mul_right}
use lib.Dec.{ltb}
use lib.ListN.{length, get_or, get_or-eq_default}
use borrow.Author.Tests.{le-ltb}
use Rattle.codes.proofs.RowLaws.{entry_far}
use Rattle.codes.specs.Rows.{width}
use Rattle.entries.specs.Fields.{place_of}

-- a place is far below 2^64, so that a field's place is too
pub place_small : (kind base i : ℕ) → base < 4294967296 → i < 65536 → place_of kind base i < 4295294971
unfolding place_of
place_small kind base i h k = omega (arith, entry_far kind i k)

-- an entry stands at the first one's place or later
pub place_from_lem : (kind base i : ℕ) → base ≤ place_of kind base i
unfolding place_of
place_from_lem kind base i = omega arith

-- a later entry stands later
pub place_rises : (kind base i j : ℕ) → i ≤ j → place_of kind base i ≤ place_of kind base j
unfolding place_of
place_rises kind base i j h = omega (arith, mul-le-mul_right (width kind) h)

-- no number lies below the limit of a role that is none
pub limit_none : (limits : List ℕ) (r v : ℕ) → length limits ≤ r → false ≡ ltb v (get_or limits r 0)
limit_none limits r v h = rw (get_or-eq_default limits 0 h) (sym (le-ltb v 0 (omega arith)))
