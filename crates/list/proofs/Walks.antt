-- The two walks of a list: along its types, and along the registers that its statements give. Assumes nothing.
use mathlib.Core.Path.{◌≡◌, refl}
use mathlib.Core.Logic.{⊎_elim}
use mathlib.Core.List.{List}
use Prim.Native.Nat.{ℕ, zero, suc, ◌+◌, ◌≤◌}
use native.Mathlib.Numerals.{add-one}
use native.Mathlib.Nat.{eq-or-lt_of_le}
use native.Mathlib.Omega.{arith}
use Rattle.base.proofs.Searched.{first_right}
use Rattle.answers.proofs.Ladder.{rung_found, rung_clean}
use Rattle.list.specs.Layout.{past_type, type_at, statements_at, gives, given}

-- the first type stands after the header, the next one after the one before it
pub type_at_first : (s : List ℕ) → type_at s 0 ≡ 8
unfolding type_at
type_at_first s = refl

pub type_at_next : (s : List ℕ) (i : ℕ) → type_at s (i + 1) ≡ past_type s (type_at s i)
unfolding type_at
type_at_next s i = rw (add-one i)

-- by which a walk along the types is checked
pub ruleset type_at_steps = (type_at_first, type_at_next)

-- a later type stands later
pub type_at_rises : (s : List ℕ) (i j : ℕ) → i ≤ j → type_at s i ≤ type_at s j
unfolding type_at
type_at_rises s i zero h = let q : i ≡ 0 = omega arith in rw q (omega arith)
type_at_rises s i (suc j) h = ⊎_elim (λ e. rw e (omega arith)) (λ l. let q = type_at_rises s i j (omega arith) in omega arith) (eq-or-lt_of_le h)

-- the registers before the first statement, and after one more
pub given_first : (s : List ℕ) (free : ℕ) → free ≡ given s free 0
unfolding given
given_first s free = refl

pub given_next : (s : List ℕ) (free i : ℕ) → given s free (i + 1) ≡ given s free i + gives s (statements_at s) i
unfolding given
given_next s free i = rw add-one

pub given_more : (s : List ℕ) (free i base registers : ℕ) → base ≡ statements_at s → registers ≡ given s free i
    → registers + gives s base i ≡ given s free (i + 1)
given_more s free i base registers b e = rw (given_next s free i, b, e)

-- by which a walk over the types or the statements is checked
pub ruleset walk_steps = (type_at_first, type_at_next, given_first, given_next, first_right, rung_found, rung_clean)
