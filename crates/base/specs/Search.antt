-- The first number of a range at which a test fails. Assumes nothing: these are definitions.
use Rattle.std.specs.Prelude.{Bool, true, false, ℕ, zero, suc, ◌-◌}
use Rattle.base.specs.Pick.{pick, either}

-- what a walk over entries finds: nothing wrong, or the index of the first wrong one
pub data Search : Type 0 where
  clean : Search
  wrong : ℕ → Search

-- of the k numbers i, i + 1, .. the first at which ok fails
unfoldable pub walk : (ℕ → Bool) → ℕ → ℕ → Search
walk ok i zero = clean
walk ok i (suc k) = let rest = walk ok (suc i) k in pick (ok i) rest (wrong i)

-- the first number from i on and below n at which ok fails
unfoldable pub first : (ℕ → Bool) → ℕ → ℕ → Search
first ok i n = walk ok i (n - i)

-- nothing is wrong
abbrev pub all_right : Search → Bool
all_right clean = true
all_right (wrong i) = false

-- some number below n has the property
unfoldable pub some : (ℕ → Bool) → ℕ → Bool
some f zero = false
some f (suc n) = either (f n) (some f n)
