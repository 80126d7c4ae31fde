-- The registers of a run in an array of numbers. Assumes nothing: these are definitions.
use Rattle.std.specs.Prelude.{◌≡◌, cond, List, [], ◌∷◌, ◌++◌, map, ℕ, ◌+◌, ◌*◌, ◌/◌, ◌%◌, ◌<◌, ltb, length, take, get_or}
use Rattle.base.specs.Pick.{pick}
use Rattle.running.specs.Lists.{Register}

-- a register as a number: twice the index of its value, and 1 more where it means a symbol
unfoldable pub register_number : Register ℕ → ℕ
register_number r = 2 * r.value + cond r.for_symbol 1 0

-- the first n numbers of the array g are the registers rs
pub record Given (rs : List (Register ℕ)) (g : List ℕ) (n : ℕ) : Type 0 where
  pub size : length g ≡ 608
  pub count : n ≡ length rs
  pub small : (p : ℕ) → get_or g p 0 < 131072
  pub numbers : take n g ≡ map register_number rs

-- the value in register p of the first n; 0 past them
unfoldable pub value_in : List ℕ → ℕ → ℕ → ℕ
value_in g n p = pick (ltb p n) (get_or g p 0 / 2 % 65536) 0

-- whatever registers are given, one more is, if there is room for it
pub record Gives (g : List ℕ) (n number : ℕ) (o : List ℕ) (r : ℕ) : Type 0 where
  pub gives : (rs : List (Register ℕ)) (x : Register ℕ) → register_number x ≡ number → number < 131072 → Given rs g n → n < 608 → Given (rs ++ (x ∷ [])) o r
