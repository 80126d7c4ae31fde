-- The statements of a list that take room in a lent buffer, by their ops. Assumes nothing: these are definitions.
use Rattle.std.specs.Prelude.{◌≡◌, Bool, List, ℕ, ◌<◌, count_by}
use Rattle.std.specs.List.{range_with_len}
use Rattle.list.specs.Layout.{statements}
use Rattle.list.specs.Statements.{op_at}

-- how many statements have an op that passes a test
unfoldable pub passing : (ℕ → Bool) → List ℕ → ℕ
passing p s = count_by (λ i. p (op_at s i)) (range_with_len 0 (statements s))

-- where what is asked of each op answers as the test does, so many statements pass
abbrev pub Counts : (ℕ → Bool → Type 0) → List ℕ → ℕ → Type 0
Counts answers s n = (p : ℕ → Bool) → ((op : ℕ) (b : Bool) → op < 256 → answers op b → b ≡ p op) → n ≡ passing p s
