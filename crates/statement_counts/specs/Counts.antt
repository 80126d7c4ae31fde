-- How many statements a table's steps make due, and how many of its terms are compound: by index, and of the whole table. Assumes
-- nothing: these are definitions.
use Rattle.std.specs.Prelude.{Bool, List, [], ◌∷◌, ℕ, eqb, length}
use Rattle.calculus.specs.Tables.{process}
use Rattle.calculus.specs.Version1.{signature1}
use Rattle.rendering.specs.Rendering.{halves, dues_of, dues}
use Rattle.rendering.specs.Translation.{compounds}
use Rattle.decoded.specs.Table.{term_at, step_at, table_of}

-- how many statements step k makes due, and whether term i is compound
unfoldable pub due_of : List ℕ → ℕ → ℕ
due_of s k = length (dues_of signature1 halves (step_at s k))

unfoldable pub compound_of : List ℕ → ℕ → ℕ
compound_of s i = compounds signature1 (term_at s i ∷ [])

unfoldable pub is_compound : List ℕ → ℕ → Bool
is_compound s i = eqb (compound_of s i) 1

-- the number of statements due, and that of compound terms
unfoldable pub due_count : List ℕ → ℕ
due_count s = length (dues signature1 halves 0 (process signature1 (table_of s)))

unfoldable pub compound_count : List ℕ → ℕ
compound_count s = compounds signature1 (table_of s).entries
