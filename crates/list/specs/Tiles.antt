-- A statement list written out again from what was read: header, types, statements. Assumes nothing: these are definitions.
use Rattle.std.specs.Prelude.{List, [], ◌∷◌, ◌++◌, ℕ, zero, suc, take}
use Rattle.base.specs.Bytes.{byte}
use Rattle.entries.specs.Fields.{code, field}
use Rattle.list.specs.Layout.{symbols, statements, body_at, type_at, statements_at}

-- f 0, f 1, .. up to f n and without it, one after the other
unfoldable pub tiled : (ℕ → List ℕ) → ℕ → List ℕ
tiled f zero = []
tiled f (suc n) = tiled f n ++ f n

-- type i: its length byte and its bytes
unfoldable pub type_entry : List ℕ → ℕ → List ℕ
type_entry s i = byte s (type_at s i) ∷ body_at s (type_at s i)

-- statement i: op, p, q, s
unfoldable pub statement_entry : List ℕ → ℕ → List ℕ
statement_entry s i =
    code s 2 (statements_at s) i ∷ field s 2 (statements_at s) i 0 ∷ field s 2 (statements_at s) i 1 ∷ field s 2 (statements_at s) i 2 ∷ []

-- the list written out
unfoldable pub written : List ℕ → List ℕ
written s = take 8 s ++ (tiled (type_entry s) (symbols s) ++ tiled (statement_entry s) (statements s))
