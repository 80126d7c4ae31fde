-- What registers mean, as bytes: symbol x is x, and compound term i is 255 - i. Assumes nothing: these are definitions.
use Rattle.std.specs.Prelude.{◌≡◌, List, [], ◌∷◌, ◌++◌, ℕ, ◌-◌, ◌<◌, min, eqb, length, get_or}
use Rattle.std.proofs.Math.Option.{some}
use Rattle.std.proofs.Math.ListN.{get_elem?}
use Rattle.base.specs.Pick.{pick}
use Rattle.entries.specs.Fields.{code}
use Rattle.table_layout.specs.Layout.{terms_at, term_field}
use Rattle.rendering.specs.Judge.{Meaning, symbol, term}
use Rattle.judging.specs.declared.Registers.{Registers}

-- a meaning as a byte
unfoldable pub coded : Meaning → ℕ
coded (symbol x) = x
coded (term i) = 255 - i

-- its number is below 128, so that no two meanings are one byte
unfoldable pub Small : Meaning → Type 0
Small (symbol x) = x < 128
Small (term i) = i < 128

-- register p means what a byte says
pub record Meant (ms : List Meaning) (p byte : ℕ) : Type 0 where
  pub meaning : Meaning
  pub is_given : get_elem? ms p ≡ some meaning
  pub small : Small meaning
  pub as_byte : byte ≡ coded meaning

-- an array holds the meanings of the registers that can be named
pub record Held (ms : List Meaning) (array : List ℕ) : Type 0 where
  pub size : length array ≡ 256
  pub at : (p : ℕ) → p < 256 → p < length ms → Meant ms p (get_or array p 0)

-- and it is known how many of them are given
pub record Known (ms : List Meaning) (r : Registers) : Type 0 where
  pub held : Held ms r.meanings
  pub count : r.given ≡ min (length ms) 256

-- whatever the registers mean, one more means what a byte says
abbrev pub Gives : ℕ → Registers → Registers → Type 0
Gives byte r r' = (ms : List Meaning) (m : Meaning) → Small m → byte ≡ coded m → Known ms r → Known (ms ++ (m ∷ [])) r'

-- what index i of the table means, as a byte
unfoldable pub meant_at : List ℕ → ℕ → ℕ
meant_at s i = pick (eqb (code s 0 (terms_at s) i) 0) (term_field s i 0) (255 - i)
