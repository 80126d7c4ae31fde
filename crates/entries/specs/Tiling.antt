-- Entries and numbers as they are written, so that what was read can be written again. Assumes nothing: these are definitions.
use Rattle.std.specs.Prelude.{List, [], ◌∷◌, ◌++◌, ℕ, zero, suc, ◌/◌, ◌%◌, eqb}
use Rattle.base.specs.Bytes.{byte}
use Rattle.base.specs.Pick.{pick}
use Rattle.codes.specs.Rows.{fields, field_bytes}
use Rattle.entries.specs.Fields.{code, field}

-- f i, f (i + 1), .., of which there are n
unfoldable pub listed {ℓ} : {A : Type ℓ} → (ℕ → A) → ℕ → ℕ → List A
listed f i zero = []
listed f i (suc n) = f i ∷ listed f (suc i) n

-- what g writes of each, in order
unfoldable pub joined {ℓ} : {A : Type ℓ} → (A → List ℕ) → List A → List ℕ
joined g [] = []
joined g (x ∷ xs) = g x ++ joined g xs

-- the n bytes of a file from p on
abbrev pub stretch : List ℕ → ℕ → ℕ → List ℕ
stretch s p n = listed (byte s) p n

-- a number of one byte or of two, high byte first
unfoldable pub number_bytes : ℕ → ℕ → List ℕ
number_bytes size v = pick (eqb size 2) (v / 256 ∷ v % 256 ∷ []) (v ∷ [])

-- what an entry holds: its code, and its fields in order
pub record Entry : Type 0 where
  pub op : ℕ
  pub numbers : List ℕ

-- entry i of a kind, from a base offset on
abbrev pub entry_of : List ℕ → ℕ → ℕ → ℕ → Entry
entry_of s kind base i = record { op = code s kind base i; numbers = listed (field s kind base i) 0 (fields kind) }

-- an entry as it is written
abbrev pub entry_bytes : ℕ → Entry → List ℕ
entry_bytes kind e = e.op ∷ joined (number_bytes (field_bytes kind)) e.numbers
