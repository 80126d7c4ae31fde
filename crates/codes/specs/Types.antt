-- The type codes: 0 Message, 1 Name, 2 Channel, 3 ShKey, 4 pair and two types, 5 ciphertext and one type.
-- Assumes nothing: these are definitions.
use Rattle.std.specs.Prelude.{Bool, List, [], ◌∷◌, ℕ, ◌+◌, ◌*◌, ltb, leb}
use Rattle.base.specs.Bytes.{byte}
use Rattle.base.specs.Pick.{both}

-- a row for each code: the first version that knows it, and how many types follow it
abbrev pub table : List ℕ
table = 1 ∷ 0 ∷ 1 ∷ 0 ∷ 1 ∷ 0 ∷ 1 ∷ 0 ∷ 1 ∷ 2 ∷ 1 ∷ 1 ∷ []

unfoldable pub type_parts : ℕ → ℕ
type_parts code = byte table (code * 2 + 1)

unfoldable pub type_known : ℕ → ℕ → Bool
type_known version code = both (ltb code 6) (leb (byte table (code * 2)) version)
