-- The values that the bytes of a trace stand for. Assumes nothing: these are definitions.
use Rattle.std.specs.Prelude.{List, [], ◌∷◌, ℕ, zero, suc}
use Rattle.base.specs.Bytes.{word}
use Rattle.entries.specs.Fields.{code, field}
use Rattle.calculus.specs.Signature.{pairing, seal}
use Rattle.calculus.specs.Terms.{Atom, atom, build1, build2}
use Rattle.calculus.specs.Tables.{Entry, leaf_entry, kind_entry}
use Rattle.calculus.specs.Version1.{encryption, signature1}
use Rattle.entries.specs.Tiling.{listed}
use Rattle.decoded.specs.Table.{one_code, two_code}

-- a value by its tag and its two numbers; an unknown tag is read as the plain atom 0
unfoldable pub value_of : ℕ → ℕ → ℕ → Entry signature1 Atom
value_of zero a b = leaf_entry (atom a b)
value_of (suc zero) a b = kind_entry (build2 pairing a b)
value_of (suc (suc zero)) a b = kind_entry (build2 (seal encryption) a b)
value_of (suc (suc (suc op))) a b = leaf_entry (atom 0 0)

-- value i of a trace
unfoldable pub value_at : List ℕ → ℕ → Entry signature1 Atom
value_at s i = value_of (code s 3 10 i) (field s 3 10 i 0) (field s 3 10 i 1)

-- the values of a trace, of which there are V
abbrev pub values_of : List ℕ → List (Entry signature1 Atom)
values_of s = listed (value_at s) 0 (word s 5)

-- and back: a value's tag and its two numbers
unfoldable pub value_numbers : Entry signature1 Atom → List ℕ
value_numbers (leaf_entry (atom kind number)) = 0 ∷ kind ∷ number ∷ []
value_numbers (kind_entry (build1 k a)) = one_code k ∷ a ∷ 0 ∷ []
value_numbers (kind_entry (build2 k a b)) = two_code k ∷ a ∷ b ∷ []
