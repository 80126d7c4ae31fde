-- The entries of a file's table, and what each means. Assumes nothing: these are definitions.
use Rattle.std.specs.Prelude.{List, ℕ, zero, suc}
use Rattle.calculus.specs.Signature.{Two, pairing, seal}
use Rattle.calculus.specs.Tables.{Entry}
use Rattle.calculus.specs.Version1.{Seal1, encryption, signature1}
use Rattle.rendering.specs.Judge.{Meaning, meant}
use Rattle.decoded.specs.Table.{table_of}

-- the entries of a file's table
unfoldable pub entries_of : List ℕ → List (Entry signature1 ℕ)
entries_of s = (table_of s).entries

-- what index i of the table means
unfoldable pub meaning_of : List ℕ → ℕ → Meaning
meaning_of s i = meant signature1 (entries_of s) i

-- the kind of a compound term by its code: 1 pair, 2 encryption
unfoldable pub kind_of : ℕ → Two Seal1
kind_of zero = pairing
kind_of (suc zero) = pairing
kind_of (suc (suc op)) = seal encryption
