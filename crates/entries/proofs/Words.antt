-- 16-bit numbers in a list of bytes. Assumes nothing.
use mathlib.Core.List.{List}
use mathlib.Core.Bool.{Bool, true, false}
use Prim.Native.Nat.{ℕ, ◌+◌, ◌*◌, ◌<◌}
use native.Mathlib.Omega.{arith}
use mir.Syntax.{w8}
use mir.Val.{Fits}
use lib.ListN.{get_or}
use lib.Dec.{eqb}
use Rattle.base.specs.Bytes.{byte, word}
use Rattle.base.specs.Pick.{pick}
use Rattle.codes.specs.Rows.{field_bytes}
use Rattle.entries.specs.Fields.{number, place_of, field}
use Rattle.entries.specs.Words.{Bytes}

-- a slice's elements are bytes
pub slice_bytes : (s : List ℕ) → ((p : ℕ) → Fits w8 (get_or s p 0)) → Bytes s
unfolding byte
slice_bytes s h p = omega (arith, h p)

-- a 16-bit number is below 65,536
pub word_small : (s : List ℕ) (p : ℕ) → Bytes s → word s p < 65536
unfolding word
word_small s p h = omega (arith, h p, h (p + 1))

-- so is a field of an entry
pub field_small : (s : List ℕ) (kind base i j : ℕ) → Bytes s → field s kind base i j < 65536
unfolding field number
field_small s kind base i j h = go (eqb (field_bytes kind) 2)
  where
    go : (t : Bool) → pick t (word s (place_of kind base i + 1 + j * field_bytes kind)) (byte s (place_of kind base i + 1 + j * field_bytes kind)) < 65536
    go true = word_small s (place_of kind base i + 1 + j * field_bytes kind) h
    go false = omega (arith, h (place_of kind base i + 1 + j * field_bytes kind))
