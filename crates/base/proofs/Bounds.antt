-- What is read past the end. Assumes nothing.
use mathlib.Core.Path.{◌≡◌}
use mathlib.Core.List.{List}
use Prim.Native.Nat.{ℕ, ◌+◌, ◌≤◌}
use native.Mathlib.Omega.{arith}
use lib.ListN.{length, get_or-eq_default}
use Rattle.base.specs.Bytes.{byte, word}

pub byte_past : (s : List ℕ) (p : ℕ) → length s ≤ p → byte s p ≡ 0
unfolding byte
byte_past s p h = get_or-eq_default s 0 h

pub word_past : (s : List ℕ) (p : ℕ) → length s ≤ p → word s p ≡ 0
unfolding word
word_past s p h = omega (arith, byte_past s p h, byte_past s (p + 1) (omega arith))
