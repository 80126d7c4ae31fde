-- The bytes of a file, read at any place. Assumes nothing: these are definitions.
use Rattle.std.specs.Prelude.{List, ℕ, ◌+◌, ◌*◌, get_or}

-- the byte at a place; 0 past the end
unfoldable pub byte : List ℕ → ℕ → ℕ
byte s p = get_or s p 0

-- the 16-bit number at a place, high byte first
unfoldable pub word : List ℕ → ℕ → ℕ
word s p = byte s p * 256 + byte s (p + 1)
