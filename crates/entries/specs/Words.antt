-- Lists of bytes. Assumes nothing: these are definitions.
use Rattle.std.specs.Prelude.{List, ℕ, ◌<◌}
use Rattle.base.specs.Bytes.{byte}

-- every element is a byte
abbrev pub Bytes : List ℕ → Type 0
Bytes s = (p : ℕ) → byte s p < 256
