-- Quoted text as bytes, so that words and examples can be read. Assumes nothing: this is a definition.
use Rattle.std.specs.Prelude.{List, [] as no_bytes, ◌∷◌ as ◌then◌, ℕ}
use Prim.Native.Char.{code}
use Prim.Native.String.{String, [], ◌∷◌}

-- the codes of the characters, which for ASCII are the bytes
abbrev pub ascii : String → List ℕ
ascii [] = no_bytes
ascii (c ∷ s) = ◌then◌ (code c) (ascii s)
