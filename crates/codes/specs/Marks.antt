-- The marks and the headers of the three files: 0 role table, 1 statement list, 2 trace. Assumes nothing: these are definitions.
use Rattle.std.specs.Prelude.{List, [], ◌∷◌, ℕ, ◌+◌, ◌*◌}
use Rattle.base.specs.Bytes.{byte}

-- SPT, SPL, SPX
abbrev pub marks : List ℕ
marks = 83 ∷ 80 ∷ 84 ∷ 83 ∷ 80 ∷ 76 ∷ 83 ∷ 80 ∷ 88 ∷ []

abbrev pub headers : List ℕ
headers = 8 ∷ 8 ∷ 10 ∷ []

-- byte j of a file's mark
unfoldable pub mark : ℕ → ℕ → ℕ
mark file j = byte marks (file * 3 + j)

-- the bytes of a file's header
unfoldable pub header : ℕ → ℕ
header file = byte headers file
