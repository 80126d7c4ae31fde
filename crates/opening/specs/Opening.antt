-- How each of the three files is framed: its mark, a 16-bit version, counts, and the length. Assumes nothing: these are definitions.
use Rattle.std.specs.Prelude.{Bool, List, [], ◌∷◌, ◌++◌, ℕ, leb, eqb, length}
use Rattle.base.specs.Bytes.{byte, word}
use Rattle.base.specs.Pick.{both}
use Rattle.codes.specs.Marks.{mark, header}
use Rattle.answers.specs.Ladder.{Rung, whole}

-- the whole header is there, and the mark is the file's
unfoldable pub marked : ℕ → List ℕ → Bool
marked file s =
    both (leb (header file) (length s))
    (both (eqb (byte s 0) (mark file 0)) (both (eqb (byte s 1) (mark file 1)) (eqb (byte s 2) (mark file 2))))

-- the version, after the mark
abbrev pub version : List ℕ → ℕ
version s = word s 3

-- numbers 1 and 2
abbrev pub open_rungs : ℕ → List ℕ → List Rung
open_rungs file s = whole 1 file (marked file s) ∷ whole 2 file (eqb (version s) 1) ∷ []

-- numbers 1 to 4, where it is known whether the counts are within their limits and the length is what they say
abbrev pub framed : ℕ → List ℕ → Bool → Bool → List Rung
framed file s counts size = open_rungs file s ++ (whole 3 file counts ∷ whole 4 file size ∷ [])
