-- The translation piece by piece, as the code goes: what one term adds, one step, and the steps from one on. Assumes nothing:
-- these are definitions.
use Rattle.std.specs.Prelude.{List, [], ◌∷◌, ◌++◌, map, ℕ, suc, Ok, Err}
use Rattle.buffers.specs.Over.{over_if}
use Rattle.entries.specs.Fields.{code}
use Rattle.table_layout.specs.Layout.{terms_at, term_field}
use Rattle.calculus.specs.Terms.{build2, operands, binders, Statement, build}
use Rattle.calculus.specs.Version1.{signature1}
use Rattle.rendering.specs.Rendering.{halves, dues_of}
use Rattle.rendering.specs.Judge.{Meaning, symbol, term}
use Rattle.rendering.specs.Translation.{Made, build_each, build_term, stated, translate_from}
use Rattle.entries.specs.Tiling.{listed}
use Rattle.decoded.specs.Table.{step_at}
use Rattle.decoded.specs.Indexes.{entries_of, kind_of}
use Rattle.registers.specs.Held.{register_at}
use Rattle.answers.specs.Ladder.{Check}

-- statements, and what the registers mean after them
abbrev pub Making : Type 0
Making = Made signature1

-- term i is built, unless it is
unfoldable pub built : List ℕ → ℕ → List Meaning → Making
built s i ms = build_term signature1 (entries_of s) (suc i) i ms

-- compound term i is made of its parts, which are built
unfoldable pub making : List ℕ → ℕ → List Meaning → Making
making s i ms =
    (build (build2 (kind_of (code s 0 (terms_at s) i)) (register_at s ms (term_field s i 0)) (register_at s ms (term_field s i 1))) ∷ [], ms ++ (term i ∷ []))

-- one thing more is made
abbrev pub more : (List Meaning → Making) → Making → Making
more f r = let q = f r.1 in (r.0 ++ q.0, q.1)

-- one thing is made after the other
abbrev pub after : (List Meaning → Making) → (List Meaning → Making) → List Meaning → Making
after f g ms = more g (f ms)

-- the terms of step k are built
unfoldable pub operands_built : List ℕ → ℕ → List Meaning → Making
operands_built s k ms = build_each signature1 (built s) (operands signature1 (step_at s k)) ms

-- the statements of step k
unfoldable pub step_stated : List ℕ → ℕ → List Meaning → List (Statement signature1)
step_stated s k ms = map (stated signature1 (entries_of s) ms) (dues_of signature1 halves (step_at s k))

-- the symbols that step k binds have registers
unfoldable pub step_bound : List ℕ → ℕ → List Meaning → List Meaning
step_bound s k ms = ms ++ map symbol (binders signature1 (step_at s k))

-- step k
unfoldable pub step_made : List ℕ → ℕ → List Meaning → Making
step_made s k ms = let r = operands_built s k ms in (r.0 ++ step_stated s k r.1, step_bound s k r.1)

-- the steps from k on, of which there are n
unfoldable pub steps_made : List ℕ → ℕ → ℕ → List Meaning → Making
steps_made s k n ms = translate_from signature1 (entries_of s) halves (listed (step_at s) k n) ms

-- the buffer z after w was to be written: nothing is written where the table is refused, or where w does not fit
abbrev pub wrote_if : Check → List ℕ → List ℕ → List ℕ
wrote_if (Ok tt) w z = over_if w z
wrote_if (Err x) w z = z
