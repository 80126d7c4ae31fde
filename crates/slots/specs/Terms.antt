-- The terms of a role table by index, past the end too, and what number 5 leaves of the table as far as the slots need it.
-- Assumes nothing: these are definitions.
use Rattle.std.specs.Prelude.{◌≡◌, List, ℕ, ◌<◌, ltb}
use Rattle.base.specs.Pick.{pick}
use Rattle.entries.specs.Fields.{code}
use Rattle.table_layout.specs.Layout.{terms, steps, terms_at, steps_at, term_field, step_field}
use Rattle.calculus.specs.Tables.{Entry}
use Rattle.calculus.specs.Version1.{signature1}
use Rattle.decoded.specs.Table.{entry_of}

-- the code of term t, and its part j; past the end stands symbol 0
unfoldable pub code_at : List ℕ → ℕ → ℕ
code_at s t = pick (ltb t (terms s)) (code s 0 (terms_at s) t) 0

unfoldable pub part_at : List ℕ → ℕ → ℕ → ℕ
part_at s t j = pick (ltb t (terms s)) (term_field s t j) 0

-- term t
unfoldable pub entry : List ℕ → ℕ → Entry signature1 ℕ
entry s t = entry_of (code_at s t) (part_at s t 0) (part_at s t 1)

-- the codes are known, and the symbols that are named have slots
pub record InRange (s : List ℕ) : Type 0 where
  pub known : (t : ℕ) → code_at s t < 3
  pub slotted : (t : ℕ) → code_at s t ≡ 0 → part_at s t 0 < 96
  pub known_steps : (k : ℕ) → k < steps s → code s 1 (steps_at s) k < 6
  pub slotted_steps : (k : ℕ) → k < steps s → (step_field s k 2 < 96) × (step_field s k 3 < 96)
