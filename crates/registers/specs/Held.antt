-- What the two arrays hold: the mark of each symbol and of each compound term, which is one more than its register, and 0 where it has
-- none. Assumes nothing: these are definitions.
use Rattle.std.specs.Prelude.{◌≡◌, Bool, cond, not, List, map, ℕ, suc, ◌-◌, ◌<◌, eqb, length, get_or, Ok}
use Rattle.base.specs.Pick.{pick, both, either}
use Rattle.answers.specs.Ladder.{least}
use Rattle.marks.specs.Put.{Put, blank}
use Rattle.entries.specs.Fields.{code}
use Rattle.table_layout.specs.Layout.{terms_at, term_field}
use Rattle.table.specs.Faults.{table_rungs}
use Rattle.rendering.specs.Judge.{Meaning, symbol, term}
use Rattle.rendering.specs.Translation.{register_of, is_built}
use Rattle.decoded.specs.Table.{free_of}
use Rattle.decoded.specs.Indexes.{meaning_of}

-- ── By meaning ──

-- one more than the first register that means m; 0 where none does
unfoldable pub held : List Meaning → Meaning → ℕ
held ms m = cond (is_built ms m) (suc (register_of ms m)) 0

-- an array holds it for each thing of one sort
pub record HeldBy (sort : ℕ → Meaning) (ms : List Meaning) (array : List ℕ) : Type 0 where
  pub size : length array ≡ 256
  pub at : (x : ℕ) → x < 256 → get_or array x 0 ≡ held ms (sort x)

-- for each symbol
abbrev pub HeldSymbols : List Meaning → List ℕ → Type 0
HeldSymbols = HeldBy symbol

-- and another array for each compound term
abbrev pub HeldTerms : List Meaning → List ℕ → Type 0
HeldTerms = HeldBy term

-- the two arrays, and how many registers are given
pub record Held (ms : List Meaning) (symbols terms : List ℕ) (registers : ℕ) : Type 0 where
  pub of_symbols : HeldSymbols ms symbols
  pub of_terms : HeldTerms ms terms
  pub count : registers ≡ length ms

-- the register of term i
unfoldable pub register_at : List ℕ → List Meaning → ℕ → ℕ
register_at s ms i = register_of ms (meaning_of s i)

-- the registers at the start: the free symbols
unfoldable pub at_start : List ℕ → List Meaning
at_start s = map symbol (free_of s)

-- ── By bytes ──

-- one more than the register of term i, by the arrays
unfoldable pub held_at : List ℕ → ℕ → List ℕ → List ℕ → ℕ
held_at s i symbols terms = pick (eqb (code s 0 (terms_at s) i) 0) (get_or symbols (term_field s i 0) 0) (get_or terms i 0)

-- the register of term i, the next one where there is none
unfoldable pub register_in : List ℕ → ℕ → List ℕ → List ℕ → ℕ → ℕ
register_in s i symbols terms registers = pick (eqb (held_at s i symbols terms) 0) registers (held_at s i symbols terms - 1)

-- the term is a symbol, or it is built
unfoldable pub settled : List ℕ → ℕ → List ℕ → Bool
settled s i terms = either (eqb (code s 0 (terms_at s) i) 0) (not (eqb (get_or terms i 0) 0))

-- a mark is noted at a place; an earlier one stays
abbrev pub Noted : List ℕ → List ℕ → ℕ → ℕ → Type 0
Noted z o at mark = Put z o (λ i. both (eqb (get_or z at 0) 0) (eqb at i)) mark

-- where 1 to 9 pass, an array that held nothing now holds the free symbols, of which there are so many
abbrev pub FreeNoted : List ℕ → List ℕ → List ℕ → ℕ → Type 0
FreeNoted s symbols symbols' registers =
    least (table_rungs s) ≡ Ok tt → symbols ≡ blank → HeldSymbols (at_start s) symbols' × (registers ≡ length (at_start s))
