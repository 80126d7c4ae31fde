-- When a symbol, a term and a step of a role table are in order, by document 01's tables: what numbers 5 and 6 speak of.
-- Assumes nothing: these are definitions.
use Rattle.std.specs.Prelude.{◌≡◌, ◌⊎◌, List, ℕ, ◌<◌}
use Rattle.entries.specs.Fields.{code}
use Rattle.table_layout.specs.Layout.{symbols, terms, terms_at, steps_at, sort, term_field, step_field}

-- a symbol's byte is that of a name or of a variable
abbrev pub SymbolRight : List ℕ → ℕ → Type 0
SymbolRight s i = (sort s i ≡ 0) ⊎ (sort s i ≡ 1)

-- x is a name, or a variable, of the table
abbrev pub IsName : List ℕ → ℕ → Type 0
IsName s x = (x < symbols s) × (sort s x ≡ 0)

abbrev pub IsVariable : List ℕ → ℕ → Type 0
IsVariable s x = (x < symbols s) × (sort s x ≡ 1)

-- the code of term i, and the op of step k
abbrev pub term_code : List ℕ → ℕ → ℕ
term_code s i = code s 0 (terms_at s) i

abbrev pub step_code : List ℕ → ℕ → ℕ
step_code s k = code s 1 (steps_at s) k

-- term i: a symbol, or a pair or an encryption of two lower terms
pub data TermRight (s : List ℕ) (i : ℕ) : Type 0 where
  symbol : term_code s i ≡ 0 → term_field s i 0 < symbols s → term_field s i 1 ≡ 0 → TermRight s i
  pair : term_code s i ≡ 1 → term_field s i 0 < i → term_field s i 1 < i → TermRight s i
  encrypted : term_code s i ≡ 2 → term_field s i 0 < i → term_field s i 1 < i → TermRight s i

-- step k: its op, then its fields a, b, x and y
pub data StepRight (s : List ℕ) (k : ℕ) : Type 0 where
  output : step_code s k ≡ 0 → step_field s k 0 < terms s → step_field s k 1 < terms s → step_field s k 2 ≡ 0 → step_field s k 3 ≡ 0 → StepRight s k
  input : step_code s k ≡ 1 → step_field s k 0 < terms s → step_field s k 1 ≡ 0 → IsVariable s (step_field s k 2) → step_field s k 3 ≡ 0 → StepRight s k
  restriction : step_code s k ≡ 2 → step_field s k 0 ≡ 0 → step_field s k 1 ≡ 0 → IsName s (step_field s k 2) → step_field s k 3 ≡ 0 → StepRight s k
  matching : step_code s k ≡ 3 → step_field s k 0 < terms s → step_field s k 1 < terms s → step_field s k 2 ≡ 0 → step_field s k 3 ≡ 0 → StepRight s k
  splitting : step_code s k ≡ 4 → step_field s k 0 < terms s → step_field s k 1 ≡ 0 → IsVariable s (step_field s k 2) → IsVariable s (step_field s k 3) → StepRight s k
  decryption : step_code s k ≡ 5 → step_field s k 0 < terms s → step_field s k 1 < terms s → IsVariable s (step_field s k 2) → step_field s k 3 ≡ 0 → StepRight s k

-- terms i and j are equal entries
pub record SameTerm (s : List ℕ) (i j : ℕ) : Type 0 where
  pub same_code : term_code s i ≡ term_code s j
  pub same_left : term_field s i 0 ≡ term_field s j 0
  pub same_right : term_field s i 1 ≡ term_field s j 1
