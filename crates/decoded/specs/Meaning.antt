-- What the numbers 5, 7, 8 and 9 speak of, said of the bytes of a role table: which term is a part of which, what a step uses and
-- binds, which symbols a term holds at any depth, and which terms the steps reach. Assumes nothing: these are definitions.
use Rattle.std.specs.Prelude.{◌≡◌, ◌⊎◌, List, ℕ, ◌≤◌, ◌<◌}
use Rattle.codes.specs.Rows.{part_role, symbol_role, name_role, variable_role, term_role as step_term_role}
use Rattle.table_layout.specs.Layout.{terms, steps, term_field, term_role, step_field, step_role}

-- a field of term e names term i as a part
pub record HasPart (s : List ℕ) (e i : ℕ) : Type 0 where
  pub at : ℕ
  pub among : at < 2
  pub is_part : term_role s e at ≡ part_role
  pub names : term_field s e at ≡ i

-- one of the fields a and b of step k is term i
pub record Uses (s : List ℕ) (k i : ℕ) : Type 0 where
  pub at : ℕ
  pub among : at < 2
  pub is_term : step_role s k at ≡ step_term_role
  pub names : step_field s k at ≡ i

-- field j of step k binds a symbol: a name or a variable
abbrev pub Binder : List ℕ → ℕ → ℕ → Type 0
Binder s k j = (step_role s k j ≡ name_role) ⊎ (step_role s k j ≡ variable_role)

-- one of the fields x and y of step k binds symbol x
pub record Binds (s : List ℕ) (k x : ℕ) : Type 0 where
  pub at : ℕ
  pub from : 2 ≤ at
  pub among : at < 4
  pub binds : Binder s k at
  pub names : step_field s k at ≡ x

-- term t holds symbol x: a field of it is x, or a field of it is a term that holds x
pub data Holds (s : List ℕ) : ℕ → ℕ → Type 0 where
  itself : {t x : ℕ} (j : ℕ) → j < 2 → term_role s t j ≡ symbol_role → term_field s t j ≡ x → Holds s t x
  inside : {t x : ℕ} (j : ℕ) → j < 2 → term_role s t j ≡ part_role → Holds s (term_field s t j) x → Holds s t x

-- the steps reach term t: a step uses it, or it is a part of a term that they reach
pub data Reached (s : List ℕ) : ℕ → Type 0 where
  used : {t : ℕ} (k : ℕ) → k < steps s → Uses s k t → Reached s t
  part : {t : ℕ} (e : ℕ) → e < terms s → HasPart s e t → Reached s e → Reached s t

-- parts are lower (what number 5 leaves of the terms)
abbrev pub PartsLower : List ℕ → Type 0
PartsLower s = (e i : ℕ) → e < terms s → HasPart s e i → i < e

-- the terms of step k are terms of the table (what number 5 leaves of the steps)
abbrev pub TermsThere : List ℕ → ℕ → Type 0
TermsThere s k = (t : ℕ) → Uses s k t → t < terms s

-- some step from k on binds x
abbrev pub BoundFrom : List ℕ → ℕ → ℕ → Type 0
BoundFrom s k x = (j : ℕ) × (k ≤ j) × (j < steps s) × Binds s j x

-- number 9: a term of step k holds, at any depth, a symbol bound in step k or later
pub record OutOfScope (s : List ℕ) (k : ℕ) : Type 0 where
  pub term : ℕ
  pub symbol : ℕ
  pub uses : Uses s k term
  pub holds : Holds s term symbol
  pub bound_late : BoundFrom s k symbol

-- number 7 does not apply: a term has i as a part, or a step uses it
abbrev pub Named : List ℕ → ℕ → Type 0
Named s i = ((e : ℕ) × (e < terms s) × HasPart s e i) ⊎ ((k : ℕ) × (k < steps s) × Uses s k i)

-- number 8 does not apply: no earlier step binds a symbol that step k binds, and the two that it binds differ
pub record BindsNew (s : List ℕ) (k : ℕ) : Type 0 where
  pub not_earlier : (x j : ℕ) → Binds s k x → j < k → ¬ Binds s j x
  pub two_differ : Binder s k 2 → Binder s k 3 → ¬ (step_field s k 2 ≡ step_field s k 3)
