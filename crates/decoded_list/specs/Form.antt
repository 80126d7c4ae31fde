-- When a list is in form: the counts are within their limits, and each statement names only what is there before it, so that every number
-- can be written as a byte. Assumes nothing: these are definitions.
use Rattle.std.specs.Prelude.{◌≡◌, List, [], ◌∷◌, ℕ, ◌+◌, ◌<◌, ◌≤◌, length}
use Rattle.types.specs.Version1.{bytes}
use Rattle.calculus.specs.Terms.{split, binders, Statement, act, half, build}
use Rattle.calculus.specs.Scope.{All}
use Rattle.calculus.specs.Version1.{signature1}
use Rattle.rendering.specs.Lists.{StatementList}
use Rattle.rendering.specs.Translation.{registers}

-- the symbols that a statement names
unfoldable pub symbols_named : Statement signature1 → List ℕ
symbols_named (act a) = binders signature1 a
symbols_named (half d p x) = x ∷ []
symbols_named (build b) = []

-- how many registers it gives: one for each symbol, and one for what it builds
unfoldable pub registers_given : Statement signature1 → ℕ
registers_given (act a) = length (binders signature1 a)
registers_given (half d p x) = 1
registers_given (build b) = 1

-- a statement is in form where there are S symbols and so many registers are given: it names only those, and is no split in one statement,
-- which version 1 lacks
pub record StatementFits (symbols given : ℕ) (st : Statement signature1) : Type 0 where
  pub given_registers : All (λ p. (p < given) × (p < 256)) (registers signature1 st)
  pub symbols_there : All (λ x. x < symbols) (symbols_named st)
  pub not_whole : (p x y : ℕ) → st ≡ act (split p x y) → ⊥

-- statements are in form, one after the other
pub data StatementsFit (symbols : ℕ) : ℕ → List (Statement signature1) → Type 0 where
  fit_none : {given : ℕ} → StatementsFit symbols given []
  fit_one : {given : ℕ} {st : Statement signature1} {ss : List (Statement signature1)} → StatementFits symbols given st
      → StatementsFit symbols (given + registers_given st) ss → StatementsFit symbols given (st ∷ ss)

-- a list is in form, free being the number of the table's free symbols
pub record InForm (l : StatementList signature1) (free : ℕ) : Type 0 where
  pub few_types : length l.types ≤ 96
  pub few_statements : length l.statements ≤ 512
  pub short_types : All (λ A. length (bytes A) ≤ 255) l.types
  pub statements_fit : StatementsFit (length l.types) free l.statements
