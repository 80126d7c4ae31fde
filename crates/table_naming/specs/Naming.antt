-- Which terms equal an earlier one (number 6), and which are named (number 7). A field that a code does not use names nothing. Assumes nothing: these are definitions.
use Rattle.std.specs.Prelude.{Bool, List, [], ◌∷◌, ℕ, eqb}
use Rattle.base.specs.Pick.{both, either}
use Rattle.base.specs.Search.{some}
use Rattle.answers.specs.Ladder.{Rung}
use Rattle.entries.specs.Faults.{twin_rung}
use Rattle.codes.specs.Rows.{part_role, term_role as step_term_role}
use Rattle.table_layout.specs.Layout.{terms, steps, terms_at, term_field, term_role, step_field, step_role}

-- field j of term e has term i as a part
unfoldable pub part_at : List ℕ → ℕ → ℕ → ℕ → Bool
part_at s e j i = both (eqb (term_role s e j) part_role) (eqb (term_field s e j) i)

-- term e has term i as a part
unfoldable pub has_part : List ℕ → ℕ → ℕ → Bool
has_part s e i = either (part_at s e 0 i) (part_at s e 1 i)

-- field j of step k is term i
unfoldable pub use_at : List ℕ → ℕ → ℕ → ℕ → Bool
use_at s k j i = both (eqb (step_role s k j) step_term_role) (eqb (step_field s k j) i)

-- step k uses term i
unfoldable pub uses_term : List ℕ → ℕ → ℕ → Bool
uses_term s k i = either (use_at s k 0 i) (use_at s k 1 i)

-- some term or some step names term i
unfoldable pub named : List ℕ → ℕ → Bool
named s i = either (some (λ e. has_part s e i) (terms s)) (some (λ k. uses_term s k i) (steps s))

-- 6 and 7: a term equal to an earlier one, and one that nothing names, at its index
abbrev pub idle_rung : List ℕ → Rung
idle_rung s = record { number = 7; file = 0; count = terms s; ok = named s; place = λ i. i }

abbrev pub term_rungs : List ℕ → List Rung
term_rungs s = twin_rung s 0 0 (terms_at s) (terms s) ∷ idle_rung s ∷ []
