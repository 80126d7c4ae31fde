-- What number 7 tests: a term is named where a term has it as a part or a step uses it; an unused field names nothing. Assumes nothing.
use mathlib.Core.Path.{◌≡◌}
use mathlib.Core.Bool.{true, false}
use mathlib.Core.Logic.{◌↔◌, ◌⊎◌, inl, inr}
use mathlib.Core.List.{List}
use Prim.Native.Nat.{ℕ, ◌≤◌, ◌<◌}
use native.Mathlib.Omega.{arith}
use Rattle.base.specs.Search.{some}
use Rattle.base.proofs.SomeLaws.{some_at, at_some}
use Rattle.codes.specs.Rows.{no_role, part_role, term_role as step_term_role}
use Rattle.table_layout.specs.Layout.{terms, steps, term_field, term_role, step_field, step_role}
use Rattle.table_naming.specs.Naming.{part_at, has_part, use_at, uses_term, named}
use Rattle.table_binding.specs.Binding.{is_binder, binds_at, field_latest, field_in_scope}
use Rattle.decoded.specs.Meaning.{HasPart, Uses, Named}
use Rattle.decoded.proofs.Tests.{eqs_mean, either_cases, either_left, either_right, either_at, at_either}

-- term e has term i as a part
pub has_part_means : (s : List ℕ) (e i : ℕ) → (has_part s e i ≡ true) ↔ HasPart s e i
unfolding has_part part_at
has_part_means s e i = (λ h. to (either_at (λ j. part_at s e j i) 0 h), λ p. from p)
  where
    to : (j : ℕ) × (0 ≤ j) × (j < 2) × (part_at s e j i ≡ true) → HasPart s e i
    to (j, l, u, h) =
        let (r, n) = (eqs_mean (term_role s e j) part_role (term_field s e j) i).0 h in
        record { at = j; among = u; is_part = r; names = n }

    from : HasPart s e i → has_part s e i ≡ true
    from p =
        at_either (λ j. part_at s e j i) 0 p.at (omega arith) p.among
        ((eqs_mean (term_role s e p.at) part_role (term_field s e p.at) i).1 (p.is_part, p.names))

-- step k uses term i
pub uses_means : (s : List ℕ) (k i : ℕ) → (uses_term s k i ≡ true) ↔ Uses s k i
unfolding uses_term use_at
uses_means s k i = (λ h. to (either_at (λ j. use_at s k j i) 0 h), λ p. from p)
  where
    to : (j : ℕ) × (0 ≤ j) × (j < 2) × (use_at s k j i ≡ true) → Uses s k i
    to (j, l, u, h) =
        let (r, n) = (eqs_mean (step_role s k j) step_term_role (step_field s k j) i).0 h in
        record { at = j; among = u; is_term = r; names = n }

    from : Uses s k i → uses_term s k i ≡ true
    from p =
        at_either (λ j. use_at s k j i) 0 p.at (omega arith) p.among
        ((eqs_mean (step_role s k p.at) step_term_role (step_field s k p.at) i).1 (p.is_term, p.names))

-- number 7 does not apply exactly if a term has i as a part, or a step uses it
pub named_means : (s : List ℕ) (i : ℕ) → (named s i ≡ true) ↔ Named s i
unfolding named
named_means s i = (λ h. to (either_cases _ _ h), λ n. from n)
  where
    to : (some (λ e. has_part s e i) (terms s) ≡ true) ⊎ (some (λ k. uses_term s k i) (steps s) ≡ true) → Named s i
    to (inl h) = let (e, l, p) = some_at (λ e. has_part s e i) (terms s) h in inl (e, l, (has_part_means s e i).0 p)
    to (inr h) = let (k, l, p) = some_at (λ k. uses_term s k i) (steps s) h in inr (k, l, (uses_means s k i).0 p)

    from : Named s i → named s i ≡ true
    from (inl (e, l, p)) = either_left (some (λ e. has_part s e i) (terms s)) (some (λ k. uses_term s k i) (steps s)) (at_some (λ e. has_part s e i) (terms s) e l ((has_part_means s e i).1 p))
    from (inr (k, l, p)) = either_right (some (λ e. has_part s e i) (terms s)) (some (λ k. uses_term s k i) (steps s)) (at_some (λ k. uses_term s k i) (steps s) k l ((uses_means s k i).1 p))

-- a field of no role names no term and holds no symbol, in a term; names no term, holds and binds no symbol, in a step
pub unused_names_nothing : (s lower : List ℕ) (i j x : ℕ)
    → (term_role s i j ≡ no_role → (part_at s i j x ≡ false) × (field_latest s lower i j ≡ 0))
    × (step_role s i j ≡ no_role → (use_at s i j x ≡ false) × (field_in_scope s i j ≡ true) × (binds_at s i j x ≡ false))
unfolding part_at use_at field_latest field_in_scope is_binder
unused_names_nothing s lower i j x = (λ e. (rw e, rw e), λ e. (rw e, rw e, rw e))
