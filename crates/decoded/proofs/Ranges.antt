-- What number 5 leaves of each field: its code is known, and it lies below the limit of its role. Assumes that 1 to 5 pass, where it says so.
use mathlib.Core.Path.{◌≡◌}
use mathlib.Core.Bool.{true}
use mathlib.Core.Logic.{inl, inr}
use mathlib.Core.List.{List}
use Prim.Native.Nat.{ℕ, ◌<◌}
use native.Mathlib.Omega.{arith}
use lib.ListN.{get_or}
use borrow.Author.Tests.{ltb-true, eqb-true}
use Rattle.base.specs.Bytes.{byte}
use Rattle.base.proofs.BothLaws.{both_left, both_right}
use Rattle.codes.specs.Rows.{rows, fields, atom_kinds, limits_of, no_role, name_role}
use Rattle.entries.specs.Fields.{code}
use Rattle.entries.specs.Faults.{node_ok}
use Rattle.entries.proofs.InOrder.{entry_code, entry_field}
use Rattle.opening.specs.Opening.{version}
use Rattle.table_layout.specs.Layout.{symbols, terms, steps, terms_at, steps_at, sort, term_field, term_role, step_field, step_role, sort_ok, step_in_range, step_ok, symbol_ok}
use Rattle.decoded.specs.Meaning.{Binder, Binds, PartsLower, TermsThere}
use Rattle.decoded.proofs.Passed.{Entered}

module _ (s : List ℕ) (n : Entered s) where
  -- ── Terms ──
  pub term_code_lem : (i : ℕ) → i < terms s → code s 0 (terms_at s) i < 3
  unfolding node_ok rows byte
  term_code_lem i h = entry_code s 0 (version s) (terms_at s) i _ (n.terms_right i h)

  pub term_field_lem : (i : ℕ) → i < terms s → (j : ℕ) → j < 2 → term_field s i j < get_or (limits_of i (symbols s) (atom_kinds (version s)) 0 0) (term_role s i j) 0
  unfolding node_ok fields byte
  term_field_lem i h j u = entry_field s 0 (version s) (terms_at s) i _ (n.terms_right i h) j u

  -- a part is lower, and an unused field is 0
  pub parts_lower : PartsLower s
  parts_lower e i h p = rw p.names at (rw p.is_part at (term_field_lem e h p.at p.among))

  pub term_unused : (i : ℕ) → i < terms s → (j : ℕ) → j < 2 → term_role s i j ≡ no_role → term_field s i j ≡ 0
  term_unused i h j u e = let l : term_field s i j < 1 = rw e at (term_field_lem i h j u) in omega arith

  -- ── Steps ──
  step_range : (k : ℕ) → k < steps s → step_in_range s k ≡ true
  unfolding step_ok
  step_range k h = both_left (step_in_range s k) _ (n.steps_right k h)

  pub step_code_lem : (k : ℕ) → k < steps s → code s 1 (steps_at s) k < 6
  unfolding step_in_range rows byte
  step_code_lem k h = entry_code s 1 (version s) (steps_at s) k _ (step_range k h)

  pub step_field_lem : (k : ℕ) → k < steps s → (j : ℕ) → j < 4 → step_field s k j < get_or (limits_of 0 (symbols s) 0 (terms s) 0) (step_role s k j) 0
  unfolding step_in_range fields byte
  step_field_lem k h j u = entry_field s 1 (version s) (steps_at s) k _ (step_range k h) j u

  -- the terms of a step are there, so are the symbols that it binds, and an unused field is 0
  pub terms_there : (k : ℕ) → k < steps s → TermsThere s k
  terms_there k h t w = rw w.names at (rw w.is_term at (step_field_lem k h w.at (omega (arith, w.among))))

  pub binder_there : (k x : ℕ) → k < steps s → Binds s k x → x < symbols s
  binder_there k x h b = rw b.names at (go b.binds (step_field_lem k h b.at b.among))
    where
      go : Binder s k b.at → step_field s k b.at < get_or (limits_of 0 (symbols s) 0 (terms s) 0) (step_role s k b.at) 0 → step_field s k b.at < symbols s
      go (inl e) l = rw e at l
      go (inr e) l = rw e at l

  pub step_unused : (k : ℕ) → k < steps s → (j : ℕ) → j < 4 → step_role s k j ≡ no_role → step_field s k j ≡ 0
  step_unused k h j u e = let l : step_field s k j < 1 = rw e at (step_field_lem k h j u) in omega arith

  -- a restriction binds a name
  pub name_bound : (k : ℕ) → k < steps s → step_role s k 2 ≡ name_role → sort s (step_field s k 2) ≡ 0
  unfolding step_ok sort_ok
  name_bound k h e = eqb-true _ _ (rw e at (both_left (sort_ok s k 2) (sort_ok s k 3) (both_right (step_in_range s k) _ (n.steps_right k h))))

  -- a symbol's byte is 0 or 1
  pub sort_small : (x : ℕ) → x < symbols s → sort s x < 2
  unfolding symbol_ok
  sort_small x h = ltb-true _ _ (n.symbols_right x h)
