-- What numbers 5 and 6 test, by document 01's tables. Assumes that the version is 1 (number 2), where it says so.
use mathlib.Core.Path.{◌≡◌, refl}
use mathlib.Core.Bool.{true}
use mathlib.Core.Logic.{◌↔◌, ◌⊎◌, inl, inr}
use mathlib.Core.List.{List}
use Prim.Native.Nat.{ℕ, zero, suc, ◌+◌, ◌<◌}
use native.Mathlib.Omega.{arith}
use lib.Dec.{eqb}
use lib.ListN.{get_or}
use borrow.Author.Tests.{ltb-true, lt-ltb, eqb-true, eq-eqb}
use Rattle.base.specs.Bytes.{byte}
use Rattle.base.specs.Pick.{pick}
use Rattle.base.proofs.BothLaws.{clash, both_left, both_right, both_true}
use Rattle.codes.specs.Rows.{rows, cell, fields, known, atom_kinds, limits_of, name_role, variable_role}
use Rattle.entries.specs.Fields.{role}
use Rattle.entries.specs.Faults.{node_ok, alone}
use Rattle.entries.proofs.InOrder.{entry_code, entry_field, entry_right, zero_below, below_zero}
use Rattle.entries.proofs.Unlike.{parts_same, same_parts_lem, alone_apart, apart_alone}
use Rattle.opening.specs.Opening.{version}
use Rattle.table_layout.specs.Layout.{symbols, terms, terms_at, steps_at, sort, term_field, step_field, step_role, symbol_ok, sort_ok, step_in_range, step_ok}
use Rattle.decoded.specs.Entries.{SymbolRight, term_code, step_code, TermRight, symbol, pair, encrypted, StepRight, output, input, restriction, matching, splitting, decryption, SameTerm}
use Rattle.decoded.proofs.Shapes.{step_role_lem}

-- ── Symbols ──

below_two : (b : ℕ) → b < 2 → (b ≡ 0) ⊎ (b ≡ 1)
below_two zero h = inl refl
below_two (suc zero) h = inr refl
below_two (suc (suc b)) h = absurd (omega arith)

pub symbol_ok_means : (s : List ℕ) (i : ℕ) → (symbol_ok s i ≡ true) ↔ SymbolRight s i
unfolding symbol_ok
symbol_ok_means s i = (λ e. below_two (sort s i) (ltb-true _ _ e), λ r. lt-ltb _ _ (small r))
  where
    small : SymbolRight s i → sort s i < 2
    small (inl e) = omega arith
    small (inr e) = omega arith

-- ── Terms ──

module _ (s : List ℕ) (i : ℕ) where
  abbrev term_limits : List ℕ
  term_limits = limits_of i (symbols s) (atom_kinds 1) 0 0

  term_by : (op : ℕ) → term_code s i ≡ op → op < 3 → term_field s i 0 < get_or term_limits (cell 0 op 1) 0 → term_field s i 1 < get_or term_limits (cell 0 op 2) 0 → TermRight s i
  unfolding cell byte
  term_by zero c h l r = symbol c l (below_zero r)
  term_by (suc zero) c h l r = pair c l r
  term_by (suc (suc zero)) c h l r = encrypted c l r
  term_by (suc (suc (suc op))) c h l r = absurd (omega arith)

  term_from : (op : ℕ) → term_code s i ≡ op → known 0 1 op ≡ true → term_field s i 0 < get_or term_limits (cell 0 op 1) 0 → term_field s i 1 < get_or term_limits (cell 0 op 2) 0
      → node_ok s 0 1 (terms_at s) (symbols s) i ≡ true
  unfolding node_ok fields byte
  term_from op c k l r = entry_right s 0 1 (terms_at s) i term_limits op c k λ j h. each j h
    where
      each : (j : ℕ) → j < 2 → term_field s i j < get_or term_limits (cell 0 op (j + 1)) 0
      each zero h = l
      each (suc zero) h = r
      each (suc (suc j)) h = absurd (omega arith)

  -- number 5 does not apply to term i exactly if it is in order
  pub term_ok_means : version s ≡ 1 → (node_ok s 0 (version s) (terms_at s) (symbols s) i ≡ true) ↔ TermRight s i
  unfolding node_ok rows fields known cell role byte
  term_ok_means v = rw v (λ e. to e, λ t. from t)
    where
      to : node_ok s 0 1 (terms_at s) (symbols s) i ≡ true → TermRight s i
      to e =
          term_by (term_code s i) refl (entry_code s 0 1 (terms_at s) i term_limits e)
          (entry_field s 0 1 (terms_at s) i term_limits e 0 (omega arith)) (entry_field s 0 1 (terms_at s) i term_limits e 1 (omega arith))

      from : TermRight s i → node_ok s 0 1 (terms_at s) (symbols s) i ≡ true
      from (symbol c l z) = term_from 0 c refl l (zero_below z)
      from (pair c l r) = term_from 1 c refl l r
      from (encrypted c l r) = term_from 2 c refl l r

  -- number 6 does not apply to term i exactly if it equals no earlier one
  pub alone_means : (alone s 0 (terms_at s) i ≡ true) ↔ ((j : ℕ) → j < i → ¬ SameTerm s i j)
  alone_means = (
    λ e j h t. clash (parts_same s 0 (terms_at s) i j t.same_code t.same_left t.same_right) (alone_apart s 0 (terms_at s) i j e h),
    λ f. apart_alone s 0 (terms_at s) i λ j h e. f j h (same_term_lem (same_parts_lem s 0 (terms_at s) i j e)),
  )
    where
      same_term_lem : {j : ℕ} → (term_code s i ≡ term_code s j) × (term_field s i 0 ≡ term_field s j 0) × (term_field s i 1 ≡ term_field s j 1) → SameTerm s i j
      same_term_lem (c, l, r) = record { same_code = c; same_left = l; same_right = r }

-- ── Steps ──

module _ (s : List ℕ) (k : ℕ) where
  abbrev step_limits : List ℕ
  step_limits = limits_of 0 (symbols s) 0 (terms s) 0

  -- what field j of a step of this op has to be: below the limit of its role, and of its sort
  abbrev Below : ℕ → ℕ → Type 0
  Below op j = step_field s k j < get_or step_limits (cell 1 op (j + 1)) 0

  abbrev Sorted : ℕ → ℕ → Type 0
  Sorted op j =
      pick (eqb (cell 1 op (j + 1)) name_role) (eqb (sort s (step_field s k j)) 0)
      (pick (eqb (cell 1 op (j + 1)) variable_role) (eqb (sort s (step_field s k j)) 1) true)
      ≡ true

  step_by : (op : ℕ) → step_code s k ≡ op → op < 6 → Below op 0 → Below op 1 → Below op 2 → Below op 3 → Sorted op 2 → Sorted op 3 → StepRight s k
  unfolding cell byte
  step_by zero c h la lb lx ly sx sy = output c la lb (below_zero lx) (below_zero ly)
  step_by (suc zero) c h la lb lx ly sx sy = input c la (below_zero lb) (lx, eqb-true _ _ sx) (below_zero ly)
  step_by (suc (suc zero)) c h la lb lx ly sx sy = restriction c (below_zero la) (below_zero lb) (lx, eqb-true _ _ sx) (below_zero ly)
  step_by (suc (suc (suc zero))) c h la lb lx ly sx sy = matching c la lb (below_zero lx) (below_zero ly)
  step_by (suc (suc (suc (suc zero)))) c h la lb lx ly sx sy = splitting c la (below_zero lb) (lx, eqb-true _ _ sx) (ly, eqb-true _ _ sy)
  step_by (suc (suc (suc (suc (suc zero))))) c h la lb lx ly sx sy = decryption c la lb (lx, eqb-true _ _ sx) (below_zero ly)
  step_by (suc (suc (suc (suc (suc (suc op)))))) c h la lb lx ly sx sy = absurd (omega arith)

  sort_by : (op j : ℕ) → step_code s k ≡ op → (sort_ok s k j ≡ true) ↔ Sorted op j
  unfolding sort_ok
  sort_by op j c = rw (step_role_lem s k op j c) (λ e. e, λ e. e)

  step_from : (op : ℕ) → version s ≡ 1 → step_code s k ≡ op → known 1 1 op ≡ true → Below op 0 → Below op 1 → Below op 2 → Below op 3 → Sorted op 2 → Sorted op 3 → step_ok s k ≡ true
  unfolding step_ok step_in_range fields byte
  step_from op v c n la lb lx ly sx sy =
      both_true (step_in_range s k) _ (rw v (entry_right s 1 1 (steps_at s) k step_limits op c n λ j h. each j h)) (both_true (sort_ok s k 2) (sort_ok s k 3) ((sort_by op 2 c).1 sx) ((sort_by op 3 c).1 sy))
    where
      each : (j : ℕ) → j < 4 → Below op j
      each zero h = la
      each (suc zero) h = lb
      each (suc (suc zero)) h = lx
      each (suc (suc (suc zero))) h = ly
      each (suc (suc (suc (suc j)))) h = absurd (omega arith)

  -- number 5 does not apply to step k exactly if it is in order
  pub step_ok_means : version s ≡ 1 → (step_ok s k ≡ true) ↔ StepRight s k
  unfolding step_ok step_in_range rows fields known cell role byte
  step_ok_means v = (λ e. to e, λ r. from r)
    where
      to : step_ok s k ≡ true → StepRight s k
      to e =
          let r = both_left (step_in_range s k) _ e in
          let t = both_right (step_in_range s k) _ e in
          let f : (j : ℕ) → j < 4 → step_field s k j < get_or step_limits (step_role s k j) 0 = entry_field s 1 (version s) (steps_at s) k step_limits r in
          step_by (step_code s k) refl (entry_code s 1 (version s) (steps_at s) k step_limits r)
          (f 0 (omega arith)) (f 1 (omega arith)) (f 2 (omega arith)) (f 3 (omega arith))
          ((sort_by (step_code s k) 2 refl).0 (both_left (sort_ok s k 2) (sort_ok s k 3) t)) ((sort_by (step_code s k) 3 refl).0 (both_right (sort_ok s k 2) (sort_ok s k 3) t))

      from : StepRight s k → step_ok s k ≡ true
      from (output c a b x y) = step_from 0 v c refl a b (zero_below x) (zero_below y) refl refl
      from (input c a b (x, t) y) = step_from 1 v c refl a (zero_below b) x (zero_below y) (eq-eqb _ _ t) refl
      from (restriction c a b (x, t) y) = step_from 2 v c refl (zero_below a) (zero_below b) x (zero_below y) (eq-eqb _ _ t) refl
      from (matching c a b x y) = step_from 3 v c refl a b (zero_below x) (zero_below y) refl refl
      from (splitting c a b (x, t) (y, u)) = step_from 4 v c refl a (zero_below b) x y (eq-eqb _ _ t) (eq-eqb _ _ u)
      from (decryption c a b (x, t) y) = step_from 5 v c refl a b x (zero_below y) (eq-eqb _ _ t) refl
