-- In a table that passes 1 to 5, what binds and is no restriction binds variables. Assumes that 1 to 5 pass, where it says so.
use mathlib.Core.Path.{◌≡◌, refl, ap, ◌∙◌}
use mathlib.Core.Bool.{true}
use mathlib.Core.Logic.{◌⊎◌, inl, inr}
use mathlib.Core.List.{List}
use Prim.Native.Nat.{ℕ, zero, suc, ◌+◌, ◌≤◌, ◌<◌}
use native.Mathlib.Omega.{arith}
use borrow.Author.Tests.{eqb-true}
use Rattle.base.specs.Bytes.{byte}
use Rattle.base.proofs.BothLaws.{both_left, both_right}
use Rattle.answers.specs.Ladder.{least}
use Rattle.codes.specs.Rows.{cell, variable_role}
use Rattle.entries.specs.Fields.{code}
use Rattle.table_layout.specs.Layout.{symbols, steps, steps_at, sort, step_field, step_role, sort_ok, step_in_range, step_ok}
use Rattle.table.specs.Faults.{table_rungs}
use Rattle.calculus.specs.Terms.{Act, send, receive, fresh, compare, split, decrypt, binders}
use Rattle.calculus.specs.Tables.{is_variable, sort_of}
use Rattle.calculus.specs.Scope.{All, all_nil, all_cons, BindsVariables}
use Rattle.calculus.specs.Version1.{signature1}
use Rattle.calculus.proofs.Lists.{all_in}
use Rattle.decoded.specs.Table.{sort_of as sort_byte, sort_at, step_at, table_of, step_bytes}
use Rattle.decoded.proofs.Listed.{listed_in}
use Rattle.decoded.proofs.Passed.{Entered, table_passed}
use Rattle.decoded.proofs.Ranges.{binder_there}
use Rattle.decoded.proofs.Shapes.{five_bytes, five_same, step_role_lem, step_written}
use Rattle.decoded.proofs.Steps.{sort_at_lem}
use Rattle.std.proofs.Common.{Ok}

-- field j of step k, x or y, binds the variable x
record BindsVariable (s : List ℕ) (k x : ℕ) : Type 0 where
  at : ℕ
  from : 2 ≤ at
  among : at < 4
  role : step_role s k at ≡ variable_role
  names : step_field s k at ≡ x

module _ (s : List ℕ) (k : ℕ) where
  -- a step binds a symbol as restriction, or by a field of the variables' role
  abbrev Bound : Act signature1 ℕ → ℕ → Type 0
  Bound p x = (p ≡ fresh x) ⊎ BindsVariable s k x

  variable_of : {p : Act signature1 ℕ} (op j x : ℕ) → 2 ≤ j → j < 4 → code s 1 (steps_at s) k ≡ op → cell 1 op (j + 1) ≡ variable_role → step_field s k j ≡ x → Bound p x
  variable_of op j x l h c r f = inr (record { at = j; from = l; among = h; role = step_role_lem s k op j c ∙ r; names = f })

  bound_of : (p : Act signature1 ℕ) → step_bytes p ≡ five_bytes s k → All (Bound p) (binders signature1 p)
  unfolding step_bytes binders cell byte
  bound_of (send a b) q = all_nil
  bound_of (receive a x) q = let (c, fa, fb, fx, fy) = five_same q in all_cons (variable_of 1 2 x (omega arith) (omega arith) c refl fx) all_nil
  bound_of (fresh x) q = all_cons (inl refl) all_nil
  bound_of (compare a b) q = all_nil
  bound_of (split a x y) q =
      let (c, fa, fb, fx, fy) = five_same q in
      all_cons (variable_of 4 2 x (omega arith) (omega arith) c refl fx) (all_cons (variable_of 4 3 y (omega arith) (omega arith) c refl fy) all_nil)
  bound_of (decrypt e a b x) q = let (c, fa, fb, fx, fy) = five_same q in all_cons (variable_of 5 2 x (omega arith) (omega arith) c refl fx) all_nil

module _ (s : List ℕ) (n : Entered s) where
  -- a field of the variables' role binds a variable
  field_sort : (k j : ℕ) → sort_ok s k j ≡ true → step_role s k j ≡ variable_role → sort s (step_field s k j) ≡ 1
  unfolding sort_ok
  field_sort k j e r = eqb-true _ _ (rw r at e)

  variable_bound : (k j : ℕ) → k < steps s → 2 ≤ j → j < 4 → step_role s k j ≡ variable_role → sort s (step_field s k j) ≡ 1
  unfolding step_ok
  variable_bound k zero h l u r = absurd (omega arith)
  variable_bound k (suc zero) h l u r = absurd (omega arith)
  variable_bound k (suc (suc zero)) h l u r = field_sort k 2 (both_left (sort_ok s k 2) (sort_ok s k 3) (both_right (step_in_range s k) _ (n.steps_right k h))) r
  variable_bound k (suc (suc (suc zero))) h l u r = field_sort k 3 (both_right (sort_ok s k 2) (sort_ok s k 3) (both_right (step_in_range s k) _ (n.steps_right k h))) r
  variable_bound k (suc (suc (suc (suc j)))) h l u r = absurd (omega arith)

  variable_sort : (x : ℕ) → x < symbols s → sort s x ≡ 1 → sort_of (table_of s).sorts x ≡ is_variable
  unfolding sort_at sort_byte
  variable_sort x h e = sort_at_lem s x h ∙ rw e

  binds_variables : BindsVariables signature1 (table_of s).sorts (table_of s).steps
  binds_variables p x i j =
      let (k, l, u, e) = listed_in (step_at s) 0 (steps s) i in
      let h : k < steps s = omega arith in
      go k h (all_in (bound_of s k p (ap step_bytes e ∙ step_written s n k h)) x j)
    where
      go : (k : ℕ) → k < steps s → Bound s k p x → (p ≡ fresh x) ⊎ (sort_of (table_of s).sorts x ≡ is_variable)
      go k h (inl e) = inl e
      go k h (inr b) =
          let there = binder_there s n k x h (record { at = b.at; from = b.from; among = b.among; binds = inr b.role; names = b.names }) in
          inr (variable_sort x there (rw b.names at (variable_bound k b.at h b.from b.among b.role)))

-- a table that passes 1 to 9 binds variables where it does not restrict
pub table_binds_variables : (s : List ℕ) → least (table_rungs s) ≡ Ok tt → BindsVariables signature1 (table_of s).sorts (table_of s).steps
table_binds_variables s e = binds_variables s (table_passed s e).entered
