-- A table that passes 1 to 9 is checked in the meaning layer's sense: parts are lower, operands are there, restriction binds names, no
-- symbol is bound again, and no step is out of scope. Assumes that 1 to 9 pass.
use mathlib.Core.Path.{◌≡◌, ◌∙◌}
use mathlib.Core.Logic.{inl}
use mathlib.Core.List.{List, ◌∷◌}
use Prim.Native.Nat.{ℕ, zero, suc, ◌+◌, ◌≤◌, ◌<◌}
use native.Mathlib.Omega.{arith}
use lib.ListN.{length}
use Rattle.base.proofs.BothLaws.{clash}
use Rattle.answers.specs.Ladder.{least}
use Rattle.table_layout.specs.Layout.{symbols, steps, sort}
use Rattle.table.specs.Faults.{table_rungs}
use Rattle.calculus.specs.Terms.{Act, map_act, operands, binders, bound}
use Rattle.calculus.specs.Tables.{is_name, sort_of, process, meaning}
use Rattle.calculus.specs.Scope.{In, All, Distinct, di_nil, Lacks, BindsOnce, Scoped, sc_nil, sc_step, RestrictsNames}
use Rattle.calculus.specs.Typing.{Checked}
use Rattle.calculus.specs.Version1.{signature1}
use Rattle.calculus.proofs.Lists.{all_of, all_in, not_in, distinct_append}
use Rattle.calculus.proofs.TableLaws.{bound_map}
use Rattle.entries.specs.Tiling.{listed}
use Rattle.decoded.specs.Table.{sort_of as sort_byte, sort_at, step_at, table_of}
use Rattle.decoded.specs.Meaning.{Uses, Binds}
use Rattle.decoded.proofs.Listed.{listed_in}
use Rattle.decoded.proofs.Binding.{binds_new_means}
use Rattle.decoded.proofs.Scoping.{in_scope_means}
use Rattle.decoded.proofs.Passed.{Entered, Passed, table_passed}
use Rattle.decoded.proofs.Ranges.{parts_lower, terms_there, binder_there, name_bound}
use Rattle.decoded.proofs.Shapes.{step_uses, step_binds, step_apart, step_fresh}
use Rattle.decoded.proofs.Holding.{term_of, entries_length, table_closed, lacks_unheld}
use Rattle.decoded.proofs.Steps.{sort_at_lem, operands_mapped, bound_at}
use Rattle.std.proofs.Common.{Ok}

-- ── What 1 to 5 leave ──

module _ (s : List ℕ) (n : Entered s) where
  -- the operands of steps are terms of the table
  in_range : (p : Act signature1 ℕ) (i : ℕ) → In p (table_of s).steps → In i (operands signature1 p) → i < length (table_of s).entries
  in_range p i a b =
      let (k, l, u, e) = listed_in (step_at s) 0 (steps s) a in
      let h : k < steps s = omega arith in
      let c : In i (operands signature1 (step_at s k)) = rw e at b in
      rw (entries_length s) (terms_there s n k h i (all_in (step_uses s n k h) i c))

  -- restriction binds names
  name_sort : (x : ℕ) → x < symbols s → sort s x ≡ 0 → sort_of (table_of s).sorts x ≡ is_name
  unfolding sort_at sort_byte
  name_sort x h e = sort_at_lem s x h ∙ rw e

  restricts : RestrictsNames signature1 (table_of s).sorts (table_of s).steps
  restricts x a =
      let (k, l, u, e) = listed_in (step_at s) 0 (steps s) a in
      let h : k < steps s = omega arith in
      let (r, f) = step_fresh s n k x h e in
      let b : Binds s k x = record { at = 2; from = omega arith; among = omega arith; binds = inl r; names = f } in
      name_sort x (binder_there s n k x h b) (rw f at (name_bound s n k h r))

-- ── What 8 and 9 leave ──

module _ (s : List ℕ) (p : Passed s) where
  -- no symbol is bound again
  bound_once : (i m : ℕ) → i + m ≤ steps s → Distinct (bound signature1 (listed (step_at s) i m))
  unfolding bound listed
  bound_once i zero h = di_nil
  bound_once i (suc m) h =
      distinct_append (step_apart s p.entered i (omega arith) ((binds_new_means s i).0 (p.each_new i (omega arith)))) (bound_once (suc i) m (omega arith))
      (all_of (binders signature1 (step_at s i)) λ x a. not_in x (bound signature1 (listed (step_at s) (suc i) m)) (apart x a))
    where
      apart : (x : ℕ) → In x (binders signature1 (step_at s i)) → In x (bound signature1 (listed (step_at s) (suc i) m)) → ⊥
      apart x a b =
          let (k, l, u, c) = bound_at s p.entered (suc i) m (omega arith) b in
          ((binds_new_means s k).0 (p.each_new k (omega arith))).not_earlier x i c (omega arith) (all_in (step_binds s p.entered i (omega arith)) x a)

  once : BindsOnce signature1 (process signature1 (table_of s))
  once = rw (bound_map signature1 (term_of s) (table_of s).steps) (bound_once 0 (steps s) (omega arith))

  -- no step is out of scope
  step_scoped : (i x : ℕ) → i < steps s → (k : ℕ) → i ≤ k → k < steps s → Binds s k x
      → All (Lacks signature1 x) (operands signature1 (map_act signature1 (term_of s) (step_at s i)))
  step_scoped i x h k l u b = operands_mapped (term_of s) each (step_at s i) (step_uses s p.entered i h)
    where
      each : (t : ℕ) → Uses s i t → Lacks signature1 x (term_of s t)
      each t w =
          let r = terms_there s p.entered i h t w in
          lacks_unheld s p.entered x t r λ o. clash (p.each_scoped i h)
          ((in_scope_means s i (parts_lower s p.entered) (terms_there s p.entered i h)).1 (record { term = t; symbol = x; uses = w; holds = o; bound_late = (k, l, u, b) }))

  scoped_from : (i m : ℕ) → i + m ≤ steps s → Scoped signature1 (meaning signature1 (table_of s).entries (listed (step_at s) i m))
  unfolding listed
  scoped_from i zero h = sc_nil
  scoped_from i (suc m) h = sc_step (λ x a. here_scoped x a) (scoped_from (suc i) m (omega arith))
    where
      here_scoped : (x : ℕ) → In x (bound signature1 (meaning signature1 (table_of s).entries (step_at s i ∷ listed (step_at s) (suc i) m)))
          → All (Lacks signature1 x) (operands signature1 (map_act signature1 (term_of s) (step_at s i)))
      here_scoped x a =
          let b : In x (bound signature1 (step_at s i ∷ listed (step_at s) (suc i) m)) = rw (bound_map signature1 (term_of s) (step_at s i ∷ listed (step_at s) (suc i) m)) at a in
          let (k, l, u, c) = bound_at s p.entered i (suc m) h b in
          step_scoped i x (omega arith) k l (omega arith) c

-- a table that passes 1 to 9 is checked
pub table_checked : (s : List ℕ) → least (table_rungs s) ≡ Ok tt → Checked signature1 (table_of s)
table_checked s e =
    let p = table_passed s e in
    let n = p.entered in
    record {
      closed = table_closed s n;
      in_range = in_range s n;
      restricts = restricts s n;
      once = once s p;
      scoped = scoped_from s p 0 (steps s) (omega arith);
    }
