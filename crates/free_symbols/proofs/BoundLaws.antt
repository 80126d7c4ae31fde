-- The marks of the bound symbols say which symbols the steps of a table bind. Assumes that 1 to 9 pass, where it says so.
use mathlib.Core.Path.{◌≡◌, refl, sym, ◌∙◌}
use mathlib.Core.Bool.{Bool, true, false}
use mathlib.Core.List.{List}
use Prim.Native.Nat.{ℕ}
use Rattle.base.specs.Search.{some}
use Rattle.base.proofs.SomeLaws.{some_at, at_some}
use Rattle.answers.specs.Ladder.{least}
use Rattle.marks.specs.Put.{Put, blank}
use Rattle.marks.proofs.PutLaws.{put_as}
use Rattle.table_layout.specs.Layout.{steps}
use Rattle.table_binding.specs.Binding.{binds}
use Rattle.table.specs.Faults.{table_rungs}
use Rattle.calculus.specs.Terms.{bound}
use Rattle.calculus.specs.Tables.{is_in}
use Rattle.calculus.specs.Version1.{signature1}
use Rattle.calculus.proofs.Lists.{in_true, in_false, not_in_in}
use Rattle.decoded.specs.Table.{table_of}
use Rattle.decoded.proofs.Passed.{table_passed}
use Rattle.decoded.proofs.Binding.{binds_means}
use Rattle.decoded.proofs.Steps.{bound_means}
use Rattle.free_symbols.specs.Free.{is_bound, bound_in}
use Rattle.std.proofs.Common.{Ok}

module _ (s : List ℕ) (e : least (table_rungs s) ≡ Ok tt) where
  -- a symbol is marked exactly if it is one of those that the steps bind
  pub bound_right : (x : ℕ) → is_bound s x ≡ is_in x (bound_in s)
  unfolding is_bound bound_in
  bound_right x = go (some (λ k. binds s k x) (steps s)) (is_in x (bound signature1 (table_of s).steps)) refl refl
    where
      go : (a b : Bool) → some (λ k. binds s k x) (steps s) ≡ a → is_in x (bound signature1 (table_of s).steps) ≡ b → a ≡ b
      go true true p q = refl
      go true false p q =
          let (k, h, t) = some_at (λ k. binds s k x) (steps s) p in
          absurd (not_in_in (in_false x _ q) ((bound_means s (table_passed s e).entered x).1 (k, h, (binds_means s k x).0 t)))
      go false true p q =
          let (k, h, b) = (bound_means s (table_passed s e).entered x).0 (in_true x _ q) in
          sym p ∙ at_some (λ k. binds s k x) (steps s) k h ((binds_means s k x).1 b)
      go false false p q = refl

  -- so are the marks in an array that had none
  pub marked_right : {o : List ℕ} → Put blank o (is_bound s) 1 → Put blank o (λ x. is_in x (bound_in s)) 1
  marked_right p = put_as (λ x. bound_right x) p
