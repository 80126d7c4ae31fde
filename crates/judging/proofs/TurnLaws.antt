-- The judge's turn at a statement that is not a build: it is the one due, or the judge stops. Assumes that 1 to 9 pass, where it says so.
use mathlib.Core.Path.{◌≡◌, refl, sym, ◌∙◌}
use mathlib.Core.Bool.{Bool, true, false}
use mathlib.Core.Option.{none, some}
use mathlib.Core.List.{List, [], ◌∷◌, map}
use Prim.Native.Nat.{ℕ, zero, suc, ◌<◌, ◌≤◌}
use native.Mathlib.Omega.{arith}
use lib.Dec.{eqb}
use borrow.Author.Tests.{eqb-true, eqb-false}
use Rattle.base.specs.Pick.{both}
use Rattle.base.proofs.BothLaws.{both_parts}
use Rattle.codes.specs.Rows.{cell}
use Rattle.entries.specs.Fields.{code}
use Rattle.table_layout.specs.Layout.{steps, steps_at}
use Rattle.calculus.specs.Terms.{Statement}
use Rattle.calculus.specs.Version1.{signature1}
use Rattle.rendering.specs.Rendering.{Due, binds}
use Rattle.rendering.specs.Judge.{Meaning, symbol, DuesByIndex, says, taken, turn}
use Rattle.decoded_list.specs.Statements.{statement_of}
use Rattle.decoded.specs.Indexes.{entries_of}
use Rattle.judging.specs.Due.{due_from, due_op, operands_due, is_due, step_after, half_after, new_of}
use Rattle.judging.specs.Turns.{Answer}
use Rattle.judging.proofs.SayLaws.{said_code, read_code}
use Rattle.judging.proofs.DueLaws.{Operands, DueIs, due_end}

module _ (t : List ℕ) (ms : List Meaning) where
  -- a statement that is not a build is taken if it is the one due
  turn_taken : (op u v x : ℕ) (ws : DuesByIndex signature1) → op < 7 → turn signature1 (entries_of t) ms ws (statement_of op u v x) ≡ taken signature1 ms (statement_of op u v x) ws
  unfolding turn statement_of
  turn_taken zero u v x ws h = refl
  turn_taken (suc zero) u v x ws h = refl
  turn_taken (suc (suc zero)) u v x ws h = refl
  turn_taken (suc (suc (suc zero))) u v x ws h = refl
  turn_taken (suc (suc (suc (suc zero)))) u v x ws h = refl
  turn_taken (suc (suc (suc (suc (suc zero))))) u v x ws h = refl
  turn_taken (suc (suc (suc (suc (suc (suc zero)))))) u v x ws h = refl
  turn_taken (suc (suc (suc (suc (suc (suc (suc op))))))) u v x ws h = absurd (omega arith)

  taken_said : (s : Statement signature1) (k : ℕ) (w : Due signature1 Meaning) (ws : DuesByIndex signature1) → says signature1 ms s w ≡ true
      → ◌≡◌ {A = Answer} (taken signature1 ms s ((k, w) ∷ ws)) (some (map symbol (binds signature1 w), ws))
  unfolding taken
  taken_said s k w ws e = rw e

  taken_unsaid : (s : Statement signature1) (k : ℕ) (w : Due signature1 Meaning) (ws : DuesByIndex signature1) → says signature1 ms s w ≡ false
      → ◌≡◌ {A = Answer} (taken signature1 ms s ((k, w) ∷ ws)) none
  unfolding taken
  taken_unsaid s k w ws e = rw e

  taken_nothing : (s : Statement signature1) → ◌≡◌ {A = Answer} (taken signature1 ms s []) none
  unfolding taken
  taken_nothing s = refl

  -- after the last step
  pub turn_end : (k op u v x : ℕ) (half : Bool) → op < 7 → steps t ≤ k → (half ≡ true → k < steps t) → ◌≡◌ {A = Answer} (turn signature1 (entries_of t) ms (due_from t k half) (statement_of op u v x)) none
  turn_end k op u v x true l h f = absurd (omega (arith, f refl))
  turn_end k op u v x false l h f = rw (due_end t k h) (turn_taken op u v x [] l ∙ taken_nothing (statement_of op u v x))

  module _ (k : ℕ) (half : Bool) (d : DueIs t k half) (op u v p q x : ℕ) (l : op < 7) (o : Operands ms op u v p q) where
    -- the statement that is due
    pub turn_due : is_due t k half op p q x ≡ true → ◌≡◌ {A = Answer} (turn signature1 (entries_of t) ms (due_from t k half) (statement_of op u v x)) (some (new_of op x, due_from t (step_after op k) (half_after op)))
    unfolding is_due
    turn_due h =
        let (i, j) = both_parts (eqb op (due_op (code t 1 (steps_at t) k) half)) (operands_due t k op p q x) h in
        go (eqb-true op _ i ∙ d.op_is) j
      where
        go : op ≡ d.op → operands_due t k op p q x ≡ true → ◌≡◌ {A = Answer} (turn signature1 (entries_of t) ms (due_from t k half) (statement_of op u v x)) (some (new_of op x, due_from t (step_after op k) (half_after op)))
        go i j =
            turn_taken op u v x (due_from t k half) l
            ∙ rw (d.next, i) (taken_said (statement_of d.op u v x) k d.due _ (d.said ms u v p q x (rw i at o) ∙ (rw i at j))
            ∙ rw (d.new p q x (rw i at j)))

    -- a statement that is not
    pub turn_not_due : is_due t k half op p q x ≡ false → ◌≡◌ {A = Answer} (turn signature1 (entries_of t) ms (due_from t k half) (statement_of op u v x)) none
    unfolding is_due
    turn_not_due h = turn_taken op u v x (due_from t k half) l ∙ rw d.next (taken_unsaid (statement_of op u v x) k d.due _ (unsaid (eqb op (due_op (code t 1 (steps_at t) k) half)) refl h))
      where
        unsaid : (b : Bool) → eqb op (due_op (code t 1 (steps_at t) k) half) ≡ b → both b (operands_due t k op p q x) ≡ false → says signature1 ms (statement_of op u v x) d.due ≡ false
        unsaid true i j = let g : op ≡ d.op = eqb-true op _ i ∙ d.op_is in rw g (d.said ms u v p q x (rw g at o)) ∙ j
        unsaid false i j = go (says signature1 ms (statement_of op u v x) d.due) refl
          where
            go : (b : Bool) → says signature1 ms (statement_of op u v x) d.due ≡ b → b ≡ false
            go true y = absurd (eqb-false op _ i (sym (read_code op u v x l) ∙ said_code ms (statement_of op u v x) d.due y ∙ d.code_is ∙ sym d.op_is))
            go false y = refl

    -- its symbol, where it gives a register, and its step, where it is a left half
    pub due_small : is_due t k half op p q x ≡ true → ¬ (cell 2 op 4 ≡ 0) → x < 128
    unfolding is_due
    due_small h n =
        let (i, j) = both_parts (eqb op (due_op (code t 1 (steps_at t) k) half)) (operands_due t k op p q x) h in
        let g : op ≡ d.op = eqb-true op _ i ∙ d.op_is in
        d.small p q x (rw g at j) (rw g at n)

    pub due_left_done : is_due t k half op p q x ≡ true → op ≡ 4 → code t 1 (steps_at t) k ≡ 4
    unfolding is_due
    due_left_done h z =
        let (i, j) = both_parts (eqb op (due_op (code t 1 (steps_at t) k) half)) (operands_due t k op p q x) h in
        d.left_done (sym (eqb-true op _ i ∙ d.op_is) ∙ z)
