-- The pieces of a step: its terms, its statements, the symbols that it binds. Assumes that 1 to 9 pass, where it says so.
use mathlib.Core.Path.{◌≡◌, refl, sym, ◌∙◌}
use mathlib.Core.Logic.{◌⊎◌, inl, inr}
use mathlib.Core.List.{List, [], ◌∷◌, ◌++◌, map, append-nil, append_assoc}
use Prim.Native.Nat.{ℕ, zero, suc, ◌<◌, ◌≤◌}
use native.Mathlib.Omega.{arith}
use Rattle.answers.specs.Ladder.{least}
use Rattle.base.specs.Bytes.{byte}
use Rattle.codes.specs.Rows.{cell}
use Rattle.entries.specs.Fields.{code}
use Rattle.table_layout.specs.Layout.{terms, steps, steps_at, step_field}
use Rattle.table.specs.Faults.{table_rungs}
use Rattle.calculus.specs.Terms.{operands, binders}
use Rattle.calculus.specs.Version1.{signature1}
use Rattle.rendering.specs.Judge.{Meaning, symbol}
use Rattle.rendering.specs.Translation.{build_each}
use Rattle.decoded.specs.Table.{act_of}
use Rattle.translate.specs.Stepwise.{built, after, operands_built, step_bound}
use Rattle.translate.specs.Making.{state_bytes}
use Rattle.decoded.proofs.Tabled.{step_as, operand_there}
use Rattle.translate.proofs.BuiltLaws.{two_after}
use Rattle.std.proofs.Common.{Ok}

module _ (s : List ℕ) (k : ℕ) where
  -- ── Its terms ──

  operands_of : (op : ℕ) → code s 1 (steps_at s) k ≡ op → (ms : List Meaning)
      → operands_built s k ms ≡ build_each signature1 (built s) (operands signature1 (act_of op (step_field s k 0) (step_field s k 1) (step_field s k 2) (step_field s k 3))) ms
  unfolding operands_built
  operands_of op c ms = rw (step_as s k op c)

  one_after : (ms : List Meaning) → build_each signature1 (built s) (step_field s k 0 ∷ []) ms ≡ built s (step_field s k 0) ms
  unfolding build_each
  one_after ms = rw (append-nil (built s (step_field s k 0) ms).0)

  -- a restriction has none
  pub none_built : code s 1 (steps_at s) k ≡ 2 → (ms : List Meaning) → operands_built s k ms ≡ ([], ms)
  unfolding act_of operands build_each
  none_built c ms = operands_of 2 c ms

  -- an input and a split have one
  pub one_built : (op : ℕ) → code s 1 (steps_at s) k ≡ op → (op ≡ 1) ⊎ (op ≡ 4) → (ms : List Meaning) → operands_built s k ms ≡ built s (step_field s k 0) ms
  unfolding act_of operands
  one_built op c (inl q) ms = operands_of 1 (c ∙ q) ms ∙ one_after ms
  one_built op c (inr q) ms = operands_of 4 (c ∙ q) ms ∙ one_after ms

  -- the others have two
  pub two_built : (op : ℕ) → code s 1 (steps_at s) k ≡ op → op < 6 → ¬ (op ≡ 2) → ¬ (op ≡ 1) → ¬ (op ≡ 4) → (ms : List Meaning)
      → operands_built s k ms ≡ after (built s (step_field s k 0)) (built s (step_field s k 1)) ms
  unfolding act_of operands
  two_built zero c l p q r ms = operands_of 0 c ms ∙ two_after (built s) (step_field s k 0) (step_field s k 1) ms
  two_built (suc zero) c l p q r ms = absurd (q refl)
  two_built (suc (suc zero)) c l p q r ms = absurd (p refl)
  two_built (suc (suc (suc zero))) c l p q r ms = operands_of 3 c ms ∙ two_after (built s) (step_field s k 0) (step_field s k 1) ms
  two_built (suc (suc (suc (suc zero)))) c l p q r ms = absurd (r refl)
  two_built (suc (suc (suc (suc (suc zero))))) c l p q r ms = operands_of 5 c ms ∙ two_after (built s) (step_field s k 0) (step_field s k 1) ms
  two_built (suc (suc (suc (suc (suc (suc op)))))) c l p q r ms = absurd (omega arith)

  module _ (e : least (table_rungs s) ≡ Ok tt) (h : k < steps s) where
    pub first_there : (op : ℕ) → code s 1 (steps_at s) k ≡ op → op < 6 → ¬ (op ≡ 2) → step_field s k 0 < terms s
    unfolding cell byte
    first_there zero c l p = operand_there s e k 0 0 h (omega arith) c refl
    first_there (suc zero) c l p = operand_there s e k 1 0 h (omega arith) c refl
    first_there (suc (suc zero)) c l p = absurd (p refl)
    first_there (suc (suc (suc zero))) c l p = operand_there s e k 3 0 h (omega arith) c refl
    first_there (suc (suc (suc (suc zero)))) c l p = operand_there s e k 4 0 h (omega arith) c refl
    first_there (suc (suc (suc (suc (suc zero))))) c l p = operand_there s e k 5 0 h (omega arith) c refl
    first_there (suc (suc (suc (suc (suc (suc op)))))) c l p = absurd (omega arith)

    pub second_there : (op : ℕ) → code s 1 (steps_at s) k ≡ op → op < 6 → ¬ (op ≡ 2) → ¬ (op ≡ 1) → ¬ (op ≡ 4) → step_field s k 1 < terms s
    unfolding cell byte
    second_there zero c l p q r = operand_there s e k 0 1 h (omega arith) c refl
    second_there (suc zero) c l p q r = absurd (q refl)
    second_there (suc (suc zero)) c l p q r = absurd (p refl)
    second_there (suc (suc (suc zero))) c l p q r = operand_there s e k 3 1 h (omega arith) c refl
    second_there (suc (suc (suc (suc zero)))) c l p q r = absurd (r refl)
    second_there (suc (suc (suc (suc (suc zero))))) c l p q r = operand_there s e k 5 1 h (omega arith) c refl
    second_there (suc (suc (suc (suc (suc (suc op)))))) c l p q r = absurd (omega arith)

  -- ── The symbols that it binds ──

  bound_of : (op : ℕ) → code s 1 (steps_at s) k ≡ op → (ms : List Meaning)
      → step_bound s k ms ≡ ms ++ map symbol (binders signature1 (act_of op (step_field s k 0) (step_field s k 1) (step_field s k 2) (step_field s k 3)))
  unfolding step_bound
  bound_of op c ms = rw (step_as s k op c)

  pub binds_none : (op : ℕ) → code s 1 (steps_at s) k ≡ op → (op ≡ 0) ⊎ (op ≡ 3) → (ms : List Meaning) → step_bound s k ms ≡ ms
  unfolding act_of binders
  binds_none op c (inl q) ms = bound_of 0 (c ∙ q) ms ∙ append-nil ms
  binds_none op c (inr q) ms = bound_of 3 (c ∙ q) ms ∙ append-nil ms

  pub binds_two : code s 1 (steps_at s) k ≡ 4 → (ms : List Meaning) → step_bound s k ms ≡ (ms ++ (symbol (step_field s k 2) ∷ [])) ++ (symbol (step_field s k 3) ∷ [])
  unfolding act_of binders
  binds_two c ms = bound_of 4 c ms ∙ sym (append_assoc ms (symbol (step_field s k 2) ∷ []) (symbol (step_field s k 3) ∷ []))

  pub binds_one : (op : ℕ) → code s 1 (steps_at s) k ≡ op → op < 6 → ¬ (op ≡ 0) → ¬ (op ≡ 3) → ¬ (op ≡ 4) → (ms : List Meaning) → step_bound s k ms ≡ ms ++ (symbol (step_field s k 2) ∷ [])
  unfolding act_of binders
  binds_one zero c l p q r ms = absurd (p refl)
  binds_one (suc zero) c l p q r ms = bound_of 1 c ms
  binds_one (suc (suc zero)) c l p q r ms = bound_of 2 c ms
  binds_one (suc (suc (suc zero))) c l p q r ms = absurd (q refl)
  binds_one (suc (suc (suc (suc zero)))) c l p q r ms = absurd (r refl)
  binds_one (suc (suc (suc (suc (suc zero))))) c l p q r ms = bound_of 5 c ms
  binds_one (suc (suc (suc (suc (suc (suc op)))))) c l p q r ms = absurd (omega arith)

-- ── Its statements ──

pub state_none : (op p q x y : ℕ) → 6 ≤ op → state_bytes op p q x y ≡ []
unfolding state_bytes
state_none zero p q x y h = absurd (omega arith)
state_none (suc zero) p q x y h = absurd (omega arith)
state_none (suc (suc zero)) p q x y h = absurd (omega arith)
state_none (suc (suc (suc zero))) p q x y h = absurd (omega arith)
state_none (suc (suc (suc (suc zero)))) p q x y h = absurd (omega arith)
state_none (suc (suc (suc (suc (suc zero))))) p q x y h = absurd (omega arith)
state_none (suc (suc (suc (suc (suc (suc op)))))) p q x y h = refl
