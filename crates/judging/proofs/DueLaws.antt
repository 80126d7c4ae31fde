-- What each step makes due: the op, the statement, what is due after it, and what it gives. Assumes that 1 to 9 pass, where it says so.
use mathlib.Core.Path.{◌≡◌, refl, ap, ◌∙◌}
use mathlib.Core.Bool.{Bool, true, false}
use mathlib.Core.Logic.{inl, inr}
use mathlib.Core.List.{List, [], ◌∷◌, ◌++◌, map}
use Prim.Native.Nat.{ℕ, zero, suc, ◌+◌, ◌-◌, ◌<◌, ◌≤◌}
use native.Mathlib.Omega.{arith}
use native.Mathlib.Numerals.{add-one}
use lib.Dec.{eqb}
use lib.ListN.{drop}
use borrow.Author.Tests.{eqb-true}
use Rattle.base.specs.Bytes.{byte}
use Rattle.base.specs.Pick.{pick}
use Rattle.base.proofs.BothLaws.{both_right}
use Rattle.answers.specs.Ladder.{least}
use Rattle.codes.specs.Rows.{cell}
use Rattle.entries.specs.Fields.{code}
use Rattle.entries.specs.Tiling.{listed}
use Rattle.table_layout.specs.Layout.{terms, steps, steps_at, step_field}
use Rattle.table.specs.Faults.{table_rungs}
use Rattle.calculus.specs.Terms.{send, receive, fresh, compare, decrypt, map_act, left, right, binders}
use Rattle.calculus.specs.Version1.{encryption, signature1}
use Rattle.rendering.specs.Rendering.{halves, Due, whole, part, binds, dues_of, dues}
use Rattle.rendering.specs.Judge.{Meaning, symbol, says}
use Rattle.decoded.specs.Table.{act_of, step_at}
use Rattle.decoded_list.specs.Bytes.{half_op}
use Rattle.decoded_list.specs.Statements.{statement_of}
use Rattle.decoded.specs.Indexes.{meaning_of}
use Rattle.decoded.proofs.Tabled.{step_as, step_known, operand_there}
use Rattle.judging.specs.Meanings.{Meant, meant_at}
use Rattle.judging.specs.Due.{due_from, due_op, operands_due, step_after, half_after, new_of}
use Rattle.judging.proofs.TableMeanings.{register_means, bound_small}
use Rattle.judging.proofs.SayLaws.{act_code, due_code, says_send, says_receive, says_fresh, says_compare, says_half, says_decrypt}
use Rattle.std.proofs.Common.{Ok}

-- ── Step by step ──

-- past the last step nothing is due
pub due_end : (t : List ℕ) (k : ℕ) → steps t ≤ k → due_from t k false ≡ []
unfolding due_from dues listed
due_end t k h = let m : steps t - k ≡ 0 = omega arith in rw m

-- what step k makes due stands before what the next one does
pub due_first : (t : List ℕ) (k : ℕ) (half : Bool) → k < steps t
    → due_from t k half ≡ drop (pick half 1 0) (map (λ w. (k, w)) (dues_of signature1 halves (map_act signature1 (meaning_of t) (step_at t k))) ++ due_from t (k + 1) false)
unfolding due_from dues listed
due_first t k half h =
    let m : steps t - k ≡ suc (steps t - (k + 1)) = omega arith in
    let n : k + 1 ≡ suc k = add-one k in
    rw (m, n)

-- ── One step ──

-- a statement's registers mean p and q, where it has registers
abbrev pub Operands : List Meaning → ℕ → ℕ → ℕ → ℕ → ℕ → Type 0
Operands ms op u v p q = ¬ (op ≡ 2) → Meant ms u p × Meant ms v q

-- what step k makes due
pub record DueIs (t : List ℕ) (k : ℕ) (half : Bool) : Type 0 where
  pub op : ℕ
  pub due : Due signature1 Meaning
  pub op_is : due_op (code t 1 (steps_at t) k) half ≡ op
  pub next : due_from t k half ≡ (k, due) ∷ due_from t (step_after op k) (half_after op)
  pub code_is : due_code due ≡ op
  pub said : (ms : List Meaning) (u v p q x : ℕ) → Operands ms op u v p q → says signature1 ms (statement_of op u v x) due ≡ operands_due t k op p q x
  pub new : (p q x : ℕ) → operands_due t k op p q x ≡ true → map symbol (binds signature1 due) ≡ new_of op x
  pub small : (p q x : ℕ) → operands_due t k op p q x ≡ true → ¬ (cell 2 op 4 ≡ 0) → x < 128
  pub left_done : op ≡ 4 → code t 1 (steps_at t) k ≡ 4

module _ (t : List ℕ) (e : least (table_rungs t) ≡ Ok tt) (k : ℕ) (h : k < steps t) where
  abbrev a : ℕ
  a = step_field t k 0

  abbrev b : ℕ
  b = step_field t k 1

  -- an output
  due_send : code t 1 (steps_at t) k ≡ 0 → DueIs t k false
  unfolding due_op act_of dues_of map_act due_code act_code half_op operands_due statement_of binds binders cell byte
  due_send c =
      let l : a < terms t = operand_there t e k 0 0 h (omega arith) c refl in
      let r : b < terms t = operand_there t e k 0 1 h (omega arith) c refl in
      record {
        op = 0;
        due = whole (send (meaning_of t a) (meaning_of t b));
        op_is = rw c;
        next = due_first t k false h ∙ rw (step_as t k 0 c);
        code_is = refl;
        said = λ ms u v p q x o. says_send ms u v x x (meaning_of t a) (meaning_of t b) _ _ (register_means t e a l (o (λ z. absurd (omega arith))).0) (register_means t e b r (o (λ z. absurd (omega arith))).1);
        new = λ p q x z. refl;
        small = λ p q x z n. absurd (n refl);
        left_done = λ z. absurd (omega arith);
      }

  -- an input
  due_receive : code t 1 (steps_at t) k ≡ 1 → DueIs t k false
  unfolding due_op act_of dues_of map_act due_code act_code half_op operands_due statement_of binds binders cell byte
  due_receive c =
      let l : a < terms t = operand_there t e k 1 0 h (omega arith) c refl in
      let m : step_field t k 2 < 128 = bound_small t e k 1 2 7 h (omega arith) c refl (inr refl) in
      record {
        op = 1;
        due = whole (receive (meaning_of t a) (step_field t k 2));
        op_is = rw c;
        next = due_first t k false h ∙ rw (step_as t k 1 c);
        code_is = refl;
        said = λ ms u v p q x o. says_receive ms u x (step_field t k 2) (meaning_of t a) _ (register_means t e a l (o (λ z. absurd (omega arith))).0);
        new = λ p q x z. ap (λ (i : ℕ). symbol i ∷ []) (eqb-true (step_field t k 2) x (both_right (eqb (meant_at t a) p) (eqb (step_field t k 2) x) z));
        small = λ p q x z n. let g : step_field t k 2 ≡ x = eqb-true (step_field t k 2) x (both_right (eqb (meant_at t a) p) (eqb (step_field t k 2) x) z) in omega arith;
        left_done = λ z. absurd (omega arith);
      }

  -- a restriction
  due_fresh : code t 1 (steps_at t) k ≡ 2 → DueIs t k false
  unfolding due_op act_of dues_of map_act due_code act_code half_op operands_due statement_of binds binders cell byte
  due_fresh c =
      let m : step_field t k 2 < 128 = bound_small t e k 2 2 6 h (omega arith) c refl (inl refl) in
      record {
        op = 2;
        due = whole (fresh (step_field t k 2));
        op_is = rw c;
        next = due_first t k false h ∙ rw (step_as t k 2 c);
        code_is = refl;
        said = λ ms u v p q x o. says_fresh ms x (step_field t k 2);
        new = λ p q x z. ap (λ (i : ℕ). symbol i ∷ []) (eqb-true (step_field t k 2) x z);
        small = λ p q x z n. let g : step_field t k 2 ≡ x = eqb-true (step_field t k 2) x z in omega arith;
        left_done = λ z. absurd (omega arith);
      }

  -- a match
  due_compare : code t 1 (steps_at t) k ≡ 3 → DueIs t k false
  unfolding due_op act_of dues_of map_act due_code act_code half_op operands_due statement_of binds binders cell byte
  due_compare c =
      let l : a < terms t = operand_there t e k 3 0 h (omega arith) c refl in
      let r : b < terms t = operand_there t e k 3 1 h (omega arith) c refl in
      record {
        op = 3;
        due = whole (compare (meaning_of t a) (meaning_of t b));
        op_is = rw c;
        next = due_first t k false h ∙ rw (step_as t k 3 c);
        code_is = refl;
        said = λ ms u v p q x o. says_compare ms u v x x (meaning_of t a) (meaning_of t b) _ _ (register_means t e a l (o (λ z. absurd (omega arith))).0) (register_means t e b r (o (λ z. absurd (omega arith))).1);
        new = λ p q x z. refl;
        small = λ p q x z n. absurd (n refl);
        left_done = λ z. absurd (omega arith);
      }

  -- the left half of a split
  due_left : code t 1 (steps_at t) k ≡ 4 → DueIs t k false
  unfolding due_op act_of dues_of map_act due_code act_code half_op operands_due statement_of binds binders cell byte
  due_left c =
      let l : a < terms t = operand_there t e k 4 0 h (omega arith) c refl in
      let m : step_field t k 2 < 128 = bound_small t e k 4 2 7 h (omega arith) c refl (inr refl) in
      record {
        op = 4;
        due = part left (meaning_of t a) (step_field t k 2);
        op_is = rw c;
        next = due_first t k false h ∙ rw (step_as t k 4 c, due_first t k true h, step_as t k 4 c);
        code_is = refl;
        said = λ ms u v p q x o. says_half ms u x (step_field t k 2) (meaning_of t a) _ (register_means t e a l (o (λ z. absurd (omega arith))).0) left;
        new = λ p q x z. ap (λ (i : ℕ). symbol i ∷ []) (eqb-true (step_field t k 2) x (both_right (eqb (meant_at t a) p) (eqb (step_field t k 2) x) z));
        small = λ p q x z n. let g : step_field t k 2 ≡ x = eqb-true (step_field t k 2) x (both_right (eqb (meant_at t a) p) (eqb (step_field t k 2) x) z) in omega arith;
        left_done = λ z. c;
      }

  -- and its right half
  due_right : code t 1 (steps_at t) k ≡ 4 → DueIs t k true
  unfolding due_op act_of dues_of map_act due_code act_code half_op operands_due statement_of binds binders cell byte
  due_right c =
      let l : a < terms t = operand_there t e k 4 0 h (omega arith) c refl in
      let m : step_field t k 3 < 128 = bound_small t e k 4 3 7 h (omega arith) c refl (inr refl) in
      record {
        op = 5;
        due = part right (meaning_of t a) (step_field t k 3);
        op_is = rw c;
        next = due_first t k true h ∙ rw (step_as t k 4 c);
        code_is = refl;
        said = λ ms u v p q x o. says_half ms u x (step_field t k 3) (meaning_of t a) _ (register_means t e a l (o (λ z. absurd (omega arith))).0) right;
        new = λ p q x z. ap (λ (i : ℕ). symbol i ∷ []) (eqb-true (step_field t k 3) x (both_right (eqb (meant_at t a) p) (eqb (step_field t k 3) x) z));
        small = λ p q x z n. let g : step_field t k 3 ≡ x = eqb-true (step_field t k 3) x (both_right (eqb (meant_at t a) p) (eqb (step_field t k 3) x) z) in omega arith;
        left_done = λ z. absurd (omega arith);
      }

  -- a decryption
  due_decrypt : code t 1 (steps_at t) k ≡ 5 → DueIs t k false
  unfolding due_op act_of dues_of map_act due_code act_code half_op operands_due statement_of binds binders cell byte
  due_decrypt c =
      let l : a < terms t = operand_there t e k 5 0 h (omega arith) c refl in
      let r : b < terms t = operand_there t e k 5 1 h (omega arith) c refl in
      let m : step_field t k 2 < 128 = bound_small t e k 5 2 7 h (omega arith) c refl (inr refl) in
      record {
        op = 6;
        due = whole (decrypt encryption (meaning_of t a) (meaning_of t b) (step_field t k 2));
        op_is = rw c;
        next = due_first t k false h ∙ rw (step_as t k 5 c);
        code_is = refl;
        said = λ ms u v p q x o. says_decrypt ms u v x (step_field t k 2) (meaning_of t a) (meaning_of t b) _ _ (register_means t e a l (o (λ z. absurd (omega arith))).0) (register_means t e b r (o (λ z. absurd (omega arith))).1);
        new = λ p q x z. ap (λ (i : ℕ). symbol i ∷ []) (eqb-true (step_field t k 2) x (both_right (eqb (meant_at t b) q) (eqb (step_field t k 2) x) (both_right (eqb (meant_at t a) p) _ z)));
        small = λ p q x z n. let g : step_field t k 2 ≡ x = eqb-true (step_field t k 2) x (both_right (eqb (meant_at t b) q) (eqb (step_field t k 2) x) (both_right (eqb (meant_at t a) p) _ z)) in omega arith;
        left_done = λ z. absurd (omega arith);
      }

  -- every step
  pub due_is : (half : Bool) → (half ≡ true → code t 1 (steps_at t) k ≡ 4) → DueIs t k half
  due_is true f = due_right (f refl)
  due_is false f = go (code t 1 (steps_at t) k) refl (step_known t e k h)
    where
      go : (op : ℕ) → code t 1 (steps_at t) k ≡ op → op < 6 → DueIs t k false
      go zero c l = due_send c
      go (suc zero) c l = due_receive c
      go (suc (suc zero)) c l = due_fresh c
      go (suc (suc (suc zero))) c l = due_compare c
      go (suc (suc (suc (suc zero)))) c l = due_left c
      go (suc (suc (suc (suc (suc zero))))) c l = due_decrypt c
      go (suc (suc (suc (suc (suc (suc op)))))) c l = absurd (omega arith)
