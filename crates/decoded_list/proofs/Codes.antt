-- A statement's bytes against the rows of the codes: what was read is written again, and what is in form is read back, in range.
-- Assumes nothing.
use mathlib.Core.Path.{◌≡◌, refl}
use mathlib.Core.Bool.{true}
use mathlib.Core.List.{List, [], ◌∷◌}
use Prim.Native.Nat.{ℕ, zero, suc, ◌+◌, ◌<◌}
use native.Mathlib.Omega.{arith}
use lib.ListN.{get_or}
use Rattle.base.specs.Bytes.{byte}
use Rattle.codes.specs.Rows.{cell, rows, fields, known, limits_of}
use Rattle.entries.specs.Fields.{code, field, role, entry_ok}
use Rattle.entries.proofs.InOrder.{entry_code, entry_field, entry_right}
use Rattle.calculus.specs.Signature.{pairing, seal}
use Rattle.calculus.specs.Terms.{build1, build2, send, receive, fresh, compare, split, decrypt, operands, binders, left, right, Statement, act, half, build}
use Rattle.calculus.specs.Scope.{All, all_cons}
use Rattle.calculus.specs.Version1.{encryption, signature1}
use Rattle.rendering.specs.Translation.{parts, registers}
use Rattle.decoded_list.specs.Bytes.{two_op, half_op, statement_bytes}
use Rattle.decoded_list.specs.Statements.{statement_of}
use Rattle.decoded_list.specs.Form.{symbols_named, registers_given, StatementFits}
use Rattle.decoded_list.proofs.FileLayout.{StatementThere}

-- ── What was read ──

-- a field lies below the limit of its role
abbrev pub Below : ℕ → ℕ → ℕ → ℕ → ℕ → Type 0
Below symbols registers op column n = n < get_or (limits_of 0 symbols 0 0 registers) (cell 2 op column) 0

-- a statement of a known op and fields in range, written again; the unused fields are 0
statement_written : (S n op p q x : ℕ) → op < 9 → Below S n op 1 p → Below S n op 2 q → Below S n op 3 x → statement_bytes (statement_of op p q x) ≡ op ∷ p ∷ q ∷ x ∷ []
unfolding statement_bytes statement_of half_op two_op cell byte
statement_written S n zero p q x h a b c = let z : x < 1 = c in let y : x ≡ 0 = omega arith in rw y
statement_written S n (suc zero) p q x h a b c = let z : q < 1 = b in let y : q ≡ 0 = omega arith in rw y
statement_written S n (suc (suc zero)) p q x h a b c = let z : p < 1 = a in let w : q < 1 = b in let y : p ≡ 0 = omega arith in let v : q ≡ 0 = omega arith in rw (y, v)
statement_written S n (suc (suc (suc zero))) p q x h a b c = let z : x < 1 = c in let y : x ≡ 0 = omega arith in rw y
statement_written S n (suc (suc (suc (suc zero)))) p q x h a b c = let z : q < 1 = b in let y : q ≡ 0 = omega arith in rw y
statement_written S n (suc (suc (suc (suc (suc zero))))) p q x h a b c = let z : q < 1 = b in let y : q ≡ 0 = omega arith in rw y
statement_written S n (suc (suc (suc (suc (suc (suc zero)))))) p q x h a b c = refl
statement_written S n (suc (suc (suc (suc (suc (suc (suc zero))))))) p q x h a b c = let z : x < 1 = c in let y : x ≡ 0 = omega arith in rw y
statement_written S n (suc (suc (suc (suc (suc (suc (suc (suc zero)))))))) p q x h a b c = let z : x < 1 = c in let y : x ≡ 0 = omega arith in rw y
statement_written S n (suc (suc (suc (suc (suc (suc (suc (suc (suc op))))))))) p q x h a b c = absurd (omega arith)

-- what it says of statement i that it is in order: its op is known, and its fields are in range
pub record InOrder (s : List ℕ) (base i S n : ℕ) : Type 0 where
  pub op_known : code s 2 base i < 9
  pub below : (j : ℕ) → j < 3 → Below S n (code s 2 base i) (j + 1) (field s 2 base i j)

pub entry_in_order : (s : List ℕ) (v base i S n : ℕ) → entry_ok s 2 v base i (limits_of 0 S 0 0 n) ≡ true → InOrder s base i S n
unfolding role rows fields byte
entry_in_order s v base i S n e = record { op_known = entry_code s 2 v base i (limits_of 0 S 0 0 n) e; below = entry_field s 2 v base i (limits_of 0 S 0 0 n) e }

-- so it is written again
pub entry_written : (s : List ℕ) (base i S n : ℕ) → InOrder s base i S n
    → statement_bytes (statement_of (code s 2 base i) (field s 2 base i 0) (field s 2 base i 1) (field s 2 base i 2))
    ≡ code s 2 base i ∷ field s 2 base i 0 ∷ field s 2 base i 1 ∷ field s 2 base i 2 ∷ []
entry_written s base i S n o =
    statement_written S n (code s 2 base i) (field s 2 base i 0) (field s 2 base i 1) (field s 2 base i 2) o.op_known (o.below 0 (omega arith)) (o.below 1 (omega arith)) (o.below 2 (omega arith))

-- ── What is in form ──

-- byte k of a statement
abbrev pub at : Statement signature1 → ℕ → ℕ
at st k = byte (statement_bytes st) k

-- no split in one statement
abbrev pub NotWhole : Statement signature1 → Type 0
NotWhole st = (p x y : ℕ) → st ≡ act (split p x y) → ⊥

-- it is read back, its op is known, and the last column of its row says how many registers it gives
pub record ReadBack (st : Statement signature1) : Type 0 where
  pub same : statement_of (at st 0) (at st 1) (at st 2) (at st 3) ≡ st
  pub op_there : known 2 1 (at st 0) ≡ true
  pub column : cell 2 (at st 0) 4 ≡ registers_given st

pub read_back : (st : Statement signature1) → NotWhole st → ReadBack st
unfolding statement_of statement_bytes half_op two_op byte cell known rows registers_given binders
read_back (act (send p q)) n = record { same = refl; op_there = refl; column = refl }
read_back (act (receive p x)) n = record { same = refl; op_there = refl; column = refl }
read_back (act (fresh x)) n = record { same = refl; op_there = refl; column = refl }
read_back (act (compare p q)) n = record { same = refl; op_there = refl; column = refl }
read_back (act (split p x y)) n = absurd (n p x y refl)
read_back (act (decrypt encryption p q x)) n = record { same = refl; op_there = refl; column = refl }
read_back (half left p x) n = record { same = refl; op_there = refl; column = refl }
read_back (half right p x) n = record { same = refl; op_there = refl; column = refl }
read_back (build (build1 k p)) n = elim k [ ]
read_back (build (build2 pairing p q)) n = record { same = refl; op_there = refl; column = refl }
read_back (build (build2 (seal encryption) p q)) n = record { same = refl; op_there = refl; column = refl }

-- a statement's three fields are in range
record Ranged (S n : ℕ) (st : Statement signature1) : Type 0 where
  first : Below S n (at st 0) 1 (at st 1)
  second : Below S n (at st 0) 2 (at st 2)
  third : Below S n (at st 0) 3 (at st 3)

-- the first of all, and the others
first_of : {P : ℕ → Type 0} {x : ℕ} {l : List ℕ} → All P (x ∷ l) → P x
first_of (all_cons p q) = p

others_of : {P : ℕ → Type 0} {x : ℕ} {l : List ℕ} → All P (x ∷ l) → All P l
others_of (all_cons p q) = q

fields_back : (S n : ℕ) (st : Statement signature1) → StatementFits S n st → Ranged S n st
unfolding statement_bytes half_op two_op cell byte registers operands parts symbols_named binders
fields_back S n (act (send p q)) f =
    record { first = (first_of f.given_registers).0; second = (first_of (others_of f.given_registers)).0; third = omega arith }
fields_back S n (act (receive p x)) f = record { first = (first_of f.given_registers).0; second = omega arith; third = first_of f.symbols_there }
fields_back S n (act (fresh x)) f = record { first = omega arith; second = omega arith; third = first_of f.symbols_there }
fields_back S n (act (compare p q)) f =
    record { first = (first_of f.given_registers).0; second = (first_of (others_of f.given_registers)).0; third = omega arith }
fields_back S n (act (split p x y)) f = absurd (f.not_whole p x y refl)
fields_back S n (act (decrypt encryption p q x)) f =
    record { first = (first_of f.given_registers).0; second = (first_of (others_of f.given_registers)).0; third = first_of f.symbols_there }
fields_back S n (half left p x) f = record { first = (first_of f.given_registers).0; second = omega arith; third = first_of f.symbols_there }
fields_back S n (half right p x) f = record { first = (first_of f.given_registers).0; second = omega arith; third = first_of f.symbols_there }
fields_back S n (build (build1 k p)) f = elim k [ ]
fields_back S n (build (build2 pairing p q)) f =
    record { first = (first_of f.given_registers).0; second = (first_of (others_of f.given_registers)).0; third = omega arith }
fields_back S n (build (build2 (seal encryption) p q)) f =
    record { first = (first_of f.given_registers).0; second = (first_of (others_of f.given_registers)).0; third = omega arith }

-- so a statement in form is in order where it stands
pub statement_in_order : (s : List ℕ) (base i S n : ℕ) (st : Statement signature1) (r : List ℕ) → StatementFits S n st → StatementThere s base i st r
    → entry_ok s 2 1 base i (limits_of 0 S 0 0 n) ≡ true
unfolding fields byte
statement_in_order s base i S n st r f t = entry_right s 2 1 base i (limits_of 0 S 0 0 n) (at st 0) t.op (read_back st f.not_whole).op_there below
  where
    k : Ranged S n st
    k = fields_back S n st f

    below : (j : ℕ) → j < 3 → Below S n (at st 0) (j + 1) (field s 2 base i j)
    below zero h = rw (t.operand 0 h) k.first
    below (suc zero) h = rw (t.operand 1 h) k.second
    below (suc (suc zero)) h = rw (t.operand 2 h) k.third
    below (suc (suc (suc j))) h = absurd (omega arith)
