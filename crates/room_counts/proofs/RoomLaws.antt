-- The statements that take room for a value are those that build, and those that take room for a message are those that send or
-- receive. Assumes nothing.
use mathlib.Core.Path.{◌≡◌, refl, sym, ◌∙◌}
use mathlib.Core.Bool.{Bool, false, cond}
use mathlib.Core.List.{List, [], ◌∷◌}
use Prim.Native.Nat.{ℕ, zero, suc, ◌+◌, ◌≤◌}
use native.Mathlib.Omega.{arith}
use native.Mathlib.Numerals.{add-one}
use lib.Dec.{eqb}
use borrow.Author.Tests.{ne_eqb}
use Rattle.base.specs.Pick.{either}
use Rattle.entries.specs.Tiling.{listed}
use Rattle.list.specs.Layout.{statements}
use Rattle.calculus.specs.Terms.{send, receive, fresh, compare, split, decrypt, Statement, act, half, build}
use Rattle.calculus.specs.Version1.{signature1}
use Rattle.running.specs.Demand3.{builds, messages, speaks}
use Rattle.list.specs.Statements.{op_at, operand_at}
use Rattle.decoded_list.specs.Statements.{statement_of, statement_at, statements_of}
use Rattle.std.proofs.lemmas.List.Sums.{sum_by-cons}
use Rattle.std.specs.List.{range_with_len, count_by}
use Rattle.room_counts.specs.Room.{passing}

-- the two tests
abbrev pub is_build : ℕ → Bool
is_build op = either (eqb op 7) (eqb op 8)

abbrev pub is_message : ℕ → Bool
is_message op = either (eqb op 0) (eqb op 1)

-- past the last op they fail
no_build : (op : ℕ) → 9 ≤ op → is_build op ≡ false
no_build op h = rw (ne_eqb op 7 (λ e. absurd (omega arith)), ne_eqb op 8 (λ e. absurd (omega arith)))

no_message : (op : ℕ) → 9 ≤ op → is_message op ≡ false
no_message op h = rw (ne_eqb op 0 (λ e. absurd (omega arith)), ne_eqb op 1 (λ e. absurd (omega arith)))

-- one statement more
builds_more : (x : Statement signature1) (l : List (Statement signature1)) → builds signature1 (x ∷ l) ≡ builds signature1 (x ∷ []) + builds signature1 l
unfolding builds
builds_more (build b) l = omega arith
builds_more (act a) l = omega arith
builds_more (half d p x) l = omega arith

messages_more : (x : Statement signature1) (l : List (Statement signature1)) → messages signature1 (x ∷ l) ≡ messages signature1 (x ∷ []) + messages signature1 l
unfolding messages speaks
messages_more (build b) l = omega arith
messages_more (act (send p q)) l = omega arith
messages_more (act (receive p x)) l = omega arith
messages_more (act (fresh x)) l = omega arith
messages_more (act (compare p q)) l = omega arith
messages_more (act (split p x y)) l = omega arith
messages_more (act (decrypt e p q x)) l = omega arith
messages_more (half d p x) l = omega arith

-- a statement by its op
op_builds : (op p q x : ℕ) → cond (is_build op) 1 0 ≡ builds signature1 (statement_of op p q x ∷ [])
unfolding builds statement_of
op_builds zero p q x = refl
op_builds (suc zero) p q x = refl
op_builds (suc (suc zero)) p q x = refl
op_builds (suc (suc (suc zero))) p q x = refl
op_builds (suc (suc (suc (suc zero)))) p q x = refl
op_builds (suc (suc (suc (suc (suc zero))))) p q x = refl
op_builds (suc (suc (suc (suc (suc (suc zero)))))) p q x = refl
op_builds (suc (suc (suc (suc (suc (suc (suc zero))))))) p q x = refl
op_builds (suc (suc (suc (suc (suc (suc (suc (suc zero)))))))) p q x = refl
op_builds (suc (suc (suc (suc (suc (suc (suc (suc (suc op))))))))) p q x = rw (no_build (suc (suc (suc (suc (suc (suc (suc (suc (suc op))))))))) (omega arith)) refl

op_messages : (op p q x : ℕ) → cond (is_message op) 1 0 ≡ messages signature1 (statement_of op p q x ∷ [])
unfolding messages speaks statement_of
op_messages zero p q x = refl
op_messages (suc zero) p q x = refl
op_messages (suc (suc zero)) p q x = refl
op_messages (suc (suc (suc zero))) p q x = refl
op_messages (suc (suc (suc (suc zero)))) p q x = refl
op_messages (suc (suc (suc (suc (suc zero))))) p q x = refl
op_messages (suc (suc (suc (suc (suc (suc zero)))))) p q x = refl
op_messages (suc (suc (suc (suc (suc (suc (suc zero))))))) p q x = refl
op_messages (suc (suc (suc (suc (suc (suc (suc (suc zero)))))))) p q x = refl
op_messages (suc (suc (suc (suc (suc (suc (suc (suc (suc op))))))))) p q x = rw (no_message (suc (suc (suc (suc (suc (suc (suc (suc (suc op))))))))) (omega arith)) refl

-- ── All statements ──

-- a count that goes statement by statement is that of the ops
counted : (s : List ℕ) (p : ℕ → Bool) (f : List (Statement signature1) → ℕ) → f [] ≡ 0 → ((x : Statement signature1) (l : List (Statement signature1)) → f (x ∷ l) ≡ f (x ∷ []) + f l)
    → ((i : ℕ) → cond (p (op_at s i)) 1 0 ≡ f (statement_at s i ∷ [])) → (i n : ℕ) → count_by (λ k. p (op_at s k)) (range_with_len i n) ≡ f (listed (statement_at s) i n)
unfolding listed
counted s p f z a o i zero = sym z
counted s p f z a o i (suc n) =
    sum_by-cons (λ k. cond (p (op_at s k)) 1 0) i (range_with_len (i + 1) n)
    ∙ rw (o i, add-one, counted s p f z a o (suc i) n) (sym (a (statement_at s i) (listed (statement_at s) (suc i) n)))

-- the statements that build
pub builds_passing : (s : List ℕ) → passing is_build s ≡ builds signature1 (statements_of s)
unfolding passing
builds_passing s = counted s is_build (builds signature1) (unfold builds in refl) builds_more (λ i. one i) 0 (statements s)
  where
    one : (i : ℕ) → cond (is_build (op_at s i)) 1 0 ≡ builds signature1 (statement_at s i ∷ [])
    one i = unfold statement_at in op_builds (op_at s i) (operand_at s i 0) (operand_at s i 1) (operand_at s i 2)

-- the statements that send or receive
pub messages_passing : (s : List ℕ) → passing is_message s ≡ messages signature1 (statements_of s)
unfolding passing
messages_passing s = counted s is_message (messages signature1) (unfold messages in refl) messages_more (λ i. one i) 0 (statements s)
  where
    one : (i : ℕ) → cond (is_message (op_at s i)) 1 0 ≡ messages signature1 (statement_at s i ∷ [])
    one i = unfold statement_at in op_messages (op_at s i) (operand_at s i 0) (operand_at s i 1) (operand_at s i 2)
