-- The file of a list in form has only bytes. Assumes nothing.
use mathlib.Core.Path.{◌≡◌}
use mathlib.Core.List.{List, [], ◌∷◌}
use Prim.Native.Nat.{ℕ, ◌+◌, ◌/◌, ◌%◌, ◌<◌, ◌≤◌}
use native.Mathlib.Nat.{lt_of_not-le}
use native.Mathlib.Decide.{dec_lt}
use native.Mathlib.Omega.{arith}
use lib.ListN.{length, get_or}
use Rattle.base.specs.Bytes.{byte}
use Rattle.base.proofs.Bounds.{byte_past}
use Rattle.codes.specs.Marks.{mark}
use Rattle.entries.specs.Words.{Bytes}
use Rattle.entries.specs.Tiling.{joined}
use Rattle.types.specs.Types.{Message, Basic, Cipher, Pair}
use Rattle.types.specs.Prefix.{Node, n_message, n_basic, n_cipher, n_pair, encoded}
use Rattle.types.specs.Version1.{name, channel, shkey, shared, types1, code1, T, bytes}
use Rattle.calculus.specs.Signature.{pairing, seal}
use Rattle.calculus.specs.Terms.{build1, build2, send, receive, fresh, compare, split, decrypt, operands, binders, left, right, Statement, act, half, build}
use Rattle.calculus.specs.Scope.{All, all_nil, all_cons}
use Rattle.calculus.specs.Version1.{encryption, signature1}
use Rattle.calculus.proofs.Lists.{all_append, all_at, all_map}
use Rattle.rendering.specs.Lists.{StatementList}
use Rattle.rendering.specs.Translation.{parts, registers}
use Rattle.decoded_list.specs.Bytes.{two_op, half_op, statement_bytes, statements_bytes, type_with_length, types_bytes, header_bytes, list_bytes}
use Rattle.decoded_list.specs.Form.{symbols_named, registers_given, StatementsFit, fit_one, InForm}

-- every element is a byte
abbrev Small : List ℕ → Type 0
Small s = All (λ b. b < 256) s

-- one byte more
then : (b : ℕ) → b < 256 → {s : List ℕ} → Small s → Small (b ∷ s)
then b h k = all_cons h k

-- the 0 of an unused last field
none : Small (0 ∷ [])
none = then 0 (omega arith) all_nil

-- ── Types ──

-- codes, types, and types with their length bytes
code_small : (h : Node types1) → code1 h < 256
unfolding code1
code_small n_message = omega arith
code_small n_pair = omega arith
code_small (n_basic name) = omega arith
code_small (n_basic channel) = omega arith
code_small (n_basic shkey) = omega arith
code_small (n_cipher shared) = omega arith

type_small : (A : T) → Small (bytes A)
unfolding encoded
type_small Message = all_cons (code_small n_message) all_nil
type_small (Basic x) = all_cons (code_small (n_basic x)) all_nil
type_small (Cipher u A) = all_cons (code_small (n_cipher u)) (type_small A)
type_small (Pair A B) = all_cons (code_small n_pair) (all_append (type_small A) (type_small B))

types_small : (As : List T) → All (λ A. length (bytes A) ≤ 255) As → Small (types_bytes As)
unfolding joined type_with_length
types_small [] h = all_nil
types_small (A ∷ As) (all_cons p h) = all_append (all_cons (omega arith) (type_small A)) (types_small As h)

-- ── Statements ──

-- the registers and the symbols that a statement names are bytes
record Named (st : Statement signature1) : Type 0 where
  by_register : Small (registers signature1 st)
  by_symbol : Small (symbols_named st)

-- so its four bytes are
statement_small : (st : Statement signature1) → Named st → Small (statement_bytes st)
unfolding statement_bytes registers symbols_named operands parts binders half_op two_op
statement_small (act (send p q)) n = then 0 (omega arith) (all_append n.by_register none)
statement_small (act (receive p x)) n = then 1 (omega arith) (all_append n.by_register (then 0 (omega arith) n.by_symbol))
statement_small (act (fresh x)) n = then 2 (omega arith) (then 0 (omega arith) (then 0 (omega arith) n.by_symbol))
statement_small (act (compare p q)) n = then 3 (omega arith) (all_append n.by_register none)
statement_small (act (split p x y)) n = then 16 (omega arith) (all_append n.by_register n.by_symbol)
statement_small (act (decrypt e p q x)) n = then 6 (omega arith) (all_append n.by_register n.by_symbol)
statement_small (half left p x) n = then 4 (omega arith) (all_append n.by_register (then 0 (omega arith) n.by_symbol))
statement_small (half right p x) n = then 5 (omega arith) (all_append n.by_register (then 0 (omega arith) n.by_symbol))
statement_small (build (build1 k p)) n = elim k [ ]
statement_small (build (build2 pairing p q)) n = then 7 (omega arith) (all_append n.by_register none)
statement_small (build (build2 (seal encryption) p q)) n = then 8 (omega arith) (all_append n.by_register none)

-- symbols are, so statements are
module _ (S : ℕ) (l : S ≤ 96) where
  symbol_small : (x : ℕ) → x < S → x < 256
  symbol_small x h = omega arith

  statements_small : (n : ℕ) (ss : List (Statement signature1)) → StatementsFit S n ss → Small (statements_bytes ss)
  unfolding joined
  statements_small n [] f = all_nil
  statements_small n (st ∷ ss) (fit_one g f) =
      all_append (statement_small st (record { by_register = all_map (λ p h. h.1) g.given_registers; by_symbol = all_map symbol_small g.symbols_there }))
      (statements_small (n + registers_given st) ss f)

-- ── The file ──

-- so is the header
header_small : (S N : ℕ) → S ≤ 96 → N ≤ 512 → Small (header_bytes S N)
unfolding header_bytes mark byte
header_small S N h k =
    then (mark 1 0) (omega arith) (then (mark 1 1) (omega arith) (then (mark 1 2) (omega arith) (then 0 (omega arith) (then 1 (omega arith) (
    then S (omega arith) (then (N / 256) (omega arith) (then (N % 256) (omega arith) all_nil))
    )))))

-- past the end is 0
small_bytes : (s : List ℕ) → Small s → Bytes s
unfolding byte
small_bytes s a p = go (dec_lt p (length s))
  where
    go : Dec (p < length s) → get_or s p 0 < 256
    go (yes h) = all_at a p h 0
    go (no n) = let l = lt_of_not-le n in let q : byte s p ≡ 0 = byte_past s p (omega arith) in omega arith

-- each of its elements is a byte
pub file_bytes : (l : StatementList signature1) (free : ℕ) → InForm l free → Bytes (list_bytes l)
unfolding list_bytes
file_bytes l free f =
    small_bytes (list_bytes l)
    (all_append (header_small (length l.types) (length l.statements) f.few_types f.few_statements)
    (all_append (types_small l.types f.short_types) (statements_small (length l.types) f.few_types free l.statements f.statements_fit)))
