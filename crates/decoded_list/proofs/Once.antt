-- No two lists have the same file; so a string of bytes is the file of one list at most. Assumes nothing.
use mathlib.Core.Path.{◌≡◌, refl, sym, ap, ap₂, ◌∙◌}
use mathlib.Core.List.{List, [], ◌∷◌, ◌++◌, append_assoc}
use Prim.Native.Nat.{ℕ, ◌<◌}
use native.Mathlib.Omega.{arith}
use lib.Dec.{eqb}
use lib.ListN.{length, get_or, take, drop}
use lib.Seq.{take_at, drop_at}
use Rattle.base.specs.Bytes.{byte}
use Rattle.base.specs.Pick.{pick}
use Rattle.entries.specs.Tiling.{joined}
use Rattle.types.specs.Types.{Message}
use Rattle.types.specs.Version1.{T, bytes}
use Rattle.types.proofs.Version1Laws.{once1}
use Rattle.calculus.specs.Signature.{pairing, seal}
use Rattle.calculus.specs.Terms.{build1, build2, send, receive, fresh, compare, split, decrypt, left, right, Statement, act, half, build}
use Rattle.calculus.specs.Version1.{encryption, signature1}
use Rattle.rendering.specs.Lists.{StatementList}
use Rattle.list.specs.Layout.{symbols, statements, body_at, type_at}
use Rattle.decoded_list.specs.Bytes.{two_op, half_op, statement_bytes, statements_bytes, type_with_length, types_bytes, list_bytes}
use Rattle.decoded_list.specs.Statements.{statement_of, statements_of}
use Rattle.decoded_list.specs.Decoded.{Decoded}
use Rattle.decoded_list.proofs.FileLayout.{statement_four, file_symbols, file_count, after_header, file_body}

-- ── Statements ──

-- a statement by its four bytes, a split in one statement too
abbrev from_bytes : List ℕ → Statement signature1
from_bytes r = pick (eqb (byte r 0) 16) (act (split (byte r 1) (byte r 2) (byte r 3))) (statement_of (byte r 0) (byte r 1) (byte r 2) (byte r 3))

from_bytes_lem : (st : Statement signature1) → from_bytes (statement_bytes st) ≡ st
unfolding statement_of statement_bytes half_op two_op byte
from_bytes_lem (act (send p q)) = refl
from_bytes_lem (act (receive p x)) = refl
from_bytes_lem (act (fresh x)) = refl
from_bytes_lem (act (compare p q)) = refl
from_bytes_lem (act (split p x y)) = refl
from_bytes_lem (act (decrypt encryption p q x)) = refl
from_bytes_lem (half left p x) = refl
from_bytes_lem (half right p x) = refl
from_bytes_lem (build (build1 k p)) = elim k [ ]
from_bytes_lem (build (build2 pairing p q)) = refl
from_bytes_lem (build (build2 (seal encryption) p q)) = refl

-- statements that start two files alike are the same, and so is the rest
statement_once : (a b : Statement signature1) (r t : List ℕ) → statement_bytes a ++ r ≡ statement_bytes b ++ t → (a ≡ b) × (r ≡ t)
statement_once a b r t e =
    let q : statement_bytes a ≡ statement_bytes b = sym (take_at (statement_bytes a) r 4 (statement_four a)) ∙ ap (λ (l : List ℕ). take 4 l) e ∙ take_at (statement_bytes b) t 4 (statement_four b) in (
      sym (from_bytes_lem a) ∙ ap from_bytes q ∙ from_bytes_lem b,
      sym (drop_at (statement_bytes a) r 4 (statement_four a)) ∙ ap (λ (l : List ℕ). drop 4 l) e ∙ drop_at (statement_bytes b) t 4 (statement_four b),
    )

-- so are as many statements
statements_once : (k l : List (Statement signature1)) → length k ≡ length l → statements_bytes k ≡ statements_bytes l → k ≡ l
unfolding joined
statements_once [] [] n e = refl
statements_once [] (b ∷ l) n e = absurd (omega arith)
statements_once (a ∷ k) [] n e = absurd (omega arith)
statements_once (a ∷ k) (b ∷ l) n e =
    let (p, q) = statement_once a b (statements_bytes k) (statements_bytes l) e in
    ap₂ ◌∷◌ p (statements_once k l (omega arith) q)

-- ── Types ──

-- types that start two files alike are the same, and so is the rest
types_once : (k l : List T) (r t : List ℕ) → length k ≡ length l → types_bytes k ++ r ≡ types_bytes l ++ t → (k ≡ l) × (r ≡ t)
unfolding joined type_with_length
types_once [] [] r t n e = (refl, e)
types_once [] (B ∷ l) r t n e = absurd (omega arith)
types_once (A ∷ k) [] r t n e = absurd (omega arith)
types_once (A ∷ k) (B ∷ l) r t n e =
    let d : bytes A ++ types_bytes k ++ r ≡ bytes B ++ types_bytes l ++ t = ap (λ (m : List ℕ). drop 1 m) e in
    let (p, q) = once1 A B (types_bytes k ++ r) (types_bytes l ++ t) (sym (append_assoc (bytes A) (types_bytes k) r) ∙ d ∙ append_assoc (bytes B) (types_bytes l) t) in
    let (u, v) = types_once k l r t (omega arith) q in
    (ap₂ ◌∷◌ p u, v)

-- ── Files ──

-- two lists with the same file are the same
pub file_once : (k l : StatementList signature1) → list_bytes k ≡ list_bytes l → k ≡ l
file_once k l e =
    let a : length k.types ≡ length l.types = sym (file_symbols k) ∙ ap (λ s. symbols s) e ∙ file_symbols l in
    let b : length k.statements ≡ length l.statements = sym (file_count k) ∙ ap (λ s. statements s) e ∙ file_count l in
    let (p, q) = types_once k.types l.types (statements_bytes k.statements) (statements_bytes l.statements) a (sym (after_header k) ∙ ap (λ (s : List ℕ). drop 8 s) e ∙ after_header l) in
    same p (statements_once k.statements l.statements b q)
  where
    same : k.types ≡ l.types → k.statements ≡ l.statements → k ≡ l
    same p q = λ i. record { types = p i; statements = q i }

-- ── A file that was read ──

-- the list that it is the file of is the only one
pub decoded_once : (s : List ℕ) (d : Decoded s) (l : StatementList signature1) → s ≡ list_bytes l → l ≡ record { types = d.types; statements = statements_of s }
decoded_once s d l e = file_once l (record { types = d.types; statements = statements_of s }) (sym e ∙ d.is_file)

-- it has a type for each of its symbols, and their bytes stand there
pub decoded_symbols : (s : List ℕ) (d : Decoded s) → length d.types ≡ symbols s
decoded_symbols s d = sym (file_symbols (record { types = d.types; statements = statements_of s })) ∙ ap (λ t. symbols t) (sym d.is_file)

-- the bytes of type x
body_of : (s : List ℕ) (l : StatementList signature1) → s ≡ list_bytes l → (x : ℕ) → x < length l.types → body_at s (type_at s x) ≡ bytes (get_or l.types x Message)
body_of s l e x h = rw e (file_body l x h)

pub decoded_body : (s : List ℕ) (d : Decoded s) (x : ℕ) → x < symbols s → body_at s (type_at s x) ≡ bytes (get_or d.types x Message)
decoded_body s d x h = body_of s (record { types = d.types; statements = statements_of s }) d.is_file x (rw (decoded_symbols s d) h)
