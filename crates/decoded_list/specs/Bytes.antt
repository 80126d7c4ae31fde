-- A statement list as document 01 writes it: header, types with their length bytes, statements. Assumes nothing: these are definitions.
use Rattle.std.specs.Prelude.{List, [], ◌∷◌, ◌++◌, ℕ, ◌/◌, ◌%◌, length}
use Rattle.codes.specs.Marks.{mark}
use Rattle.entries.specs.Tiling.{listed, joined}
use Rattle.types.specs.Version1.{T, bytes}
use Rattle.calculus.specs.Signature.{Two, pairing, seal}
use Rattle.calculus.specs.Terms.{build1, build2, send, receive, fresh, compare, split, decrypt, Side, left, right, Statement, act, half, build}
use Rattle.calculus.specs.Figure2.{Env}
use Rattle.calculus.specs.Version1.{One1, Seal1, encryption, signature1}
use Rattle.rendering.specs.Lists.{StatementList}

-- ── Statements: op, p, q, s ──

-- the codes of the builds: 7 pair, 8 encrypt; there is none of one part
unfoldable pub one_op : One1 → ℕ
one_op k = elim k [ ]

unfoldable pub two_op : Two Seal1 → ℕ
two_op pairing = 7
two_op (seal encryption) = 8

-- the codes of the halves: 4 left, 5 right
unfoldable pub half_op : Side → ℕ
half_op left = 4
half_op right = 5

-- the four bytes of a statement; unused fields are 0. A split in one statement is request h)'s, 16, and no list of version 1 has it
unfoldable pub statement_bytes : Statement signature1 → List ℕ
statement_bytes (act (send p q)) = 0 ∷ p ∷ q ∷ 0 ∷ []
statement_bytes (act (receive p x)) = 1 ∷ p ∷ 0 ∷ x ∷ []
statement_bytes (act (fresh x)) = 2 ∷ 0 ∷ 0 ∷ x ∷ []
statement_bytes (act (compare p q)) = 3 ∷ p ∷ q ∷ 0 ∷ []
statement_bytes (act (split p x y)) = 16 ∷ p ∷ x ∷ y ∷ []
statement_bytes (act (decrypt e p q x)) = 6 ∷ p ∷ q ∷ x ∷ []
statement_bytes (half d p x) = half_op d ∷ p ∷ 0 ∷ x ∷ []
statement_bytes (build (build1 k p)) = one_op k ∷ p ∷ 0 ∷ 0 ∷ []
statement_bytes (build (build2 k p q)) = two_op k ∷ p ∷ q ∷ 0 ∷ []

-- the bytes of statements, one after the other
abbrev pub statements_bytes : List (Statement signature1) → List ℕ
statements_bytes ss = joined statement_bytes ss

-- ── Types ──

-- the types of symbols 0 to n, without n
abbrev pub types_to : Env signature1 → ℕ → List T
types_to Γ n = listed Γ 0 n

-- a type: its length byte, then its bytes
unfoldable pub type_with_length : T → List ℕ
type_with_length A = length (bytes A) ∷ bytes A

-- the bytes of types, one after the other
abbrev pub types_bytes : List T → List ℕ
types_bytes As = joined type_with_length As

-- ── The file ──

-- the header: mark, version 1, S, and N with its high byte first
unfoldable pub header_bytes : ℕ → ℕ → List ℕ
header_bytes symbols statements = mark 1 0 ∷ mark 1 1 ∷ mark 1 2 ∷ 0 ∷ 1 ∷ symbols ∷ statements / 256 ∷ statements % 256 ∷ []

-- the file: header, types, statements
unfoldable pub list_bytes : StatementList signature1 → List ℕ
list_bytes l = header_bytes (length l.types) (length l.statements) ++ (types_bytes l.types ++ statements_bytes l.statements)
