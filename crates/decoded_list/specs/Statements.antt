-- The statements that the bytes of a list stand for. Assumes nothing: these are definitions.
use Rattle.std.specs.Prelude.{List, ℕ, zero, suc}
use Rattle.entries.specs.Tiling.{listed}
use Rattle.list.specs.Layout.{statements}
use Rattle.list.specs.Statements.{op_at, operand_at}
use Rattle.calculus.specs.Signature.{pairing, seal}
use Rattle.calculus.specs.Terms.{build2, send, receive, fresh, compare, decrypt, left, right, Statement, act, half, build}
use Rattle.calculus.specs.Version1.{encryption, signature1}

-- a statement by its op and its fields p, q, s; an unknown op is read as the fresh name of symbol 0
unfoldable pub statement_of : ℕ → ℕ → ℕ → ℕ → Statement signature1
statement_of zero p q x = act (send p q)
statement_of (suc zero) p q x = act (receive p x)
statement_of (suc (suc zero)) p q x = act (fresh x)
statement_of (suc (suc (suc zero))) p q x = act (compare p q)
statement_of (suc (suc (suc (suc zero)))) p q x = half left p x
statement_of (suc (suc (suc (suc (suc zero))))) p q x = half right p x
statement_of (suc (suc (suc (suc (suc (suc zero)))))) p q x = act (decrypt encryption p q x)
statement_of (suc (suc (suc (suc (suc (suc (suc zero))))))) p q x = build (build2 pairing p q)
statement_of (suc (suc (suc (suc (suc (suc (suc (suc zero)))))))) p q x = build (build2 (seal encryption) p q)
statement_of (suc (suc (suc (suc (suc (suc (suc (suc (suc op))))))))) p q x = act (fresh 0)

-- statement i of a list
unfoldable pub statement_at : List ℕ → ℕ → Statement signature1
statement_at s i = statement_of (op_at s i) (operand_at s i 0) (operand_at s i 1) (operand_at s i 2)

-- the statements of a list, of which there are N
abbrev pub statements_of : List ℕ → List (Statement signature1)
statements_of s = listed (statement_at s) 0 (statements s)
