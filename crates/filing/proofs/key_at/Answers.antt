-- `filing::key_at` meets its contract. Assumes nothing.
use borrow.Author.Rules.{rules}
use Rattle.entries.proofs.Words.{slice_bytes, field_small}
use Rattle.filing.specs.Filing.{key_of}
use native.Mathlib.Omega.{arith}
use Rattle.codes.specs.Kinds.{kind_number}
use Rattle.filing.proofs.key_at.Goals as goal

pub overflow_mul-result-2 : goal.overflow_mul-result-2
overflow_mul-result-2 c =
    let a = c.args in
    omega (arith, c.field_at-left.ensures, field_small a.s.now (kind_number a.kind) a.base a.i 0 (slice_bytes a.s.now (search rules)))

pub overflow_add-result : goal.overflow_add-result
overflow_add-result c =
    let a = c.args in
    omega (arith, c.field_at-left.ensures, field_small a.s.now (kind_number a.kind) a.base a.i 0 (slice_bytes a.s.now (search rules)))

pub overflow_add-result-2 : goal.overflow_add-result-2
overflow_add-result-2 c =
    let a = c.args in
    let b = slice_bytes a.s.now (search rules) in
    omega (arith, c.field_at-left.ensures, c.field_at-right.ensures, field_small a.s.now (kind_number a.kind) a.base a.i 0 b, field_small a.s.now (kind_number a.kind) a.base a.i 1 b)

pub returns : goal.returns
unfolding key_of
returns c = rw (c.code_at-op.ensures, c.field_at-left.ensures, c.field_at-right.ensures)
