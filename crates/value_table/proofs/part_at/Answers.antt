-- `value_table::part_at` meets its contract. Assumes nothing.
use borrow.Author.Rules.{rules}
use Rattle.value_table.specs.Values.{part_at}
use mathlib.Core.Path.{sym, ◌∙◌}
use native.Mathlib.Omega.{arith}
use Rattle.entries.proofs.Words.{slice_bytes, field_small}
use Rattle.value_table.proofs.part_at.Goals as goal

pub overflow_cast-result : goal.overflow_cast-result
overflow_cast-result c = let a = c.args in
    omega (arith, c.field_at.ensures, field_small a.values.now 3 0 a.i a.j (slice_bytes a.values.now (search rules)))

pub returns-then-is_known : goal.returns-then-is_known
unfolding part_at
returns-then-is_known c = rw (sym c.is_known.ensures ∙ c.if-is_known.true) c.field_at.ensures

pub returns : goal.returns
unfolding part_at
returns c = rw (sym c.is_known.ensures ∙ c.if-is_known.false)
