-- `entries::place_of` meets its contract. Assumes nothing.
use native.Mathlib.Omega.{arith}
use borrow.Author.Rules.{rules}
use Rattle.entries.specs.Fields.{place_of}
use Rattle.codes.proofs.RowLaws.{entry_far}
use Rattle.codes.specs.Kinds.{kind_number}
use Rattle.entries.proofs.place_of.Goals as goal

pub overflow_mul-result : goal.overflow_mul-result
overflow_mul-result c = rw c.entry_bytes.ensures (omega (arith, entry_far (kind_number c.args.kind) c.args.i (search rules)))

pub overflow_add-result : goal.overflow_add-result
overflow_add-result c = rw c.entry_bytes.ensures (omega (arith, entry_far (kind_number c.args.kind) c.args.i (search rules)))

pub returns : goal.returns
unfolding place_of
returns c = rw c.entry_bytes.ensures
