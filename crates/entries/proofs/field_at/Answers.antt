-- `entries::field_at` meets its contract. Assumes nothing.
use mathlib.Core.Path.{◌∙◌}
use native.Mathlib.Omega.{arith}
use borrow.Author.Rules.{rules}
use Rattle.codes.proofs.RowLaws.{product_small}
use Rattle.entries.proofs.Places.{place_small}
use Rattle.entries.specs.Fields.{field}
use Rattle.codes.specs.Kinds.{kind_number}
use Rattle.entries.proofs.field_at.Goals as goal

pub overflow_add-at : goal.overflow_add-at
overflow_add-at c = omega (arith, c.place_of.ensures, place_small (kind_number c.args.kind) c.args.base c.args.i (search rules) (search rules))

pub overflow_add-at-2 : goal.overflow_add-at-2
overflow_add-at-2 c = omega (arith, c.place_of.ensures, place_small (kind_number c.args.kind) c.args.base c.args.i (search rules) (search rules), product_small c.wide.result c.wide-2.result (search rules) (search rules))

pub returns : goal.returns
unfolding field
returns c =
    c.number_at.ensures ∙ rw (c.place_of.ensures, c.wide.ensures, c.wide-2.ensures, c.field_bytes-size.ensures)
