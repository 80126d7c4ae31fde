-- `entries::number_at` meets its contract. Assumes nothing.
use mathlib.Core.Path.{◌∙◌}
use borrow.Author.Tests.{eq-eqb, ne_eqb}
use Rattle.entries.specs.Fields.{number}
use Rattle.entries.proofs.number_at.Goals as goal

pub returns-then-size-eq2 : goal.returns-then-size-eq2
unfolding number
returns-then-size-eq2 c = simp (eq-eqb _ 2 c.if-size-eq2.true) c.word_at.ensures

pub returns : goal.returns
unfolding number
returns c = simp (ne_eqb _ 2 c.if-size-eq2.false) (c.wide.ensures ∙ c.byte_at.ensures)
