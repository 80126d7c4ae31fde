-- `judging::Registers::bind` meets its contract. Assumes nothing.
use mathlib.Core.Path.{◌≡◌, refl, sym, ◌∙◌}
use mathlib.Core.List.{append-nil}
use borrow.Author.Tests.{eq-eqb, ne_eqb}
use Rattle.codes.specs.Rows.{cell}
use Rattle.rendering.specs.Judge.{symbol}
use Rattle.judging.specs.Meanings.{coded, Small}
use Rattle.judging.proofs.Registers.bind.Goals as goal

pub returns-then-cell_at-ne0 : goal.returns-then-cell_at-ne0
unfolding coded Small
returns-then-cell_at-ne0 c =
    let a = c.args in
    let e : ¬ (cell 2 a.op 4 ≡ 0) = λ q. c.if-cell_at-ne0.true (c.cell_at.ensures ∙ q) in
    λ ms l k. rw (ne_eqb _ _ e) (c.give.ensures ms (symbol a.x) (l e) refl k)

pub returns-else-cell_at-ne0 : goal.returns-else-cell_at-ne0
returns-else-cell_at-ne0 c =
    let e : cell 2 c.args.op 4 ≡ 0 = sym c.cell_at.ensures ∙ c.if-cell_at-ne0.false in
    λ ms l k. rw (eq-eqb _ _ e, append-nil ms) k
