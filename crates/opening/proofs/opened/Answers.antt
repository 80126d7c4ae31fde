-- `opening::opened` meets its contract. Assumes nothing.
use mathlib.Core.Path.{sym, ◌∙◌}
use borrow.Author.Tests.{eq-eqb, ne_eqb}
use Rattle.answers.proofs.Ladder.{whole_right, whole_wrong, least_none}
use Rattle.opening.proofs.opened.Goals as goal

pub returns-then-not-is_marked : goal.returns-then-not-is_marked
returns-then-not-is_marked c = c.refuse.ensures ∙ sym (whole_wrong 1 _ _ _ (sym c.is_marked.ensures ∙ c.if-not-is_marked.true))

pub returns-then-word_at-eq1 : goal.returns-then-word_at-eq1
returns-then-word_at-eq1 c = sym (whole_right 1 _ _ _ (sym c.is_marked.ensures ∙ c.if-not-is_marked.false) ∙ whole_right 2 _ _ _ (eq-eqb _ _ (sym c.word_at.ensures ∙ c.if-word_at-eq1.true)) ∙ least_none)

pub returns : goal.returns
returns c = c.refuse-2.ensures ∙ sym (whole_right 1 _ _ _ (sym c.is_marked.ensures ∙ c.if-not-is_marked.false) ∙ whole_wrong 2 _ _ _ (ne_eqb _ _ (rw c.word_at.ensures at c.if-word_at-eq1.false)))
