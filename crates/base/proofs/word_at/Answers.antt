-- `base::word_at` meets its contract. Assumes nothing.
use mathlib.Core.Path.{sym}
use borrow.Author.Rules.{rules}
use Rattle.base.specs.Bytes.{word}
use Rattle.base.proofs.Bounds.{word_past}
use Rattle.base.proofs.word_at.Goals as goal

pub returns-then-at-s : goal.returns-then-at-s
unfolding word
returns-then-at-s c = search rules

pub returns : goal.returns
returns c = sym (word_past _ _ c.if-at-s.false)
