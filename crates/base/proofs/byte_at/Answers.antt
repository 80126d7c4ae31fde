-- `base::byte_at` meets its contract. Assumes nothing.
use mathlib.Core.Path.{sym}
use borrow.Author.Rules.{rules}
use Rattle.base.specs.Bytes.{byte}
use Rattle.base.proofs.Bounds.{byte_past}
use Rattle.base.proofs.byte_at.Goals as goal

pub returns-then-at-s : goal.returns-then-at-s
unfolding byte
returns-then-at-s c = search rules

pub returns : goal.returns
returns c = sym (byte_past _ _ c.if-at-s.false)
