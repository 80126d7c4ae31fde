-- `effects::half` meets its contract. Assumes nothing.
use native.Mathlib.Omega.{arith}
use Rattle.effects.proofs.OpeningLaws.{half_none, half_done}
use Rattle.effects.proofs.half.Goals as goal

pub returns-then-tag_at-ne1 : goal.returns-then-tag_at-ne1
returns-then-tag_at-ne1 c = λ d l tr o e. half_none _ _ _ _ _ c.tag_at.ensures c.if-tag_at-ne1.true d l tr o

pub returns : goal.returns
returns c = half_done _ _ _ _ _ c.tag_at.ensures c.if-tag_at-ne1.false _ _ c.part_at-w.ensures (omega arith) _ _ c.give-state.ensures
