-- `effects::compare` meets its contract. Assumes nothing.
use Rattle.effects.proofs.ActLaws.{compare_same, compare_other}
use Rattle.effects.proofs.compare.Goals as goal

pub returns-then-v-w : goal.returns-then-v-w
returns-then-v-w c = λ l tr z o g s. compare_other s _ _ c.if-v-w.true l tr z o g

pub returns : goal.returns
returns c = λ l tr z o g s. compare_same s _ _ c.if-v-w.false l tr z o g
