-- `effects::bind` meets its contract. Assumes nothing.
use native.Mathlib.Omega.{arith}
use Rattle.effects.specs.Effects.{binds_on, binds_end}
use Rattle.effects.proofs.bind.Goals as goal

pub returns-then-not-passes : goal.returns-then-not-passes
returns-then-not-passes c = binds_end (rw c.if-not-passes.true at c.passes.ensures)

pub returns : goal.returns
returns c = binds_on (rw c.if-not-passes.false at c.passes.ensures) (omega arith) c.give-state.ensures
