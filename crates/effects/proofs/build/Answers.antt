-- `effects::build` meets its contract. Assumes nothing.
use native.Mathlib.Omega.{arith}
use Rattle.effects.proofs.OpeningLaws.{build_done}
use Rattle.effects.proofs.build.Goals as goal

pub returns : goal.returns
returns c = build_done _ _ _ _ _ _ _ _ _ _ c.make-m.ensures (omega arith) c.give-state.ensures
