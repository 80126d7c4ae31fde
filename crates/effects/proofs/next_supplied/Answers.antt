-- `effects::next_supplied` meets its contract. Assumes nothing.
use native.Mathlib.Omega.{arith}
use Rattle.effects.specs.Effects.{supply_ends, supply_left}
use Rattle.effects.proofs.next_supplied.Goals as goal

pub returns-then-supply_count-used : goal.returns-then-supply_count-used
returns-then-supply_count-used c = supply_ends (omega (arith, c.supply_count.ensures))

pub returns : goal.returns
returns c = rw c.supplied.ensures (supply_left (omega (arith, c.supply_count.ensures)) (omega (arith, c.supply_count.ensures)))
