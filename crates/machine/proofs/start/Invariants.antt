-- `machine::start` meets its contract. Assumes nothing.
use mathlib.Core.Path.{◌≡◌}
use Rattle.machine.proofs.Starting.{first_registers}
use Rattle.run_parts.specs.Registers.{Given}
use Rattle.machine.specs.Running.{zeros}
use Rattle.machine.proofs.start.Given as goal

abbrev pub invariant-loop-i : goal.invariant-loop-i
invariant-loop-i l = l.initial.registers ≡ zeros → Given (first_registers l.trace l.i) l.registers l.given
