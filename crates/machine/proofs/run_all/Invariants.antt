-- `machine::run_all` meets its contract. Assumes nothing.
use Rattle.effects.specs.Effects.{Same}
use Rattle.machine.proofs.Progress.{Running}
use Rattle.machine.proofs.run_all.Given as goal

abbrev pub invariant-loop-k : goal.invariant-loop-k
invariant-loop-k l = let f = l.initial.run in let r = l.run in Same f r × Running f.list.now f.trace.now f.values.now f.log.now f.registers.now f.state l.k r.values.now r.log.now r.registers.now r.state
