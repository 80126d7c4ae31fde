-- `machine::run_statements` meets its contract. Assumes nothing.
use mathlib.Core.Path.{refl, sym}
use borrow.Author.Rules.{rules}
use Rattle.machine.proofs.Starting.{whole_run}
use Rattle.machine.specs.Running.{zeros}
use Rattle.machine.proofs.run_statements.Goals as goal

pub returns : goal.returns
unfolding zeros
returns c =
    let s = c.run_all.ensures.same in
    whole_run _ _ _ _ _ _ _ _ _ _ _ _ _ _ (search (rules, sym s.values)) (search (rules, sym s.log)) c.copy_values.ensures c.start-given.ensures refl c.value_count.ensures c.run_all.ensures.ran
