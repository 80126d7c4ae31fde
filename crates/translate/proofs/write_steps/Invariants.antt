-- `translate::write_steps` meets its contract. Assumes nothing.
use Rattle.translate.proofs.StepsLaws.{Come}
use Rattle.translate.proofs.write_steps.Given as goal

abbrev pub invariant-loop-k : goal.invariant-loop-k
invariant-loop-k l = Come l.s l.k l.progress l.initial.out l.out
