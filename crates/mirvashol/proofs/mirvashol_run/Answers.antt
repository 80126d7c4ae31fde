-- `mirvashol::mirvashol_run` meets its contract. Assumes nothing.
use Rattle.mirvashol.proofs.Serving.{run_not_served, run_served}
use Rattle.mirvashol.proofs.mirvashol_run.Goals as goal

pub returns-then-answer-lt8 : goal.returns-then-answer-lt8
returns-then-answer-lt8 c = run_not_served _ _ _ _ c.if-answer-lt8.true

pub returns : goal.returns
returns c = run_served _ _ _ _ _ _ _ _ _ c.if-answer-lt8.false c.run-ran.ensures c.give_run.ensures
