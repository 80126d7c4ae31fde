-- `mirvashol::give_check` meets its contract. Assumes nothing.
use Rattle.mirvashol.proofs.give_check.Goals as goal

pub returns-in-Ok : goal.returns-in-Ok
returns-in-Ok c = rw c.in-Ok.is c.give.ensures

pub returns-in-Err : goal.returns-in-Err
returns-in-Err c = rw c.in-Err.is c.give_refusal.ensures
