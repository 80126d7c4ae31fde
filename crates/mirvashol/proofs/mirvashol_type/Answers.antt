-- `mirvashol::mirvashol_type` meets its contract. Assumes nothing.
use Rattle.mirvashol.proofs.Serving.{not_served, served}
use Rattle.mirvashol.proofs.mirvashol_type.Goals as goal

pub returns-then-answer-lt8 : goal.returns-then-answer-lt8
returns-then-answer-lt8 c = not_served _ _ _ c.if-answer-lt8.true

pub returns : goal.returns
returns c = served _ _ _ _ _ _ _ c.if-answer-lt8.false c.type_table-written.ensures c.give_written.ensures
