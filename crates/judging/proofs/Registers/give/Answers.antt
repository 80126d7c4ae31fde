-- `judging::Registers::give` meets its contract. Assumes nothing.
use Rattle.judging.proofs.MeaningBytes.{known_more, known_past}
use Rattle.judging.proofs.Registers.give.Goals as goal

pub returns-then-self-lt256 : goal.returns-then-self-lt256
returns-then-self-lt256 c = λ ms m s e k. known_more ms m c.args.self.now k _ c.if-self-lt256.true s e

pub returns-else-self-lt256 : goal.returns-else-self-lt256
returns-else-self-lt256 c = λ ms m s e k. known_past ms m c.args.self.now k c.if-self-lt256.false
