-- `run_parts::give` meets its contract. Assumes nothing.
use Rattle.run_parts.proofs.RegisterLaws.{gives_more, gives_full}
use Rattle.run_parts.proofs.give.Goals as goal

pub returns-then-given-lt608 : goal.returns-then-given-lt608
returns-then-given-lt608 c = gives_more _ _ _ c.if-given-lt608.true

pub returns : goal.returns
returns c = gives_full _ _ _ _ _ c.if-given-lt608.false
