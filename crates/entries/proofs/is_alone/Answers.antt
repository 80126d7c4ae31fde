-- `entries::is_alone` meets its contract. Assumes nothing.
use borrow.Author.Rules.{rules}
use borrow.Author.Tests.{tests}
use Rattle.base.proofs.Ranges.{all_in_range}
use Rattle.entries.specs.Faults.{alone}
use Rattle.entries.proofs.is_alone.Goals as goal

pub returns : goal.returns
unfolding alone
returns c = all_in_range _ _ c.all.ensures.ran (λ x b q k. search (rules, tests))
