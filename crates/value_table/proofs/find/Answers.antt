-- `value_table::find` meets its contract. Assumes nothing.
use borrow.Author.Rules.{rules}
use borrow.Author.Tests.{tests}
use Rattle.value_table.specs.Kept.{place_in, same_at}
use Rattle.value_table.proofs.Placed.{find_in_range}
use Rattle.value_table.proofs.find.Goals as goal

pub returns : goal.returns
unfolding place_in
returns c = let a = c.args in find_in_range _ (same_at a.values.now a.count a.tag a.a a.b) _ c.find.ensures.ran (λ x b q k. search (rules, tests))
