-- `room_counts::count_of` meets its contract. Assumes nothing.
use mathlib.Core.Path.{refl, ◌∙◌}
use Prim.Native.Nat.{ℕ}
use native.Mathlib.Omega.{arith}
use borrow.Author.Rules.{rules}
use borrow.Author.Tests.{tests}
use Rattle.std.proofs.lemmas.Iterator.{YieldsList-from_range}
use Rattle.std.proofs.lemmas.Iterator.Consumers.{YieldsList-at, YieldsList-from_filter, count_from_yields_List}
use Rattle.std.proofs.lemmas.List.Sums.{length-filter}
use Rattle.std.specs.List.{range_with_len}
use Rattle.list.specs.Statements.{op_at}
use Rattle.room_counts.specs.Room.{passing}
use Rattle.room_counts.proofs.count_of.Goals as goal

pub returns : goal.returns
unfolding passing
returns g c =
    let s = c.args.list.now in
    let n : ℕ = c.statement_count.result in
    λ p h.
    rw (← c.statement_count.ensures)
    (count_from_yields_List c.filter.result _ c.count.ensures.ran
    (YieldsList-from_filter _ (λ i. p (op_at s i)) (YieldsList-at c.filter.ensures.source (YieldsList-from_range 0 n n refl (omega arith))) c.filter.ensures.closure (λ x b q k. search (rules, tests, h)))
    ∙ length-filter (λ i. p (op_at s i)) (range_with_len 0 n))
