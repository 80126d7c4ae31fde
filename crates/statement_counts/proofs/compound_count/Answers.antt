-- `statement_counts::compound_count` meets its contract. Assumes nothing.
use mathlib.Core.Path.{◌≡◌, refl, sym, ◌∙◌}
use mathlib.Core.Bool.{cond}
use Prim.Native.Nat.{ℕ}
use native.Mathlib.Omega.{arith}
use borrow.Author.Rules.{rules}
use borrow.Author.Tests.{tests}
use Rattle.std.proofs.lemmas.Iterator.{YieldsList-from_range}
use Rattle.std.proofs.lemmas.Iterator.Consumers.{YieldsList-at, YieldsList-from_filter, count_from_yields_List}
use Rattle.std.proofs.lemmas.List.Sums.{length-filter}
use Rattle.std.specs.List.{range_with_len}
use Rattle.statement_counts.specs.Counts.{compound_of, is_compound}
use Rattle.statement_counts.proofs.Counts.{compound_total, compound_small, compound_counts}
use Rattle.statement_counts.proofs.Totals.{total, total_small, sum_of_range}
use Rattle.statement_counts.proofs.compound_count.Goals as goal

pub returns : goal.returns
returns c =
    let s = c.args.s.now in
    let p = is_compound s in
    let n : ℕ = c.term_count.result in
    let e : c.count.result ≡ total (compound_of s) 0 n =
    count_from_yields_List c.filter.result _ c.count.ensures.ran
    (YieldsList-from_filter _ p (YieldsList-at c.filter.ensures.source (YieldsList-from_range 0 n n refl (omega arith))) c.filter.ensures.closure (λ x b q k. search (rules, tests)))
    ∙ length-filter p (range_with_len 0 n) ∙ sum_of_range (λ i. cond (p i) 1 0) 0 n ∙ simp (compound_counts s) in
    record { counted = rw c.term_count.ensures at e ∙ sym (compound_total s); small = omega (arith, e, total_small (compound_of s) 1 (compound_small s) 0 n) }
