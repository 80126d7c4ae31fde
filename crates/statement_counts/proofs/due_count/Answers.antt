-- `statement_counts::due_count` meets its contract. Assumes nothing.
use mathlib.Core.Path.{◌≡◌, refl, sym, ◌∙◌}
use Prim.Native.Nat.{ℕ}
use native.Mathlib.Omega.{arith}
use borrow.Author.Rules.{rules}
use Rattle.std.proofs.lemmas.Iterator.{YieldsList-from_range, YieldsList-from_map}
use Rattle.std.proofs.lemmas.Iterator.Consumers.{YieldsList-at, sum_by_from_yields_List, fits_by_from_yields_list}
use Rattle.std.specs.List.{range_with_len}
use Rattle.statement_counts.specs.Counts.{due_of}
use Rattle.statement_counts.proofs.Counts.{due_total, due_small}
use Rattle.statement_counts.proofs.Totals.{total, total_small, sum_of_range}
use Rattle.statement_counts.proofs.due_count.Goals as goal

pub sum-requires-clause-fits : goal.sum-requires-clause-fits
sum-requires-clause-fits c =
    let f = due_of c.args.s.now in
    let n : ℕ = c.step_count.result in
    fits_by_from_yields_list f (range_with_len 0 n) c.map.result _
    (YieldsList-from_map _ f (YieldsList-at c.map.ensures.source (YieldsList-from_range 0 n n refl (omega arith))) c.map.ensures.closure (λ x r q k. search rules))
    (omega (arith, sum_of_range f 0 n, total_small f 2 (due_small c.args.s.now) 0 n))

pub returns : goal.returns
returns c =
    let s = c.args.s.now in
    let f = due_of s in
    let n : ℕ = c.step_count.result in
    let e : c.sum.result ≡ total f 0 n =
    sum_by_from_yields_List f (range_with_len 0 n) c.map.result _ c.sum.ensures.ran
    (YieldsList-from_map _ f (YieldsList-at c.map.ensures.source (YieldsList-from_range 0 n n refl (omega arith))) c.map.ensures.closure (λ x r q k. search rules))
    ∙ sum_of_range f 0 n in
    record { counted = rw c.step_count.ensures at e ∙ sym (due_total s); small = omega (arith, e, total_small f 2 (due_small s) 0 n) }
