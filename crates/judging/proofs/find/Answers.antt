-- `judging::find` meets its contract. Assumes nothing.
use mathlib.Core.Path.{◌≡◌}
use mathlib.Core.Bool.{true, false, not}
use Prim.Native.Nat.{ℕ}
use borrow.Author.Rules.{rules}
use borrow.Author.Tests.{tests}
use Rattle.std.proofs.lemmas.Iterator.{first_from_Range}
use Rattle.judging.specs.Due.{fits_at}
use Rattle.judging.proofs.FindRange.{found_in_range}
use Rattle.judging.proofs.find.Goals as goal

pub returns : goal.returns
returns c =
    let a = c.args in
    let ok = λ (i : ℕ). not (fits_at a.s.now a.kind a.p a.q i) in
    rw (← c.term_count.ensures) (found_in_range ok _ _ (first_from_Range _ _ _ _ (λ i. ok i ≡ false) (λ i. ok i ≡ true) c.find.ensures.ran (λ x q k. search (rules, tests)) (λ x q k. search (rules, tests))))
