-- `judging::build` meets its contract. Assumes nothing.
use mathlib.Core.Path.{◌≡◌, sym, ap, ◌∙◌}
use native.Mathlib.Omega.{arith}
use Prim.Native.Nat.{◌+◌}
use Rattle.judging.specs.Turns.{found_as, Turned}
use Rattle.judging.proofs.FindLaws.{built_none, built_on}
use Rattle.judging.proofs.build.Goals as goal

pub returns-in_err-i : goal.returns-in_err-i
unfolding Turned
returns-in_err-i c =
    let a = c.args in
    let z = sym (ap found_as c.in_err-i.was) ∙ c.find.ensures in
    rw c.from_residual.ensures (λ k n e ms u v known g o.
    let w = o (λ (y : a.kind + 6 ≡ 2). absurd (omega arith)) in
    built_none a.s.now ms u v k e a.statement.p a.statement.q a.kind n w.0 w.1 a.state z)

pub returns : goal.returns
unfolding Turned
returns c =
    let a = c.args in
    let z = sym (ap found_as c.in_ok-i.was) ∙ c.find.ensures in
    λ k n e ms u v known g o.
    let w = o (λ (y : a.kind + 6 ≡ 2). absurd (omega arith)) in
    built_on a.s.now ms u v k e a.statement.p a.statement.q a.kind n w.0 w.1 a.state _ _ _ z g known c.give.ensures
