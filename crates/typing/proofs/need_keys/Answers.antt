-- `typing::need_keys` meets its contract. Assumes nothing.
use mathlib.Core.Path.{◌≡◌}
use native.Mathlib.Omega.{arith}
use borrow.Author.Rules.{rules}
use Rattle.typing.proofs.KeyLaws.{keys_start, keys_more, keys_stop}
use Rattle.table_layout.specs.Layout.{terms}
use Rattle.typing.proofs.need_keys.Goals as goal

pub loop-u-init : goal.loop-u-init
loop-u-init c = keys_start _ _ _

pub loop-u-preserved : goal.loop-u-preserved
loop-u-preserved c = keys_more _ _ _ _ _ _ _ (rw c.get-marked.ensures) (search rules) c.loop-u.invariant c.in_ok-need_key.ensures

pub returns-in_err-need_key : goal.returns-in_err-need_key
returns-in_err-need_key c = rw c.from_residual.ensures (keys_stop _ _ _ _ _ _ _ (rw c.get-marked.ensures) (search rules) c.loop-u.invariant _ (rw c.term_count-u-end.ensures at c.loop-u-test.true) c.in_err-need_key.ensures)

pub returns : goal.returns
returns c =
    let q : c.loop-u.u ≡ terms c.args.table.now = omega (arith, c.term_count-u-end.ensures) in
    rw q at c.loop-u.invariant
