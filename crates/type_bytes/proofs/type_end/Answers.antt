-- `type_bytes::type_end` meets its contract: the types still wanted, from here on, are the type at p. Assumes nothing.
use mathlib.Core.Path.{sym, ◌∙◌}
use native.Mathlib.Omega.{arith}
use borrow.Author.Rules.{rules}
use Rattle.type_bytes.proofs.EndLaws.{read_at}
use Rattle.type_bytes.proofs.CountLaws.{wants_start, wants_none, wants_past, wants_unknown, wants_whole, wants_pair, wants_cipher}
use Rattle.type_bytes.proofs.type_end.Goals as goal

pub loop-wanted-init : goal.loop-wanted-init
loop-wanted-init c = (omega arith, wants_start _ _)

pub returns-in_err-b : goal.returns-in_err-b
returns-in_err-b c = rw c.from_residual.ensures (wants_past _ _ _ _ c.loop-wanted-test.true c.loop-wanted.invariant.1 c.in_err-b.ensures.lookup.3)

pub loop-wanted-preserved-in-4 : goal.loop-wanted-preserved-in-4
loop-wanted-preserved-in-4 c =
    let (in_s, same) = read_at _ _ c.in_ok-b.field-0 c.in_ok-b.ensures.lookup in
    (search rules, wants_pair _ _ _ _ c.loop-wanted-test.true c.loop-wanted.invariant.1 in_s (sym same ∙ c.in-4.is))

pub loop-wanted-preserved-in-5 : goal.loop-wanted-preserved-in-5
loop-wanted-preserved-in-5 c =
    let (in_s, same) = read_at _ _ c.in_ok-b.field-0 c.in_ok-b.ensures.lookup in
    (search rules, wants_cipher _ _ _ _ c.loop-wanted-test.true c.loop-wanted.invariant.1 in_s (sym same ∙ c.in-5.is))

pub loop-wanted-preserved : goal.loop-wanted-preserved
loop-wanted-preserved c =
    let (in_s, same) = read_at _ _ c.in_ok-b.field-0 c.in_ok-b.ensures.lookup in
    (search rules, wants_whole _ _ _ _ c.loop-wanted-test.true c.loop-wanted.invariant.1 in_s (omega (arith, same)))

pub returns-in-6-to-255 : goal.returns-in-6-to-255
returns-in-6-to-255 c =
    let (in_s, same) = read_at _ _ c.in_ok-b.field-0 c.in_ok-b.ensures.lookup in
    wants_unknown _ _ _ _ c.loop-wanted-test.true c.loop-wanted.invariant.1 in_s (omega (arith, same))

pub returns : goal.returns
returns c = wants_none _ _ _ _ (omega (arith, c.loop-wanted-test.false)) c.loop-wanted.invariant.1
