-- `effects::fresh` meets its contract. Assumes nothing.
use native.Mathlib.Omega.{arith}
use Rattle.std.proofs.lemmas.Result.{err_from_is_err_and}
use Rattle.effects.proofs.ActLaws.{next_left, none_left, fresh_none, fresh_no_atom, fresh_held, fresh_bound}
use Rattle.effects.proofs.fresh.Goals.{then-tag_at-ne0-via-then-tag_at-ne0, then-tag_at-ne0-via-else-tag_at-ne0+then-not-is_fresh}
use Rattle.effects.proofs.fresh.Goals as goal

pub returns-in_err-v : goal.returns-in_err-v
returns-in_err-v c =
    let p = err_from_is_err_and c.from_residual.result c.from_residual.ensures.1 in
    let q = none_left c.in_err-v.ensures in
    rw (p.1, p.2, q.1) (fresh_none _ _ _ _ _ _ q.0)

pub overflow_add-state : goal.overflow_add-state
overflow_add-state c =
    let q = next_left c.in_ok-v.ensures in
    omega arith

pub returns-then-tag_at-ne0 : goal.returns-then-tag_at-ne0
returns-then-tag_at-ne0 c =
    let q = next_left c.in_ok-v.ensures in
    elim c.then-tag_at-ne0.branch [
      | then-tag_at-ne0-via-then-tag_at-ne0 w ↦ fresh_no_atom _ _ _ _ _ _ q.0 _ q.1 _ c.tag_at.ensures w.if-tag_at-ne0.true
      | then-tag_at-ne0-via-else-tag_at-ne0+then-not-is_fresh w ↦ fresh_held _ _ _ _ _ _ q.0 _ q.1 _ c.tag_at.ensures w.if-tag_at-ne0.false _ w.is_fresh.ensures w.if-not-is_fresh.true
    ]

pub returns : goal.returns
returns c =
    let q = next_left c.in_ok-v.ensures in
    fresh_bound _ _ _ _ _ _ q.0 _ q.1 _ c.tag_at.ensures c.if-tag_at-ne0.false _ c.is_fresh.ensures c.if-not-is_fresh.false c.bind.ensures
