-- `effects::receive` meets its contract. Assumes nothing.
use native.Mathlib.Omega.{arith}
use Rattle.std.proofs.lemmas.Result.{err_from_is_err_and}
use Rattle.effects.proofs.ActLaws.{next_left, none_left, receive_none, receive_bound}
use Rattle.effects.proofs.receive.Goals as goal

pub returns-in_err-v : goal.returns-in_err-v
returns-in_err-v c =
    let p = err_from_is_err_and c.from_residual.result c.from_residual.ensures.1 in
    let q = none_left c.in_err-v.ensures in
    rw (p.1, p.2, q.1) (receive_none _ _ _ _ _ _ _ _ q.0)

pub overflow_add-state : goal.overflow_add-state
overflow_add-state c =
    let q = next_left c.in_ok-v.ensures in
    omega arith

pub returns : goal.returns
returns c =
    let q = next_left c.in_ok-v.ensures in
    receive_bound _ _ _ _ _ _ _ _ q.0 _ q.1 _ _ c.say-state.ensures c.bind.ensures
