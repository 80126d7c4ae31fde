-- `lines::put_check` meets its contract. Assumes nothing.
use Rattle.lines.proofs.LineLaws.{refused_put, nothing_put, accepted_put}
use native.Mathlib.Omega.{arith}
use Rattle.lines.proofs.put_check.Goals as goal

pub returns-then-out-lt71 : goal.returns-then-out-lt71
returns-then-out-lt71 c = nothing_put _ _ c.if-out-lt71.true

pub returns-in_default : goal.returns-in_default
returns-in_default c = accepted_put _ c.args.out.now _ _ c.in_default.is c.if-out-lt71.false (c.append.ensures.appended (omega (arith, c.if-out-lt71.false)))

pub returns : goal.returns
returns c = refused_put _ _ c.args.out.now _ _ c.in-Err.is c.put_refusal.ensures
