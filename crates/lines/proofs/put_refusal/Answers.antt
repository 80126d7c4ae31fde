-- `lines::put_refusal` meets its contract. Assumes nothing.
use Rattle.lines.proofs.LineLaws.{line_put, no_line}
use native.Mathlib.Omega.{arith}
use Rattle.lines.proofs.put_refusal.Goals as goal

pub returns-then-out-lt71 : goal.returns-then-out-lt71
returns-then-out-lt71 c = no_line _ _ c.if-out-lt71.true

pub returns : goal.returns
returns c =
    let l = c.if-out-lt71.false in
    let a = c.append-a.ensures.appended (omega (arith, l)) in
    let n = c.put_number-b.ensures in
    let f = c.put_number-c.ensures in
    let p = c.put_number-d.ensures in
    let e = c.append.ensures.appended (omega (arith, l, a.ends, a.kept, n.appended.ends, n.appended.kept, n.short, f.appended.ends, f.appended.kept, f.short, p.appended.ends, p.appended.kept, p.short)) in
    line_put a n f p e l
