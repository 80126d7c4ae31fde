-- `lines::put_number` meets its contract. Assumes nothing.
use Rattle.lines.proofs.LineLaws.{few_places}
use Rattle.std.proofs.Common.{◌≡◌, length, take}
use lib.Seq.{length-take-le}
use native.Mathlib.Omega.{arith}
use borrow.Author.Rules.{rules}
use Rattle.buffers.proofs.OverLaws.{appended_twice}
use Rattle.lines.proofs.put_number.Goals as goal

pub returns : goal.returns
returns c =
    let k = few_places _ _ (search rules) c.decimal-k.ensures.len in
    let a = c.append-after.ensures.appended (omega (arith, c.requires)) in
    let n : length (take c.decimal-k.result c.decimal-k.new.out) ≡ c.decimal-k.result = length-take-le c.decimal-k.result c.decimal-k.new.out (omega (arith, c.decimal-k.ensures.in_bounds.1)) in
    let b = c.append.ensures.appended (omega (arith, k, n, a.ends, a.kept, c.requires)) in
    record { text = _; decimal = record { places = c.decimal-k.result; fewest = c.decimal-k.ensures.len; is = c.decimal-k.ensures.digits }; appended = appended_twice a b; short = omega (arith, k, n) }
