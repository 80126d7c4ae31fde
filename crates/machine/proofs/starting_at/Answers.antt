-- `machine::starting_at` meets its contract. Assumes nothing.
use borrow.Author.Rules.{rules}
use native.Mathlib.Omega.{arith}
use Rattle.entries.proofs.Words.{slice_bytes}
use Rattle.trace.specs.Layout.{starts_at}
use Rattle.run_parts.proofs.KeptLaws.{index_small}
use Rattle.machine.proofs.starting_at.Goals as goal

pub overflow_cast-result : goal.overflow_cast-result
overflow_cast-result c = let a = c.args in
    omega (arith, c.starting_at.ensures, index_small a.trace.now (starts_at a.trace.now) a.i (slice_bytes a.trace.now (search rules)))
