-- `run_parts::supplied` meets its contract. Assumes nothing.
use borrow.Author.Rules.{rules}
use native.Mathlib.Omega.{arith}
use Rattle.entries.proofs.Words.{slice_bytes}
use Rattle.trace.specs.Layout.{supplies_at}
use Rattle.run_parts.proofs.KeptLaws.{index_small}
use Rattle.run_parts.proofs.supplied.Goals as goal

pub overflow_cast-result : goal.overflow_cast-result
overflow_cast-result c = let a = c.args in omega (arith, c.supply_at.ensures, index_small a.trace.now (supplies_at a.trace.now) a.i (slice_bytes a.trace.now (search rules)))
