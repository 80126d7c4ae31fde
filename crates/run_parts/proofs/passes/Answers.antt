-- `run_parts::passes` meets its contract. Assumes nothing.
use borrow.Author.Rules.{rules}
use borrow.Author.Tests.{le-leb}
use native.Mathlib.Omega.{arith}
use Rattle.entries.proofs.Words.{slice_bytes}
use Rattle.run_parts.proofs.KeptLaws.{passes_typed, passes_message}
use Rattle.run_parts.proofs.passes.Goals as goal

pub returns-then-symbol_count-x : goal.returns-then-symbol_count-x
returns-then-symbol_count-x c = rw (le-leb _ _ c.if-symbol_count-x.true) (passes_message _ _ _ _ _ (omega arith))

pub returns-else-symbol_count-x : goal.returns-else-symbol_count-x
returns-else-symbol_count-x c = passes_typed _ _ _ _ _ _ _ (slice_bytes _ (search rules)) (omega arith) (omega (arith, c.type_at.ensures)) c.visible_at.ensures
