-- `buffers::copy` meets its contract. Assumes nothing.
use mathlib.Core.Path.{refl, sym, ◌∙◌}
use native.Mathlib.Omega.{arith}
use lib.ListN.{length-set}
use borrow.Author.Tests.{le-leb}
use Rattle.buffers.proofs.OverLaws.{over_none, over_copied, over_all, over_fits}
use Rattle.buffers.proofs.copy.Goals as goal

pub loop-i-init : goal.loop-i-init
loop-i-init c = (refl, over_none _)

pub loop-i-preserved : goal.loop-i-preserved
loop-i-preserved c = (simp length-set (omega arith), over_copied _ _ _ _ c.loop-i.invariant.1 (omega arith) (omega arith))

pub returns : goal.returns
returns c = record {
  fits = sym (le-leb _ _ (omega arith));
  written = over_all _ _ _ _ c.loop-i.invariant.1 (omega arith) ∙ sym (over_fits _ _ (omega arith));
}
