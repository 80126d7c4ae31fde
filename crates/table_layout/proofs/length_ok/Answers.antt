-- `table_layout::length_ok` meets its contract. Assumes nothing.
use mathlib.Core.Path.{ap}
use native.Mathlib.Omega.{arith}
use lib.ListN.{length}
use lib.Dec.{eqb}
use Rattle.table_layout.specs.Layout.{length_ok}
use Rattle.table_layout.proofs.length_ok.Goals as goal

pub returns : goal.returns
unfolding length_ok
returns c = ap (eqb (length c.args.s.now)) (omega arith)
