-- `table_binding::bind_all` meets its contract. Assumes nothing.
use mathlib.Core.Path.{◌≡◌}
use Rattle.base.specs.Search.{first}
use Rattle.table_layout.specs.Layout.{steps}
use Rattle.table_binding.specs.Tables.{Binders}
use Rattle.table_binding.specs.Binding.{binds_new}
use Rattle.table_binding.proofs.bind_all.Given as goal

abbrev pub invariant-loop-k : goal.invariant-loop-k
invariant-loop-k l = record {
  right_so_far : first (binds_new l.s) 0 (steps l.s) ≡ first (binds_new l.s) l.k (steps l.s);
  noted_so_far : Binders l.s l.k l.binders;
}
