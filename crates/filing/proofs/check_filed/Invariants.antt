-- `filing::check_filed` meets its contract. Assumes nothing.
use Rattle.codes.specs.Kinds.{kind_number}
use Rattle.filing.specs.Filing.{Filed}
use Rattle.entries.specs.Faults.{alone}
use Rattle.base.specs.Search.{first}
use mathlib.Core.Path.{◌≡◌}
use Rattle.filing.proofs.check_filed.Given as goal

abbrev pub invariant-loop-i : goal.invariant-loop-i
invariant-loop-i l = record {
  alone_so_far : first (alone l.s (kind_number l.kind) l.base) 0 l.count ≡ first (alone l.s (kind_number l.kind) l.base) l.i l.count;
  filed_so_far : Filed l.s (kind_number l.kind) l.base l.slots l.i;
}
