-- A list passes 1 to 5 exactly if it is right by document 01. Assumes nothing.
use mathlib.Core.Path.{◌≡◌}
use mathlib.Core.Logic.{◌↔◌}
use mathlib.Core.List.{List}
use Prim.Native.Nat.{ℕ}
use Rattle.answers.specs.Ladder.{least}
use Rattle.list.specs.Faults.{list_rungs}
use Rattle.list.specs.Right.{ListRight}
use Rattle.list.proofs.Framed.{Listed, list_passes}
use Rattle.list.proofs.EntryTests.{statement_ok_means}
use Rattle.list.proofs.SymbolTypes.{type_ok_exact}
use Rattle.std.proofs.Common.{Ok}

pub list_right : (s : List ℕ) (free : ℕ) → (least (list_rungs s free) ≡ Ok tt) ↔ ListRight s free
list_right s free = (λ e. to ((list_passes s free).0 e), λ r. (list_passes s free).1 (from r))
  where
    to : Listed s free → ListRight s free
    to l = record {
      framed = l.framed;
      each_type = λ i h. (type_ok_exact s i l.framed h).0 (l.types_right i h);
      each_statement = λ i h. (statement_ok_means s free i l.framed.version_one).0 (l.statements_right i h);
    }

    from : ListRight s free → Listed s free
    from r = record {
      framed = r.framed;
      types_right = λ i h. (type_ok_exact s i r.framed h).1 (r.each_type i h);
      statements_right = λ i h. (statement_ok_means s free i r.framed.version_one).1 (r.each_statement i h);
    }
