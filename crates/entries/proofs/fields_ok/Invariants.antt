-- `entries::fields_ok` meets its contract. Assumes nothing.
use mathlib.Core.Path.{◌≡◌}
use Rattle.base.specs.Search.{first}
use Rattle.codes.specs.Kinds.{kind_number}
use Rattle.entries.specs.Fields.{field_ok}
use Rattle.entries.proofs.fields_ok.Given as goal

abbrev pub invariant-loop-j : goal.invariant-loop-j
invariant-loop-j l = first (field_ok l.s (kind_number l.kind) l.base l.i l.limits) 0 l.n ≡ first (field_ok l.s (kind_number l.kind) l.base l.i l.limits) l.j l.n
