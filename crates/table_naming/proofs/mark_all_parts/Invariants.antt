-- `table_naming::mark_all_parts` meets its contract. Assumes nothing.
use Rattle.base.specs.Search.{some}
use Rattle.marks.specs.Put.{Put}
use Rattle.table_naming.specs.Naming.{has_part}
use Rattle.table_naming.proofs.mark_all_parts.Given as goal

abbrev pub invariant-loop-e : goal.invariant-loop-e
invariant-loop-e l = Put l.initial.marks l.marks (λ i. some (λ x. has_part l.s x i) l.e) 1
