-- `table_naming::mark_all_uses` meets its contract. Assumes nothing.
use Rattle.base.specs.Search.{some}
use Rattle.marks.specs.Put.{Put}
use Rattle.table_naming.specs.Naming.{uses_term}
use Rattle.table_naming.proofs.mark_all_uses.Given as goal

abbrev pub invariant-loop-k : goal.invariant-loop-k
invariant-loop-k l = Put l.initial.marks l.marks (λ i. some (λ x. uses_term l.s x i) l.k) 1
