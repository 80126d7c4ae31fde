-- `free_symbols::mark_bound` meets its contract. Assumes nothing.
use Rattle.base.specs.Search.{some}
use Rattle.marks.specs.Put.{Put}
use Rattle.table_binding.specs.Binding.{binds}
use Rattle.free_symbols.proofs.mark_bound.Given as goal

abbrev pub invariant-loop-k : goal.invariant-loop-k
invariant-loop-k l = Put l.initial.bound l.bound (λ x. some (λ e. binds l.s e x) l.k) 1
