-- The kinds of entries by number, as the rows have them. Assumes nothing: this is a definition.
use Rattle.std.specs.Prelude.{ℕ}
use Rattle.codes.specs.declared.Kind.{Kind}
use Rattle.codes.specs.declared.Kind.TheVariants.{Term, Step, Statement, Value}

abbrev pub kind_number : Kind → ℕ
kind_number Term = 0
kind_number Step = 1
kind_number Statement = 2
kind_number Value = 3
