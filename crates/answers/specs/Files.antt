-- The files as a refusal numbers them. Assumes nothing: this is a definition.
use Rattle.std.specs.Prelude.{ℕ}
use Rattle.answers.specs.declared.File.{File}
use Rattle.answers.specs.declared.File.TheVariants.{Table, List, Trace, Buffer}

abbrev pub file_number : File → ℕ
file_number Table = 0
file_number List = 1
file_number Trace = 2
file_number Buffer = 3
