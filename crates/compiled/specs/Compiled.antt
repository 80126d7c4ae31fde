-- The list that compiling a table file gives. Assumes nothing: these are definitions.
use Rattle.std.specs.Prelude.{List, ℕ}
use Rattle.types.specs.Version1.{T}
use Rattle.calculus.specs.Version1.{signature1}
use Rattle.rendering.specs.Lists.{StatementList}
use Rattle.rendering.specs.Rendering.{halves}
use Rattle.rendering.specs.Translation.{translation}
use Rattle.decoded.specs.Table.{table_of}

-- the list of a table file and of types for its symbols: those types, and the translation
abbrev pub compiled : List ℕ → List T → StatementList signature1
compiled s As = record { types = As; statements = translation signature1 halves (table_of s) }
