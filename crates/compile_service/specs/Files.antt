-- The file that the compile service writes, and what is read of it again. Assumes nothing: these are definitions.
use Rattle.std.specs.Prelude.{◌≡◌, List, ℕ, ◌≤◌, ◌<◌, Ok}
use Rattle.answers.specs.Ladder.{least}
use Rattle.table_layout.specs.Layout.{symbols}
use Rattle.list.specs.Layout.{statements}
use Rattle.list.specs.Faults.{list_rungs}
use Rattle.list.specs.TypeOf.{type_bytes}
use Rattle.types.specs.Version1.{bytes}
use Rattle.calculus.specs.Figure2.{Env}
use Rattle.calculus.specs.Version1.{signature1}
use Rattle.rendering.specs.Rendering.{halves}
use Rattle.rendering.specs.Translation.{translation}
use Rattle.decoded.specs.Table.{table_of, free_count}
use Rattle.decoded_list.specs.Bytes.{list_bytes, types_to}
use Rattle.decoded_list.specs.Statements.{statements_of}
use Rattle.compiled.specs.Compiled.{compiled}

-- a table's list under types Γ: the types of its symbols, and the statements of its translation
abbrev pub list_file : List ℕ → Env signature1 → List ℕ
list_file s Γ = list_bytes (compiled s (types_to Γ (symbols s)))

-- a list that has no fault 1 to 5, gives the translation of the table back, has at most 256 statements, and of which `type_of`
-- hands out the types of Γ
pub record ReadsBack (s : List ℕ) (Γ : Env signature1) (l : List ℕ) : Type 0 where
  pub passes : least (list_rungs l (free_count s)) ≡ Ok tt
  pub gives_back : statements_of l ≡ translation signature1 halves (table_of s)
  pub few_statements : statements l ≤ 256
  pub hands_out : (x : ℕ) → x < symbols s → type_bytes l x ≡ bytes (Γ x)
