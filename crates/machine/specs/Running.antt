-- The run as the code goes: the start, and the statements from one on. Assumes nothing: these are definitions.
use Rattle.std.specs.Prelude.{◌≡◌, List, [], map, ℕ, ◌+◌, ◌*◌, ◌≤◌, length, replicate}
use Rattle.entries.specs.Tiling.{listed}
use Rattle.list.specs.Layout.{statements}
use Rattle.trace.specs.Layout.{startings, starting}
use Rattle.types.specs.Version1.{T}
use Rattle.calculus.specs.Terms.{Atom}
use Rattle.calculus.specs.Tables.{Entry}
use Rattle.calculus.specs.Version1.{signature1}
use Rattle.running.specs.Acts.{typed, Result}
use Rattle.running.specs.Lists.{Register, symbol_register, run, table}
use Rattle.running.specs.Demand3.{builds, messages, types_of}
use Rattle.decoded_list.specs.Statements.{statements_of}
use Rattle.run_parts.specs.Registers.{Given}
use Rattle.run_parts.specs.Types.{TypesAre}
use Rattle.effects.specs.Effects.{Keeps}
use Rattle.effects.specs.declared.State.{State}
use Rattle.machine.specs.Statements.{Told}
use Rattle.machine.specs.declared.Ran.{Ran}

-- the answer where a run has come so far
abbrev pub ended_as : ℕ → ℕ → State → Ran
ended_as ending place s = record { ending = ending; place = place; used = s.used; logged = s.logged; count = s.count }

-- the registers of the starting values
unfoldable pub start_registers : List ℕ → List (Register ℕ)
start_registers tr = map symbol_register (listed (starting tr) 0 (startings tr))

-- an array of zeros
unfoldable pub zeros : List ℕ
zeros = replicate 608 0

-- they were given, in an array of zeros
pub record Started (tr g o : List ℕ) (r : ℕ) : Type 0 where
  pub started : g ≡ zeros → Given (start_registers tr) o r

-- what a run begins with: it is kept, and there is room for what the list may make and say
pub record Ready (l tr w o g : List ℕ) (s : State) (As : List T) (z y : List ℕ) (es : List (Entry signature1 Atom)) (rs : List (Register ℕ)) (su : List ℕ) : Type 0 where
  pub types : TypesAre l As
  pub keeps : Keeps tr z y es rs su [] w o g s
  pub few_statements : statements l ≤ 512
  pub few_registers : length rs ≤ 96
  pub few_values : length es ≤ 1024
  pub value_room : 5 * (length es + builds signature1 (statements_of l)) ≤ length z
  pub message_room : 5 * messages signature1 (statements_of l) ≤ length y

-- the run from there
unfoldable pub run_from : List ℕ → List T → List (Entry signature1 Atom) → List (Register ℕ) → List ℕ → Result ℕ (List (Entry signature1 Atom))
run_from l As es rs su = run signature1 (table signature1) (typed (types_of signature1 As)) (statements_of l) es rs su

-- whatever it begins with, the statements were run
pub record RunFrom (l tr w w' o o' g : List ℕ) (s : State) (r : Ran) : Type 0 where
  pub ran : (As : List T) (z y : List ℕ) (es : List (Entry signature1 Atom)) (rs : List (Register ℕ)) (su : List ℕ)
      → Ready l tr w o g s As z y es rs su → Told tr z w' y o' (run_from l As es rs su) r
