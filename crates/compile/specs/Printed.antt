-- What the compile program writes for a table. Assumes nothing: these are definitions.
use Rattle.std.specs.Prelude.{◌≡◌, List, ℕ, ◌≤◌, length, take}
use Rattle.answers.specs.declared.Refusal.{Refusal}
use Rattle.calculus.specs.Figure2.{Env}
use Rattle.calculus.specs.Version1.{signature1}
use Rattle.type_service.specs.Services.{IsWidest, TableRefused}
use Rattle.compile_service.specs.Files.{list_file}
use Rattle.lines.specs.Lines.{LineOf}

-- the text: the table's list under its widest types, or the line of the refusal of the table; number 15 is never among them
pub data Text (s : List ℕ) (text : List ℕ) : Type 0 where
  a_list : {Γ : Env signature1} → IsWidest s Γ → text ≡ list_file s Γ → Text s text
  a_line : {x : Refusal} → TableRefused s x → LineOf x text → Text s text

-- it stands at the start of a buffer that is long enough, and r is its length
pub record ListPrinted (s z o : List ℕ) (r : ℕ) : Type 0 where
  pub inside : r ≤ length o
  pub counted : r ≡ length (take r o)
  pub text : 16384 ≤ length z → Text s (take r o)
