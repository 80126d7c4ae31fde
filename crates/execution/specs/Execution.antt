-- What statement k of a list does, by its code and fields. Assumes nothing: these are definitions.
use Rattle.std.specs.Prelude.{List, [], ◌∷◌, ℕ}
use Rattle.entries.specs.Fields.{code, field}
use Rattle.calculus.specs.Terms.{Statement}
use Rattle.calculus.specs.Version1.{signature1}
use Rattle.running.specs.Acts.{typed}
use Rattle.running.specs.Lists.{execute, table}
use Rattle.running.specs.Demand3.{builds, messages}
use Rattle.decoded_list.specs.Statements.{statement_of}
use Rattle.effects.specs.Effects.{Doing}

-- a statement, on values, registers and supply
unfoldable pub executing : Statement signature1 → Doing
executing st Γ es rs su = execute signature1 (table signature1) (typed Γ) es rs su st

-- statement k of those from a base offset on: what it is, does, builds and says
unfoldable pub statement_in : List ℕ → ℕ → ℕ → Statement signature1
statement_in l base k = statement_of (code l 2 base k) (field l 2 base k 0) (field l 2 base k 1) (field l 2 base k 2)

abbrev pub executing_at : List ℕ → ℕ → ℕ → Doing
executing_at l base k = executing (statement_in l base k)

abbrev pub builds_at : List ℕ → ℕ → ℕ → ℕ
builds_at l base k = builds signature1 (statement_in l base k ∷ [])

abbrev pub messages_at : List ℕ → ℕ → ℕ → ℕ
messages_at l base k = messages signature1 (statement_in l base k ∷ [])
