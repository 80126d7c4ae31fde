-- A table in which numbers 5 to 8 have nothing to say, whatever its counts: what every text stands for whose names are each listed or bound exactly once.
-- Numbers 1, 2 and 4 speak of a file's frame, which its writing gives. Assumes nothing: these are definitions.
use Rattle.std.specs.Prelude.{◌≡◌, ◌⊎◌, ℕ, ◌<◌, length}
use Rattle.calculus.specs.Signature.{Two}
use Rattle.calculus.specs.Terms.{Act, build2, operands, binders, bound}
use Rattle.calculus.specs.Tables.{Entry, leaf_entry, kind_entry, entry_at, Closed, Unrepeated, Table}
use Rattle.calculus.specs.Scope.{In, Distinct, RestrictsNames, BindsVariables}
use Rattle.calculus.specs.Version1.{Seal1, signature1}

-- an entry has i as a part
pub data HasPart (i : ℕ) : Entry signature1 ℕ → Type 0 where
  left_part : {k : Two Seal1} {b : ℕ} → HasPart i (kind_entry (build2 k i b))
  right_part : {k : Two Seal1} {a : ℕ} → HasPart i (kind_entry (build2 k a i))

-- a step uses term i, or a term has it as a part
abbrev pub NamedIn : Table signature1 → ℕ → Type 0
NamedIn t i =
    ((s : Act signature1 ℕ) × In s t.steps × In i (operands signature1 s)) ⊎ ((j : ℕ) × (j < length t.entries) × HasPart i (entry_at signature1 0 t.entries j))

pub record Right (t : Table signature1) : Type 0 where
  -- no fault 5: the numbers are in range, and each step binds symbols of its sort
  pub symbols_there : (i x : ℕ) → i < length t.entries → entry_at signature1 0 t.entries i ≡ leaf_entry x → x < length t.sorts
  pub parts_lower : Closed signature1 0 t.entries
  pub operands_there : (s : Act signature1 ℕ) (i : ℕ) → In s t.steps → In i (operands signature1 s) → i < length t.entries
  pub binders_there : (s : Act signature1 ℕ) (x : ℕ) → In s t.steps → In x (binders signature1 s) → x < length t.sorts
  pub restricts_names : RestrictsNames signature1 t.sorts t.steps
  pub binds_variables : BindsVariables signature1 t.sorts t.steps
  -- no fault 6, 7 and 8
  pub unrepeated : Unrepeated signature1 0 t.entries
  pub each_named : (i : ℕ) → i < length t.entries → NamedIn t i
  pub binds_once : Distinct (bound signature1 t.steps)
