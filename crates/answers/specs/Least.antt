-- What "the least fault" means: the lowest number, and within a number the lowest place. Assumes nothing: these are definitions.
use Rattle.std.specs.Prelude.{◌≡◌, false, ◌⊎◌, List, [], ◌∷◌, ℕ, ◌≤◌, ◌<◌, Ok, Err}
use Rattle.answers.specs.Ladder.{refusal, Rung, Check}
use Rattle.answers.specs.declared.Refusal.{Refusal}

-- a thing of the rung is out of order, and this is its refusal
pub record At (r : Rung) (x : Refusal) : Type 0 where
  pub thing : ℕ
  pub among : thing < r.count
  pub broken : r.ok thing ≡ false
  pub named : x ≡ refusal r.number r.file (r.place thing)

-- the fault is one of the file's
pub data Fault (x : Refusal) : List Rung → Type 0 where
  here : {r : Rung} {rs : List Rung} → At r x → Fault x (r ∷ rs)
  later : {r : Rung} {rs : List Rung} → Fault x rs → Fault x (r ∷ rs)

-- document 01's order of the faults of a file: the lowest number first, the lowest place first within a number
abbrev pub Before : Refusal → Refusal → Type 0
Before x y = (x.number < y.number) ⊎ ((x.number ≡ y.number) × (x.file ≡ y.file) × (x.place ≤ y.place))

-- an answer is the least fault, or there is none
pub data Least (rs : List Rung) : Check → Type 0 where
  none : ((x : Refusal) → Fault x rs → ⊥) → Least rs (Ok tt)
  lowest : {x : Refusal} → Fault x rs → ((y : Refusal) → Fault y rs → Before x y) → Least rs (Err x)

-- the rungs stand in order: places rise along a rung, and every fault of a rung comes before every fault of a later one
pub data Ordered : List Rung → Type 0 where
  no_rung : Ordered []
  rung : {r : Rung} {rs : List Rung} → ((i j : ℕ) → i ≤ j → j < r.count → r.place i ≤ r.place j)
      → ((x y : Refusal) → At r x → Fault y rs → Before x y) → Ordered rs → Ordered (r ∷ rs)
