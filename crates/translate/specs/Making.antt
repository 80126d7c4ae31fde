-- What each function of the translation needs and leaves, and the bytes that it writes. Assumes nothing: these are definitions.
use Rattle.std.specs.Prelude.{◌≡◌, List, [], ◌∷◌, ◌++◌, ℕ, zero, suc, ◌+◌, ◌*◌, ◌≤◌, length}
use Rattle.entries.specs.Fields.{code}
use Rattle.table_layout.specs.Layout.{terms_at, steps_at, term_field, step_field}
use Rattle.buffers.specs.Over.{over}
use Rattle.rendering.specs.Judge.{Meaning}
use Rattle.decoded_list.specs.Bytes.{statements_bytes}
use Rattle.registers.specs.Held.{Held, register_in}
use Rattle.translate.specs.Stepwise.{Making, more, step_bound}
use Rattle.translate.specs.declared.Progress.{Progress}

-- the meanings are held
abbrev pub Holds : List Meaning → Progress → Type 0
Holds ms p = Held ms p.symbols p.terms p.registers

-- r is made: its statements are written over y, and its meanings are held
pub record Stands (r : Making) (p : Progress) (y out : List ℕ) : Type 0 where
  pub holds : Holds r.1 p
  pub ends : p.at ≡ length (statements_bytes r.0)
  pub written : out ≡ over (statements_bytes r.0) y

-- r can be made: its registers can be named, and the buffer y has room for its statements
pub record Fits (r : Making) (y : List ℕ) : Type 0 where
  pub few : length r.1 ≤ 224
  pub room : 4 * length r.0 ≤ length y

-- r is made, and f can be made after it
pub record Ready (f : List Meaning → Making) (r : Making) (p : Progress) (y out : List ℕ) : Type 0 where
  pub stands : Stands r p y out
  pub fits : Fits (more f r) y

-- something is made, and f can be made after it
abbrev pub SomeReady : (List Meaning → Making) → Progress → List ℕ → Type 0
SomeReady f p out = (r : Making) × (y : List ℕ) × Ready f r p y out

-- nothing is made but the meanings at the start, and f can be made
abbrev pub AllReady : (List Meaning → Making) → List Meaning → Progress → List ℕ → Type 0
AllReady f ms p out = Ready f ([], ms) p out out

-- whatever is made, f is made after it
abbrev pub Makes : (List Meaning → Making) → Progress → Progress → List ℕ → List ℕ → Type 0
Makes f p p' out out' = (r : Making) (y : List ℕ) → Ready f r p y out → Stands (more f r) p' y out'

-- the next register means m, whatever meanings are held
pub record Gives (m : Meaning) (p p' : Progress) : Type 0 where
  pub next : p'.registers ≡ p.registers + 1
  pub holds : (ms : List Meaning) → Holds ms p → Holds (ms ++ (m ∷ [])) p'

-- the next registers are those of the symbols that a step binds, whatever meanings are held
abbrev pub BindsStep : List ℕ → ℕ → Progress → Progress → Type 0
BindsStep s k p p' = (ms : List Meaning) → Holds ms p → Holds (step_bound s k ms) p'

-- ── By bytes ──

-- the statement that makes term i of its parts
unfoldable pub make_bytes : List ℕ → ℕ → List ℕ → List ℕ → ℕ → List ℕ
make_bytes s i symbols terms registers =
    (code s 0 (terms_at s) i + 6) ∷ register_in s (term_field s i 0) symbols terms registers ∷ register_in s (term_field s i 1) symbols terms registers ∷ 0 ∷ []

-- the statements of a step by its op, its registers and its symbols
unfoldable pub state_bytes : ℕ → ℕ → ℕ → ℕ → ℕ → List ℕ
state_bytes zero p q x y = 0 ∷ p ∷ q ∷ 0 ∷ []
state_bytes (suc zero) p q x y = 1 ∷ p ∷ 0 ∷ x ∷ []
state_bytes (suc (suc zero)) p q x y = 2 ∷ 0 ∷ 0 ∷ x ∷ []
state_bytes (suc (suc (suc zero))) p q x y = 3 ∷ p ∷ q ∷ 0 ∷ []
state_bytes (suc (suc (suc (suc zero)))) p q x y = 4 ∷ p ∷ 0 ∷ x ∷ 5 ∷ p ∷ 0 ∷ y ∷ []
state_bytes (suc (suc (suc (suc (suc zero))))) p q x y = 6 ∷ p ∷ q ∷ x ∷ []
state_bytes (suc (suc (suc (suc (suc (suc op)))))) p q x y = []

-- the statements of step k
unfoldable pub step_stated_bytes : List ℕ → ℕ → List ℕ → List ℕ → ℕ → List ℕ
step_stated_bytes s k symbols terms registers =
    state_bytes (code s 1 (steps_at s) k) (register_in s (step_field s k 0) symbols terms registers) (register_in s (step_field s k 1) symbols terms registers)
    (step_field s k 2) (step_field s k 3)
