-- A flat array of 96 slots of 129 bytes, each with a symbol's type at its start. Assumes nothing: these are definitions.
use Rattle.std.specs.Prelude.{◌≡◌, Some, None, List, ◌++◌, ℕ, ◌+◌, ◌*◌, ◌<◌, leb, length, take, drop}
use Rattle.std.proofs.Math.Option.{Option, none, some, map}
use Rattle.base.specs.Pick.{pick}
use Rattle.types.specs.Types.{meet}
use Rattle.types.specs.Version1.{types1, T, bytes}
use Rattle.calculus.specs.Figure2.{Env, extend}
use Rattle.calculus.specs.Typing.{start}
use Rattle.calculus.specs.Version1.{signature1}
use Rattle.decoded.specs.Table.{table_of}
use Rattle.slots.specs.Fit.{Fit}

-- the bytes of slot x
abbrev pub slot_of : List ℕ → ℕ → List ℕ
slot_of w x = take 129 (drop (x * 129) w)

-- the slots below n hold the types of Γ
pub record Holding (n : ℕ) (w : List ℕ) (Γ : Env signature1) : Type 0 where
  pub size : length w ≡ 12384
  pub slot : (x : ℕ) → x < n → (r : List ℕ) × (slot_of w x ≡ bytes (Γ x) ++ r)

-- all slots do
abbrev pub Holds : List ℕ → Env signature1 → Type 0
Holds w Γ = Holding 96 w Γ

-- ── The start ──

-- the widest type that the sort of a symbol allows
abbrev pub widest_of : List ℕ → Env signature1
widest_of s = start signature1 (table_of s).sorts

-- slot x was started, those below it being so already
pub record Started (s : List ℕ) (x : ℕ) (w o : List ℕ) : Type 0 where
  pub started : x < 96 → Holding x w (widest_of s) → Holding (x + 1) o (widest_of s)

-- the slots below n were started, whatever they held
pub record StartedAll (s : List ℕ) (n : ℕ) (w o : List ℕ) : Type 0 where
  pub started : length w ≡ 12384 → Holding n o (widest_of s)

-- ── A lower bound met into a slot ──

-- a type that fits a slot
unfoldable pub fitting : Option T → Option T
fitting none = none
fitting (some c) = pick (leb (length (bytes c)) 129) (some c) none

-- the greatest lower bound that fits a slot
abbrev pub meet_in : T → T → Option T
meet_in a b = fitting (meet types1 a b)

-- the slots afterwards, and whether there is an environment
abbrev pub Left : Option (Env signature1) → List ℕ → Fit → Type 0
Left o w (Some u) = (Θ : Env signature1) × (o ≡ some Θ) × Holds w Θ
Left o w None = o ≡ none

-- slot x was met with the type at p of y
pub record Met (w : List ℕ) (x : ℕ) (y : List ℕ) (p : ℕ) (o : List ℕ) (r : Fit) : Type 0 where
  pub left : (Γ : Env signature1) (a : T) (l : List ℕ) → x < 96 → Holds w Γ → ◌≡◌ {A = List ℕ} (drop p y) (bytes a ++ l)
      → Left (map (extend signature1 Γ x) (meet_in (Γ x) a)) o r
