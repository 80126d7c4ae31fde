-- What each stage of the inference does to the slots, by the lower bound that fits a slot. Assumes nothing: these are definitions.
use Rattle.std.specs.Prelude.{◌≡◌, Bool, Ok, Err, List, [], ◌∷◌, ◌++◌, ℕ, ◌-◌, ◌≤◌, ◌<◌, length}
use Rattle.entries.specs.Fields.{code}
use Rattle.table_layout.specs.Layout.{terms, steps, steps_at, step_field}
use Rattle.types.specs.Types.{Basic, Cipher, Pair}
use Rattle.types.specs.Version1.{bytes, shkey, shared}
use Rattle.buffers.specs.Over.{over}
use Rattle.calculus.specs.Figure2.{Env}
use Rattle.calculus.specs.Typing.{Answer, widest, untyped}
use Rattle.calculus.specs.Inference.{want, wants, push, push_all, needs_at, needs_of, at_step, infer_by}
use Rattle.calculus.specs.Version1.{signature1}
use Rattle.entries.specs.Tiling.{listed}
use Rattle.decoded.specs.Table.{step_at}
use Rattle.slots.specs.Fit.{Fit}
use Rattle.slots.specs.Terms.{entry, InRange}
use Rattle.slots.specs.Slots.{Holds, Left, meet_in}
use Rattle.typing.specs.Marking.{Bits}
use Rattle.typing.specs.Typing.{Typing}

-- ── The keys of what stands in a step ──

-- the needs of term u, if it is marked
pub record KeyPut (w s : List ℕ) (u : ℕ) (b : Bool) (o : List ℕ) (r : Fit) : Type 0 where
  pub left : (Γ : Env signature1) → InRange s → Holds w Γ → Left (needs_at signature1 meet_in (entry s) b (entry s u) Γ) o r

-- the needs of the marked ones of the first n terms
pub record KeysTo (n : ℕ) (w s l o : List ℕ) (r : Fit) : Type 0 where
  pub left : (m : ℕ → Bool) (Γ : Env signature1) → Bits l m → InRange s → Holds w Γ → Left (needs_of signature1 meet_in (entry s) m n Γ) o r

-- of all terms
abbrev pub KeysPut : List ℕ → List ℕ → List ℕ → List ℕ → Fit → Type 0
KeysPut w s l o r = KeysTo (terms s) w s l o r

-- ── What a step wants of its terms ──

-- the type in slot x was copied to the start of z
pub record SlotPut (w : List ℕ) (x : ℕ) (z o : List ℕ) (r : ℕ) : Type 0 where
  pub fits : r ≤ length z
  pub wrote : (Γ : Env signature1) → x < 96 → Holds w Γ → 129 ≤ length z → (r ≡ length (bytes (Γ x))) × (o ≡ over (bytes (Γ x)) z) × (r ≤ 129)

-- the pair type of two slots was written
pub record PairPut (w : List ℕ) (x y : ℕ) (o : List ℕ) : Type 0 where
  pub wrote : (Γ : Env signature1) → x < 96 → y < 96 → Holds w Γ → (l : List ℕ) × (o ≡ bytes (Pair (Γ x) (Γ y)) ++ l)

-- the ciphertext type of a slot was written
pub record CipherPut (w : List ℕ) (x : ℕ) (o : List ℕ) : Type 0 where
  pub wrote : (Γ : Env signature1) → x < 96 → Holds w Γ → (l : List ℕ) × (o ≡ bytes (Cipher shared (Γ x)) ++ l)

-- step k as a split: a pair of what it binds
pub record SplitPut (w s : List ℕ) (k : ℕ) (o : List ℕ) (r : Fit) : Type 0 where
  pub left : (Γ : Env signature1) → InRange s → k < steps s → Holds w Γ
      → Left (push signature1 meet_in (entry s) (Pair (Γ (step_field s k 2)) (Γ (step_field s k 3))) (step_field s k 0) Γ) o r

-- step k as a decryption: a ciphertext of what it binds, and a key
pub record OpenPut (w s : List ℕ) (k : ℕ) (o : List ℕ) (r : Fit) : Type 0 where
  pub left : (Γ : Env signature1) → InRange s → k < steps s → Holds w Γ
      → Left (push_all signature1 meet_in (entry s) (want (step_field s k 0) (Cipher shared (Γ (step_field s k 2))) ∷ want (step_field s k 1) (Basic shkey) ∷ []) Γ) o r

-- the code of step k
abbrev pub code_of : List ℕ → ℕ → ℕ
code_of s k = code s 1 (steps_at s) k

-- all that step k wants
pub record WantsPut (w s : List ℕ) (k : ℕ) (o : List ℕ) (r : Fit) : Type 0 where
  pub left : (Γ : Env signature1) → InRange s → k < steps s → Holds w Γ → Left (push_all signature1 meet_in (entry s) (wants signature1 (step_at s k) Γ) Γ) o r

-- ── A step, and all steps ──

-- step k: its wants, then the needs of what stands in it
pub record StepPut (w s : List ℕ) (k : ℕ) (o : List ℕ) (r : Fit) : Type 0 where
  pub left : (Γ : Env signature1) → InRange s → k < steps s → Holds w Γ → Left (at_step signature1 meet_in (entry s) (terms s) (step_at s k) Γ) o r

-- the inference from step k on
abbrev pub from : List ℕ → Env signature1 → ℕ → Answer signature1
from s Γ k = infer_by signature1 meet_in (entry s) (terms s) Γ (listed (step_at s) k (steps s - k))

-- the steps from k on are typed, and the slots hold what was found
pub record TypedFrom (w s : List ℕ) (k : ℕ) (o : List ℕ) : Type 0 where
  pub found : (Γ : Env signature1) → InRange s → Holds w Γ → (Θ : Env signature1) × (from s Γ k ≡ widest Θ) × Holds o Θ

-- what was found: a typing of all steps, or the step that fails
abbrev pub Found : List ℕ → Env signature1 → List ℕ → Typing → Type 0
Found s Γ o (Ok u) = (Θ : Env signature1) × (from s Γ 0 ≡ widest Θ) × Holds o Θ
Found s Γ o (Err e) = from s Γ 0 ≡ untyped e.place

-- all steps were gone through, from the types that the slots held
pub record Inferred (w s o : List ℕ) (r : Typing) : Type 0 where
  pub answer : (Γ : Env signature1) → InRange s → Holds w Γ → Found s Γ o r
