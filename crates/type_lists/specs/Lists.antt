-- Types of the slots written one after the other. Assumes nothing: these are definitions.
use Rattle.std.specs.Prelude.{◌≡◌, List, ℕ, ◌*◌, ◌≤◌, ◌<◌, length}
use Rattle.types.specs.Version1.{bytes}
use Rattle.buffers.specs.Over.{over}
use Rattle.calculus.specs.Figure2.{Env}
use Rattle.calculus.specs.Version1.{signature1}
use Rattle.slots.specs.Slots.{Holds}
use Rattle.decoded_list.specs.Bytes.{types_to, type_with_length, types_bytes}

-- r is the type of slot x
pub record TypeIs (w : List ℕ) (x : ℕ) (r : List ℕ) : Type 0 where
  pub small : length r ≤ 129
  pub is : (Γ : Env signature1) → x < 96 → Holds w Γ → r ≡ bytes (Γ x)

-- r is the number of bytes of the first n types
pub record SizeIs (w : List ℕ) (n r : ℕ) : Type 0 where
  pub small : r ≤ n * 130
  pub is : (Γ : Env signature1) → n ≤ 96 → Holds w Γ → r ≡ length (types_bytes (types_to Γ n))

-- the type of slot x was written, r bytes
pub record TypePut (w : List ℕ) (x : ℕ) (z o : List ℕ) (r : ℕ) : Type 0 where
  pub fits : r ≤ length z
  pub wrote : (Γ : Env signature1) → x < 96 → Holds w Γ → length (type_with_length (Γ x)) ≤ length z → (r ≡ length (type_with_length (Γ x))) × (o ≡ over (type_with_length (Γ x)) z)

-- the first n types were written, where they fit
pub record TypesPut (w : List ℕ) (n : ℕ) (z o : List ℕ) : Type 0 where
  pub wrote : (Γ : Env signature1) → n ≤ 96 → Holds w Γ → length (types_bytes (types_to Γ n)) ≤ length z → o ≡ over (types_bytes (types_to Γ n)) z
