-- Laws of the rows: kinds that are none, and how wide an entry and its fields are. Assumes nothing.
use mathlib.Core.Path.{◌≡◌, refl}
use mathlib.Core.Bool.{false}
use Prim.Native.Nat.{ℕ, zero, suc, ◌*◌, ◌≤◌, ◌<◌}
use native.Mathlib.Omega.{arith}
use native.Mathlib.Nat.{mul-le-mul}
use borrow.Author.Tests.{le-ltb}
use Rattle.base.specs.Bytes.{byte}
use Rattle.codes.specs.Rows.{known, rows, width}

-- there are four kinds
pub kind_none : (kind version op : ℕ) → (kind ≡ 0 → ⊥) → (kind ≡ 1 → ⊥) → (kind ≡ 2 → ⊥) → (kind ≡ 3 → ⊥) → known kind version op ≡ false
unfolding known rows byte
kind_none zero v op a b c d = absurd (a refl)
kind_none (suc zero) v op a b c d = absurd (b refl)
kind_none (suc (suc zero)) v op a b c d = absurd (c refl)
kind_none (suc (suc (suc zero))) v op a b c d = absurd (d refl)
kind_none (suc (suc (suc (suc k)))) v op a b c d = simp (le-ltb op 0 (omega arith))

-- entries have five bytes at most
pub width_small : (kind : ℕ) → width kind ≤ 5
unfolding width byte
width_small zero = omega arith
width_small (suc zero) = omega arith
width_small (suc (suc zero)) = omega arith
width_small (suc (suc (suc zero))) = omega arith
width_small (suc (suc (suc (suc k)))) = omega arith

-- entry i of a kind lies at most that far from the first
pub entry_far : (kind i : ℕ) → i < 65536 → i * width kind ≤ 65535 * 5
entry_far kind i h = mul-le-mul {n₂ = 65535} {m₂ = 5} (omega arith) (width_small kind)

-- a product of two bytes
pub product_small : (a b : ℕ) → a < 256 → b < 256 → a * b ≤ 255 * 255
product_small a b h k = mul-le-mul {n₂ = 255} {m₂ = 255} (omega arith) (omega arith)
