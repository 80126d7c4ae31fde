-- What a statement of a step gives, by its op. Assumes nothing.
use mathlib.Core.Path.{◌≡◌, refl}
use Prim.Native.Nat.{ℕ, zero, suc, ◌<◌}
use native.Mathlib.Omega.{arith}
use lib.ListN.{length}
use Rattle.base.specs.Bytes.{byte}
use Rattle.codes.specs.Rows.{cell}
use Rattle.judging.specs.Due.{new_of}

-- a statement of a step gives one register or none
pub new_count : (op x : ℕ) → op < 7 → length (new_of op x) ≡ cell 2 op 4
unfolding cell byte
new_count zero x h = refl
new_count (suc zero) x h = refl
new_count (suc (suc zero)) x h = refl
new_count (suc (suc (suc zero))) x h = refl
new_count (suc (suc (suc (suc zero)))) x h = refl
new_count (suc (suc (suc (suc (suc zero))))) x h = refl
new_count (suc (suc (suc (suc (suc (suc zero)))))) x h = refl
new_count (suc (suc (suc (suc (suc (suc (suc op))))))) x h = absurd (omega arith)
