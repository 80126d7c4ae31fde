-- Laws of `wants` for a walk along the bytes of a type. Assumes nothing.
use mathlib.Core.Path.{◌≡◌, refl}
use mathlib.Core.Bool.{true, false}
use mathlib.Core.List.{List, ◌∷◌}
use Prim.Native.Nat.{ℕ, zero, suc, ◌+◌, ◌*◌, ◌-◌, ◌≤◌, ◌<◌}
use native.Mathlib.Numerals.{add-one}
use native.Mathlib.Omega.{arith}
use lib.Dec.{eqb}
use lib.ListN.{length, drop, get_or, drop_of_length-le}
use lib.Seq.{drop-cons}
use Rattle.base.specs.Bytes.{byte}
use Rattle.base.proofs.Bounds.{byte_past}
use Rattle.codes.specs.Types.{table, type_known, type_parts}
use Rattle.list.specs.Layout.{wants}

-- at most two types follow a code
pub parts_few : (b : ℕ) → type_parts b ≤ 2
unfolding type_parts byte
parts_few zero = omega arith
parts_few (suc zero) = omega arith
parts_few (suc (suc zero)) = omega arith
parts_few (suc (suc (suc zero))) = omega arith
parts_few (suc (suc (suc (suc zero)))) = omega arith
parts_few (suc (suc (suc (suc (suc zero))))) = omega arith
parts_few (suc (suc (suc (suc (suc (suc b)))))) = past (suc (suc (suc (suc (suc (suc b)))))) (omega arith)
  where
    past : (b : ℕ) → 6 ≤ b → type_parts b ≤ 2
    past b h = omega (arith, byte_past table (b * 2 + 1) (omega arith))

module _ (v n : ℕ) (t : List ℕ) (k : ℕ) where
  -- past the last byte none may be wanted
  pub wants_end : length t ≤ k → wants v n (drop k t) ≡ eqb n 0
  unfolding wants
  wants_end h = rw (drop_of_length-le t h)

  module _ (h : k < length t) where
    from : drop k t ≡ get_or t k 0 ∷ drop (k + 1) t
    from = rw add-one (drop-cons t k 0 h)

    -- a byte that is not wanted
    pub wants_none : n ≡ 0 → wants v n (drop k t) ≡ false
    unfolding wants
    wants_none e = rw (e, from)

    -- a byte that is no code
    pub wants_unknown : type_known v (get_or t k 0) ≡ false → wants v n (drop k t) ≡ false
    unfolding wants
    wants_unknown e = rw from (go n)
      where
        go : (n : ℕ) → wants v n (get_or t k 0 ∷ drop (k + 1) t) ≡ false
        go zero = refl
        go (suc n) = rw e

    -- a code: one less is wanted, and those that follow it
    pub wants_more : (n ≡ 0 → ⊥) → type_known v (get_or t k 0) ≡ true → wants v (n - 1 + type_parts (get_or t k 0)) (drop (k + 1) t) ≡ wants v n (drop k t)
    unfolding wants
    wants_more z e = rw from (go n z)
      where
        go : (n : ℕ) → (n ≡ 0 → ⊥) → wants v (n - 1 + type_parts (get_or t k 0)) (drop (k + 1) t) ≡ wants v n (get_or t k 0 ∷ drop (k + 1) t)
        go zero z = absurd (z refl)
        go (suc n) z = let q : suc n - 1 ≡ n = omega arith in rw (q, e)

-- by which a walk along the bytes of a type is checked
pub ruleset wanted_steps = (parts_few, wants_end, wants_none, wants_unknown, wants_more)
