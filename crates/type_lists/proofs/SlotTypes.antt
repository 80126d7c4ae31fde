-- The part of the slots that holds a type. Assumes nothing.
use mathlib.Core.Path.{◌≡◌, ap, ◌∙◌}
use mathlib.Core.List.{List, [], ◌++◌}
use mathlib.Core.Option.{none, some}
use Prim.Native.Nat.{ℕ, ◌-◌, ◌*◌, ◌<◌}
use native.Mathlib.Omega.{arith}
use lib.ListN.{length, take, drop, length-take}
use Rattle.types.specs.Prefix.{EndIs}
use Rattle.types.specs.Version1.{T, bytes, codes1}
use Rattle.types.proofs.PrefixLaws.{ends_part, ends_type}
use Rattle.types.proofs.Version1Laws.{code_laws1}
use Rattle.calculus.specs.Figure2.{Env}
use Rattle.calculus.specs.Version1.{signature1}
use Rattle.slots.specs.Slots.{slot_of, Holds}
use Rattle.type_lists.specs.Lists.{TypeIs}

-- z is slot x
module _ (w : List ℕ) (x : ℕ) (z : List ℕ) (hz : z ≡ slot_of w x) where
  found : (Γ : Env signature1) → x < 96 → Holds w Γ → (r : List ℕ) × (z ≡ bytes (Γ x) ++ r)
  found Γ h k = let (r, q) = k.slot x h in (r, hz ∙ q)

  -- there is no type in it
  pub type_missing : EndIs codes1 z 0 none → TypeIs w x []
  type_missing f = record { small = omega arith; is = λ Γ h k. let (r, q) = found Γ h k in absurd (f (Γ x) r q) }

  -- the bytes of its type
  pub type_is : (n : ℕ) → EndIs codes1 z 0 (some n) → TypeIs w x (take n z)
  type_is n f = record {
    small = omega (arith, length-take n z, ap length hz, length-take 129 (drop (x * 129) w));
    is = λ Γ h k.
        let (r, i) = found Γ h k in
        let same : f.0 ≡ Γ x = (ends_type codes1 code_laws1 z 0 n f (Γ x) r i).0 in
        let none : n - 0 ≡ n = omega arith in
        let part : take n z ≡ bytes f.0 = rw none at (ends_part codes1 code_laws1 z 0 n f) in
        part ∙ ap (λ (a : T). bytes a) same;
  }
