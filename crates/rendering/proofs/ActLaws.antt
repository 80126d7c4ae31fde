-- The operands of acts and the parts of builds under maps; and two acts, or two builds, that agree under maps agree operand by
-- operand. Assumes nothing.
use mathlib.Core.Path.{◌≡◌, refl}
use mathlib.Core.List.{map}
use Prim.Native.Nat.{ℕ, ◌<◌}
use native.Mathlib.Omega.{arith}
use Rattle.calculus.specs.Signature.{Signature, Two}
use Rattle.calculus.specs.Terms.{Build, build1, build2, map_build, Act, send, receive, fresh, compare, split, decrypt, map_act, operands}
use Rattle.calculus.specs.Tables.{kind_entry, Lower, low_one, low_two}
use Rattle.calculus.specs.Scope.{All, all_nil, all_cons}
use Rattle.rendering.specs.Translation.{parts}

module _ (𝓢 : Signature) where
  pub parts_map : {X Y : Type 0} (f : X → Y) (b : Build 𝓢 X) → parts 𝓢 (map_build 𝓢 f b) ≡ map f (parts 𝓢 b)
  unfolding parts map_build
  parts_map f (build1 k a) = refl
  parts_map f (build2 k a b) = refl

  pub operands_map : {X Y : Type 0} (f : X → Y) (a : Act 𝓢 X) → operands 𝓢 (map_act 𝓢 f a) ≡ map f (operands 𝓢 a)
  unfolding operands map_act
  operands_map f (send a b) = refl
  operands_map f (receive a x) = refl
  operands_map f (fresh x) = refl
  operands_map f (compare a b) = refl
  operands_map f (split a x y) = refl
  operands_map f (decrypt s a b x) = refl

  -- the parts of a build in a table are lower
  pub part_lower : {j : ℕ} {b : Build 𝓢 ℕ} → Lower 𝓢 {L = ℕ} j (kind_entry b) → All (λ i. i < j) (parts 𝓢 b)
  unfolding parts
  part_lower (low_one p) = all_cons p all_nil
  part_lower (low_two p q) = all_cons p (all_cons q all_nil)

module _ (𝓢 : Signature) {A B : Type 0} (R : A → B → Type 0) where
  -- one act over two kinds of operands, related one by one
  pub data ActZip : Act 𝓢 A → Act 𝓢 B → Type 0 where
    zip_send : {a b : A} {c d : B} → R a c → R b d → ActZip (send a b) (send c d)
    zip_receive : {a : A} {c : B} {x : ℕ} → R a c → ActZip (receive a x) (receive c x)
    zip_fresh : {x : ℕ} → ActZip (fresh x) (fresh x)
    zip_compare : {a b : A} {c d : B} → R a c → R b d → ActZip (compare a b) (compare c d)
    zip_split : {a : A} {c : B} {x y : ℕ} → R a c → ActZip (split a x y) (split c x y)
    zip_decrypt : {s : 𝓢.Seal} {a b : A} {c d : B} {x : ℕ} → R a c → R b d → ActZip (decrypt s a b x) (decrypt s c d x)

  pub data BuildZip : Build 𝓢 A → Build 𝓢 B → Type 0 where
    zip_one : {k : 𝓢.One} {a : A} {c : B} → R a c → BuildZip (build1 k a) (build1 k c)
    zip_two : {k : Two 𝓢.Seal} {a b : A} {c d : B} → R a c → R b d → BuildZip (build2 k a b) (build2 k c d)

module _ (𝓢 : Signature) {A B C : Type 0} (f : A → C) (g : B → C) where
  abbrev E : A → B → Type 0
  E a b = f a ≡ g b

  differ : {X : Type 0} → ◌≡◌ {A = ℕ} 0 1 → X
  differ h = absurd (omega arith)

  pub zip_acts : (a : Act 𝓢 A) (d : Act 𝓢 B) → map_act 𝓢 f a ≡ map_act 𝓢 g d → ActZip 𝓢 E a d
  unfolding map_act
  zip_acts (send a b) (send a' b') e = let u : f a ≡ g a' = cc in let v : f b ≡ g b' = cc in zip_send u v
  zip_acts (send a b) (receive a' x') e = differ (cc)
  zip_acts (send a b) (fresh x') e = differ (cc)
  zip_acts (send a b) (compare a' b') e = differ (cc)
  zip_acts (send a b) (split a' x' y') e = differ (cc)
  zip_acts (send a b) (decrypt s' a' b' x') e = differ (cc)
  zip_acts (receive a x) (send a' b') e = differ (cc)
  zip_acts (receive a x) (receive a' x') e = let u : f a ≡ g a' = cc in let q : x ≡ x' = cc in rw q (zip_receive {x = x'} u)
  zip_acts (receive a x) (fresh x') e = differ (cc)
  zip_acts (receive a x) (compare a' b') e = differ (cc)
  zip_acts (receive a x) (split a' x' y') e = differ (cc)
  zip_acts (receive a x) (decrypt s' a' b' x') e = differ (cc)
  zip_acts (fresh x) (send a' b') e = differ (cc)
  zip_acts (fresh x) (receive a' x') e = differ (cc)
  zip_acts (fresh x) (fresh x') e = let q : x ≡ x' = cc in rw q zip_fresh
  zip_acts (fresh x) (compare a' b') e = differ (cc)
  zip_acts (fresh x) (split a' x' y') e = differ (cc)
  zip_acts (fresh x) (decrypt s' a' b' x') e = differ (cc)
  zip_acts (compare a b) (send a' b') e = differ (cc)
  zip_acts (compare a b) (receive a' x') e = differ (cc)
  zip_acts (compare a b) (fresh x') e = differ (cc)
  zip_acts (compare a b) (compare a' b') e = let u : f a ≡ g a' = cc in let v : f b ≡ g b' = cc in zip_compare u v
  zip_acts (compare a b) (split a' x' y') e = differ (cc)
  zip_acts (compare a b) (decrypt s' a' b' x') e = differ (cc)
  zip_acts (split a x y) (send a' b') e = differ (cc)
  zip_acts (split a x y) (receive a' x') e = differ (cc)
  zip_acts (split a x y) (fresh x') e = differ (cc)
  zip_acts (split a x y) (compare a' b') e = differ (cc)
  zip_acts (split a x y) (split a' x' y') e = let q : x ≡ x' = cc in let r : y ≡ y' = cc in let u : f a ≡ g a' = cc in rw (q, r) (zip_split {x = x'} {y = y'} u)
  zip_acts (split a x y) (decrypt s' a' b' x') e = differ (cc)
  zip_acts (decrypt s a b x) (send a' b') e = differ (cc)
  zip_acts (decrypt s a b x) (receive a' x') e = differ (cc)
  zip_acts (decrypt s a b x) (fresh x') e = differ (cc)
  zip_acts (decrypt s a b x) (compare a' b') e = differ (cc)
  zip_acts (decrypt s a b x) (split a' x' y') e = differ (cc)
  zip_acts (decrypt s a b x) (decrypt s' a' b' x') e = let k : s ≡ s' = cc in let q : x ≡ x' = cc in let u : f a ≡ g a' = cc in let v : f b ≡ g b' = cc in rw (k, q) (zip_decrypt {s = s'} {x = x'} u v)

  pub zip_builds : (b : Build 𝓢 A) (d : Build 𝓢 B) → map_build 𝓢 f b ≡ map_build 𝓢 g d → BuildZip 𝓢 E b d
  unfolding map_build
  zip_builds (build1 k a) (build1 l c) e = let q : k ≡ l = cc in let u : f a ≡ g c = cc in rw q (zip_one {k = l} u)
  zip_builds (build1 k a) (build2 l c d) e = differ (cc)
  zip_builds (build2 k a b) (build1 l c) e = differ (cc)
  zip_builds (build2 k a b) (build2 l c d) e = let q : k ≡ l = cc in let u : f a ≡ g c = cc in let v : f b ≡ g d = cc in rw q (zip_two {k = l} u v)
