-- Environments: changing one symbol's type, the order symbol by symbol, and the widest environment below another that has a property.
-- Assumes nothing.
use mathlib.Core.Path.{◌≡◌, refl, fun_ext}
use mathlib.Core.Option.{Option, none, some, map, bind}
use Prim.Native.Nat.{ℕ}
use native.Mathlib.Decide.{ℕ_discrete}
use Rattle.types.specs.Order.{Greatest, greatest, nothing}
use Rattle.types.proofs.TypeLaws.{<:_refl, <:_trans, <:_antisym}
use Rattle.calculus.specs.Signature.{Signature, SignatureLaws}
use Rattle.calculus.specs.Figure2.{T as Types, Env as Envs, ◌<:◌ as Sub, pick, extend}
use Rattle.calculus.specs.Typing.{Below}

module _ (𝓢 : Signature) where
  abbrev pub T : Type 0
  T = Types 𝓢

  abbrev pub Env : Type 0
  Env = Envs 𝓢

  pub sub_refl : (A : T) → Sub 𝓢 A A
  sub_refl A = <:_refl 𝓢.types A

  pub sub_trans : {A B C : T} → Sub 𝓢 A B → Sub 𝓢 B C → Sub 𝓢 A C
  sub_trans p q = <:_trans 𝓢.types p q

  pub below_refl : (Γ : Env) → Below 𝓢 Γ Γ
  below_refl Γ x = sub_refl (Γ x)

  pub below_trans : {Γ Δ Θ : Env} → Below 𝓢 Γ Δ → Below 𝓢 Δ Θ → Below 𝓢 Γ Θ
  below_trans p q x = sub_trans (p x) (q x)

  pub below_same : SignatureLaws 𝓢 → {Γ Δ : Env} → Below 𝓢 Γ Δ → Below 𝓢 Δ Γ → Γ ≡ Δ
  below_same laws p q = fun_ext (λ x. <:_antisym 𝓢.types laws.falls (p x) (q x))

  -- ── One symbol's type changed ──
  pub extend_same : (Γ : Env) (x : ℕ) (A : T) → extend 𝓢 Γ x A x ≡ A
  unfolding extend pick
  extend_same Γ x A = go (ℕ_discrete x x)
    where
      go : (d : Dec (x ≡ x)) → pick 𝓢 d A (Γ x) ≡ A
      go (yes e) = refl
      go (no n) = absurd (n refl)

  pub extend_other : (Γ : Env) (x y : ℕ) (A : T) → ¬ (x ≡ y) → extend 𝓢 Γ x A y ≡ Γ y
  unfolding extend pick
  extend_other Γ x y A n = go (ℕ_discrete x y)
    where
      go : (d : Dec (x ≡ y)) → pick 𝓢 d A (Γ y) ≡ Γ y
      go (yes e) = absurd (n e)
      go (no n) = refl

  pub below_extend : {Γ Δ : Env} {x : ℕ} {A : T} → Sub 𝓢 (Δ x) A → ((y : ℕ) → ¬ (x ≡ y) → Sub 𝓢 (Δ y) (Γ y)) → Below 𝓢 Δ (extend 𝓢 Γ x A)
  unfolding extend pick
  below_extend {Γ} {Δ} {x} {A} p q y = go (ℕ_discrete x y)
    where
      go : (d : Dec (x ≡ y)) → Sub 𝓢 (Δ y) (pick 𝓢 d A (Γ y))
      go (yes e) = rw e at p
      go (no n) = q y n

  pub extend_below : {Γ Δ : Env} {x : ℕ} {A : T} → Sub 𝓢 A (Δ x) → ((y : ℕ) → ¬ (x ≡ y) → Sub 𝓢 (Γ y) (Δ y)) → Below 𝓢 (extend 𝓢 Γ x A) Δ
  unfolding extend pick
  extend_below {Γ} {Δ} {x} {A} p q y = go (ℕ_discrete x y)
    where
      go : (d : Dec (x ≡ y)) → Sub 𝓢 (pick 𝓢 d A (Γ y)) (Δ y)
      go (yes e) = rw e at p
      go (no n) = q y n

  -- ── The widest environment below Γ that has a property, if there is one ──
  pub data Best (P : Env → Type 0) (Γ : Env) : Option Env → Type 0 where
    best : {Θ : Env} → Below 𝓢 Θ Γ → P Θ → ((Δ : Env) → Below 𝓢 Δ Γ → P Δ → Below 𝓢 Δ Θ) → Best P Γ (some Θ)
    stuck : ((Δ : Env) → Below 𝓢 Δ Γ → P Δ → ⊥) → Best P Γ none

  -- what holds in an environment holds in every narrower one
  abbrev pub Down : (Env → Type 0) → Type 0
  Down P = (Γ Δ : Env) → Below 𝓢 Δ Γ → P Γ → P Δ

  -- what holds everywhere costs nothing
  pub best_free : {P : Env → Type 0} (Γ : Env) → ((Δ : Env) → P Δ) → Best P Γ (some Γ)
  best_free Γ h = best (below_refl Γ) (h Γ) (λ Δ w p. w)

  -- one property after another
  pub best_and : {P Q : Env → Type 0} {Γ : Env} {o : Option Env} {f : Env → Option Env}
      → Down P → Best P Γ o → ((Θ : Env) → Best Q Θ (f Θ)) → Best (λ Δ. P Δ × Q Δ) Γ (bind o f)
  unfolding bind
  best_and {P} {Q} {Γ} {f = f} dn (stuck n) g = stuck λ Δ w p. n Δ w p.0
  best_and {P} {Q} {Γ} {f = f} dn (best {Θ = Θ} w p m) g = go (g Θ)
    where
      go : {u : Option Env} → Best Q Θ u → Best (λ Δ. P Δ × Q Δ) Γ u
      go (stuck n) = stuck λ Δ v pq. n Δ (m Δ v pq.0) pq.1
      go (best w' q m') = best (below_trans w' w) (dn _ _ w' p, q) (λ Δ v pq. m' Δ (m Δ v pq.0) pq.1)

  -- one property for another that says the same below Γ
  pub best_iff : {P Q : Env → Type 0} {Γ : Env} {o : Option Env} → ((Δ : Env) → Below 𝓢 Δ Γ → P Δ → Q Δ) → ((Δ : Env) → Below 𝓢 Δ Γ → Q Δ → P Δ)
      → Best P Γ o → Best Q Γ o
  best_iff f g (best {Θ = Θ} w p m) = best w (f Θ w p) (λ Δ v q. m Δ v (g Δ v q))
  best_iff f g (stuck n) = stuck (λ Δ v q. n Δ v (g Δ v q))

  -- a symbol lowered to a type
  pub best_lowered : (Γ : Env) (x : ℕ) (A : T) {o : Option T} → Greatest (Sub 𝓢) (λ C. Sub 𝓢 C (Γ x) × Sub 𝓢 C A) o → Best (λ Δ. Sub 𝓢 (Δ x) A) Γ (map (extend 𝓢 Γ x) o)
  best_lowered Γ x A (nothing n) = stuck λ Δ w p. n (Δ x) (w x, p)
  best_lowered Γ x A (greatest {c = C} p m) = best (extend_below p.0 (λ y n. sub_refl (Γ y)))
      (rw (extend_same Γ x C) p.1) (λ Δ w q. below_extend (m (Δ x) (w x, q)) (λ y n. w y))
