-- Proofs of the statements of specs/Forest.antt. Assumes the law `Falls` of a table.
use mathlib.Core.Path.{◌≡◌, refl, sym, ◌∙◌}
use mathlib.Core.Bool.{Bool, true, false, cond, ◌||◌, decide}
use mathlib.Core.Option.{Option, none, some, Option-elim, some_inj, none-ne-some}
use mathlib.Core.Logic.{◌⊎◌, inl, inr}
use Prim.Native.Nat.{ℕ, zero, suc, ◌≤◌}
use native.Mathlib.Omega.{arith}
use Rattle.types.specs.Order.{Greatest, greatest, nothing}
use Rattle.types.specs.Forest.{Forest, Falls, Under, u_same, u_step, within, under, lower_of, UnderDecided}

module _ (𝓕 : Forest) where
  open 𝓕 use {Base, same, parent, depth}

  abbrev U : Base → Base → Type 0
  U a b = Under 𝓕 a b

  pub under_trans : {a b c : Base} → U a b → U b c → U a c
  under_trans u_same q = q
  under_trans (u_step e p) q = u_step e (under_trans p q)

  -- what lies under two, orders the two
  line : {d a b : Base} → U d a → U d b → U a b ⊎ U b a
  line u_same q = inl q
  line (u_step e p) q = go e p (λ b x. line p x) q
    where
      go : {d t a b : Base} → parent d ≡ some t → U t a → ((b : Base) → U t b → U a b ⊎ U b a) → U d b → U a b ⊎ U b a
      go e p h u_same = inr (u_step e p)
      go e p h (u_step {b = t'} f q) = h _ (rw (some_inj.0 (sym f ∙ e)) at q)

  under_eq : {a b : Base} → a ≡ b → U a b
  under_eq e = rw e u_same

  under_inv : {a b : Base} → U a b → (a ≡ b) ⊎ ((t : Base) × (parent a ≡ some t) × U t b)
  under_inv u_same = inl refl
  under_inv (u_step {b = t} e p) = inr (t, e, p)

  -- what the search finds is there
  step_sound : {a b : Base} {A : Type 0} {f : Base → Bool} (d : Dec A) (o : Option Base) → (A → U a b) → parent a ≡ o → ((t : Base) → f t ≡ true → U t b) → (decide d || Option-elim o false f) ≡ true → U a b
  unfolding decide Option-elim
  step_sound (yes e) o k q h r = k e
  step_sound (no n) none k q h r = absurd (let z : ◌≡◌ {A = ℕ} 0 1 = cc in omega arith)
  step_sound (no n) (some t) k q h r = u_step q (h t r)

  within_sound : (n : ℕ) (a b : Base) → within 𝓕 n a b ≡ true → U a b
  unfolding within decide
  within_sound zero a b r = go (same a b) r
    where
      go : (d : Dec (a ≡ b)) → decide d ≡ true → U a b
      go (yes e) r = under_eq e
      go (no n) r = absurd (let z : ◌≡◌ {A = ℕ} 0 1 = cc in omega arith)
  within_sound (suc n) a b r = step_sound (same a b) (parent a) (λ e. under_eq e) refl (λ t e. within_sound n t b e) r

  module _ (falls : Falls 𝓕) where
    depth_falls : {a b : Base} → U a b → depth b ≤ depth a
    depth_falls u_same = omega arith
    depth_falls (u_step {a = a} {b = b} e p) = let h = depth_falls p in let k = falls a b e in omega arith

    pub under_antisym : {a b : Base} → U a b → U b a → a ≡ b
    under_antisym u_same q = refl
    under_antisym (u_step {a = a} {b = b} {c = c} e p) q = absurd (let h = depth_falls p in let k = falls a b e in let j = depth_falls q in omega arith)

    -- what is there within the search's reach is found
    within_complete : (n : ℕ) {a b : Base} → depth a ≤ n → U a b → within 𝓕 n a b ≡ true
    unfolding within decide Option-elim
    within_complete zero {a} {b} h p = go (same a b) (under_inv p)
      where
        go : (d : Dec (a ≡ b)) → (a ≡ b) ⊎ ((t : Base) × (parent a ≡ some t) × U t b) → decide d ≡ true
        go (yes e) q = refl
        go (no n) (inl e) = absurd (n e)
        go (no n) (inr (t, e, q)) = absurd (let k = falls a t e in omega arith)
    within_complete (suc n) {a} {b} h p = go (same a b) (parent a) refl (under_inv p) (λ t k q. within_complete n k q)
      where
        go : (d : Dec (a ≡ b)) (o : Option Base) → parent a ≡ o → (a ≡ b) ⊎ ((t : Base) × (parent a ≡ some t) × U t b)
            → ((t : Base) → depth t ≤ n → U t b → within 𝓕 n t b ≡ true) → (decide d || Option-elim o false (λ t. within 𝓕 n t b)) ≡ true
        go (yes e) o r q f = refl
        go (no m) o r (inl e) f = absurd (m e)
        go (no m) none r (inr (t, e, q)) f = absurd (none-ne-some t (sym r ∙ e))
        go (no m) (some s) r (inr (t, e, q)) f = let i : t ≡ s = some_inj.0 (sym e ∙ r) in let k = falls a t e in rw i at (f t (omega arith) q)

    pub under_decided : UnderDecided 𝓕
    unfolding under
    under_decided a b = (λ e. within_sound (depth a) a b e, λ p. within_complete (depth a) (omega arith) p)

    pub lower_of_is_greatest : (a b : Base) → Greatest U (λ c. U c a × U c b) (lower_of 𝓕 a b)
    unfolding lower_of
    lower_of_is_greatest a b = go (under 𝓕 a b) refl (under 𝓕 b a) refl
      where
        no : {x y : Base} → under 𝓕 x y ≡ false → U x y → ⊥
        no {x} {y} e p = let z : true ≡ false = sym ((under_decided x y).1 p) ∙ e in let w : ◌≡◌ {A = ℕ} 0 1 = cc in omega arith

        neither : under 𝓕 a b ≡ false → under 𝓕 b a ≡ false → (d : Base) → U d a × U d b → ⊥
        neither n m d h = let k : U a b ⊎ U b a → ⊥ = elim [ inl i ↦ no n i | inr j ↦ no m j ] in k (line h.0 h.1)

        go : (d : Bool) → under 𝓕 a b ≡ d → (e : Bool) → under 𝓕 b a ≡ e → Greatest U (λ c. U c a × U c b) (cond d (some a) (cond e (some b) none))
        go true p e q = greatest (u_same, (under_decided a b).0 p) (λ d h. h.0)
        go false p true q = greatest ((under_decided b a).0 q, u_same) (λ d h. h.1)
        go false p false q = nothing (neither p q)
