-- What a reader's answer says of the text: the bytes that it took, that they are those of what it read, and that it would answer the same on every text that
-- goes on with the same byte. One law for each way in which readers are put together. Assumes nothing.
use mathlib.Core.Path.{◌≡◌, refl, sym, ap, ◌∙◌}
use mathlib.Core.Bool.{Bool, true, false, cond, false≢true}
use mathlib.Core.List.{List, [], ◌∷◌, ◌++◌, append_assoc}
use Prim.Native.Nat.{ℕ}
use lib.Dec.{eqb}
use lib.ListN.{drop}
use borrow.Author.Tests.{eqb-true}
use Rattle.text.specs.Reader.{Read, done, stuck, and_then, first}

-- two texts both end, or both go on with the same byte
pub data SameStart : List ℕ → List ℕ → Type 0 where
  both_end : SameStart [] []
  both_go : {b : ℕ} {r r' : List ℕ} → SameStart (b ∷ r) (b ∷ r')

pub same_start : (u : List ℕ) {r r' : List ℕ} → SameStart r r' → SameStart (u ++ r) (u ++ r')
same_start [] h = h
same_start (b ∷ u) h = both_go

pub same_first : {r r' : List ℕ} → SameStart r r' → first r' ≡ first r
same_first both_end = refl
same_first both_go = refl

module _ {C : Type 0} where
  -- K reads a C whose bytes, before k, are `B c k`; of these `q` was read before. It took u; where it is stuck, t is what would complete it
  pub data View (B : C → List ℕ → List ℕ) (Fits : C → Type 0) (q : List ℕ → List ℕ) (K : List ℕ → Read C) (s : List ℕ) : Read C → Type 0 where
    view_done : {c : C} {r : List ℕ} (u : List ℕ) → s ≡ u ++ r → ((k : List ℕ) → B c k ≡ q (u ++ k)) → Fits c
        → ((r' : List ℕ) → SameStart r r' → K (u ++ r') ≡ done c r') → View B Fits q K s (done c r)
    view_stuck : {c : C} {r : List ℕ} (u t : List ℕ) → s ≡ u ++ r → ((k : List ℕ) → B c k ≡ q (u ++ (t ++ k))) → Fits c
        → ((r' : List ℕ) → SameStart r r' → K (u ++ r') ≡ stuck c r') → View B Fits q K s (stuck c r)

  -- everything was read
  pub view_end : {B : C → List ℕ → List ℕ} {Fits : C → Type 0} {q : List ℕ → List ℕ} (c : C) (s : List ℕ) → ((k : List ℕ) → B c k ≡ q k) → Fits c
      → View B Fits q (λ r. done c r) s (done c s)
  view_end c s e f = view_done [] refl e f (λ r' h. refl)

  -- nothing can be read
  pub view_none : {B : C → List ℕ → List ℕ} {Fits : C → Type 0} {q : List ℕ → List ℕ} (c : C) (s t : List ℕ) → ((k : List ℕ) → B c k ≡ q (t ++ k)) → Fits c
      → View B Fits q (λ r. stuck c r) s (stuck c s)
  view_none c s t e f = view_stuck [] t refl e f (λ r' h. refl)

  -- the first byte is known, and read on behind it
  pub view_skip : {B : C → List ℕ → List ℕ} {Fits : C → Type 0} {q : List ℕ → List ℕ} {K : List ℕ → Read C} (b : ℕ) (s : List ℕ) {a : Read C}
      → View B Fits (λ k. q (b ∷ k)) K s a → View B Fits q (λ r. K (drop 1 r)) (b ∷ s) a
  view_skip b s (view_done u e w f l) = view_done (b ∷ u) (ap (λ (x : List ℕ). b ∷ x) e) w f l
  view_skip b s (view_stuck u t e w f l) = view_stuck (b ∷ u) t (ap (λ (x : List ℕ). b ∷ x) e) w f l

  -- a choice by the first byte
  pub chosen : {B : C → List ℕ → List ℕ} {Fits : C → Type 0} {q : List ℕ → List ℕ} {K L : List ℕ → Read C} (s : List ℕ) {a : Read C}
      → ((r : List ℕ) → SameStart s r → L r ≡ K r) → View B Fits q K s a → View B Fits q L s a
  chosen s h (view_done u e w f l) = view_done u e w f (λ r' g. h (u ++ r') (rw e (same_start u g)) ∙ l r' g)
  chosen s h (view_stuck u t e w f l) = view_stuck u t e w f (λ r' g. h (u ++ r') (rw e (same_start u g)) ∙ l r' g)

  pub view_choice : {B : C → List ℕ → List ℕ} {Fits : C → Type 0} {q : List ℕ → List ℕ} (b : ℕ) (K L : List ℕ → Read C) (s : List ℕ)
      → (eqb (first s) b ≡ true → View B Fits q K s (K s)) → (eqb (first s) b ≡ false → View B Fits q L s (L s))
      → View B Fits q (λ r. cond (eqb (first r) b) (K r) (L r)) s (cond (eqb (first s) b) (K s) (L s))
  view_choice {B} {Fits} {q} b K L s f g = go (eqb (first s) b) refl
    where
      go : (t : Bool) → eqb (first s) b ≡ t → View B Fits q (λ r. cond (eqb (first r) b) (K r) (L r)) s (cond t (K s) (L s))
      go true e = chosen s (λ r h. rw (same_first h, e)) (f e)
      go false e = chosen s (λ r h. rw (same_first h, e)) (g e)

module _ {A C : Type 0} where
  -- one reader, then another
  pub view_then : {BA : A → List ℕ → List ℕ} {FitsA : A → Type 0} {B : C → List ℕ → List ℕ} {Fits : C → Type 0} {q : List ℕ → List ℕ}
      (P : List ℕ → Read A) (f : A → C) (K : A → List ℕ → Read C) (s : List ℕ)
      → View BA FitsA (λ k. k) P s (P s)
      → ((a : A) → FitsA a → (t : List ℕ) × ((k : List ℕ) → B (f a) k ≡ q (BA a (t ++ k))) × Fits (f a))
      → ((a : A) (r : List ℕ) → P s ≡ done a r → FitsA a → View B Fits (λ k. q (BA a k)) (K a) r (K a r))
      → View B Fits q (λ r. and_then (P r) f K) s (and_then (P s) f K)
  unfolding and_then
  view_then {BA} {FitsA} {B} {Fits} {q} P f K s v c w = go (P s) refl v
    where
      second : (a : A) (r u : List ℕ) → s ≡ u ++ r → ((k : List ℕ) → BA a k ≡ u ++ k) → ((r' : List ℕ) → SameStart r r' → P (u ++ r') ≡ done a r')
          → (x : Read C) → View B Fits (λ k. q (BA a k)) (K a) r x → View B Fits q (λ r. and_then (P r) f K) s x
      second a r u e p l (done d r₂) (view_done u₂ e₂ p₂ fits l₂) =
          view_done {c = d} {r = r₂} (u ++ u₂) (rw (append_assoc u u₂ r₂, e, e₂)) (λ k. p₂ k ∙ ap q (p (u₂ ++ k) ∙ sym (append_assoc u u₂ k))) fits
          (λ r' h. rw (append_assoc u u₂ r', l (u₂ ++ r') (rw e₂ (same_start u₂ h))) (l₂ r' h))
      second a r u e p l (stuck d r₂) (view_stuck u₂ t e₂ p₂ fits l₂) =
          view_stuck {c = d} {r = r₂} (u ++ u₂) t (rw (append_assoc u u₂ r₂, e, e₂)) (λ k. p₂ k ∙ ap q (p (u₂ ++ (t ++ k)) ∙ sym (append_assoc u u₂ (t ++ k)))) fits
          (λ r' h. rw (append_assoc u u₂ r', l (u₂ ++ r') (rw e₂ (same_start u₂ h))) (l₂ r' h))

      go : (x : Read A) → P s ≡ x → View BA FitsA (λ k. k) P s x → View B Fits q (λ r. and_then (P r) f K) s (and_then x f K)
      go (done a r) d (view_done u e p fits l) = second a r u e p l (K a r) (w a r d fits)
      go (stuck a r) d (view_stuck u t e p fits l) =
          let (t₂, p₂, fits₂) = c a fits in
          view_stuck u (t ++ t₂) e (λ k. p₂ k ∙ ap q (p (t₂ ++ k) ∙ ap (λ (x : List ℕ). u ++ x) (sym (append_assoc t t₂ k)))) fits₂ (λ r' h. rw (l r' h))

-- read on behind a byte that was tested
pub view_behind : {C : Type 0} {B : C → List ℕ → List ℕ} {Fits : C → Type 0} {q : List ℕ → List ℕ} (b : ℕ) (K : List ℕ → Read C) → eqb 0 b ≡ false → (s : List ℕ)
    → eqb (first s) b ≡ true → ((s' : List ℕ) → s ≡ b ∷ s' → View B Fits (λ k. q (b ∷ k)) K s' (K s')) → View B Fits q (λ r. K (drop 1 r)) s (K (drop 1 s))
view_behind b K z [] e v = absurd (false≢true (sym z ∙ e))
view_behind {C} {B} {Fits} {q} b K z (c ∷ s) e v =
    let h : c ≡ b = eqb-true c b e in
    rw h (view_skip b s (v s (rw h)))
