-- Laws of the slots: one lent and met, the start, and where a slot is large enough. Assumes nothing.
use mathlib.Core.Path.{◌≡◌, refl, sym, ap, ◌∙◌}
use mathlib.Core.Bool.{Bool, true, false}
use mathlib.Core.Logic.{◌⊎◌, inl, inr}
use mathlib.Core.List.{List, [], ◌∷◌, ◌++◌}
use mathlib.Core.Option.{Option, none, some, some_inj}
use Prim.Native.Nat.{ℕ, zero, suc, ◌+◌, ◌-◌, ◌*◌, ◌≤◌, ◌<◌}
use native.Mathlib.Decide.{ℕ_discrete}
use native.Mathlib.Nat.{eq-or-lt_of_le}
use native.Mathlib.Omega.{arith}
use lib.ListN.{length, take, drop, set, length-append, length-drop, length-take, length-set}
use lib.Seq.{drop_at, take_at, drop-cons, drop-drop, take-take, take-set-le, take-append_seam, length-take-le, get_or-set_same}
use lib.Dec.{leb}
use borrow.Author.Tests.{le-leb, lt-leb, leb-true, leb-false}
use borrow.Rule.Slice.PartMut.{put_mid, take_put, drop_put, same_len_mid}
use Rattle.base.specs.Pick.{pick}
use Rattle.types.specs.Types.{meet}
use Rattle.types.specs.Prefix.{nodes}
use Rattle.types.specs.Version1.{types1, T, bytes}
use Rattle.types.proofs.Version1Laws.{length1}
use Rattle.buffers.specs.Over.{over, over_if}
use Rattle.buffers.proofs.OverLaws.{over_fits}
use Rattle.type_bytes.specs.Meets.{Meets}
use Rattle.std.proofs.Common.{Some, None}
use Rattle.calculus.specs.Figure2.{Env, extend}
use Rattle.calculus.specs.Version1.{signature1}
use Rattle.calculus.proofs.Environments.{extend_same, extend_other}
use Rattle.calculus.proofs.Capped.{Caps}
use Rattle.slots.specs.Slots.{slot_of, Holding, Holds, widest_of, Started, StartedAll, fitting, meet_in, Met}

window : (k m n : ℕ) (l : List ℕ) → n ≡ k + m → take m (drop k l) ≡ drop k (take n l)
window zero m n l e = let q : n ≡ m = omega arith in rw q
window (suc k) m zero l e = absurd (omega arith)
window (suc k) zero (suc n) [] e = refl
window (suc k) (suc m) (suc n) [] e = refl
window (suc k) m (suc n) (x ∷ l) e = window k m n l (omega arith)

-- slot s is lent, and came back as ys
module _ (w ys : List ℕ) (s at e : ℕ) (ha : at ≡ s * 129) (he : e ≡ at + 129) (hw : e ≤ length w) (hy : length ys ≡ 129) where
  abbrev new : List ℕ
  new = put_mid at (e - at) w ys

  slot_same : slot_of new s ≡ ys
  slot_same = rw (← ha, drop_at (take at w) (ys ++ drop (e - at) (drop at w)) at (length-take-le at w (omega arith)), take_at ys (drop (e - at) (drop at w)) 129 hy)

  slot_other : (r : ℕ) → ¬ (s ≡ r) → slot_of new r ≡ slot_of w r
  slot_other r n = go (leb s r) refl
    where
      go : (b : Bool) → leb s r ≡ b → slot_of new r ≡ slot_of w r
      go false f =
          let l : r < s = leb-false s r f in
          let q : r * 129 + 129 ≤ at = omega arith in
          rw (window (r * 129) 129 (r * 129 + 129) new refl, window (r * 129) 129 (r * 129 + 129) w refl, ← take-take (r * 129 + 129) at new q, ← take-take (r * 129 + 129) at w q, take_put at (e - at) w ys (omega arith))
      go true f =
          let l : s ≤ r = leb-true s r f in
          let m : s < r = omega (arith, n) in
          let q : e + (r * 129 - e) ≡ r * 129 = omega arith in
          rw (← q, ← drop-drop (r * 129 - e) e new, ← drop-drop (r * 129 - e) e w, drop_put at e w ys (omega arith) hw (omega arith))

fitting_none : (o : Option T) → ((c : T) → o ≡ some c → 129 < length (bytes c)) → fitting o ≡ none
unfolding fitting
fitting_none none h = refl
fitting_none (some c) h = rw (lt-leb _ 129 (h c refl))

fitting_some : (o : Option T) (c : T) → o ≡ some c → length (bytes c) ≤ 129 → fitting o ≡ some c
unfolding fitting
fitting_some o c e h = rw (e, le-leb _ 129 h)

pub met_past : (w o y : List ℕ) (s p at e : ℕ) → at ≡ s * 129 → e ≡ at + 129 → length w < e → Met w s y p o None
met_past w o y s p at e ha he h = record { left = λ Γ a x l k i. absurd (omega (arith, k.size)) }

-- what is lent of the array is slot s
pub here : (w : List ℕ) (s at e : ℕ) → at ≡ s * 129 → e ≡ at + 129 → (Γ : Env signature1) → s < 96 → Holds w Γ → (x : List ℕ) × (take (e - at) (drop at w) ≡ bytes (Γ s) ++ x)
here w s at e ha he Γ l k =
    let q : e - at ≡ 129 = omega arith in
    rw (q, ha) (k.slot s l)

module _ (w y : List ℕ) (s p at e : ℕ) (ha : at ≡ s * 129) (he : e ≡ at + 129) (hw : e ≤ length w) (z low : List ℕ) (hz : length z ≡ 129) where
  pub met_apart : (o : List ℕ) → Meets (take (e - at) (drop at w)) 0 y p z low None → Met w s y p o None
  met_apart o m = record {
    left = λ Γ a x l k i.
        let h = here w s at e ha he Γ l k in
        let n = fitting_none (meet types1 (Γ s) a) (λ c f. rw hz at (m.wrote (Γ s) a h.0 x h.1 i c f)) in
        rw n;
  }

  met_over : (n : ℕ) (ys : List ℕ) → Meets (take (e - at) (drop at w)) 0 y p z low (Some n) → ys ≡ over (take n low) (take (e - at) (drop at w))
      → Met w s y p (put_mid at (e - at) w ys) (Some tt)
  unfolding over
  met_over n ys m q = record {
    left = λ Γ a x l k i.
        let h = here w s at e ha he Γ l k in
        let (c, f, g, j) = m.wrote (Γ s) a h.0 x h.1 i in
        let v : n ≤ length z = m.fits in
        let d : n ≡ length (bytes c) = g in
        let u : take n low ≡ bytes c = rw (j, d) (take-append_seam (bytes c) (drop (length (bytes c)) z)) in
        (extend signature1 Γ s c, rw (fitting_some (meet types1 (Γ s) a) c f (omega arith)), holds Γ k c (rw u at q) (omega arith));
  }
    where
      slot_length : length (take (e - at) (drop at w)) ≡ 129
      slot_length = simp (length-take, length-drop) (omega arith)

      holds : (Γ : Env signature1) → Holds w Γ → (c : T) → ys ≡ bytes c ++ drop (length (bytes c)) (take (e - at) (drop at w)) → length (bytes c) ≤ 129 → Holds (put_mid at (e - at) w ys) (extend signature1 Γ s c)
      holds Γ k c j b =
          let hy : length ys ≡ 129 = rw j (simp (length-append, length-drop) (omega (arith, slot_length))) in
          record { size = same_len_mid at (e - at) w ys (hy ∙ sym slot_length) ∙ k.size; slot = λ r l. at_slot r l hy (ℕ_discrete s r) }
        where
          at_slot : (r : ℕ) → r < 96 → length ys ≡ 129 → Dec (s ≡ r) → (x : List ℕ) × (slot_of (put_mid at (e - at) w ys) r ≡ bytes (extend signature1 Γ s c r) ++ x)
          at_slot r l hy (yes f) = rw (← f, extend_same signature1 Γ s c) (drop (length (bytes c)) (take (e - at) (drop at w)), slot_same w ys s at e ha he hw hy ∙ j)
          at_slot r l hy (no f) = rw (extend_other signature1 Γ s r c f, slot_other w ys s at e ha he hw hy r f) (k.slot r l)

  pub met_put : (n : ℕ) (ys : List ℕ) → Meets (take (e - at) (drop at w)) 0 y p z low (Some n) → ys ≡ over_if (take n low) (take (e - at) (drop at w))
      → Met w s y p (put_mid at (e - at) w ys) (Some tt)
  met_put n ys m q = met_over n ys m (q ∙ over_fits (take n low) (take (e - at) (drop at w)) (simp (length-take, length-drop) (omega (arith, m.fits))))

-- ── The start ──

pub started_none : (s w : List ℕ) → StartedAll s 0 w w
started_none s w = record { started = λ h. record { size = h; slot = λ x l. absurd (omega arith) } }

pub started_more : (s w z o : List ℕ) (x : ℕ) → x < 96 → StartedAll s x w z → Started s x z o → StartedAll s (x + 1) w o
started_more s w z o x l p q = record { started = λ h. q.started l (p.started h) }

pub started_out : (s w : List ℕ) (x at : ℕ) → at ≡ x * 129 → length w ≤ at → Started s x w w
started_out s w x at ha h = record { started = λ l k. absurd (omega (arith, k.size)) }

pub started_set : (s w : List ℕ) (x at b : ℕ) → at ≡ x * 129 → at < length w → bytes (widest_of s x) ≡ b ∷ [] → Started s x w (set w at b)
started_set s w x at b ha h e = record { started = λ l k. record { size = length-set w at b ∙ k.size; slot = λ r m. go r k (eq-or-lt_of_le m) } }
  where
    go : (r : ℕ) → Holding x w (widest_of s) → (suc r ≡ x + 1) ⊎ (suc r < x + 1) → (l : List ℕ) × (slot_of (set w at b) r ≡ bytes (widest_of s r) ++ l)
    go r k (inl q) =
        let p : r ≡ x = omega arith in
        let d : drop at (set w at b) ≡ b ∷ drop (suc at) (set w at b) = drop-cons (set w at b) at 0 (rw (length-set w at b) h) ∙ ap (λ (n : ℕ). n ∷ drop (suc at) (set w at b)) (get_or-set_same w at b 0 h) in
        rw (p, e, ← ha, d) (take 128 (drop (suc at) (set w at b)), refl)
    go r k (inr q) =
        let n : r * 129 + 129 ≤ at = omega arith in
        let d : slot_of (set w at b) r ≡ slot_of w r = rw (window (r * 129) 129 (r * 129 + 129) (set w at b) refl, window (r * 129) 129 (r * 129 + 129) w refl, take-set-le (r * 129 + 129) w at b n) in
        rw d (k.slot r (omega arith))

-- ── A slot is large enough ──

pub caps : Caps signature1 129 meet_in
unfolding fitting
caps a b = go (meet types1 a b)
  where
    fit : (c : T) (t : Bool) → leb (length (bytes c)) 129 ≡ t → (pick t (some c) none ≡ some c) ⊎ ((pick t (some c) none ≡ none) × ((d : T) → ◌≡◌ {A = Option T} (some c) (some d) → 129 < nodes types1 d))
    fit c true q = inl refl
    fit c false q = inr (
      refl,
      λ d e.
          let p : c ≡ d = some_inj.0 e in
          let l : 129 < length (bytes c) = leb-false (length (bytes c)) 129 q in
          rw (← p) (omega (arith, length1 c)),
    )

    go : (o : Option T) → (fitting o ≡ o) ⊎ ((fitting o ≡ none) × ((c : T) → o ≡ some c → 129 < nodes types1 c))
    go none = inl refl
    go (some c) = fit c (leb (length (bytes c)) 129) refl
