-- Steps of what a step wants of its terms. Assumes nothing.
use mathlib.Core.Path.{◌≡◌, refl, sym, ap, ◌∙◌}
use mathlib.Core.List.{List, [], ◌∷◌, ◌++◌}
use mathlib.Core.Option.{bind, some_inj}
use Prim.Native.Nat.{ℕ, zero, suc, ◌+◌, ◌-◌, ◌*◌, ◌≤◌, ◌<◌}
use native.Mathlib.Omega.{arith}
use lib.ListN.{length, take, drop, set, length-append, length-take, length-set}
use borrow.Rule.Slice.PartMut.{put_mid}
use Rattle.table_layout.specs.Layout.{step_field}
use Rattle.types.specs.Types.{Basic, Cipher, Pair}
use Rattle.types.specs.Prefix.{encoded}
use Rattle.types.specs.Version1.{T, bytes, channel, shkey, shared, code1}
use Rattle.buffers.specs.Over.{over}
use Rattle.std.specs.Prelude.{unwrap_or}
use Rattle.type_bytes.specs.Lower.{Lower}
use Rattle.type_bytes.specs.Meets.{Copied}
use Rattle.std.proofs.Common.{Some, None}
use Rattle.buffers.proofs.Parts.{part_length}
use Rattle.buffers.proofs.OverLaws.{over_lent, rest_length, rest_over, rest_kept}
use Rattle.calculus.specs.Figure2.{Env}
use Rattle.calculus.specs.Inference.{wants, push, push_all}
use Rattle.calculus.specs.Version1.{signature1}
use Rattle.decoded.specs.Table.{act_of, step_at}
use Rattle.slots.specs.Fit.{Fit}
use Rattle.slots.specs.Slots.{slot_of, Holds}
use Rattle.slots.specs.Push.{Pushed}
use Rattle.typing.specs.Stages.{SlotPut, PairPut, CipherPut, SplitPut, OpenPut, WantsPut, code_of}
use Rattle.typing.proofs.KeyLaws.{left_bind}

-- ── A slot's type copied ──

slot_small : (w : List ℕ) (s : ℕ) (Γ : Env signature1) → s < 96 → Holds w Γ → length (bytes (Γ s)) ≤ 129
slot_small w s Γ l k =
    let (x, q) = k.slot s l in
    let r : length (slot_of w s) ≡ length (bytes (Γ s)) + length x = ap (λ (v : List ℕ). length v) q ∙ length-append (bytes (Γ s)) x in
    omega (arith, r, length-take 129 (drop (s * 129) w))

-- v is slot s
module _ (w z : List ℕ) (s : ℕ) (v : List ℕ) (hv : v ≡ slot_of w s) where
  pub slot_copied : (o : List ℕ) (r : Lower) → Copied v 0 z o r → SlotPut w s z o (unwrap_or r 0)
  slot_copied o None c = record {
    fits = omega arith;
    wrote = λ Γ h k m. let (x, q) = k.slot s h in absurd (omega (arith, c.wrote (Γ s) x (hv ∙ q) (Γ s) refl, slot_small w s Γ h k));
  }
  slot_copied o (Some n) c = record {
    fits = c.fits;
    wrote = λ Γ h k m.
        let (x, q) = k.slot s h in
        let (t, f, g, j) = c.wrote (Γ s) x (hv ∙ q) in
        let r : Γ s ≡ t = some_inj.0 f in
        (rw r g, rw r j, omega (arith, slot_small w s Γ h k, ap (λ (v : T). length (bytes v)) r));
  }

-- a first byte h, and the rest of the buffer, m₁ bytes, lent for a slot's type
module _ (w z : List ℕ) (h m₁ : ℕ) (hz : length z ≡ 259) (h₁ : m₁ ≡ 258) (x : ℕ) (y₁ : List ℕ) (n : ℕ) where
  abbrev z₁ : List ℕ
  z₁ = take m₁ (drop 1 (set z 0 h))

  abbrev x₁ : List ℕ
  x₁ = put_mid 1 m₁ (set z 0 h) y₁

  all_rest : m₁ ≡ length (set z 0 h) - 1
  all_rest = simp length-set (omega (arith, hz, h₁))

  z₁_length : length z₁ ≡ 258
  z₁_length = let r : length z₁ ≡ length z - 1 = rw all_rest (rest_length z h) in omega (arith, r, hz)

  module _ (p : SlotPut w x z₁ y₁ n) where
    first_part : (Γ : Env signature1) → x < 96 → Holds w Γ → x₁ ≡ over (h ∷ bytes (Γ x)) z
    first_part Γ l k = rw all_rest (rest_over z h y₁ (omega (arith, hz)) (bytes (Γ x)) (rw all_rest at (p.wrote Γ l k (omega (arith, z₁_length))).1))

    pub cipher_put : h ≡ 5 → CipherPut w x x₁
    unfolding over encoded code1
    cipher_put e = record { wrote = λ Γ l k. (drop (length (h ∷ bytes (Γ x))) z, first_part Γ l k ∙ ap (λ (b : ℕ). (b ∷ bytes (Γ x)) ++ drop (length (h ∷ bytes (Γ x))) z) e) }

    pub pair_put : h ≡ 4 → length y₁ ≡ length z₁ → (y m m₂ n₂ : ℕ) (y₂ : List ℕ) → m ≡ n + 1 → m₂ ≡ 259 - m → SlotPut w y (take m₂ (drop m x₁)) y₂ n₂ → PairPut w x y (put_mid m m₂ x₁ y₂)
    unfolding over encoded code1
    pair_put e hy y m m₂ n₂ y₂ hm h₂ p₂ = record {
      wrote = λ Γ l l' k.
          let (a, b, c) = p.wrote Γ l k (omega (arith, z₁_length)) in
          let hx : length x₁ ≡ length z = rw all_rest (rest_kept z h y₁ (rw all_rest at hy)) in
          let q₂ : m₂ ≡ length x₁ - m = omega (arith, hx, hz, h₂) in
          let r : length (take m₂ (drop m x₁)) ≡ m₂ = rw q₂ (part_length m x₁) in
          let q = over_lent (h ∷ bytes (Γ x)) (bytes (Γ y)) z x₁ y₂ m (omega arith) (first_part Γ l k) (rw q₂ at (p₂.wrote Γ l' k (omega (arith, r, h₂))).1) in
          (drop (length ((h ∷ bytes (Γ x)) ++ bytes (Γ y))) z, rw q₂ q ∙ ap (λ (b : ℕ). ((b ∷ bytes (Γ x)) ++ bytes (Γ y)) ++ drop (length ((h ∷ bytes (Γ x)) ++ bytes (Γ y))) z) e);
    }

-- ── The wants of each kind of step ──

-- what is wanted has at most 259 bytes
pair_small : (w : List ℕ) (x y : ℕ) (Γ : Env signature1) → x < 96 → y < 96 → Holds w Γ → length (bytes (Pair (Γ x) (Γ y))) ≤ 259
unfolding encoded code1
pair_small w x y Γ h k d =
    omega (arith, length-append (bytes (Γ x)) (bytes (Γ y)), slot_small w x Γ h d, slot_small w y Γ k d)

cipher_small : (w : List ℕ) (x : ℕ) (Γ : Env signature1) → x < 96 → Holds w Γ → length (bytes (Cipher shared (Γ x))) ≤ 259
unfolding encoded code1
cipher_small w x Γ h d = omega (arith, slot_small w x Γ h d)

module _ (w s : List ℕ) (k : ℕ) where
  pub split_put : (a x y : ℕ) (o q : List ℕ) (r : Fit) → a ≡ step_field s k 0 → x ≡ step_field s k 2 → y ≡ step_field s k 3
      → PairPut w x y q → Pushed w s a q 0 o r → SplitPut w s k o r
  split_put a x y o q r ha hx hy p v = record {
    left = λ Γ t h d.
        let (f, g) = t.slotted_steps k h in
        let (l, i) = p.wrote Γ (rw hx f) (rw hy g) d in
        rw (← ha, ← hx, ← hy) (v.left Γ (Pair (Γ x) (Γ y)) l t d i (pair_small w x y Γ (rw hx f) (rw hy g) d));
  }

  module _ (a x : ℕ) (q o₁ : List ℕ) (ha : a ≡ step_field s k 0) (hx : x ≡ step_field s k 2) (p : CipherPut w x q) where
    pub open_stop : Pushed w s a q 0 o₁ None → OpenPut w s k o₁ None
    unfolding push_all bind
    open_stop v = record {
      left = λ Γ t h d.
          let (l, i) = p.wrote Γ (rw hx (t.slotted_steps k h).0) d in
          rw (← ha, ← hx, v.left Γ (Cipher shared (Γ x)) l t d i (cipher_small w x Γ (rw hx (t.slotted_steps k h).0) d));
    }

    pub open_put : (b : ℕ) (o : List ℕ) (r : Fit) → b ≡ step_field s k 1 → Pushed w s a q 0 o₁ (Some tt) → Pushed o₁ s b (3 ∷ []) 0 o r → OpenPut w s k o r
    unfolding push_all bind encoded code1
    open_put b o r hb v u = record {
      left = λ Γ t h d.
          let (l, i) = p.wrote Γ (rw hx (t.slotted_steps k h).0) d in
          let (Θ, f, g) = v.left Γ (Cipher shared (Γ x)) l t d i (cipher_small w x Γ (rw hx (t.slotted_steps k h).0) d) in
          rw (← ha, ← hx, ← hb, f) (left_bind _ o r (u.left Θ (Basic shkey) [] t g refl (omega arith)));
    }

  module _ (op : ℕ) (hop : op ≡ code_of s k) where
    act_is : (n : ℕ) → op ≡ n → step_at s k ≡ act_of n (step_field s k 0) (step_field s k 1) (step_field s k 2) (step_field s k 3)
    unfolding step_at
    act_is n e = let q : code_of s k ≡ n = sym hop ∙ e in rw q

    pub wants_channel : (a : ℕ) (o : List ℕ) (r : Fit) → op ≤ 1 → a ≡ step_field s k 0 → Pushed w s a (2 ∷ []) 0 o r → WantsPut w s k o r
    unfolding push_all push wants act_of bind encoded code1
    wants_channel a o r l ha v = go op refl l
      where
        go : (n : ℕ) → op ≡ n → n ≤ 1 → WantsPut w s k o r
        go zero e l = record { left = λ Γ t h d. rw (act_is 0 e, ← ha) (left_bind _ o r (v.left Γ (Basic channel) [] t d refl (omega arith))) }
        go (suc zero) e l = record { left = λ Γ t h d. rw (act_is 1 e, ← ha) (left_bind _ o r (v.left Γ (Basic channel) [] t d refl (omega arith))) }
        go (suc (suc n)) e l = absurd (omega arith)

    pub wants_nothing : (op ≡ 4 → ⊥) → (op ≡ 5 → ⊥) → 2 ≤ op → WantsPut w s k w (Some tt)
    unfolding push_all push wants act_of bind
    wants_nothing m n l = go op refl
      where
        go : (n : ℕ) → op ≡ n → WantsPut w s k w (Some tt)
        go zero e = absurd (omega arith)
        go (suc zero) e = absurd (omega arith)
        go (suc (suc zero)) e = record { left = λ Γ t h d. rw (act_is 2 e) (Γ, refl, d) }
        go (suc (suc (suc zero))) e = record { left = λ Γ t h d. rw (act_is 3 e) (Γ, refl, d) }
        go (suc (suc (suc (suc zero)))) e = absurd (m e)
        go (suc (suc (suc (suc (suc zero))))) e = absurd (n e)
        go (suc (suc (suc (suc (suc (suc c)))))) e = record { left = λ Γ t h d. rw (act_is (suc (suc (suc (suc (suc (suc c)))))) e) (Γ, refl, d) }

    pub wants_split : (o : List ℕ) (r : Fit) → op ≡ 4 → SplitPut w s k o r → WantsPut w s k o r
    unfolding push_all wants act_of
    wants_split o r e v = record { left = λ Γ t h d. rw (act_is 4 e) (left_bind _ o r (v.left Γ t h d)) }

    pub wants_open : (o : List ℕ) (r : Fit) → op ≡ 5 → OpenPut w s k o r → WantsPut w s k o r
    unfolding wants act_of
    wants_open o r e v = record { left = λ Γ t h d. rw (act_is 5 e) (v.left Γ t h d) }
