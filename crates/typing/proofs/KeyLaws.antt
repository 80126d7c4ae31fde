-- Steps of the key needs. Assumes nothing.
use mathlib.Core.Path.{◌≡◌, refl, sym, ◌∙◌}
use mathlib.Core.Bool.{Bool, true, false}
use mathlib.Core.List.{List, [], ◌∷◌}
use mathlib.Core.Option.{Option, none, some, bind}
use Prim.Native.Nat.{ℕ, zero, suc, ◌+◌, ◌-◌, ◌<◌}
use native.Mathlib.Numerals.{add-one}
use native.Mathlib.Omega.{arith}
use lib.Dec.{eqb}
use lib.ListN.{get_or}
use Rattle.types.specs.Types.{Basic}
use Rattle.types.specs.Prefix.{encoded}
use Rattle.types.specs.Version1.{shkey, code1}
use Rattle.calculus.specs.Figure2.{Env}
use Rattle.calculus.specs.Inference.{needs, push_all, needs_at, needs_of}
use Rattle.calculus.specs.Version1.{signature1}
use Rattle.std.proofs.Common.{Some, None}
use Rattle.slots.specs.Fit.{Fit}
use Rattle.slots.specs.Terms.{code_at, part_at, entry}
use Rattle.slots.specs.Slots.{Holds, Left, meet_in}
use Rattle.slots.specs.Push.{Pushed}
use Rattle.slots.proofs.TermLaws.{entry_symbol, entry_pair, entry_seal}
use Rattle.typing.specs.Stages.{KeyPut, KeysTo}

-- nothing follows
pub left_bind : (o : Option (Env signature1)) (q : List ℕ) (r : Fit) → Left o q r → Left (bind o (λ Θ. some Θ)) q r
unfolding bind
left_bind o q (Some u) (Θ, e, h) = rw e (Θ, refl, h)
left_bind o q None e = rw e

pub key_unmarked : (w s : List ℕ) (u : ℕ) (b : Bool) → b ≡ false → KeyPut w s u b w (Some tt)
unfolding needs_at
key_unmarked w s u b e = record { left = λ Γ r h. rw e (Γ, refl, h) }

module _ (w s : List ℕ) (u : ℕ) (b : Bool) (hb : b ≡ true) (c : ℕ) (hc : c ≡ code_at s u) where
  pub key_none : ¬ (c ≡ 2) → KeyPut w s u b w (Some tt)
  unfolding needs_at needs push_all
  key_none n = record { left = λ Γ r h. rw hb (go (code_at s u) refl (λ q. n (hc ∙ q)) (r.known u) Γ h) }
    where
      go : (c : ℕ) → code_at s u ≡ c → ¬ (c ≡ 2) → c < 3 → (Γ : Env signature1) → Holds w Γ → Left (needs_at signature1 meet_in (entry s) true (entry s u) Γ) w (Some tt)
      go zero e n l Γ h = rw (entry_symbol s u e) (Γ, refl, h)
      go (suc zero) e n l Γ h = rw (entry_pair s u e) (Γ, refl, h)
      go (suc (suc zero)) e n l Γ h = absurd (n refl)
      go (suc (suc (suc c))) e n l Γ h = absurd (omega arith)

  pub key_some : (j : ℕ) (o : List ℕ) (r : Fit) → c ≡ 2 → j ≡ part_at s u 1 → Pushed w s j (3 ∷ []) 0 o r → KeyPut w s u b o r
  unfolding needs_at needs push_all encoded code1
  key_some j o r e q v = record {
    left = λ Γ t h. rw (hb, entry_seal s u (sym hc ∙ e), ← q) (left_bind _ o r (v.left Γ (Basic shkey) [] t h refl (omega arith)));
  }

-- ── The loop over the terms ──

pub keys_start : (w s l : List ℕ) → KeysTo 0 w s l w (Some tt)
unfolding needs_of
keys_start w s l = record { left = λ m Γ b r h. (Γ, refl, h) }

needs_none : (d n : ℕ) (s : List ℕ) (m : ℕ → Bool) (Γ : Env signature1) → needs_of signature1 meet_in (entry s) m n Γ ≡ none → needs_of signature1 meet_in (entry s) m (d + n) Γ ≡ none
unfolding needs_of bind
needs_none zero n s m Γ e = let q : 0 + n ≡ n = omega arith in rw q e
needs_none (suc d) n s m Γ e = let q : suc d + n ≡ suc (d + n) = omega arith in rw (q, needs_none d n s m Γ e)

module _ (w s l o₁ o : List ℕ) (u : ℕ) (b : Bool) (hb : b ≡ eqb (get_or l u 0) 1) (hu : u < 256) (v : KeysTo u w s l o₁ (Some tt)) where
  pub keys_more : KeyPut o₁ s u b o (Some tt) → KeysTo (u + 1) w s l o (Some tt)
  unfolding needs_of bind
  keys_more p = record {
    left = λ m Γ d r h.
        let (Θ, e, g) = v.left m Γ d r h in
        let q : b ≡ m u = hb ∙ d.bit u hu in
        rw (add-one, e, ← q) (p.left Θ r g);
  }

  pub keys_stop : (n : ℕ) → u < n → KeyPut o₁ s u b o None → KeysTo n w s l o None
  unfolding needs_of bind
  keys_stop n i p = record {
    left = λ m Γ d r h.
        let (Θ, e, g) = v.left m Γ d r h in
        let q : b ≡ m u = hb ∙ d.bit u hu in
        let z : needs_of signature1 meet_in (entry s) m (suc u) Γ ≡ none = rw (e, ← q) (p.left Θ r g) in
        let k : n ≡ (n - suc u) + suc u = omega arith in
        rw k (needs_none (n - suc u) (suc u) s m Γ z);
  }
