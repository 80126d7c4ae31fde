-- The reader that counts the types still wanted: one law for each class of code, and for each way out. Assumes nothing.
use mathlib.Core.Path.{◌≡◌, refl, sym, ap, ◌∙◌}
use mathlib.Core.List.{List, ◌++◌, append_assoc}
use mathlib.Core.Option.{none, some}
use Prim.Native.Nat.{ℕ, zero, suc, ◌+◌, ◌-◌, ◌≤◌, ◌<◌}
use native.Mathlib.Omega.{arith}
use lib.ListN.{length, drop, get_or, length-append, length-drop}
use Rattle.types.specs.Types.{Cipher, Pair}
use Rattle.types.specs.Prefix.{encoded, EndIs}
use Rattle.types.specs.Version1.{T, bytes, shared, code1, codes1}
use Rattle.types.proofs.Version1Laws.{code_laws1, byte_whole, byte_unknown}
use Rattle.types.proofs.PrefixLaws.{ends_past, ends_unknown, ends_whole, ends_type}
use Rattle.type_bytes.proofs.EndLaws.{from, head_is, in_pair, in_cipher, as_pair, as_cipher, bytes_some}

-- the list l is n types, then r
unfoldable pub Types : ℕ → List ℕ → List ℕ → Type 0
Types zero l r = l ≡ r
Types (suc n) l r = (A : T) × (m : List ℕ) × (l ≡ bytes A ++ m) × Types n m r

-- what stands from p on is one type, then r, exactly if what stands from `at` on is n types, then r
pub record Wants (s : List ℕ) (p at n : ℕ) : Type 0 where
  pub forth : (A : T) (r : List ℕ) → drop p s ≡ bytes A ++ r → Types n (drop at s) r
  pub back : (r : List ℕ) → Types n (drop at s) r → (A : T) × (drop p s ≡ bytes A ++ r)
  pub inside : p < at → at ≤ length s

module _ (s : List ℕ) (p : ℕ) where
  -- one type is wanted at first
  pub wants_start : Wants s p p 1
  unfolding Types
  wants_start = record {
    forth = λ A r e. (A, r, e, refl);
    back = λ r w. let (A, m, e, z) = w in (A, rw (← z) e);
    inside = λ h. absurd (omega arith);
  }

  -- none is wanted any more: the type has ended
  pub wants_none : (at n : ℕ) → n ≡ 0 → Wants s p at n → EndIs codes1 s p (some at)
  unfolding Types
  wants_none at n z w =
      let v : Wants s p at 0 = rw z at w in
      let (A, e) = v.back (drop at s) refl in
      let l : length s - p ≡ length (bytes A) + (length s - at) =
      sym (length-drop p s) ∙ ap length e ∙ length-append (bytes A) (drop at s) ∙ ap (λ (k : ℕ). length (bytes A) + k) (length-drop at s) in
      let after : p < at = omega (arith, bytes_some A) in
      (A, omega (arith, v.inside after), e)

-- ── A type is wanted at `at` ──

module _ (s : List ℕ) (p at w : ℕ) (some-wanted : 0 < w) (all : Wants s p at w) where
  g : Wants s p at (suc (w - 1))
  g = let e : w ≡ suc (w - 1) = omega arith in rw e at all

  -- none starts there
  no_end : EndIs codes1 s at none → EndIs codes1 s p none
  unfolding Types
  no_end d A r e = let (B, m, i, z) = g.forth A r e in d B m i

  pub wants_past : length s ≤ at → EndIs codes1 s p none
  wants_past h = no_end (ends_past codes1 code_laws1 s at h)

  module _ (h : at < length s) where
    pub wants_unknown : 6 ≤ get_or s at 0 → EndIs codes1 s p none
    wants_unknown u = no_end (ends_unknown codes1 code_laws1 s at h (byte_unknown (get_or s at 0) u))

    -- a whole type
    pub wants_whole : get_or s at 0 < 4 → Wants s p (at + 1) (w - 1)
    unfolding Types
    wants_whole u =
        let o : EndIs codes1 s at (some (at + 1)) = ends_whole codes1 code_laws1 s at h (byte_whole (get_or s at 0) u) in
        record {
          forth = λ A r e.
              let (B, m, i, z) = g.forth A r e in
              let q : drop (at + 1) s ≡ m = (ends_type codes1 code_laws1 s at (at + 1) o B m i).1 in
              rw q z;
          back = λ r z. g.back r (o.0, drop (at + 1) s, o.2, z);
          inside = λ k. omega arith;
        }

    -- a pair: two more types
    pub wants_pair : get_or s at 0 ≡ 4 → Wants s p (at + 1) (w + 1)
    unfolding Types encoded code1
    wants_pair u =
        let c : w + 1 ≡ suc (suc (w - 1)) = omega arith in
        rw c record {
          forth = λ A r e.
              let (B, m, i, z) = g.forth A r e in
              let (C, D, q) = as_pair B (sym u ∙ head_is s at h B m i) in
              let i' : drop at s ≡ bytes (Pair C D) ++ m = rw q at i in
              (C, bytes D ++ m, in_pair s at h C D m i', (D, m, refl, z));
          back = λ r y.
              let (C, k, i, y₁) = y in
              let (D, m, j, z) = y₁ in
              g.back r (Pair C D, m, from s at h ∙ rw (u, i, j, append_assoc (bytes C) (bytes D) m), z);
          inside = λ k. omega arith;
        }

    -- a ciphertext: one more
    pub wants_cipher : get_or s at 0 ≡ 5 → Wants s p (at + 1) w
    unfolding Types encoded code1
    wants_cipher u =
        let c : w ≡ suc (w - 1) = omega arith in
        rw c record {
          forth = λ A r e.
              let (B, m, i, z) = g.forth A r e in
              let (C, q) = as_cipher B (sym u ∙ head_is s at h B m i) in
              let i' : drop at s ≡ bytes (Cipher shared C) ++ m = rw q at i in
              (C, m, in_cipher s at h C m i', z);
          back = λ r y. let (C, m, i, z) = y in g.back r (Cipher shared C, m, from s at h ∙ rw (u, i), z);
          inside = λ k. omega arith;
        }
