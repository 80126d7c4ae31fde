-- Types counted, and written one after the other. Assumes nothing.
use mathlib.Core.Path.{◌≡◌, refl, sym, ap, ◌∙◌}
use mathlib.Core.List.{List, [], ◌∷◌, ◌++◌, append-nil}
use Prim.Native.Nat.{ℕ, suc, ◌+◌, ◌-◌, ◌≤◌, ◌<◌}
use native.Mathlib.Omega.{arith}
use lib.ListN.{length, take, drop, length-append, length-drop}
use borrow.Rule.Slice.PartMut.{put_mid}
use Rattle.entries.specs.Tiling.{listed, joined}
use Rattle.entries.proofs.Tiling.{listed_add, joined_append}
use Rattle.types.specs.Version1.{T, bytes}
use Rattle.buffers.specs.Over.{over, over_if}
use Rattle.buffers.proofs.Parts.{part_from}
use Rattle.buffers.proofs.OverLaws.{over_none, over_fits, over_lent, lent_length, lent_rest, with_rest, rest_length, rest_over}
use Rattle.calculus.specs.Figure2.{Env}
use Rattle.calculus.specs.Version1.{signature1}
use Rattle.slots.specs.Slots.{Holds}
use Rattle.decoded_list.specs.Bytes.{type_with_length, types_bytes, types_to}
use Rattle.type_lists.specs.Lists.{TypeIs, SizeIs, TypePut, TypesPut}

-- the bytes of one type more
types_more : (Γ : Env signature1) (x : ℕ) → types_bytes (types_to Γ (x + 1)) ≡ types_bytes (types_to Γ x) ++ type_with_length (Γ x)
unfolding joined listed
types_more Γ x =
    let from : 0 + x ≡ x = omega arith in
    let q : listed Γ 0 (x + 1) ≡ types_to Γ x ++ (Γ x ∷ []) = rw from at (listed_add Γ 0 x 1) in
    ap (λ (l : List T). joined type_with_length l) q ∙ joined_append type_with_length (types_to Γ x) (Γ x ∷ []) ∙ ap (λ (l : List ℕ). types_bytes (types_to Γ x) ++ l) (append-nil (type_with_length (Γ x)))

more_length : (Γ : Env signature1) (x : ℕ) → length (types_bytes (types_to Γ (x + 1))) ≡ length (types_bytes (types_to Γ x)) + length (type_with_length (Γ x))
more_length Γ x = ap (λ (l : List ℕ). length l) (types_more Γ x) ∙ length-append (types_bytes (types_to Γ x)) (type_with_length (Γ x))

entry_length : (A : T) → length (type_with_length A) ≡ suc (length (bytes A))
unfolding type_with_length
entry_length A = refl

-- ── Counted ──

pub size_none : (w : List ℕ) → SizeIs w 0 0
unfolding joined listed
size_none w = record { small = omega arith; is = λ Γ h k. refl }

pub size_more : (w : List ℕ) (x size : ℕ) (t : List ℕ) → SizeIs w x size → TypeIs w x t → SizeIs w (x + 1) (size + (length t + 1))
size_more w x size t s i = record {
  small = omega (arith, s.small, i.small);
  is = λ Γ h k.
      let q : length t ≡ length (bytes (Γ x)) = ap (λ (l : List ℕ). length l) (i.is Γ (omega arith) k) in
      omega (arith, s.is Γ (omega arith) k, q, more_length Γ x, entry_length (Γ x));
}

pub size_end : (w : List ℕ) (x n size : ℕ) → x ≤ n → n ≤ x → SizeIs w x size → SizeIs w n size
size_end w x n size h l s = let q : x ≡ n = omega arith in rw q at s

-- ── One written ──

module _ (w z : List ℕ) (x : ℕ) (t : List ℕ) (i : TypeIs w x t) where
  pub put_short : length z < length t + 1 → TypePut w x z z 0
  put_short l = record {
    fits = omega arith;
    wrote = λ Γ h k m. absurd (omega (arith, entry_length (Γ x), ap (λ (l : List ℕ). length l) (i.is Γ h k)));
  }

  module _ (l : length t + 1 ≤ length z) (b : ℕ) (hb : b ≡ length t) (ys : List ℕ) where
    pub put_whole : ys ≡ over_if t (lent_rest z b) → TypePut w x z (with_rest z b ys) (length t + 1)
    unfolding type_with_length
    put_whole q = record {
      fits = l;
      wrote = λ Γ h k m.
          let e : t ≡ bytes (Γ x) = i.is Γ h k in
          let f : ys ≡ over t (lent_rest z b) = q ∙ over_fits t (lent_rest z b) (omega (arith, rest_length z b)) in
          (omega (arith, entry_length (Γ x), ap (λ (l : List ℕ). length l) e), rest_over z b ys (omega arith) t f ∙ rw (hb, e) refl);
    }

-- ── All written ──

-- the first x types were written, where they fit: they end at a place
pub record Reached (w : List ℕ) (x at : ℕ) (z o : List ℕ) : Type 0 where
  pub inside : at ≤ length z
  pub kept : length o ≡ length z
  pub wrote : (Γ : Env signature1) → x ≤ 96 → Holds w Γ → length (types_bytes (types_to Γ x)) ≤ length z
      → (at ≡ length (types_bytes (types_to Γ x))) × (o ≡ over (types_bytes (types_to Γ x)) z)

pub reached_none : (w z : List ℕ) → Reached w 0 0 z z
unfolding joined listed
reached_none w z = record { inside = omega arith; kept = refl; wrote = λ Γ h k m. (refl, over_none z) }

module _ (w : List ℕ) (x at : ℕ) (z xs : List ℕ) (p : Reached w x at z xs) where
  abbrev part : List ℕ
  part = take (length xs - at) (drop at xs)

  part_size : length part ≡ length z - at
  part_size = rw part_from (simp (length-drop) (omega (arith, p.kept)))

  pub reached_more : (ys : List ℕ) (r : ℕ) → length ys ≡ length part → TypePut w x part ys r → Reached w (x + 1) (at + r) z (put_mid at (length xs - at) xs ys)
  reached_more ys r s q = record {
    inside = omega (arith, q.fits, part_size, p.inside);
    kept = lent_length at xs ys s ∙ p.kept;
    wrote = λ Γ h k m.
        let (e, f) = p.wrote Γ (omega arith) k (omega (arith, more_length Γ x)) in
        let (g, j) = q.wrote Γ (omega arith) k (omega (arith, more_length Γ x, part_size, e)) in
        (omega (arith, e, g, more_length Γ x), over_lent (types_bytes (types_to Γ x)) (type_with_length (Γ x)) z xs ys at e f j ∙ ap (λ (l : List ℕ). over l z) (sym (types_more Γ x)));
  }

pub reached_all : (w : List ℕ) (x n at : ℕ) (z o : List ℕ) → x ≤ n → n ≤ x → Reached w x at z o → TypesPut w n z o
reached_all w x n at z o h l p = let q : x ≡ n = omega arith in rw (← q) (record { wrote = λ Γ h k m. (p.wrote Γ h k m).1 })
