-- What is kept in a buffer: its length, its values, and one more. Assumes nothing.
use mathlib.Core.Path.{◌≡◌, refl, sym, ap, ◌∙◌}
use mathlib.Core.List.{List, [], ◌∷◌, ◌++◌, append-nil}
use Prim.Native.Nat.{ℕ, ◌+◌, ◌*◌, ◌-◌, ◌<◌, ◌≤◌}
use native.Mathlib.Omega.{arith}
use lib.ListN.{length, take, drop, length-append}
use borrow.Rule.Slice.PartMut.{put_mid}
use Rattle.buffers.specs.Over.{over, over_if}
use Rattle.buffers.proofs.OverLaws.{over_fits, over_lent, over_length}
use Rattle.buffers.proofs.Parts.{part_length}
use Rattle.entries.proofs.Tiling.{joined_append}
use Rattle.entries.specs.Tiling.{joined}
use Rattle.calculus.specs.Terms.{Atom}
use Rattle.calculus.specs.Tables.{Entry}
use Rattle.calculus.specs.Version1.{signature1}
use Rattle.value_table.specs.Values.{table_at, five_bytes, value_bytes}
use Rattle.value_table.specs.Kept.{Kept, Appended}
use Rattle.value_table.proofs.Reading.{value_bytes_length, table_there}

-- ── Things of five bytes, one after the other ──

pub five_length : (t a b : ℕ) → length (five_bytes t a b) ≡ 5
unfolding five_bytes
five_length t a b = refl

module _ {A : Type 0} (g : A → List ℕ) where
  -- one more
  pub joined_more : (xs : List A) (x : A) → joined g (xs ++ (x ∷ [])) ≡ joined g xs ++ g x
  unfolding joined
  joined_more xs x = joined_append g xs (x ∷ []) ∙ ap (λ (l : List ℕ). joined g xs ++ l) (append-nil (g x))

  -- their bytes
  pub joined_length : ((x : A) → length (g x) ≡ 5) → (xs : List A) → length (joined g xs) ≡ 5 * length xs
  unfolding joined
  joined_length f [] = refl
  joined_length f (x ∷ xs) = rw length-append (omega (arith, f x, joined_length f xs))

-- ── Appended ──

pub appended_past : (v : List ℕ) (n t a b : ℕ) → length v < 5 * n → Appended v n t a b v
appended_past v n t a b h = record {
  appended = λ w z l e r. let q : length v ≡ length z = rw e (over_length w z (omega arith)) in absurd (omega arith);
}

pub appended_there : (v : List ℕ) (n t a b at : ℕ) (ys : List ℕ) → at ≡ 5 * n → ys ≡ over_if (five_bytes t a b) (take (length v - at) (drop at v))
    → Appended v n t a b (put_mid at (length v - at) v ys)
appended_there v n t a b at ys p h = record {
  appended = λ w z l e r.
      let q : length v ≡ length z = rw e (over_length w z (omega arith)) in
      let f : length (five_bytes t a b) ≤ length (take (length v - at) (drop at v)) = rw (five_length t a b, part_length at v) (omega arith) in
      over_lent w (five_bytes t a b) z v ys at (omega arith) e (h ∙ over_fits (five_bytes t a b) (take (length v - at) (drop at v)) f);
}

-- ── Kept ──

-- the bytes of values
pub values_length : (es : List (Entry signature1 Atom)) → length (joined value_bytes es) ≡ 5 * length es
values_length es = joined_length value_bytes value_bytes_length es

-- what is kept is read
pub kept_table : {z v : List ℕ} {es : List (Entry signature1 Atom)} {n : ℕ} → Kept z es v n → table_at v n ≡ es
unfolding over
kept_table {z} {v} {es} {n} k = rw k.count (table_there v (drop (length (joined value_bytes es)) z) es k.bytes)

-- one more is kept
pub kept_more : {z v o : List ℕ} {es : List (Entry signature1 Atom)} {n t a b : ℕ} (e : Entry signature1 Atom) → Kept z es v n → 5 * (n + 1) ≤ length z
    → value_bytes e ≡ five_bytes t a b → Appended v n t a b o → Kept z (es ++ (e ∷ [])) o (n + 1)
kept_more {z} {v} {o} {es} {n} {t} {a} {b} e k r q p = record {
  count = rw length-append (omega (arith, k.count));
  bytes = rw (joined_more value_bytes es e, q) (p.appended (joined value_bytes es) z (values_length es ∙ ap (λ (m : ℕ). 5 * m) (sym k.count)) k.bytes r);
}
