-- The walk along a type's bytes: one law for each turn and each way out. Assumes nothing.
use mathlib.Core.Path.{◌≡◌, refl, sym, ap, ◌∙◌}
use mathlib.Core.Bool.{Bool, true, false, ◌&&◌}
use mathlib.Core.List.{List, [], ◌∷◌, ◌++◌}
use Prim.Native.Nat.{ℕ, ◌+◌, ◌<◌, ◌≤◌}
use native.Mathlib.Omega.{arith}
use Rattle.std.proofs.Common.{reverse}
use Rattle.std.proofs.lemmas.List.{reverse-append, length-reverse}
use lib.ListN.{length, take, drop, get_or, length-append, length-drop, length-take, take-append-drop}
use Rattle.types.specs.Types.{Pair}
use Rattle.types.specs.Prefix.{encoded}
use Rattle.types.specs.Version1.{T, bytes, code1}
use Rattle.type_bytes.specs.Ends.{Past}
use Rattle.type_bytes.proofs.EndLaws.{tag, bytes_some, no_type, head_is, in_pair, as_pair}
use Rattle.calculus.specs.Version1.{signature1}
use Rattle.running.specs.Values.{visible, index}
use Rattle.value_table.specs.Values.{table_at, tag_at, part_at}
use Rattle.value_table.proofs.Reading.{entry_pair}
use Rattle.visible.specs.Seen.{leaf_of, Seen}
use Rattle.visible.proofs.SeenLaws.{leaf_is, no_pair_by_tag, pair_sees}

-- ── What the walk keeps ──

-- value v visibly has the type A
abbrev sees : List ℕ → ℕ → T → ℕ → Bool
sees s n A v = visible signature1 (index signature1 (table_at s n)) A v

-- the list l has a type for each value, point by point, then x; r is the conjunction of what is visible
unfoldable pub Goes : List ℕ → ℕ → List ℕ → List ℕ → List ℕ → Bool → Type 0
Goes s n [] l x r = (l ≡ x) × (r ≡ true)
Goes s n (v ∷ vs) l x r = (A : T) × (m : List ℕ) × (q : Bool) × (l ≡ bytes A ++ m) × (r ≡ (sees s n A v && q)) × Goes s n vs m x q

-- the walk for value v and the type at p has come to byte `at` with these values pending: they and the types from there on decide. Pending values
-- and bytes to come are at most 256 in all
pub record Walked (t : List ℕ) (p : ℕ) (s : List ℕ) (n v at : ℕ) (vs : List ℕ) : Type 0 where
  pub rest : (A : T) (x : List ℕ) → drop p t ≡ bytes A ++ x → length (bytes A) ≤ 255
      → (length vs + length (drop at t) ≤ 256 + length x) × Goes s n vs (drop at t) x (sees s n A v)

and_true : (b : Bool) → b ≡ (b && true)
and_true true = refl
and_true false = refl

and_assoc : (a b c : Bool) → ((a && b) && c) ≡ (a && (b && c))
and_assoc true b c = refl
and_assoc false b c = refl

-- each pending value has a byte at least
goes_length : (s : List ℕ) (n : ℕ) (vs l x : List ℕ) (r : Bool) → Goes s n vs l x r → length vs + length x ≤ length l
unfolding Goes
goes_length s n [] l x r g = omega (arith, ap length g.0)
goes_length s n (v ∷ vs) l x r (A, m, q, i, j, z) =
    omega (arith, goes_length s n vs m x q z, bytes_some A, ap length i ∙ length-append (bytes A) m)

pair_bytes : (A B : T) → 3 ≤ length (bytes (Pair A B))
unfolding encoded code1
pair_bytes A B = omega (arith, bytes_some A, bytes_some B, length-append (bytes A) (bytes B))

-- ── The start, and the end ──

module _ (t s : List ℕ) (p n v : ℕ) where
  pub walk_start : Walked t p s n v p (v ∷ [])
  unfolding Goes
  walk_start = record { rest = λ A x e k. (omega (arith, ap length e ∙ length-append (bytes A) x), (A, x, true, e, and_true (sees s n A v), (refl, refl))) }

  pub walk_done : (at : ℕ) (all : List ℕ) → ¬ (0 < length all) → Walked t p s n v at (reverse all) → Seen t p s n v true
  unfolding Goes
  walk_done at [] h g = record { seen = λ A x e l. sym (g.rest A x e l).1.1 }
  walk_done at (w ∷ all) h g = absurd (h (omega arith))

-- ── A value is looked at ──

-- the last of those that are kept is the next one
next_last : (old new : List ℕ) (w : ℕ) → old ≡ new ++ (w ∷ []) → reverse old ≡ w ∷ reverse new
next_last old new w e = rw (e, reverse-append)

-- value w, the last of the pending ones, is taken
module _ (t s : List ℕ) (p n v at : ℕ) (old new : List ℕ) (w : ℕ) (taken : old ≡ new ++ (w ∷ [])) (all : Walked t p s n v at (reverse old)) where
  abbrev vs : List ℕ
  vs = reverse new

  g : Walked t p s n v at (w ∷ vs)
  g = rw (next_last old new w taken) at all

  pub walk_past : (r : Bool) → length t ≤ at → Seen t p s n v r
  unfolding Goes
  walk_past r h = record { seen = λ A x e k. let (f, o) = g.rest A x e k in let (B, m, q, i, j, z) = o in absurd (no_type t at B m h i) }

  -- the code there is c
  module _ (h : at < length t) (c : ℕ) (there : c ≡ get_or t at 0) where
    -- what is found at a type's code: the answer, or how the walk goes on
    module _ (no_pair : ¬ (c ≡ 4)) (b : Bool) (l : b ≡ leaf_of c (tag_at s n w) (part_at s n w 0)) where
      looked : (B : T) (m : List ℕ) → drop at t ≡ bytes B ++ m → b ≡ sees s n B w
      looked B m i =
          let k : c ≡ tag B = there ∙ head_is t at h B m i in
          let l' : b ≡ leaf_of (tag B) (tag_at s n w) (part_at s n w 0) = rw k at l in
          l' ∙ leaf_is s n w B (λ (y : tag B ≡ 4). no_pair (k ∙ y))

      pub walk_lacks : b ≡ false → Seen t p s n v false
      unfolding Goes
      walk_lacks r = record {
        seen = λ A x e k.
            let (f, o) = g.rest A x e k in let (B, m, q, i, j, z) = o in
            let y : sees s n B w ≡ false = sym (looked B m i) ∙ r in
            sym (rw y at j);
      }

      pub walk_leaf : b ≡ true → (m : ℕ) → Past t at m → Walked t p s n v m vs
      unfolding Goes
      walk_leaf r e' past = record {
        rest = λ A x e k.
            let (f, o) = g.rest A x e k in let (B, m, q, i, j, z) = o in
            let y : sees s n B w ≡ true = sym (looked B m i) ∙ r in
            let j' : sees s n A v ≡ q = rw y at j in
            let u : drop e' t ≡ m = past.rest B m i in
            (omega (arith, f, ap length u, ap length i ∙ length-append (bytes B) m, bytes_some B), rw (u, j') z);
      }

    module _ (pair : c ≡ 4) where
      -- a pair's parts
      abbrev Parts : T → Type 0
      Parts B = (C : T) × (D : T) × (B ≡ Pair C D)

      parts : (B : T) (m : List ℕ) → drop at t ≡ bytes B ++ m → Parts B
      parts B m i = as_pair B (sym pair ∙ there ∙ head_is t at h B m i)

      pub walk_not_pair : ¬ (tag_at s n w ≡ 1) → Seen t p s n v false
      unfolding Goes
      walk_not_pair other = record {
        seen = λ A x e k.
            let (f, o) = g.rest A x e k in let (B, m, q, i, j, z) = o in
            let (C, D, c') = parts B m i in
            let y : sees s n B w ≡ false = rw c' (no_pair_by_tag s n w (tag_at s n w) refl other C D) in
            sym (rw y at j);
      }

      -- more than 128 values are never pending
      pub walk_full : (r : Bool) → 126 < length new → Seen t p s n v r
      unfolding Goes
      walk_full r full = record {
        seen = λ A x e k.
            let (f, o) = g.rest A x e k in let (B, m, q, i, j, z) = o in
            let (C, D, c') = parts B m i in
            let y : 3 ≤ length (bytes B) = rw c' (pair_bytes C D) in
            absurd (omega (arith, f, ap length i ∙ length-append (bytes B) m, goes_length s n vs m x q z, length-reverse new));
      }

      parts_pending : (l r : ℕ) → tag_at s n w ≡ 1 → l ≡ part_at s n w 0 → r ≡ part_at s n w 1 → Walked t p s n v (at + 1) (l ∷ r ∷ vs)
      unfolding Goes
      parts_pending l r two x₀ x₁ = record {
        rest = λ A x e k.
            let (f, o) = g.rest A x e k in let (B, m, q, i, j, z) = o in
            let (C, D, c') = parts B m i in
            let i' : drop at t ≡ bytes (Pair C D) ++ m = rw c' at i in
            let y : sees s n B w ≡ (sees s n C l && sees s n D r) = both B C D c' in
            let j' : sees s n A v ≡ ((sees s n C l && sees s n D r) && q) = rw y at j in (
              omega (arith, f, length-drop at t, length-drop (at + 1) t),
              (C, bytes D ++ m, sees s n D r && q, in_pair t at h C D m i', j' ∙ and_assoc (sees s n C l) (sees s n D r) q, (D, m, q, refl, refl, z)),
            );
      }
        where
          both : (B C D : T) → B ≡ Pair C D → sees s n B w ≡ (sees s n C l && sees s n D r)
          both B C D o = rw (o, x₀, x₁) (pair_sees (table_at s n) w C D _ _ (entry_pair s n w two))

      pub walk_pair : (l r : ℕ) → tag_at s n w ≡ 1 → l ≡ part_at s n w 0 → r ≡ part_at s n w 1
          → (m o : List ℕ) → m ≡ new ++ (r ∷ []) → o ≡ m ++ (l ∷ []) → Walked t p s n v (at + 1) (reverse o)
      walk_pair l r two x₀ x₁ m o i j = rw (next_last o m l j, next_last m new r i) (parts_pending l r two x₀ x₁)

-- ── What the answer says where the type's length is known ──

-- a type that is the part of so many bytes from p on
pub seen_part : {t : List ℕ} {p : ℕ} {s : List ℕ} {n v : ℕ} {r : Bool} → Seen t p s n v r → (k : ℕ) → k ≤ 255 → (A : T) → take k (drop p t) ≡ bytes A → r ≡ sees s n A v
seen_part {t} {p} g k h A e =
    let f : drop p t ≡ bytes A ++ drop k (drop p t) = rw (← e) (sym (take-append-drop k (drop p t))) in
    let l : length (bytes A) ≤ k = rw (← e, length-take k (drop p t)) (omega arith) in
    g.seen A (drop k (drop p t)) f (omega arith)
