-- Laws of `over`: one byte more, a copy byte by byte, and a part that is lent from the end of what is written. Assumes nothing.
use mathlib.Core.Path.{◌≡◌, refl, ◌∙◌}
use mathlib.Core.List.{List, [], ◌∷◌, ◌++◌, append_assoc, append-nil}
use Prim.Native.Nat.{ℕ, suc, ◌+◌, ◌-◌, ◌≤◌, ◌<◌}
use native.Mathlib.Omega.{arith}
use native.Mathlib.Numerals.{add-one}
use lib.ListN.{length, take, drop, get_or, set, length-append, length-drop, length-set}
use lib.Seq.{take_all, length-take-le, take-suc, drop-cons, drop-drop, set-append_seam, take-append_seam, drop-append_seam, drop-length, append_snoc}
use borrow.Rule.Slice.PartMut.{put_mid, same_len_mid}
use borrow.Author.Tests.{le-leb, lt-leb}
use Rattle.buffers.specs.Over.{over, over_if, Appended}
use Rattle.buffers.proofs.Parts.{part_from, part_length}

-- nothing is written yet
pub over_none : (z : List ℕ) → z ≡ over [] z
unfolding over
over_none z = refl

-- the buffer keeps its length
pub over_length : (w z : List ℕ) → length w ≤ length z → length (over w z) ≡ length z
unfolding over
over_length w z h = simp (length-append, length-drop) (omega arith)

-- what fits is written
pub over_fits : (w z : List ℕ) → length w ≤ length z → over_if w z ≡ over w z
over_fits w z h = rw (le-leb _ _ h)

-- what does not is not
pub over_short : (w z : List ℕ) → length z < length w → over_if w z ≡ z
over_short w z h = rw (lt-leb _ _ h)

-- one byte more
pub over_more : (w z : List ℕ) (b : ℕ) → length w < length z → set (over w z) (length w) b ≡ over (w ++ (b ∷ [])) z
unfolding over
over_more w z b h =
    let q : length (w ++ (b ∷ [])) ≡ suc (length w) = simp length-append (omega arith) in
    rw (drop-cons z (length w) 0 h, set-append_seam, q, append_snoc)

-- one byte at the start
pub over_first : (z : List ℕ) (b : ℕ) → 0 < length z → set z 0 b ≡ over (b ∷ []) z
unfolding over
over_first z b h = over_more [] z b h

-- a loop that copies b to the start of z, and has come to i: one element more, and the end
module _ (b z o : List ℕ) (i : ℕ) (q : o ≡ over (take i b) z) where
  pub over_copied : i < length b → length b ≤ length z → set o i (get_or b i 0) ≡ over (take (i + 1) b) z
  over_copied h g =
      let n : length (take i b) ≡ i = length-take-le i b (omega arith) in
      rw (q, add-one, take-suc b i 0 h) (rw n at (over_more (take i b) z (get_or b i 0) (omega arith)))

  pub over_all : length b ≤ i → o ≡ over b z
  over_all h = rw (take_all i b h) at q

-- a part from the end of what is written was lent, and came back with e at its start
pub over_part : (w e z : List ℕ)
    → take (length w) (over w z) ++ (over e (take (length (over w z) - length w) (drop (length w) (over w z))) ++ drop (length (over w z) - length w) (drop (length w) (over w z)))
    ≡ over (w ++ e) z
unfolding over
over_part w e z =
    rw (part_from (length w) (w ++ drop (length w) z), ← length-drop (length w) (w ++ drop (length w) z), drop-length)
    (simp (drop-append_seam, take-append_seam, append-nil, drop-drop, length-append, append_assoc))

-- the same, from what is known where the part has come back
pub over_lent : (w e z xs ys : List ℕ) (a : ℕ) → a ≡ length w → xs ≡ over w z → ys ≡ over e (take (length xs - a) (drop a xs)) → put_mid a (length xs - a) xs ys ≡ over (w ++ e) z
over_lent w e z xs ys a p q r = rw (r, q, p) (over_part w e z)

-- the length of a buffer whose part has come back
pub lent_length : (a : ℕ) (xs ys : List ℕ) → length ys ≡ length (take (length xs - a) (drop a xs)) → length (put_mid a (length xs - a) xs ys) ≡ length xs
lent_length a xs ys e = same_len_mid a (length xs - a) xs ys e

-- a part from a place on was lent, and w was copied to its start
pub part_appended : (w xs ys : List ℕ) (at : ℕ) → at + length w ≤ length xs → length ys ≡ length (take (length xs - at) (drop at xs)) → ys ≡ over_if w (take (length xs - at) (drop at xs))
    → Appended w at xs (put_mid at (length xs - at) xs ys) (at + length w)
part_appended w xs ys at l k q =
    let s : length (take (length xs - at) (drop at xs)) ≡ length xs - at = part_length at xs in
    record {
      ends = refl;
      kept = lent_length at xs ys k;
      wrote = λ v y e f. over_lent v w y xs ys at e f (q ∙ over_fits w (take (length xs - at) (drop at xs)) (omega (arith, s)));
    }

-- w was written, and then v after it
pub appended_twice : {w v z o u : List ℕ} {at r q : ℕ} → Appended w at z o r → Appended v r o u q → Appended (w ++ v) at z u q
appended_twice {w} {v} a b = record {
  ends = b.ends ∙ omega (arith, a.ends, length-append w v);
  kept = b.kept ∙ a.kept;
  wrote = λ x y e f. rw (← append_assoc x w v) (b.wrote (x ++ w) y (omega (arith, a.ends, length-append x w)) (a.wrote x y e f));
}

-- ── A first byte b is stored, and the rest is lent ──

-- what is lent
abbrev pub lent_rest : List ℕ → ℕ → List ℕ
lent_rest z b = take (length (set z 0 b) - 1) (drop 1 (set z 0 b))

-- the buffer where it came back
abbrev pub with_rest : List ℕ → ℕ → List ℕ → List ℕ
with_rest z b ys = put_mid 1 (length (set z 0 b) - 1) (set z 0 b) ys

module _ (z : List ℕ) (b : ℕ) where
  pub rest_length : length (lent_rest z b) ≡ length z - 1
  rest_length = rw (part_length 1 (set z 0 b), length-set)

  pub rest_kept : (ys : List ℕ) → length ys ≡ length (lent_rest z b) → length (with_rest z b ys) ≡ length z
  rest_kept ys e = lent_length 1 (set z 0 b) ys e ∙ length-set z 0 b

  pub rest_over : (ys : List ℕ) → 0 < length z → (e : List ℕ) → ys ≡ over e (lent_rest z b) → with_rest z b ys ≡ over (b ∷ e) z
  rest_over ys h e w = over_lent (b ∷ []) e z (set z 0 b) ys 1 refl (over_first z b h) w
