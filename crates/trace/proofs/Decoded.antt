-- A trace that was read and is written again is the same file, so no second file holds the same. Assumes nothing.
use mathlib.Core.Path.{◌≡◌, refl, sym, ap, ◌∙◌}
use mathlib.Core.Bool.{true}
use mathlib.Core.List.{List}
use Prim.Native.Nat.{ℕ, ◌+◌, ◌*◌}
use native.Mathlib.Omega.{arith}
use lib.ListN.{length}
use Rattle.base.specs.Bytes.{byte}
use Rattle.codes.specs.Marks.{mark}
use Rattle.codes.specs.Rows.{width}
use Rattle.opening.specs.Opening.{marked}
use Rattle.opening.proofs.Frames.{marked_means}
use Rattle.trace.specs.Layout.{values, supplies, startings, starts_at, supplies_at, index_place, index}
use Rattle.entries.specs.Words.{Bytes}
use Rattle.entries.specs.Tiling.{listed, joined, stretch, number_bytes, entry_of}
use Rattle.trace.specs.Decoded.{trace_of, header_bytes, trace_bytes}
use Rattle.trace.specs.Right.{Framed}
use Rattle.entries.proofs.Tiling.{listed_length, stretch_whole, stretches, joined_all, word_bytes, entries_bytes}

-- 16-bit indexes from a base offset on, written again
pub indexes_bytes : (s : List ℕ) → Bytes s → (base n : ℕ) → joined (number_bytes 2) (listed (index s base) 0 n) ≡ stretch s base (2 * n)
indexes_bytes s h base n =
    let z : 2 * n ≡ n * 2 = omega arith in
    rw z (joined_all (number_bytes 2) (index s base) s base 2 n (λ i h. one i))
  where
    one : (i : ℕ) → number_bytes 2 (index s base i) ≡ stretch s (base + i * 2) 2
    one i =
        let w : number_bytes 2 (index s base i) ≡ stretch s (index_place base i) 2 = (unfold index in word_bytes s h (index_place base i)) in
        let z : index_place base i ≡ base + i * 2 = omega arith in
        w ∙ ap (λ p. stretch s p 2) z

-- the mark of a marked file
mark_bytes : (s : List ℕ) → marked 2 s ≡ true → listed (mark 2) 0 3 ≡ stretch s 0 3
unfolding listed
mark_bytes s e = let m = (marked_means 2 s).0 e in rw (← m.first, ← m.second, ← m.third)

-- the header, written again
header_bytes_lem : (s : List ℕ) → Bytes s → Framed s → header_bytes (trace_of s) ≡ stretch s 0 10
header_bytes_lem s h f =
    rw (mark_bytes s f.mark, word_bytes s h 3, listed_length (entry_of s 3 10) 0 (values s), word_bytes s h 5, listed_length (index s (supplies_at s)) 0 (supplies s), word_bytes s h 7, listed_length (index s (starts_at s)) 0 (startings s))
    (unfold listed number_bytes in refl)

-- the header, the values, the starting values and the supply, written again, are the file
pub trace_bytes_lem : (s : List ℕ) → Bytes s → Framed s → trace_bytes (trace_of s) ≡ s
trace_bytes_lem s h f =
    let w : values s * width 3 ≡ 5 * values s = (unfold width byte in omega arith) in
    let l : supplies_at s + 2 * supplies s ≡ length s = sym f.whole_length in
    rw (
      header_bytes_lem s h f,
      entries_bytes s h 3 10 (values s) (omega arith),
      w,
      indexes_bytes s h (starts_at s) (startings s),
      indexes_bytes s h (supplies_at s) (supplies s),
      stretches s 0 10 10 (5 * values s) refl,
      stretches s 0 (starts_at s) (starts_at s) (2 * startings s) (omega arith),
      stretches s 0 (supplies_at s) (supplies_at s) (2 * supplies s) (omega arith),
      l,
    )
    (stretch_whole s)

-- two files that hold the same are the same
pub trace_once : (s t : List ℕ) → Bytes s → Bytes t → Framed s → Framed t → trace_of s ≡ trace_of t → s ≡ t
trace_once s t a b f g e = sym (trace_bytes_lem s a f) ∙ ap trace_bytes e ∙ trace_bytes_lem t b g
