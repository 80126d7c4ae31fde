-- After 1 to 4 the header, the types and the statements tile the list: written out again from what was read, they are its bytes.
-- Assumes nothing.
use mathlib.Core.Path.{◌≡◌, sym, ◌∙◌}
use mathlib.Core.List.{List, [], ◌∷◌, ◌++◌, append_assoc, append-nil}
use Prim.Native.Nat.{ℕ, zero, suc, ◌+◌, ◌*◌, ◌≤◌, ◌<◌}
use native.Mathlib.Numerals.{add-one}
use native.Mathlib.Nat.{add-zero}
use native.Mathlib.Omega.{arith}
use lib.ListN.{length, take, drop}
use lib.Seq.{take-add, take_all, drop-cons}
use Rattle.base.specs.Bytes.{byte}
use Rattle.codes.specs.Rows.{width, field_bytes}
use Rattle.answers.specs.Ladder.{least}
use Rattle.entries.specs.Fields.{number, place_of, code, field}
use Rattle.list.specs.Layout.{symbols, statements, body_at, past_type, type_at, statements_at}
use Rattle.list.specs.Faults.{frame_rungs}
use Rattle.list.specs.Tiles.{tiled, type_entry, statement_entry, written}
use Rattle.list.proofs.Framed.{frame_passes, type_inside}
use Rattle.std.proofs.Common.{Ok}

-- the bytes from a place on, one by one
next_byte : (s : List ℕ) (p : ℕ) → p < length s → drop p s ≡ byte s p ∷ drop (p + 1) s
unfolding byte
next_byte s p h = rw add-one (drop-cons s p 0 h)

-- the header and the first n types
types_tile : (s : List ℕ) (n : ℕ) → ((i : ℕ) → i < n → past_type s (type_at s i) ≤ length s) → take (type_at s n) s ≡ take 8 s ++ tiled (type_entry s) n
unfolding type_at tiled type_entry
types_tile s zero f = sym (append-nil (take 8 s))
types_tile s (suc n) f =
    let p = type_at s n in
    let h : past_type s p ≤ length s = f n (omega arith) in
    let q : p + 1 + byte s p ≡ p + suc (byte s p) = omega arith in
    rw (q, take-add p (suc (byte s p)) s, next_byte s p (omega arith), types_tile s n (λ i l. f i (omega arith))) (append_assoc (take 8 s) (tiled (type_entry s) n) (byte s p ∷ body_at s p))

-- the four bytes of a statement
four_bytes : (s : List ℕ) (p : ℕ) → p + 4 ≤ length s → take 4 (drop p s) ≡ byte s p ∷ byte s (p + 1) ∷ byte s (p + 2) ∷ byte s (p + 3) ∷ []
four_bytes s p h =
    let two : p + 1 + 1 ≡ p + 2 = omega arith in
    let three : p + 2 + 1 ≡ p + 3 = omega arith in
    rw (next_byte s p (omega arith), next_byte s (p + 1) (omega arith), two, next_byte s (p + 2) (omega arith), three, next_byte s (p + 3) (omega arith))

statement_bytes_lem : (s : List ℕ) (i : ℕ) → statements_at s + 4 * i + 4 ≤ length s → take 4 (drop (statements_at s + 4 * i) s) ≡ statement_entry s i
unfolding statement_entry code field number place_of width field_bytes byte
statement_bytes_lem s i h = at (statements_at s) h
  where
    at : (base : ℕ) → base + 4 * i + 4 ≤ length s → take 4 (drop (base + 4 * i) s)
        ≡ byte s (base + i * 4) ∷ byte s (base + i * 4 + 1 + 0 * 1) ∷ byte s (base + i * 4 + 1 + 1 * 1) ∷ byte s (base + i * 4 + 1 + 2 * 1) ∷ []
    at base h =
        let p : base + i * 4 ≡ base + 4 * i = omega arith in
        let z : base + 4 * i + 1 + 0 ≡ base + 4 * i + 1 = omega arith in
        let q : base + 4 * i + 1 + 1 ≡ base + 4 * i + 2 = omega arith in
        let r : base + 4 * i + 1 + 2 ≡ base + 4 * i + 3 = omega arith in
        rw (p, z, q, r) (four_bytes s (base + 4 * i) h)

-- what stands before the statements, and the first n of them
statements_tile : (s : List ℕ) (n : ℕ) → statements_at s + 4 * n ≤ length s → take (statements_at s + 4 * n) s ≡ take (statements_at s) s ++ tiled (statement_entry s) n
unfolding tiled
statements_tile s zero h = rw add-zero (sym (append-nil (take (statements_at s) s)))
statements_tile s (suc n) h =
    let b = statements_at s in
    let q : b + 4 * suc n ≡ b + 4 * n + 4 = omega arith in
    rw (q, take-add (b + 4 * n) 4 s, statements_tile s n (omega arith), statement_bytes_lem s n (omega arith)) (append_assoc (take b s) (tiled (statement_entry s) n) (statement_entry s n))

-- a list that passes 1 to 4 is its header, its types and its statements
pub list_written : (s : List ℕ) → least (frame_rungs s) ≡ Ok tt → s ≡ written s
unfolding written
list_written s e =
    let f = (frame_passes s).0 e in
    let all : take (statements_at s + 4 * statements s) s ≡ s = take_all (statements_at s + 4 * statements s) s (omega arith) in
    sym all ∙ statements_tile s (statements s) (omega arith) ∙ rw (types_tile s (symbols s) (λ i h. type_inside s i f.length_exact h)) (append_assoc (take 8 s) (tiled (type_entry s) (symbols s)) (tiled (statement_entry s) (statements s)))
