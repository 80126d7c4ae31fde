-- A list that passes 1 to 5, read and written again, is the same file: it is the file of a list. Assumes that its elements are bytes:
-- a low byte of N above 255 would be read as more.
use mathlib.Core.Path.{◌≡◌, refl, ap, ◌∙◌}
use mathlib.Core.List.{List, [], ◌∷◌, append-nil}
use Prim.Native.Nat.{ℕ, zero, suc, ◌+◌, ◌/◌, ◌%◌, ◌<◌}
use native.Mathlib.Decide.{dec_lt}
use native.Mathlib.Omega.{arith}
use lib.ListN.{length, take, drop, length-drop}
use lib.Seq.{length-take-le}
use Rattle.base.specs.Bytes.{byte}
use Rattle.codes.specs.Marks.{header}
use Rattle.answers.specs.Ladder.{least}
use Rattle.entries.specs.Words.{Bytes}
use Rattle.entries.specs.Tiling.{listed, joined, stretch, number_bytes}
use Rattle.entries.proofs.Tiling.{listed_length, listed_add, stretch_part, word_bytes, joined_append}
use Rattle.opening.specs.Opening.{version}
use Rattle.opening.proofs.Frames.{marked_means, version_bytes}
use Rattle.types.specs.Types.{Message}
use Rattle.types.specs.Version1.{T, bytes}
use Rattle.list.specs.Layout.{symbols, statements, body_at, type_at, statements_at, given, statement_ok_at, statement_ok}
use Rattle.list.specs.Faults.{list_rungs}
use Rattle.list.specs.Tiles.{tiled, type_entry, statement_entry, written}
use Rattle.list.specs.Right.{Framed}
use Rattle.list.proofs.Framed.{Listed, list_passes, frame_passes, type_inside}
use Rattle.list.proofs.SymbolTypes.{type_ok_exact}
use Rattle.list.proofs.Written.{list_written}
use Rattle.decoded_list.specs.Bytes.{statement_bytes, type_with_length, header_bytes, list_bytes}
use Rattle.decoded_list.specs.Statements.{statement_at}
use Rattle.decoded_list.specs.Decoded.{Decoded}
use Rattle.decoded_list.proofs.Codes.{entry_in_order, entry_written}
use Rattle.std.proofs.Common.{Ok}

-- ── Things written one after the other ──

-- things as they are listed, and as they tile
joined_tiled : {A : Type 0} (g : A → List ℕ) (f : ℕ → A) (h : ℕ → List ℕ) (n : ℕ) → ((k : ℕ) → k < n → g (f k) ≡ h k) → joined g (listed f 0 n) ≡ tiled h n
unfolding tiled joined listed
joined_tiled g f h zero e = refl
joined_tiled g f h (suc n) e =
    let z : suc n ≡ n + 1 = omega arith in
    let y : 0 + n ≡ n = omega arith in
    ap (λ m. joined g (listed f 0 m)) z
    ∙ rw (listed_add f 0 n 1, joined_append g, joined_tiled g f h n (λ k l. e k (omega arith)), y, append-nil (g (f n)), e n (omega arith))

-- ── The file ──

-- the header, written again
header_again : (s : List ℕ) → Bytes s → Framed s → header_bytes (symbols s) (statements s) ≡ take 8 s
unfolding header_bytes header byte listed
header_again s h f =
    let m = (marked_means 1 s).0 f.mark_right in
    let (v3, v4) = version_bytes s f.version_one in
    let n : statements s / 256 ∷ statements s % 256 ∷ [] ≡ stretch s 6 2 = (unfold number_bytes in word_bytes s h 6) in
    let w : header_bytes (symbols s) (statements s) ≡ stretch s 0 8 = rw (n, m.first, m.second, m.third, v3, v4) in
    w ∙ stretch_part s 0 8 m.header_there

module _ (s : List ℕ) (free : ℕ) (l : Listed s free) where
  -- statement i, written again
  statement_again : (i : ℕ) → i < statements s → statement_bytes (statement_at s i) ≡ statement_entry s i
  unfolding statement_at statement_entry statement_ok statement_ok_at
  statement_again i h =
      let base = statements_at s in
      let n = given s free i in
      entry_written s base i (symbols s) n (entry_in_order s (version s) base i (symbols s) n (l.statements_right i h))

  -- a type, whose bytes are those of symbol i, if there is one
  type_read : (i : ℕ) → (A : T) × (i < symbols s → body_at s (type_at s i) ≡ bytes A)
  type_read i = go (dec_lt i (symbols s))
    where
      go : Dec (i < symbols s) → (A : T) × (i < symbols s → body_at s (type_at s i) ≡ bytes A)
      go (yes h) = let (A, q) = (type_ok_exact s i l.framed h).0 (l.types_right i h) in (A, λ h. q)
      go (no n) = (Message, λ h. absurd (n h))

  -- type i, written again
  type_again : (i : ℕ) → i < symbols s → type_with_length (type_read i).0 ≡ type_entry s i
  unfolding type_with_length type_entry
  type_again i h =
      let p = type_at s i in
      let k = type_inside s i l.framed.length_exact h in
      let q = (type_read i).1 h in
      let c : length (body_at s p) ≡ byte s p = length-take-le (byte s p) (drop (p + 1) s) (rw length-drop (omega arith)) in
      rw (← q, c)

  -- all written again
  listed_decoded : Bytes s → Decoded s
  unfolding list_bytes written
  listed_decoded b =
      let ts = listed (λ i. (type_read i).0) 0 (symbols s) in
      record {
        types = ts;
        is_file = list_written s ((frame_passes s).1 l.framed)
            ∙ rw (
              listed_length (λ i. (type_read i).0) 0 (symbols s),
              listed_length (statement_at s) 0 (statements s),
              header_again s b l.framed,
              joined_tiled type_with_length (λ i. (type_read i).0) (type_entry s) (symbols s) type_again,
              joined_tiled statement_bytes (statement_at s) (statement_entry s) (statements s) statement_again,
            );
      }

-- a list of bytes that passes 1 to 5 is the file of a list
pub list_decoded : (s : List ℕ) (free : ℕ) → Bytes s → least (list_rungs s free) ≡ Ok tt → Decoded s
list_decoded s free b e = listed_decoded s free ((list_passes s free).0 e) b
