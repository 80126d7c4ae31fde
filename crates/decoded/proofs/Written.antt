-- A table that was read and is written again is the same file, so no second file stands for the same table. Assumes that 1 to 5 pass.
use mathlib.Core.Path.{◌≡◌, refl, sym, ap, ◌∙◌}
use mathlib.Core.List.{List, [], ◌∷◌}
use Prim.Native.Nat.{ℕ, zero, suc, ◌+◌, ◌*◌, ◌<◌}
use native.Mathlib.Omega.{arith}
use lib.ListN.{length}
use borrow.Author.Tests.{eqb-true}
use Rattle.base.specs.Bytes.{byte}
use Rattle.codes.specs.Rows.{width}
use Rattle.answers.specs.Ladder.{least}
use Rattle.entries.specs.Fields.{place_of, code}
use Rattle.opening.proofs.Frames.{marked_means, version_bytes}
use Rattle.table_layout.specs.Layout.{symbols, terms, steps, terms_at, steps_at, sort, length_ok}
use Rattle.table_layout.proofs.FieldLaws.{term_field_byte, step_field_byte}
use Rattle.table.specs.Faults.{table_rungs}
use Rattle.entries.specs.Tiling.{listed, joined, stretch}
use Rattle.decoded.specs.Table.{sort_of, sort_at, term_at, step_at, table_of, sort_bytes, entry_bytes, step_bytes, header_bytes, table_bytes}
use Rattle.entries.proofs.Tiling.{listed_length, stretch_whole, stretches, joined_all}
use Rattle.decoded.proofs.Passed.{Entered, table_passed}
use Rattle.decoded.proofs.Ranges.{sort_small}
use Rattle.decoded.proofs.Shapes.{three_bytes, five_bytes, term_written, step_written}
use Rattle.std.proofs.Common.{Ok}

-- a symbol's byte
sort_written : (b : ℕ) → b < 2 → sort_bytes (sort_of b) ≡ b ∷ []
unfolding sort_bytes sort_of
sort_written zero h = refl
sort_written (suc zero) h = refl
sort_written (suc (suc b)) h = absurd (omega arith)

-- the bytes of a term and of a step, where they stand
three_there : (s : List ℕ) (i : ℕ) → three_bytes s i ≡ stretch s (terms_at s + i * 3) 3
unfolding code place_of width listed byte
three_there s i = at (terms_at s + i * 3) (term_field_byte s (terms_at s) i 0) (term_field_byte s (terms_at s) i 1)
  where
    at : (p : ℕ) {a b : ℕ} → a ≡ byte s (p + 1 + 0) → b ≡ byte s (p + 1 + 1) → ◌≡◌ {A = List ℕ} (byte s p ∷ a ∷ b ∷ []) (byte s p ∷ byte s (suc p) ∷ byte s (suc (suc p)) ∷ [])
    at p e f =
        let u : p + 1 + 0 ≡ suc p = omega arith in
        let v : p + 1 + 1 ≡ suc (suc p) = omega arith in
        rw (e, f, u, v)

five_there : (s : List ℕ) (k : ℕ) → five_bytes s k ≡ stretch s (steps_at s + k * 5) 5
unfolding code place_of width listed byte
five_there s k =
    at (steps_at s + k * 5) (step_field_byte s (steps_at s) k 0) (step_field_byte s (steps_at s) k 1) (step_field_byte s (steps_at s) k 2) (step_field_byte s (steps_at s) k 3)
  where
    at : (p : ℕ) {a b x y : ℕ} → a ≡ byte s (p + 1 + 0) → b ≡ byte s (p + 1 + 1) → x ≡ byte s (p + 1 + 2) → y ≡ byte s (p + 1 + 3)
        → ◌≡◌ {A = List ℕ} (byte s p ∷ a ∷ b ∷ x ∷ y ∷ []) (byte s p ∷ byte s (suc p) ∷ byte s (suc (suc p)) ∷ byte s (suc (suc (suc p))) ∷ byte s (suc (suc (suc (suc p)))) ∷ [])
    at p e f g h =
        let u : p + 1 + 0 ≡ suc p = omega arith in
        let v : p + 1 + 1 ≡ suc (suc p) = omega arith in
        let w : p + 1 + 2 ≡ suc (suc (suc p)) = omega arith in
        let z : p + 1 + 3 ≡ suc (suc (suc (suc p))) = omega arith in
        rw (e, f, g, h, u, v, w, z)

module _ (s : List ℕ) (n : Entered s) where
  -- the length is what the counts say
  length_exact : length s ≡ 8 + symbols s + 3 * terms s + 5 * steps s
  unfolding length_ok
  length_exact = eqb-true _ _ n.frame.size_right

  -- the header, written again
  header_written : header_bytes (table_of s) ≡ stretch s 0 8
  unfolding header_bytes listed
  header_written =
      let m = (marked_means 0 s).0 n.frame.mark_right in
      let (d, e) = version_bytes s n.frame.version_one in
      let x = listed_length (sort_at s) 0 (symbols s) in
      let y = listed_length (term_at s) 0 (terms s) in
      let z = listed_length (step_at s) 0 (steps s) in
      rw (x, y, z, m.first, m.second, m.third, d, e)

  -- the symbols, the terms and the steps, written again
  symbols_written : joined sort_bytes (listed (sort_at s) 0 (symbols s)) ≡ stretch s 8 (symbols s * 1)
  symbols_written = joined_all sort_bytes (sort_at s) s 8 1 (symbols s) λ k h. one k h
    where
      one : (k : ℕ) → k < symbols s → sort_bytes (sort_at s k) ≡ stretch s (8 + k * 1) 1
      one k h =
          let z : 8 + k * 1 ≡ 8 + k = omega arith in
          rw z (unfold sort_at listed in sort_written (sort s k) (sort_small s n k h))

  terms_written : joined entry_bytes (listed (term_at s) 0 (terms s)) ≡ stretch s (terms_at s) (terms s * 3)
  terms_written = joined_all entry_bytes (term_at s) s (terms_at s) 3 (terms s) λ k h. term_written s n k h ∙ three_there s k

  steps_written : joined step_bytes (listed (step_at s) 0 (steps s)) ≡ stretch s (steps_at s) (steps s * 5)
  steps_written = joined_all step_bytes (step_at s) s (steps_at s) 5 (steps s) λ k h. step_written s n k h ∙ five_there s k

  -- header, symbols, terms and steps are the file
  pub written_again : table_bytes (table_of s) ≡ s
  unfolding table_bytes
  written_again =
      let l : 8 + (symbols s * 1 + (terms s * 3 + steps s * 5)) ≡ length s = omega (arith, length_exact) in
      rw (
        header_written,
        symbols_written,
        terms_written,
        steps_written,
        stretches s (terms_at s) (terms s * 3) (steps_at s) (steps s * 5) (omega arith),
        stretches s 8 (symbols s * 1) (terms_at s) (terms s * 3 + steps s * 5) (omega arith),
        stretches s 0 8 8 (symbols s * 1 + (terms s * 3 + steps s * 5)) refl,
        l,
      )
      (stretch_whole s)

-- a table that passes 1 to 9, decoded and encoded, is the same file
pub table_written : (s : List ℕ) → least (table_rungs s) ≡ Ok tt → table_bytes (table_of s) ≡ s
table_written s e = written_again s (table_passed s e).entered

-- two files that stand for the same table are the same
pub table_once : (s t : List ℕ) → least (table_rungs s) ≡ Ok tt → least (table_rungs t) ≡ Ok tt → table_of s ≡ table_of t → s ≡ t
table_once s t p q e = sym (table_written s p) ∙ ap table_bytes e ∙ table_written t q
