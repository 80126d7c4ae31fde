-- Verdicts written one after the other. Assumes nothing.
use mathlib.Core.Path.{◌≡◌, refl, sym, ap, ◌∙◌}
use mathlib.Core.List.{List, [], ◌∷◌, ◌++◌}
use Prim.Native.Nat.{ℕ, ◌+◌, ◌-◌, ◌*◌, ◌/◌, ◌%◌, ◌≤◌, ◌<◌}
use native.Mathlib.Nat.{eq-or-lt_of_le}
use native.Mathlib.Omega.{arith}
use mathlib.Core.Logic.{⊎_elim}
use lib.ListN.{length, take, drop, get_or, length-append, length-drop}
use lib.Seq.{take-append-le, drop-append-le, drop_at, take-length}
use borrow.Rule.Slice.PartMut.{put_mid}
use Rattle.answers.specs.declared.Refusal.{Refusal}
use Rattle.entries.specs.Words.{Bytes}
use Rattle.buffers.specs.Over.{over, over_if}
use Rattle.buffers.proofs.Parts.{part_length}
use Rattle.buffers.proofs.OverLaws.{over_none, over_fits, over_lent, lent_length}
use Rattle.calculus.specs.Figure2.{Env}
use Rattle.calculus.specs.Version1.{signature1}
use Rattle.slots.specs.Slots.{Holds}
use Rattle.type_service.specs.Services.{IsWidest}
use Rattle.judge_service.specs.Judged.{TypedJudged}
use Rattle.judge_service.proofs.Places.{refusal_fits}
use Rattle.shelf_service.specs.Shelf.{total, list_at, verdict_bytes, IsVerdict, Verdicts, VerdictPut, ListJudged, ListsJudged}
use Rattle.shelf_service.proofs.Totals.{total_none, total_more, total_among}
use Rattle.std.proofs.Common.{Ok, Err}
use Rattle.answers.specs.Ladder.{Check}

-- ── One verdict ──

module _ (r : Check) (z o : List ℕ) where
  -- accepted
  pub put_zeros : r ≡ Ok tt → o ≡ over_if (0 ∷ 0 ∷ 0 ∷ 0 ∷ []) z → VerdictPut r z o
  unfolding verdict_bytes
  put_zeros e q = record { wrote = λ f l. rw e (q ∙ over_fits (0 ∷ 0 ∷ 0 ∷ 0 ∷ []) z l) }

  -- refused: a place below 65,536 is its two bytes
  pub put_refusal : (x : Refusal) → r ≡ Err x → o ≡ over_if (x.number ∷ x.file ∷ x.place / 256 % 256 ∷ x.place % 256 ∷ []) z → VerdictPut r z o
  unfolding verdict_bytes
  put_refusal x e q = record {
    wrote = λ f l.
        let h : x.place < 65536 = f x e in
        let d : x.place / 256 % 256 ≡ x.place / 256 = omega arith in
        rw e (rw d at (q ∙ over_fits (x.number ∷ x.file ∷ x.place / 256 % 256 ∷ x.place % 256 ∷ []) z l));
  }

verdict_four : (r : Check) → length (verdict_bytes r) ≡ 4
unfolding verdict_bytes
verdict_four (Ok tt) = refl
verdict_four (Err x) = refl

-- a list is judged, and its verdict written
pub one_judged : (t w l z o : List ℕ) (r : Check) → Bytes l → TypedJudged t w l r → VerdictPut r z o → ListJudged t w l z o
one_judged t w l z o r b j p = record {
  wrote = λ Γ h k n.
      let d = j.judged Γ h k in
      (verdict_bytes r, record { verdict = r; judged = d; bytes = refl }, p.wrote (λ x e. (refusal_fits t l b Γ x r k d e).1) n);
}

-- ── One after the other ──

four : {t l b : List ℕ} → IsVerdict t l b → length b ≡ 4
four v = ap (λ (k : List ℕ). length k) v.bytes ∙ verdict_four v.verdict

module _ (t lists lengths : List ℕ) where
  pub verdicts_none : Verdicts t lists lengths 0 []
  verdicts_none = record { size = refl; each = λ i h. absurd (omega arith) }

  -- one verdict more
  pub verdicts_more : (i : ℕ) (v b : List ℕ) → Verdicts t lists lengths i v → IsVerdict t (list_at lists lengths i) b → Verdicts t lists lengths (i + 1) (v ++ b)
  verdicts_more i v b p q = record {
    size = rw length-append (omega (arith, p.size, four q));
    each = λ k h. ⊎_elim (λ e. last k (omega arith)) (λ l. before k (omega arith)) (eq-or-lt_of_le h);
  }
    where
      before : (k : ℕ) → k < i → IsVerdict t (list_at lists lengths k) (take 4 (drop (4 * k) (v ++ b)))
      before k h =
          let e : drop (4 * k) (v ++ b) ≡ drop (4 * k) v ++ b = drop-append-le (4 * k) v b (omega (arith, p.size)) in
          let f : take 4 (drop (4 * k) v ++ b) ≡ take 4 (drop (4 * k) v) = take-append-le 4 (drop (4 * k) v) b (rw length-drop (omega (arith, p.size))) in
          rw (e, f) (p.each k h)

      last : (k : ℕ) → k ≡ i → IsVerdict t (list_at lists lengths k) (take 4 (drop (4 * k) (v ++ b)))
      last k e =
          let f : drop (4 * k) (v ++ b) ≡ b = drop_at v b (4 * k) (omega (arith, p.size)) in
          let g : take 4 b ≡ b = whole b (four q) in
          rw (f, g, e) q
        where
          whole : (b : List ℕ) → length b ≡ 4 → take 4 b ≡ b
          whole b n = rw n at (take-length b)

-- the first i lists are judged, if the slots w hold the widest types: their bytes end at a place, and their verdicts are written
pub record Judging (t w lists lengths : List ℕ) (i at : ℕ) (z o : List ℕ) : Type 0 where
  pub passed : at ≡ total (take i lengths)
  pub kept : length o ≡ length z
  pub wrote : (Γ : Env signature1) → Holds w Γ → IsWidest t Γ → (v : List ℕ) × Verdicts t lists lengths i v × (o ≡ over v z)

pub judging_none : (t w lists lengths z : List ℕ) → Judging t w lists lengths 0 0 z z
judging_none t w lists lengths z = record { passed = sym total_none; kept = refl; wrote = λ Γ h k. ([], verdicts_none t lists lengths, over_none z) }

module _ (t w lists lengths : List ℕ) (i at : ℕ) (z xs : List ℕ) (p : Judging t w lists lengths i at z xs) (l : i < length lengths) where
  -- the next list's bytes end inside the lists'
  pub ends_inside : total lengths ≡ length lists → at + get_or lengths i 0 ≤ length lists
  ends_inside e = omega (arith, p.passed, total_among lengths i l)

  -- it is judged, and its verdict written to the part that was lent
  pub judging_more : (e to : ℕ) (ys : List ℕ) → e ≡ at + get_or lengths i 0 → to ≡ 4 * i → 4 * length lengths ≤ length z
      → length ys ≡ length (take (length xs - to) (drop to xs)) → ListJudged t w (take (e - at) (drop at lists)) (take (length xs - to) (drop to xs)) ys
      → Judging t w lists lengths (i + 1) e z (put_mid to (length xs - to) xs ys)
  unfolding list_at
  judging_more e to ys q r n s j = record {
    passed = omega (arith, q, p.passed, total_more lengths i l);
    kept = lent_length to xs ys s ∙ p.kept;
    wrote = λ Γ h k.
        let (v, u, f) = p.wrote Γ h k in
        let (b, d, g) = j.wrote Γ h k (rw (part_length to xs) (omega (arith, p.kept))) in
        (v ++ b, verdicts_more t lists lengths i v b u (here d), over_lent v b z xs ys to (omega (arith, u.size)) f g);
  }
    where
      here : {b : List ℕ} → IsVerdict t (take (e - at) (drop at lists)) b → IsVerdict t (list_at lists lengths i) b
      here {b} d = rw (m, p.passed) at d
        where
          m : e - at ≡ get_or lengths i 0
          m = omega arith

-- all are
pub judging_all : (t w lists lengths : List ℕ) (i at : ℕ) (z o : List ℕ) → i ≤ length lengths → length lengths ≤ i → Judging t w lists lengths i at z o → ListsJudged t w lists lengths z o
judging_all t w lists lengths i at z o h l p = let q : i ≡ length lengths = omega arith in record { wrote = rw q at p.wrote }
