-- What is read off the verdicts' bytes is what judging each list by itself gives. Assumes that the lists' elements are bytes.
use mathlib.Core.Path.{◌≡◌, refl, ap, ◌∙◌}
use mathlib.Core.List.{List, [], ◌∷◌}
use Prim.Native.Nat.{ℕ, zero, suc, ◌+◌, ◌*◌, ◌/◌, ◌%◌, ◌<◌}
use native.Mathlib.Omega.{arith}
use lib.ListN.{length, take, drop, get_or, length-drop}
use lib.Seq.{take-append-le, drop-append-le, get_or-drop}
use borrow.Author.Tests.{ne_eqb}
use Rattle.base.specs.Bytes.{byte, word}
use Rattle.answers.specs.declared.Refusal.{Refusal}
use Rattle.entries.specs.Words.{Bytes}
use Rattle.buffers.specs.Over.{over}
use Rattle.calculus.specs.Figure2.{Env}
use Rattle.calculus.specs.Version1.{signature1}
use Rattle.type_service.specs.Services.{IsWidest}
use Rattle.judge_service.specs.Judged.{Judged, Fits}
use Rattle.judge_service.proofs.Places.{refusal_fits}
use Rattle.shelf_service.specs.Shelf.{total, list_at, verdict_bytes, verdict_read, IsVerdict, ShelfAnswered, table_refused, shelf_refused, shelf_judged}
use Rattle.std.proofs.Common.{Result, Ok, Err}
use Rattle.answers.specs.Ladder.{Check}

-- ── One verdict ──

-- a verdict that fits its four bytes is read off them
read_back : (r : Check) → ((x : Refusal) → r ≡ Err x → Fits x) → verdict_read (verdict_bytes r) ≡ r
unfolding verdict_read verdict_bytes byte word
read_back (Ok tt) f = refl
read_back (Err x) f =
    let (n, p) = f x refl in
    let e : x.place / 256 * 256 + x.place % 256 ≡ x.place = omega arith in
    rw (ne_eqb x.number 0 (λ q. omega arith), e)

pub verdict_read_lem : (t l b : List ℕ) (Γ : Env signature1) → IsWidest t Γ → Bytes l → IsVerdict t l b → Judged t l (verdict_read b)
verdict_read_lem t l b Γ w h v =
    let e : verdict_read b ≡ v.verdict = ap verdict_read v.bytes ∙ read_back v.verdict (λ x q. refusal_fits t l h Γ x v.verdict w v.judged q) in
    rw e v.judged

-- ── All of them ──

take_bytes : (n : ℕ) (s : List ℕ) → ((p : ℕ) → get_or s p 0 < 256) → (p : ℕ) → get_or (take n s) p 0 < 256
take_bytes zero s h p = omega arith
take_bytes (suc n) [] h p = omega arith
take_bytes (suc n) (a ∷ s) h zero = h 0
take_bytes (suc n) (a ∷ s) h (suc p) = take_bytes n s (λ q. h (suc q)) p

list_bytes_lem : (lists lengths : List ℕ) (i : ℕ) → Bytes lists → Bytes (list_at lists lengths i)
unfolding list_at byte
list_bytes_lem lists lengths i h =
    let at : ℕ = total (take i lengths) in
    take_bytes (get_or lengths i 0) (drop at lists) (λ q. rw (get_or-drop at lists q 0) (h (at + q)))

-- after a shelf that was not refused: what is read at 4i of the lent buffer is what judging list i by itself gives
pub shelf_read : (t lists lengths z o : List ℕ) (r : Result ℕ Refusal) (n : ℕ) → Bytes lists → ShelfAnswered t lists lengths z o r → r ≡ Ok n
    → (i : ℕ) → i < length lengths → Judged t (list_at lists lengths i) (verdict_read (take 4 (drop (4 * i) o)))
shelf_read t lists lengths z o r n h (table_refused q) e i l = let y : ◌≡◌ {A = ℕ} 0 1 = cc in absurd (omega arith)
shelf_read t lists lengths z o r n h (shelf_refused w c) e i l = let y : ◌≡◌ {A = ℕ} 0 1 = cc in absurd (omega arith)
shelf_read t lists lengths z o r n h (shelf_judged {Γ = Γ} {v = v} w c p) e i l = rw four (verdict_read_lem t _ _ Γ w (list_bytes_lem lists lengths i h) (p.each i l))
  where
    four : take 4 (drop (4 * i) (over v z)) ≡ take 4 (drop (4 * i) v)
    four = unfold over in
        rw (drop-append-le (4 * i) v (drop (length v) z) (omega (arith, p.size)))
        (take-append-le 4 (drop (4 * i) v) (drop (length v) z) (rw length-drop (omega (arith, p.size))))
