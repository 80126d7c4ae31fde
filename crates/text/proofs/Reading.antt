-- Reading is exact, and where it is stuck the text stops. Assumes nothing.
use mathlib.Core.Path.{◌≡◌, refl, sym, ap, ◌∙◌}
use mathlib.Core.Logic.{◌⊎◌, inl, inr}
use mathlib.Core.List.{List, [], ◌∷◌, ◌++◌, append_assoc, append-nil}
use Prim.Native.Nat.{ℕ, zero, suc, ◌-◌, ◌≤◌, ◌<◌}
use native.Mathlib.Omega.{arith}
use lib.ListN.{length, take, drop, length-append}
use lib.Seq.{take_all, take-append_seam}
use Rattle.text.specs.Source.{Source}
use Rattle.text.specs.Grammar.{WellFormed, TextOf, Allowed}
use Rattle.text.specs.Places.{BeginsTextOf, GoesOn, Stops}
use Rattle.text.specs.Reader.{Read, done, stuck, and_then, read_step, read_steps, read_line, read_text}
use Rattle.text.specs.Statements.{ReadingIsExact, PrintingIsInjective, StuckStops, StopsOnce, StopsOrAllowed}
use Rattle.text.proofs.Views.{both_go, View, view_done, view_stuck}
use Rattle.text.proofs.Bytewise.{source_b, text_bytes}
use Rattle.text.proofs.LineViews.{view_text}
use Rattle.text.proofs.CompleteText.{reads_text}

-- ── What is read is the whole text ──

-- nothing is left, if it is done
abbrev Whole : {A : Type 0} → Read A → Type 0
Whole (done a r) = r ≡ []
Whole (stuck a r) = Unit {0}

then_whole : {A B : Type 0} (x : Read A) (f : A → B) (K : A → List ℕ → Read B) → ((a : A) (r : List ℕ) → Whole (K a r)) → Whole (and_then x f K)
unfolding and_then
then_whole (done a r) f K h = h a r
then_whole (stuck a r) f K h = tt

-- a reader that ends where another one did
kept_whole : {A B : Type 0} (x : Read A) (f : A → B) → Whole x → Whole (and_then x f (λ a r. done (f a) r))
unfolding and_then
kept_whole (done a r) f h = h
kept_whole (stuck a r) f h = tt

steps_whole : (n : ℕ) (s : List ℕ) → Whole (read_steps n s)
unfolding read_steps
steps_whole zero [] = refl
steps_whole zero (b ∷ s) = tt
steps_whole (suc n) [] = refl
steps_whole (suc n) (b ∷ s) = then_whole (read_step (b ∷ s)) (λ t. t ∷ []) _ (λ t r. kept_whole (read_steps n r) (λ ts. t ∷ ts) (steps_whole n r))

text_whole : (s : List ℕ) → Whole (read_text s)
unfolding read_text
text_whole s = then_whole (read_line s) _ _ (λ xs r. then_whole (read_line r) _ _ (λ ys r. kept_whole (read_steps (length r) r) _ (steps_whole (length r) r)))

pub done_whole : (s : List ℕ) {d : Source} {r : List ℕ} → read_text s ≡ done d r → r ≡ []
done_whole s e = rw e at (text_whole s)

-- ── Reading is exact ──

done_text : (s : List ℕ) {d : Source} → View source_b WellFormed (λ k. k) read_text s (done d []) → TextOf s d
done_text s {d} (view_done u e w f l) = (f, e ∙ sym (w []) ∙ sym (text_bytes d))

pub reading_is_exact : ReadingIsExact
reading_is_exact s d = (λ e. done_text s (rw e at (view_text s)), λ (w, e). rw e (reads_text d w))

done_same : {d e : Source} {r t : List ℕ} → ◌≡◌ {A = Read Source} (done d r) (done e t) → d ≡ e
done_same p = cc

pub printing_is_injective : PrintingIsInjective
printing_is_injective d e v w p = done_same (sym (reads_text d v) ∙ ap read_text p ∙ reads_text e w)

-- ── Where a text stops ──

not_both : {d e : Source} {r t : List ℕ} → ◌≡◌ {A = Read Source} (done d r) (stuck e t) → ⊥
not_both p = let z : ◌≡◌ {A = ℕ} 0 1 = cc in omega arith

offset : (u r s : List ℕ) → s ≡ u ++ r → length s - length r ≡ length u
offset u r s e = rw (e, length-append u r) (omega arith)

upto : (u r s : List ℕ) → s ≡ u ++ r → take (length u) s ≡ u
upto u r s e = rw e (take-append_seam u r)

stops_at : (s : List ℕ) {d : Source} {r : List ℕ} → read_text s ≡ stuck d r → View source_b WellFormed (λ k. k) read_text s (stuck d r)
    → Stops s (length s - length r) × BeginsTextOf (take (length s - length r) s) d
stops_at s {d} {r} q (view_stuck u t e w f l) =
    let b : BeginsTextOf u d = (f, t ++ [], sym (w []) ∙ sym (text_bytes d)) in
    rw (offset u r s e, upto u r s e) (record { so_far = (d, rw (upto u r s e) b); no_further = further r refl }, b)
  where
    goes : (b : ℕ) (k : List ℕ) → r ≡ b ∷ k → ¬ GoesOn (u ++ (b ∷ []))
    goes b k h (d', (v, r', p)) =
        not_both (sym (reads_text d' v) ∙ ap read_text (sym p ∙ append_assoc u (b ∷ []) r') ∙ l (b ∷ r') (rw h both_go))

    further : (k : List ℕ) → r ≡ k → ((length u < length s) × ¬ GoesOn (take (suc (length u)) s)) ⊎ ((length u ≡ length s) × ¬ Allowed s)
    further [] h = inr (rw (e, h, append-nil u), λ (d', (v, p)). not_both (sym (reads_text d' v) ∙ ap read_text (sym p) ∙ q))
    further (b ∷ k) h = inl (rw (e, h, length-append u (b ∷ k)) (omega arith), λ x. goes b k h (rw (one u b k (rw h at e)) at x))
      where
        one : (u : List ℕ) (b : ℕ) (k : List ℕ) → s ≡ u ++ (b ∷ k) → take (suc (length u)) s ≡ u ++ (b ∷ [])
        one u b k e = rw e (go u)
          where
            go : (u : List ℕ) → take (suc (length u)) (u ++ (b ∷ k)) ≡ u ++ (b ∷ [])
            go [] = refl
            go (c ∷ u) = rw (go u)

pub stuck_stops : StuckStops
stuck_stops s d r e = stops_at s e (rw e at (view_text s))

-- ── One place ──

-- what a text by the rules goes on with, it goes on with less of
shorter : (a b : List ℕ) → GoesOn (a ++ b) → GoesOn a
shorter a b (d, (w, r, p)) = (d, (w, b ++ r, sym (append_assoc a b r) ∙ p))

take_more : (m n : ℕ) (s : List ℕ) → m ≤ n → take n s ≡ take m s ++ take (n - m) (drop m s)
take_more zero n s h = rw (zero_of n)
  where
    zero_of : (n : ℕ) → n - 0 ≡ n
    zero_of n = omega arith
take_more (suc m) zero s h = absurd (omega arith)
take_more (suc m) (suc n) [] h = nil (suc n - suc m)
  where
    nil : (k : ℕ) → ◌≡◌ {A = List ℕ} [] (take k [])
    nil zero = refl
    nil (suc k) = refl
take_more (suc m) (suc n) (b ∷ s) h =
    let e : suc n - suc m ≡ n - m = omega arith in
    rw (e, take_more m n s (omega arith))

fewer : (m n : ℕ) (s : List ℕ) → m ≤ n → GoesOn (take n s) → GoesOn (take m s)
fewer m n s h x = shorter (take m s) (take (n - m) (drop m s)) (rw (take_more m n s h) at x)

pub stops_or_allowed : StopsOrAllowed
stops_or_allowed s g h (d, (w, e)) = go h.no_further
  where
    go : ((g < length s) × ¬ GoesOn (take (suc g) s)) ⊎ ((g ≡ length s) × ¬ Allowed s) → ⊥
    go (inl (l, n)) = n (fewer (suc g) (length s) s l (rw (take_all (length s) s (omega arith)) (d, (w, [], append-nil s ∙ e))))
    go (inr (l, n)) = n (d, (w, e))

not_later : (s : List ℕ) (g h : ℕ) → Stops s g → Stops s h → ¬ (g < h)
not_later s g h x y l = go x.no_further y.no_further
  where
    go : ((g < length s) × ¬ GoesOn (take (suc g) s)) ⊎ ((g ≡ length s) × ¬ Allowed s)
        → ((h < length s) × ¬ GoesOn (take (suc h) s)) ⊎ ((h ≡ length s) × ¬ Allowed s) → ⊥
    go (inl (a, n)) b = n (fewer (suc g) h s l y.so_far)
    go (inr (a, n)) (inl (b, m)) = omega arith
    go (inr (a, n)) (inr (b, m)) = omega arith

pub stops_once : StopsOnce
stops_once s g h x y = let a = not_later s g h x y in let b = not_later s h g y x in omega arith
