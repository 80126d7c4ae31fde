-- The reader's answers are those of Places.antt, and no second answer fits. Assumes nothing.
use mathlib.Core.Path.{◌≡◌, refl, sym, ap, ◌∙◌}
use mathlib.Core.Logic.{◌⊎◌, inl, inr}
use mathlib.Core.Option.{Option, none, some}
use mathlib.Core.List.{List}
use Prim.Native.Nat.{ℕ, ◌-◌, ◌≤◌, ◌<◌}
use native.Mathlib.Omega.{arith}
use lib.ListN.{length, take}
use lib.Seq.{length-take-le}
use Rattle.text.specs.Source.{Source}
use Rattle.text.specs.Grammar.{TextOf, Allowed}
use Rattle.text.specs.Places.{BeginsTextOf, GoesOn, Stops, occurrences, counted, wrong_name, or_else, Reads, Refused, name_wrong, text_stops}
use Rattle.text.specs.Reader.{Read, done, stuck, read_text, Outcome, reads, refused16, whole, outcome, answer_of}
use Rattle.text.specs.Statements.{AnswersReads, AnswersRefused, OnePlace, NotBoth}
use Rattle.text.proofs.Reading.{done_whole, reading_is_exact, stuck_stops, stops_once, stops_or_allowed}
use Rattle.text.proofs.AlikeSources.{counted_once}

apart : {d : Source} {p : ℕ} → ◌≡◌ {A = Outcome} (reads d) (refused16 p) → ⊥
apart e = let z : ◌≡◌ {A = ℕ} 0 1 = cc in omega arith

reads_one : {d e : Source} → ◌≡◌ {A = Outcome} (reads d) (reads e) → d ≡ e
reads_one e = cc

refused_one : {p q : ℕ} → ◌≡◌ {A = Outcome} (refused16 p) (refused16 q) → p ≡ q
refused_one e = cc

-- a text that is read whole
text_of : (s : List ℕ) {d : Source} {r : List ℕ} → read_text s ≡ done d r → TextOf s d
text_of s {d} {r} e = (reading_is_exact s d).0 (rw (done_whole s e) at e)

-- ── A text that reads ──

to_reads : (s : List ℕ) (d : Source) (x : Read Source) → read_text s ≡ x → outcome (length s) x ≡ reads d → Reads s d
unfolding outcome whole
to_reads s d (done e r) q h = go (wrong_name (occurrences e)) refl h
  where
    go : (o : Option ℕ) → wrong_name (occurrences e) ≡ o → whole e o ≡ reads d → Reads s d
    go none w h = let i : e ≡ d = reads_one h in rw (sym i) (record { by_rules = text_of s q; names_right = w })
    go (some p) w h = absurd (apart (sym h))
to_reads s d (stuck e r) q h = absurd (apart (sym h))

pub answers_reads : AnswersReads
unfolding answer_of outcome whole
answers_reads s d = (λ h. to_reads s d (read_text s) refl h, λ h. rw ((reading_is_exact s d).1 h.by_rules, h.names_right))

-- ── A text that is refused ──

to_refused : (s : List ℕ) (p : ℕ) (x : Read Source) → read_text s ≡ x → outcome (length s) x ≡ refused16 p → Refused s p
unfolding outcome whole
to_refused s p (done e r) q h = go (wrong_name (occurrences e)) refl h
  where
    go : (o : Option ℕ) → wrong_name (occurrences e) ≡ o → whole e o ≡ refused16 p → Refused s p
    go none w h = absurd (apart h)
    go (some a) w h = name_wrong (text_of s q) (w ∙ ap (λ (k : ℕ). some k) (refused_one h))
to_refused s p (stuck e r) q h = let (st, b) = stuck_stops s e r q in text_stops st b (refused_one h)

-- a text stops at its end at the latest
stops_inside : (s : List ℕ) (g : ℕ) → Stops s g → g ≤ length s
stops_inside s g st = go st.no_further
  where
    go : ((g < length s) × ¬ GoesOn (take (ℕ.suc g) s)) ⊎ ((g ≡ length s) × ¬ Allowed s) → g ≤ length s
    go (inl (l, n)) = omega arith
    go (inr (l, n)) = omega arith

-- the same names count, whatever the text could have gone on with
same_counted : (s : List ℕ) (g : ℕ) (d e : Source) → Stops s g → BeginsTextOf (take g s) d → BeginsTextOf (take g s) e → counted g (occurrences d) ≡ counted g (occurrences e)
same_counted s g d e st a b = let h : length (take g s) ≡ g = length-take-le g s (stops_inside s g st) in rw h at (counted_once (take g s) d e a b)

stops_answer : (s : List ℕ) (g : ℕ) (d : Source) (x : Read Source) → read_text s ≡ x → Stops s g → BeginsTextOf (take g s) d
    → outcome (length s) x ≡ refused16 (or_else (wrong_name (counted g (occurrences d))) g)
unfolding outcome whole
stops_answer s g d (done e r) q st b = absurd (stops_or_allowed s g st (e, text_of s q))
stops_answer s g d (stuck e r) q st b =
    let (st', b') = stuck_stops s e r q in
    let h : length s - length r ≡ g = stops_once s (length s - length r) g st' st in
    let k : BeginsTextOf (take g s) e = rw h at b' in
    rw (h, same_counted s g e d st k b)

refused_answer : (s : List ℕ) (p : ℕ) → Refused s p → answer_of s ≡ refused16 p
unfolding answer_of outcome whole
refused_answer s p (name_wrong {d = d} t w) = rw ((reading_is_exact s d).1 t, w)
refused_answer s p (text_stops {g = g} {d = d} st b e) = stops_answer s g d (read_text s) refl st b ∙ ap refused16 e

pub answers_refused : AnswersRefused
unfolding answer_of
answers_refused s p = (λ h. to_refused s p (read_text s) refl h, refused_answer s p)

-- ── No second answer ──

pub one_place : OnePlace
one_place s p q h k = refused_one (sym (refused_answer s p h) ∙ refused_answer s q k)

pub not_both : NotBoth
not_both s d p h k = apart (sym ((answers_reads s d).1 h) ∙ refused_answer s p k)
