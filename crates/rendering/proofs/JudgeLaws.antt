-- Proofs of the statements of specs/Judge.antt: the judge's verdict is exact, and no second one is. Assumes nothing.
use mathlib.Core.Path.{◌≡◌, refl, ap, ◌∙◌}
use mathlib.Core.Option.{Option}
use mathlib.Core.List.{List, [], ◌∷◌, ◌++◌, map}
use Prim.Native.Nat.{ℕ, suc, ◌+◌, ◌<◌, ◌≤◌, suc-le-suc}
use native.Mathlib.Decide.{dec_lt}
use native.Mathlib.Omega.{arith}
use lib.ListN.{length, take}
use lib.Seq.{take-take}
use Rattle.calculus.specs.Signature.{Signature}
use Rattle.calculus.specs.Terms.{Term, Act, send, receive, fresh, compare, split, decrypt, map_act, operands}
use Rattle.calculus.specs.Tables.{Entry, denoted, Closed, Unrepeated, Table, meaning, free}
use Rattle.calculus.specs.Scope.{In, here, there, All, all_nil, all_cons}
use Rattle.calculus.proofs.Lists.{all_append, all_of}
use Rattle.rendering.specs.Rendering.{Splitting, halves, merged, Due, dues_of, dues, no_more, Beginning}
use Rattle.rendering.specs.Judge.{Meaning, symbol, Verdict, accepted, not_due, unfinished, meant, term_meant, at_end, on_turn, judge_from, judge, VerdictIs, is_faithful, is_not_due, is_unfinished, JudgeIsExact, VerdictOnce}
use Rattle.rendering.proofs.RuleLaws.{follows_take, follows_once}
use Rattle.rendering.proofs.MeaningLaws.{map_act_lem, act_same, on_due, dues_map, Proper, proper_meant, meant_term}
use Rattle.rendering.proofs.TurnLaws.{S, D, OK, F, DueOk, meanings, symbols_ok, symbols_terms, Leads, leads_to, leads_nowhere, leads}

module _ (𝓢 : Signature) where
  module _ (es : List (Entry 𝓢 ℕ)) (low : Closed 𝓢 0 es) (once : Unrepeated 𝓢 0 es) where
    abbrev Ok : Meaning → Type 0
    Ok = OK 𝓢 es low once

    abbrev Fo : List Meaning → List (D 𝓢) → List (S 𝓢) → List (Term 𝓢) → List (ℕ × Due 𝓢 (Term 𝓢)) → Type 0
    Fo = F 𝓢 es low once

    -- ── the verdict on the statements from number i on ──

    data At (i : ℕ) (ms : List Meaning) (ws : List (D 𝓢)) (ss : List (S 𝓢)) : Verdict → Type 0 where
      at_faithful : (ns : List (Term 𝓢)) → Fo ms ws ss ns [] → At i ms ws ss accepted
      at_not_due : {k : ℕ} (j : ℕ) → k ≡ i + j → j < length ss → (ns : List (Term 𝓢)) (us : List (ℕ × Due 𝓢 (Term 𝓢))) → Fo ms ws (take j ss) ns us
          → ((ns : List (Term 𝓢)) (us : List (ℕ × Due 𝓢 (Term 𝓢))) → Fo ms ws (take (suc j) ss) ns us → ⊥) → At i ms ws ss (not_due k)
      at_unfinished : {n : ℕ} {w : Due 𝓢 (Term 𝓢)} {us : List (ℕ × Due 𝓢 (Term 𝓢))} (ns : List (Term 𝓢)) → Fo ms ws ss ns ((n, w) ∷ us) → At i ms ws ss (unfinished n)

    one_more : {i : ℕ} {ms : List Meaning} (new : List Meaning) {ws vs : List (D 𝓢)} {s : S 𝓢} {ss : List (S 𝓢)} {r : Verdict}
        → ((ss : List (S 𝓢)) (ns : List (Term 𝓢)) (us : List (ℕ × Due 𝓢 (Term 𝓢))) → Fo (ms ++ new) vs ss ns us → Fo ms ws (s ∷ ss) ns us)
        → ((ss : List (S 𝓢)) (ns : List (Term 𝓢)) (us : List (ℕ × Due 𝓢 (Term 𝓢))) → Fo ms ws (s ∷ ss) ns us → Fo (ms ++ new) vs ss ns us)
        → At (suc i) (ms ++ new) vs ss r → At i ms ws (s ∷ ss) r
    one_more new go back (at_faithful ns f) = at_faithful ns (go _ ns [] f)
    one_more new go back (at_not_due j e l ns us f n) = at_not_due (suc j) (e ∙ omega arith) (suc-le-suc l) ns us (go _ ns us f) (λ ks ts g. n ks ts (back _ ks ts g))
    one_more new go back (at_unfinished ns f) = at_unfinished ns (go _ ns _ f)

    on_turn_lem : (i : ℕ) {ms : List Meaning} {ws : List (D 𝓢)} {s : S 𝓢} {ss : List (S 𝓢)} {o : Option (List Meaning × List (D 𝓢))} → Leads 𝓢 es low once ms ws s o
        → ((new : List Meaning) (vs : List (D 𝓢)) → All Ok new → All (DueOk 𝓢 es low once) vs → At (suc i) (ms ++ new) vs ss (judge_from 𝓢 es (suc i) (ms ++ new) vs ss))
        → At i ms ws (s ∷ ss) (on_turn 𝓢 i o (λ new vs. judge_from 𝓢 es (suc i) (ms ++ new) vs ss))
    unfolding on_turn
    on_turn_lem i (leads_to {new = new} {vs = vs} a b go back) h = one_more new go back (h new vs a b)
    on_turn_lem i {ms} {ws} (leads_nowhere n) h = at_not_due {k = i} 0 (omega arith) (omega arith) (map (term_meant 𝓢 es) ms) (map (on_due 𝓢 (term_meant 𝓢 es)) ws) no_more (λ ns us f. n [] ns us f)

    judge_at : (i : ℕ) (ms : List Meaning) (ws : List (D 𝓢)) (ss : List (S 𝓢)) → All Ok ms → All (DueOk 𝓢 es low once) ws → At i ms ws ss (judge_from 𝓢 es i ms ws ss)
    unfolding judge_from at_end
    judge_at i ms [] [] h k = at_faithful (map (term_meant 𝓢 es) ms) no_more
    judge_at i ms (w ∷ ws) [] h k = at_unfinished (map (term_meant 𝓢 es) ms) no_more
    judge_at i ms ws (s ∷ ss) h k = on_turn_lem i (leads 𝓢 es low once ms ws s h k) (λ new vs a b. judge_at (suc i) (ms ++ new) vs ss (all_append h a) b)

  -- ── The whole judge ──

  operands_ok : (es : List (Entry 𝓢 ℕ)) (s : Act 𝓢 ℕ) → All (λ i. i < length es) (operands 𝓢 s) → All (Proper 𝓢 es) (operands 𝓢 (map_act 𝓢 (meant 𝓢 es) s))
  unfolding operands map_act
  operands_ok es (send a b) (all_cons p (all_cons q z)) = all_cons (proper_meant 𝓢 es a p) (all_cons (proper_meant 𝓢 es b q) all_nil)
  operands_ok es (receive a x) (all_cons p z) = all_cons (proper_meant 𝓢 es a p) all_nil
  operands_ok es (fresh x) z = all_nil
  operands_ok es (compare a b) (all_cons p (all_cons q z)) = all_cons (proper_meant 𝓢 es a p) (all_cons (proper_meant 𝓢 es b q) all_nil)
  operands_ok es (split a x y) (all_cons p z) = all_cons (proper_meant 𝓢 es a p) all_nil
  operands_ok es (decrypt s a b x) (all_cons p (all_cons q z)) = all_cons (proper_meant 𝓢 es a p) (all_cons (proper_meant 𝓢 es b q) all_nil)

  module _ {OK : Meaning → Type 0} where
    step_ok_lem : (v : Splitting) (n : ℕ) (d : Act 𝓢 Meaning) → All OK (operands 𝓢 d) → All (λ (w : D 𝓢). All OK (meanings 𝓢 w.1)) (map (λ w. (n, w)) (dues_of 𝓢 v d))
    unfolding dues_of meanings operands
    step_ok_lem v n (send a b) h = all_cons h all_nil
    step_ok_lem v n (receive a x) h = all_cons h all_nil
    step_ok_lem v n (fresh x) h = all_cons h all_nil
    step_ok_lem v n (compare a b) h = all_cons h all_nil
    step_ok_lem halves n (split a x y) h = all_cons h (all_cons h all_nil)
    step_ok_lem merged n (split a x y) h = all_cons h all_nil
    step_ok_lem v n (decrypt s a b x) h = all_cons h all_nil

    dues_ok : (v : Splitting) (n : ℕ) (P : List (Act 𝓢 Meaning)) → All (λ d. All OK (operands 𝓢 d)) P → All (λ (w : D 𝓢). All OK (meanings 𝓢 w.1)) (dues 𝓢 v n P)
    unfolding dues
    dues_ok v n [] h = all_nil
    dues_ok v n (d ∷ P) (all_cons h hs) = all_append (step_ok_lem v n d h) (dues_ok v (suc n) P hs)

  steps_ok : (es : List (Entry 𝓢 ℕ)) (P : List (Act 𝓢 ℕ)) → ((s : Act 𝓢 ℕ) (i : ℕ) → In s P → In i (operands 𝓢 s) → i < length es)
      → All (λ d. All (Proper 𝓢 es) (operands 𝓢 d)) (map (map_act 𝓢 (meant 𝓢 es)) P)
  steps_ok es [] h = all_nil
  steps_ok es (s ∷ P) h = all_cons (operands_ok es s (all_of (operands 𝓢 s) (λ i p. h s i here p))) (steps_ok es P (λ t i p. h t i (there p)))

  -- what the steps make due, by index and as terms
  pub steps_terms : (es : List (Entry 𝓢 ℕ)) → Closed 𝓢 0 es → (P : List (Act 𝓢 ℕ)) → map (map_act 𝓢 (term_meant 𝓢 es)) (map (map_act 𝓢 (meant 𝓢 es)) P) ≡ meaning 𝓢 es P
  steps_terms es low [] = refl
  steps_terms es low (s ∷ P) = rw (steps_terms es low P, map_act_lem 𝓢 (meant 𝓢 es) (term_meant 𝓢 es) s, act_same 𝓢 (λ i. term_meant 𝓢 es (meant 𝓢 es i)) (denoted 𝓢 0 es) (meant_term 𝓢 es low) s)

  pub judge_is_exact : JudgeIsExact 𝓢
  unfolding judge
  judge_is_exact v t ss c once =
      go (judge_at es c.closed once 0 (map symbol (free 𝓢 t)) (dues 𝓢 v 0 Q) ss
      (symbols_ok 𝓢 es c.closed once (free 𝓢 t)) (dues_ok v 0 Q (steps_ok es t.steps c.in_range)))
    where
      es : List (Entry 𝓢 ℕ)
      es = t.entries

      Q : List (Act 𝓢 Meaning)
      Q = map (map_act 𝓢 (meant 𝓢 t.entries)) t.steps

      begins : {k : List (S 𝓢)} {ns : List (Term 𝓢)} {us : List (ℕ × Due 𝓢 (Term 𝓢))} → F 𝓢 es c.closed once (map symbol (free 𝓢 t)) (dues 𝓢 v 0 Q) k ns us → Beginning 𝓢 v t k ns us
      begins f = rw (symbols_terms 𝓢 es c.closed once (free 𝓢 t), ← dues_map 𝓢 (term_meant 𝓢 es) v 0 Q, steps_terms es c.closed t.steps) at f

      ends : {k : List (S 𝓢)} {ns : List (Term 𝓢)} {us : List (ℕ × Due 𝓢 (Term 𝓢))} → Beginning 𝓢 v t k ns us → F 𝓢 es c.closed once (map symbol (free 𝓢 t)) (dues 𝓢 v 0 Q) k ns us
      ends f = rw (symbols_terms 𝓢 es c.closed once (free 𝓢 t), ← dues_map 𝓢 (term_meant 𝓢 es) v 0 Q, steps_terms es c.closed t.steps) f

      go : {r : Verdict} → At es c.closed once 0 (map symbol (free 𝓢 t)) (dues 𝓢 v 0 Q) ss r → VerdictIs 𝓢 v t ss r
      go (at_faithful ns f) = is_faithful (ns, begins f)
      go (at_not_due {k = k} j e l ns us f n) = let q : k ≡ j = omega arith in rw q (is_not_due l (begins f) (λ ks ts g. n ks ts (ends g)))
      go (at_unfinished ns f) = is_unfinished (begins f)

  -- ── No second answer ──

  module _ (v : Splitting) (t : Table 𝓢) (ss : List (S 𝓢)) where
    abbrev B : List (S 𝓢) → List (Term 𝓢) → List (ℕ × Due 𝓢 (Term 𝓢)) → Type 0
    B = Beginning 𝓢 v t

    shorter : {ns : List (Term 𝓢)} {us : List (ℕ × Due 𝓢 (Term 𝓢))} (j : ℕ) → B ss ns us → ((ks : List (Term 𝓢)) (ts : List (ℕ × Due 𝓢 (Term 𝓢))) → B (take j ss) ks ts → ⊥) → ⊥
    shorter j f n = let r = follows_take 𝓢 t.entries f j in n r.0 r.1 r.2

    below : {ns : List (Term 𝓢)} {us : List (ℕ × Due 𝓢 (Term 𝓢))} (i j : ℕ) → suc i ≤ j → B (take j ss) ns us → ((ks : List (Term 𝓢)) (ts : List (ℕ × Due 𝓢 (Term 𝓢))) → B (take (suc i) ss) ks ts → ⊥) → ⊥
    below i j h f n = let r = follows_take 𝓢 t.entries f (suc i) in n r.0 r.1 (rw (take-take (suc i) j ss h) at r.2)

    one_end : {ns ks : List (Term 𝓢)} {us ts : List (ℕ × Due 𝓢 (Term 𝓢))} → B ss ns us → B ss ks ts → us ≡ ts
    one_end f g = (follows_once 𝓢 t.entries f g).1

    verdicts : {a b : Verdict} → VerdictIs 𝓢 v t ss a → VerdictIs 𝓢 v t ss b → a ≡ b
    verdicts (is_faithful f) (is_faithful g) = refl
    verdicts (is_faithful f) (is_not_due {i = i} l g n) = absurd (shorter (suc i) f.1 n)
    verdicts (is_faithful f) (is_unfinished g) = let e = one_end f.1 g in cc
    verdicts (is_not_due {i = i} l g n) (is_faithful f) = absurd (shorter (suc i) f.1 n)
    verdicts (is_not_due {i = i} l g n) (is_not_due {i = j} m h k) = go (dec_lt i j) (dec_lt j i)
      where
        go : Dec (i < j) → Dec (j < i) → not_due i ≡ not_due j
        go (yes p) d = absurd (below i j p h n)
        go (no p) (yes q) = absurd (below j i q g k)
        go (no p) (no q) = let e : i ≡ j = omega arith in rw e
    verdicts (is_not_due {i = i} l g n) (is_unfinished f) = absurd (shorter (suc i) f n)
    verdicts (is_unfinished g) (is_faithful f) = let e = one_end f.1 g in cc
    verdicts (is_unfinished f) (is_not_due {i = i} l g n) = absurd (shorter (suc i) f n)
    verdicts (is_unfinished {n = n} {w = w} f) (is_unfinished {n = m} {w = u} g) =
        let e = one_end f g in
        let q : ◌≡◌ {A = ℕ × Due 𝓢 (Term 𝓢)} (n, w) (m, u) = cc in
        ap (λ (x : ℕ × Due 𝓢 (Term 𝓢)). unfinished x.0) q

  pub verdict_once : VerdictOnce 𝓢
  verdict_once v t ss a b p q = verdicts v t ss p q
