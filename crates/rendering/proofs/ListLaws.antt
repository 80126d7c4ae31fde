-- Proofs of the statements of specs/Lists.antt, and that our translation is accepted. Assumes nothing.
use mathlib.Core.Path.{◌≡◌, refl, ap}
use mathlib.Core.Bool.{cond, decide}
use mathlib.Core.Option.{Option, none, some, some_inj}
use mathlib.Core.List.{List, [], ◌∷◌}
use Prim.Native.Nat.{ℕ, zero, suc, ◌+◌, ◌<◌}
use native.Mathlib.Decide.{dec_lt}
use native.Mathlib.Omega.{arith}
use lib.ListN.{take, get_elem?}
use Rattle.types.specs.Types.{Ty}
use Rattle.calculus.specs.Signature.{Signature}
use Rattle.calculus.specs.Tables.{Table}
use Rattle.rendering.specs.Rendering.{Splitting}
use Rattle.rendering.specs.Judge.{Verdict, accepted, VerdictIs, is_faithful, is_not_due, is_unfinished}
use Rattle.rendering.specs.Translation.{translation, TranslationIsAccepted}
use Rattle.rendering.specs.Lists.{differ_from, Differ, differ_nowhere, differ_at, Answer, types_differ, judged, on_types, StatementList, judge_list, FaithfulList, ListAnswerIs, types_differ_at, types_equal, DifferIsExact, ListsJudgedExactly, AnswerOnce, AcceptsTheFaithful}
use Rattle.rendering.proofs.JudgeLaws.{judge_is_exact, verdict_once}
use Rattle.rendering.proofs.TranslationLaws.{translation_is_faithful}

-- ── The first difference ──

module _ {X : Type 0} (same : Discrete X) where
  data DifferAt (i : ℕ) (k l : List X) : Option ℕ → Type 0 where
    at_none : k ≡ l → DifferAt i k l none
    at_some : {n : ℕ} (j : ℕ) → n ≡ i + j → take j k ≡ take j l → ¬ (get_elem? k j ≡ get_elem? l j) → DifferAt i k l (some n)

  one_more : {i : ℕ} {k l : List X} {o : Option ℕ} (a b : X) → a ≡ b → DifferAt (suc i) k l o → DifferAt i (a ∷ k) (b ∷ l) o
  one_more a b e (at_none q) = at_none (rw (e, q))
  one_more {i} a b e (at_some {n = n} j q t d) = let w : n ≡ i + suc j = omega arith in at_some (suc j) w (rw (e, t)) d

  differ_step : (i : ℕ) (a b : X) (k l : List X) (d : Dec (a ≡ b)) → DifferAt (suc i) k l (differ_from same (suc i) k l) → DifferAt i (a ∷ k) (b ∷ l) (cond (decide d) (differ_from same (suc i) k l) (some i))
  unfolding decide
  differ_step i a b k l (yes e) h = one_more a b e h
  differ_step i a b k l (no n) h = let w : i ≡ i + 0 = omega arith in at_some 0 w refl (λ e. n (some_inj.0 e))

  differs : (i : ℕ) (k l : List X) → DifferAt i k l (differ_from same i k l)
  unfolding differ_from
  differs i [] [] = at_none refl
  differs i [] (b ∷ l) = let w : i ≡ i + 0 = omega arith in at_some 0 w refl (λ (e : none ≡ some b). let z : ◌≡◌ {A = ℕ} 0 1 = cc in omega arith)
  differs i (a ∷ k) [] = let w : i ≡ i + 0 = omega arith in at_some 0 w refl (λ (e : some a ≡ none). let z : ◌≡◌ {A = ℕ} 0 1 = cc in omega arith)
  differs i (a ∷ k) (b ∷ l) = differ_step i a b k l (same a b) (differs (suc i) k l)

  differ_of : {k l : List X} {o : Option ℕ} → DifferAt 0 k l o → Differ k l o
  differ_of (at_none e) = differ_nowhere e
  differ_of (at_some {n = n} j q t d) = let w : n ≡ j = omega arith in rw w (differ_at t d)

pub differ_is_exact : DifferIsExact
differ_is_exact X same k l = differ_of same (differs same 0 k l)

-- where two lists agree before j they agree at each place below
take_get : {X : Type 0} (j i : ℕ) (k l : List X) → i < j → take j k ≡ take j l → get_elem? k i ≡ get_elem? l i
take_get zero i k l h e = absurd (omega arith)
take_get (suc j) i [] [] h e = refl
take_get (suc j) i [] (b ∷ l) h e = cc
take_get (suc j) i (a ∷ k) [] h e = cc
take_get (suc j) zero (a ∷ k) (b ∷ l) h e = let q : a ≡ b = cc in ap some q
take_get (suc j) (suc i) (a ∷ k) (b ∷ l) h e = take_get j i k l (omega arith) (cc)

differ_once : {X : Type 0} {k l : List X} {i j : ℕ} → Differ k l (some i) → Differ k l (some j) → i ≡ j
differ_once {k = k} {l = l} (differ_at {i = i} t d) (differ_at {i = j} u e) = go (dec_lt i j) (dec_lt j i)
  where
    go : Dec (i < j) → Dec (j < i) → i ≡ j
    go (yes p) q = absurd (d (take_get j i k l p u))
    go (no p) (yes q) = absurd (e (take_get i j k l q t))
    go (no p) (no q) = omega arith

differ_not_equal : {X : Type 0} {k l : List X} {i : ℕ} → Differ k l (some i) → k ≡ l → ⊥
differ_not_equal (differ_at {i = i} t d) e = d (ap (λ m. get_elem? m i) e)

-- ── Whole lists ──

module _ (𝓢 : Signature) where
  answered : {v : Splitting} {t : Table 𝓢} {widest : List (Ty 𝓢.types)} {l : StatementList 𝓢} {o : Option ℕ} {r : Verdict}
      → Differ l.types widest o → VerdictIs 𝓢 v t l.statements r → ListAnswerIs 𝓢 v t widest l (on_types o r)
  unfolding on_types
  answered (differ_nowhere e) j = types_equal e j
  answered (differ_at t d) j = types_differ_at (differ_at t d)

  pub lists_judged_exactly : ListsJudgedExactly 𝓢
  unfolding judge_list
  lists_judged_exactly same v t widest l c u = answered (differ_is_exact (Ty 𝓢.types) same l.types widest) (judge_is_exact 𝓢 v t l.statements c u)

  answers : {v : Splitting} {t : Table 𝓢} {widest : List (Ty 𝓢.types)} {l : StatementList 𝓢} {a b : Answer} → ListAnswerIs 𝓢 v t widest l a → ListAnswerIs 𝓢 v t widest l b → a ≡ b
  answers (types_differ_at d) (types_differ_at e) = ap types_differ (differ_once d e)
  answers (types_differ_at d) (types_equal e j) = absurd (differ_not_equal d e)
  answers (types_equal e j) (types_differ_at d) = absurd (differ_not_equal d e)
  answers {v} {t} {l = l} (types_equal {r = r} e j) (types_equal {r = s} f k) = ap judged (verdict_once 𝓢 v t l.statements r s j k)

  pub answer_once : AnswerOnce 𝓢
  answer_once v t widest l a b p q = answers p q

  faithful_of : {v : Splitting} {t : Table 𝓢} {widest : List (Ty 𝓢.types)} {l : StatementList 𝓢} {a : Answer} → ListAnswerIs 𝓢 v t widest l a → a ≡ judged accepted → FaithfulList 𝓢 v t widest l
  faithful_of (types_differ_at d) e = absurd (let z : ◌≡◌ {A = ℕ} 0 1 = cc in omega arith)
  faithful_of (types_equal e (is_faithful f)) q = record { same_types = e; renders = f }
  faithful_of (types_equal e (is_not_due l f n)) q = absurd (let z : ◌≡◌ {A = ℕ} 0 1 = cc in omega arith)
  faithful_of (types_equal e (is_unfinished f)) q = absurd (let z : ◌≡◌ {A = ℕ} 0 1 = cc in omega arith)

  pub accepts_the_faithful : AcceptsTheFaithful 𝓢
  accepts_the_faithful same v t widest l c u =
      let j = lists_judged_exactly same v t widest l c u in
      (λ e. faithful_of j e, λ f. answers j (types_equal f.same_types (is_faithful f.renders)))

  pub translation_is_accepted : TranslationIsAccepted 𝓢
  translation_is_accepted v t c u ir = verdict_once 𝓢 v t (translation 𝓢 v t) _ accepted (judge_is_exact 𝓢 v t (translation 𝓢 v t) c u) (is_faithful (translation_is_faithful 𝓢 v t c ir))
