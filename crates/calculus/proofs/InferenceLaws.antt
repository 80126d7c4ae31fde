-- Proofs of the statements of specs/Inference.antt but for the size: inference finds the greatest typing of every suffix of the steps.
-- Assumes the laws of the kinds.
use mathlib.Core.Path.{◌≡◌, refl, ap, subst}
use mathlib.Core.Option.{Option, none, some, bind, some_inj, none-ne-some, some-ne-none}
use mathlib.Core.List.{List, [], ◌∷◌}
use Prim.Native.Nat.{ℕ, zero, suc, ◌<◌, ◌≤◌}
use native.Mathlib.Decide.{dec_lt}
use native.Mathlib.Omega.{arith}
use lib.ListN.{length, drop}
use Rattle.types.specs.Order.{Greatest, greatest, nothing}
use Rattle.types.specs.Types.{Basic, meet}
use Rattle.calculus.specs.Signature.{Signature, SignatureLaws}
use Rattle.calculus.specs.Terms.{Act, fresh, operands, bound, Step, Process}
use Rattle.calculus.specs.Tables.{Entry, entry_at, Closed, Sort, is_name, sort_of, Table, meaning}
use Rattle.calculus.specs.Scope.{In, here, there, All, Lacks, Scoped, RestrictsNames}
use Rattle.calculus.specs.Figure2.{◌<:◌ as Sub}
use Rattle.calculus.specs.Typing.{Typed, P-Nil, P-Out, P-In, P-Restr, P-Match, P-PSplit, P-ShKD, allowed, start, Below, TypingFrom, Answer, widest, untyped, AnswerIs, is_widest, is_untyped, NoSecondAnswer}
use Rattle.calculus.specs.Inference.{Want, wants, at_step, typing, found, before, infer_by, infer, InferenceIsGreatest, Sound, Complete, WidestOfAll, InferenceIsRight}
use Rattle.calculus.proofs.Environments.{Env, sub_refl, sub_trans, below_refl, below_trans, below_same, Best, best, stuck}
use Rattle.calculus.proofs.StepLaws as step
use Rattle.calculus.proofs.StepTyping as figure

module _ (𝓢 : Signature) where
  pub start_name : (so : List Sort) (x : ℕ) → sort_of so x ≡ is_name → start 𝓢 so x ≡ Basic 𝓢.name
  unfolding allowed
  start_name so x e = ap (allowed 𝓢) e

  pub typing_before : (a : Answer 𝓢) (f : Env 𝓢 → Option (Env 𝓢)) → typing 𝓢 (before 𝓢 a f) ≡ bind (typing 𝓢 a) f
  unfolding typing before found bind
  typing_before (untyped i) f = refl
  typing_before (widest Γ) f = go (f Γ)
    where
      go : (o : Option (Env 𝓢)) → typing 𝓢 (found 𝓢 o) ≡ o
      go none = refl
      go (some Θ) = refl

  module _ (laws : SignatureLaws 𝓢) (es : List (Entry 𝓢 ℕ)) (closed : Closed 𝓢 0 es) where
    abbrev entry : ℕ → Entry 𝓢 ℕ
    entry = figure.entry 𝓢 laws es closed

    abbrev Met : Env 𝓢 → List (Want 𝓢) → Type 0
    Met = figure.Met 𝓢 laws es closed

    abbrev step_of : Act 𝓢 ℕ → Step 𝓢
    step_of = figure.step_of 𝓢 laws es closed

    abbrev rest : List (Act 𝓢 ℕ) → Process 𝓢
    rest = figure.rest 𝓢 laws es closed

    in_here : {s r : Act 𝓢 ℕ} {ss : List (Act 𝓢 ℕ)} → s ≡ r → In r (s ∷ ss)
    in_here e = rw e here

    step_best : (n : ℕ) (Γ : Env 𝓢) (s : Act 𝓢 ℕ) (ss : List (Act 𝓢 ℕ)) {o : Option (Env 𝓢)}
        → ((x : ℕ) → step_of s ≡ fresh x → Sub 𝓢 (Γ x) (Basic 𝓢.name)) → ((x : ℕ) → In x (bound 𝓢 (rest (s ∷ ss))) → All (Lacks 𝓢 x) (operands 𝓢 (step_of s)))
        → ((t : ℕ) → In t (operands 𝓢 s) → t < n) → Best 𝓢 (λ Δ. Typed 𝓢 Δ (rest ss)) Γ o → Best 𝓢 (λ Δ. Typed 𝓢 Δ (rest (s ∷ ss))) Γ (bind o (λ Θ. at_step 𝓢 (meet 𝓢.types) entry n s Θ))
    unfolding bind
    step_best n Γ s ss nm f small (stuck h) = stuck λ Δ w t. h Δ w (figure.typed_split 𝓢 laws es closed s t).1
    step_best n Γ s ss nm f small (best {Θ = Θ} w t h) = go (step.at_step_is 𝓢 laws es closed n s Θ small)
      where
        go : {u : Option (Env 𝓢)} → Best 𝓢 (λ Δ. Met Δ (wants 𝓢 s Θ)) Θ u → Best 𝓢 (λ Δ. Typed 𝓢 Δ (rest (s ∷ ss))) Γ u
        go (stuck k) = stuck λ Δ v q. let (d, t') = figure.typed_split 𝓢 laws es closed s q in let v' = h Δ v t' in k Δ v' (figure.wants_mono 𝓢 laws es closed s Θ Δ v' d)
        go (best {Θ = Ξ} w' d k) =
            let same : (x : ℕ) → In x (bound 𝓢 (rest (s ∷ ss))) → Ξ x ≡ Θ x = λ x i. figure.frame 𝓢 laws es closed w' d k (rw (figure.operands_map 𝓢 laws es closed s Θ) at (f x i)) in
            let e : wants 𝓢 s Ξ ≡ wants 𝓢 s Θ = figure.wants_local 𝓢 laws es closed s Ξ Θ (λ x i. same x (figure.bound_here 𝓢 (step_of s) (rest ss) i)) in
            let d' : Met Ξ (wants 𝓢 s Ξ) = rw e d in
            best (below_trans 𝓢 w' w)
            (figure.typed_join 𝓢 laws es closed s (λ x q. sub_trans 𝓢 (below_trans 𝓢 w' w x) (nm x q)) d' (figure.typed_down 𝓢 w' (λ x i. same x (figure.bound_there 𝓢 (step_of s) (rest ss) i)) t))
            (λ Δ v q. let (d'', t') = figure.typed_split 𝓢 laws es closed s q in let v' = h Δ v t' in k Δ v' (figure.wants_mono 𝓢 laws es closed s Θ Δ v' d''))

    pub infer_best : (n : ℕ) (so : List Sort) (ss : List (Act 𝓢 ℕ)) → RestrictsNames 𝓢 so ss → Scoped 𝓢 (rest ss)
        → ((s : Act 𝓢 ℕ) (i : ℕ) → In s ss → In i (operands 𝓢 s) → i < n)
        → Best 𝓢 (λ Δ. Typed 𝓢 Δ (rest ss)) (start 𝓢 so) (typing 𝓢 (infer_by 𝓢 (meet 𝓢.types) entry n (start 𝓢 so) ss))
    unfolding infer_by typing
    infer_best n so [] r c small = best (below_refl 𝓢 (start 𝓢 so)) P-Nil (λ Δ w t. w)
    infer_best n so (s ∷ ss) r c small =
        rw (typing_before (infer_by 𝓢 (meet 𝓢.types) entry n (start 𝓢 so) ss) (λ Θ. at_step 𝓢 (meet 𝓢.types) entry n s Θ))
        (step_best n (start 𝓢 so) s ss (λ x e. rw (start_name so x (r x (in_here (figure.is_fresh_lem 𝓢 laws es closed s x e)))) (sub_refl 𝓢 (Basic 𝓢.name))) (figure.scoped_split 𝓢 c).0 (λ t i. small s t here i)
        (infer_best n so ss (λ x i. r x (there i)) (figure.scoped_split 𝓢 c).1 (λ s i p q. small s i (there p) q)))

  pub typed_tail : {Γ : Env 𝓢} {s : Step 𝓢} {P : Process 𝓢} → Typed 𝓢 Γ (s ∷ P) → Typed 𝓢 Γ P
  typed_tail (P-Out d e p) = p
  typed_tail (P-In d p) = p
  typed_tail (P-Restr l p) = p
  typed_tail (P-Match d e p) = p
  typed_tail (P-PSplit d p) = p
  typed_tail (P-ShKD d e p) = p

  -- ── The steps from i on keep what the checks leave ──
  module _ (es : List (Entry 𝓢 ℕ)) where
    pub scoped_from : (i : ℕ) (ss : List (Act 𝓢 ℕ)) → Scoped 𝓢 (meaning 𝓢 es ss) → Scoped 𝓢 (meaning 𝓢 es (drop i ss))
    scoped_from zero ss c = c
    scoped_from (suc i) [] c = c
    scoped_from (suc i) (s ∷ ss) c = scoped_from i ss (figure.scoped_split 𝓢 c).1

  pub in_from : {s : Act 𝓢 ℕ} (i : ℕ) (ss : List (Act 𝓢 ℕ)) → In s (drop i ss) → In s ss
  in_from zero ss p = p
  in_from (suc i) [] p = p
  in_from (suc i) (s ∷ ss) p = there (in_from i ss p)

  best_greatest : {P : Env 𝓢 → Type 0} {Γ : Env 𝓢} {o : Option (Env 𝓢)} → Best 𝓢 P Γ o → Greatest (Below 𝓢) (λ Δ. Below 𝓢 Δ Γ × P Δ) o
  best_greatest (best w p m) = greatest (w, p) (λ Δ q. m Δ q.0 q.1)
  best_greatest (stuck n) = nothing (λ Δ q. n Δ q.0 q.1)

  -- ── The statements ──
  module _ (laws : SignatureLaws 𝓢) (t : Table 𝓢) where
    pub inference_is_greatest : InferenceIsGreatest 𝓢 t
    inference_is_greatest c i = best_greatest
        (infer_best laws t.entries c.closed (length t.entries) t.sorts (drop i t.steps)
        (λ x p. c.restricts x (in_from i t.steps p)) (scoped_from t.entries i t.steps c.scoped) (λ s j p q. c.in_range s j (in_from i t.steps p) q))

    greatest_some : {P : Env 𝓢 → Type 0} {o : Option (Env 𝓢)} (Γ : Env 𝓢) → Greatest (Below 𝓢) P o → o ≡ some Γ → P Γ × ((Δ : Env 𝓢) → P Δ → Below 𝓢 Δ Γ)
    greatest_some {P} Γ (greatest {c = Θ} p m) e = subst (λ Θ. P Θ × ((Δ : Env 𝓢) → P Δ → Below 𝓢 Δ Θ)) (some_inj.0 e) (p, m)
    greatest_some Γ (nothing n) e = absurd (none-ne-some Γ e)

    greatest_none : {P : Env 𝓢 → Type 0} {o : Option (Env 𝓢)} → Greatest (Below 𝓢) P o → o ≡ none → (Δ : Env 𝓢) → P Δ → ⊥
    greatest_none (greatest {c = Θ} p m) e = absurd (some-ne-none Θ e)
    greatest_none (nothing n) e = n

    pub typing_widest : {a : Answer 𝓢} {Γ : Env 𝓢} → a ≡ widest Γ → typing 𝓢 a ≡ some Γ
    unfolding typing
    typing_widest e = ap (typing 𝓢) e

    typing_untyped : {a : Answer 𝓢} {i : ℕ} → a ≡ untyped i → typing 𝓢 a ≡ none
    unfolding typing
    typing_untyped e = ap (typing 𝓢) e

    pub sound : Sound 𝓢 t
    sound c Γ e = (greatest_some Γ (inference_is_greatest c 0) (typing_widest e)).0

    pub widest_of_all : WidestOfAll 𝓢 t
    widest_of_all c Γ Δ e d = (greatest_some Γ (inference_is_greatest c 0) (typing_widest e)).1 Δ d

    pub complete : Complete 𝓢 t
    complete c Δ d = go (infer 𝓢 t) refl
      where
        go : (a : Answer 𝓢) → infer 𝓢 t ≡ a → (Γ : Env 𝓢) × (infer 𝓢 t ≡ widest Γ)
        go (widest Γ) e = (Γ, e)
        go (untyped i) e = absurd (greatest_none (inference_is_greatest c 0) (typing_untyped e) Δ d)

    -- ── The place of number 10 ──
    abbrev at_act : Act 𝓢 ℕ → Env 𝓢 → Option (Env 𝓢)
    at_act s Γ = at_step 𝓢 (meet 𝓢.types) (entry_at 𝓢 0 t.entries) (length t.entries) s Γ

    abbrev from : List (Act 𝓢 ℕ) → Answer 𝓢
    from ss = infer_by 𝓢 (meet 𝓢.types) (entry_at 𝓢 0 t.entries) (length t.entries) (start 𝓢 t.sorts) ss

    -- the steps from i on fail, those after it do not
    data Fails (ss : List (Act 𝓢 ℕ)) : Answer 𝓢 → Type 0 where
      fa_typed : {Γ : Env 𝓢} → Fails ss (widest Γ)
      fa_at : {i : ℕ} → i < length ss → from (drop i ss) ≡ untyped 0 → (Γ : Env 𝓢) × (from (drop (suc i) ss) ≡ widest Γ) → Fails ss (untyped i)

    fails_is : (ss : List (Act 𝓢 ℕ)) → Fails ss (from ss)
    unfolding infer_by
    fails_is [] = fa_typed
    fails_is (s ∷ ss) = go (from ss) refl (fails_is ss)
      where
        here_at : (Γ : Env 𝓢) → from ss ≡ widest Γ → (o : Option (Env 𝓢)) → from (s ∷ ss) ≡ found 𝓢 o → Fails (s ∷ ss) (found 𝓢 o)
        here_at Γ e none q = unfold found in fa_at {i = 0} (omega arith) q (Γ, e)
        here_at Γ e (some Θ) q = unfold found in fa_typed

        go : (a : Answer 𝓢) → from ss ≡ a → Fails ss a → Fails (s ∷ ss) (before 𝓢 a (λ Θ. at_act s Θ))
        go (widest Γ) e fa_typed = unfold before in here_at Γ e (at_act s Γ) (ap (λ a. before 𝓢 a (λ Θ. at_act s Θ)) e)
        go (untyped i) e (fa_at l p q) = unfold before in fa_at {i = suc i} (omega arith) p q

    typed_later : {Γ : Env 𝓢} (i j : ℕ) (ss : List (Act 𝓢 ℕ)) → i ≤ j → Typed 𝓢 Γ (meaning 𝓢 t.entries (drop i ss)) → Typed 𝓢 Γ (meaning 𝓢 t.entries (drop j ss))
    typed_later zero zero ss h d = d
    typed_later zero (suc j) [] h d = P-Nil
    typed_later zero (suc j) (s ∷ ss) h d = typed_later zero j ss (omega arith) (typed_tail d)
    typed_later (suc i) zero ss h d = absurd (omega arith)
    typed_later (suc i) (suc j) [] h d = d
    typed_later (suc i) (suc j) (s ∷ ss) h d = typed_later i j ss (omega arith) d

    typing_later : {Γ : Env 𝓢} (i j : ℕ) → i ≤ j → TypingFrom 𝓢 t i Γ → TypingFrom 𝓢 t j Γ
    typing_later i j h d = (d.0, typed_later i j t.steps h d.1)

    pub inference_is_right : InferenceIsRight 𝓢 t
    inference_is_right c = go (from t.steps) refl (fails_is t.steps)
      where
        go : (a : Answer 𝓢) → from t.steps ≡ a → Fails t.steps a → AnswerIs 𝓢 t a
        go (widest Γ) e f = is_widest (sound c Γ e) (λ Δ d. widest_of_all c Γ Δ e d)
        go (untyped i) e (fa_at l p (Γ, q)) =
            let d = (greatest_some Γ (inference_is_greatest c (suc i)) (typing_widest q)).0 in
            is_untyped l (greatest_none (inference_is_greatest c i) (typing_untyped p)) (λ j h. (Γ, typing_later (suc i) j h d))

    pub no_second_answer : NoSecondAnswer 𝓢 t
    no_second_answer a b (is_widest p m) (is_widest q n) = ap widest (below_same 𝓢 laws (n _ p) (m _ q))
    no_second_answer a b (is_widest p m) (is_untyped {i = i} l x y) = absurd (x _ (typing_later 0 i (omega arith) p))
    no_second_answer a b (is_untyped {i = i} l x y) (is_widest p m) = absurd (x _ (typing_later 0 i (omega arith) p))
    no_second_answer a b (is_untyped {i = i} l x y) (is_untyped {i = j} k u v) = go (dec_lt i j) (dec_lt j i)
      where
        go : Dec (i < j) → Dec (j < i) → ◌≡◌ {A = Answer 𝓢} (untyped i) (untyped j)
        go (yes h) d = let (Δ, e) = y j h in absurd (u Δ e)
        go (no h) (yes k) = let (Δ, e) = v i k in absurd (x Δ e)
        go (no h) (no k) = let e : i ≡ j = omega arith in ap untyped e
