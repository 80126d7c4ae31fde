-- The size of types: each type of the widest typing of P steps has at most 2P + 1 nodes. The weight of the symbols that are not bound from step i on
-- grows by at most one a step: a split or a decryption adds one node to what its parts weighed. Assumes the laws of the kinds.
use mathlib.Core.Path.{◌≡◌, refl, subst}
use mathlib.Core.Bool.{Bool, true, false, cond, decide}
use mathlib.Core.Option.{Option, none, some, map, bind, some_inj, none-ne-some}
use mathlib.Core.Logic.{◌⊎◌, inl, inr}
use mathlib.Core.List.{List, [], ◌∷◌, ◌++◌}
use Prim.Native.Nat.{ℕ, zero, suc, ◌+◌, ◌*◌, ◌≤◌, ◌<◌}
use native.Mathlib.Omega.{arith}
use lib.ListN.{length}
use Rattle.types.specs.Forest.{under}
use Rattle.types.specs.Types.{Message, Basic, Cipher, Pair, meet}
use Rattle.types.specs.Prefix.{nodes}
use Rattle.calculus.specs.Signature.{Signature, SignatureLaws, pairing, seal}
use Rattle.calculus.specs.Terms.{Term, build1, build2, Act, send, receive, fresh, compare, split, decrypt, map_act, operands, binders, bound, Process}
use Rattle.calculus.specs.Tables.{Entry, leaf_entry, kind_entry, entry_at, Closed, Sort, is_name, is_variable, sort_of, Table, meaning}
use Rattle.calculus.specs.Scope.{In, here, there, All, NotIn, Lacks, Distinct, Scoped}
use Rattle.calculus.specs.Figure2.{extend}
use Rattle.calculus.specs.Typing.{allowed, start, widest, SmallTypes}
use Rattle.calculus.specs.Inference.{Want, want, wants, needs, by_entry, push, push_all, needs_at, needs_of, at_step, standing, typing, infer_by, infer}
use Rattle.calculus.proofs.Lists.{in_append_left, in_append_right, in_append, in_or_not, distinct_tail}
use Rattle.calculus.proofs.Environments.{T, Env, extend_same, extend_other, Best, best, stuck}
use Rattle.calculus.proofs.StepLaws as step
use Rattle.calculus.proofs.StepTyping.{scoped_split, frame, operands_map}
use Rattle.calculus.proofs.InferenceLaws.{typing_before, typing_widest, inference_is_right, no_second_answer}
use Rattle.calculus.proofs.Sums.{sum, rest, rest_bump, rest_drops, rest_elem, rest_zero, sum_elem}
use Rattle.calculus.proofs.Weights.{Each, ea_none, ea_some, inner, nodes_inner, inner_nodes, meet_weight}

module _ (𝓢 : Signature) where
  -- the weight of a type, and of wants
  abbrev w : T 𝓢 → ℕ
  w = inner 𝓢.types

  unfoldable load : List (Want 𝓢) → ℕ
  load [] = 0
  load (want i A ∷ ws) = w A + load ws

  -- a step wants at most one node more than what it binds
  wants_weight : (f : ℕ → Term 𝓢) (s : Act 𝓢 ℕ) (Γ : Env 𝓢) → load (wants 𝓢 s Γ) ≤ 1 + sum (binders 𝓢 (map_act 𝓢 f s)) (λ x. w (Γ x))
  unfolding wants binders map_act load sum inner
  wants_weight f (send a b) Γ = omega arith
  wants_weight f (receive a x) Γ = omega arith
  wants_weight f (fresh x) Γ = omega arith
  wants_weight f (compare a b) Γ = omega arith
  wants_weight f (split a x y) Γ = omega arith
  wants_weight f (decrypt s a b x) Γ = omega arith

  start_weight : (so : List Sort) (x : ℕ) → w (start 𝓢 so x) ≡ 0
  unfolding allowed inner
  start_weight so x = go (sort_of so x)
    where
      go : (s : Sort) → w (allowed 𝓢 s) ≡ 0
      go is_name = refl
      go is_variable = refl

  module _ (S : ℕ) where
    -- the weight of the symbols below S that are not in l
    live : List ℕ → Env 𝓢 → ℕ
    live l Γ = rest S l (λ x. w (Γ x))

    abbrev Grown : List ℕ → Env 𝓢 → ℕ → Option (Env 𝓢) → Type 0
    Grown l Γ n o = Each (λ Θ. live l Θ ≤ live l Γ + n) o

    extend_live : (l : List ℕ) (Γ : Env 𝓢) (x : ℕ) (C : T 𝓢) (n : ℕ) → w C ≤ w (Γ x) + n → live l (extend 𝓢 Γ x C) ≤ live l Γ + n
    unfolding live
    extend_live l Γ x C n h = rest_bump S l (λ y. w (Γ y)) (λ y. w (extend 𝓢 Γ x C y)) x n
        (λ y k. rw (extend_other 𝓢 Γ x y C k) (omega arith)) (rw (extend_same 𝓢 Γ x C) h)

    grown_same : (l : List ℕ) (Γ : Env 𝓢) (n : ℕ) → Grown l Γ n (some Γ)
    grown_same l Γ n = ea_some {a = Γ} (omega arith)

    grown_then : (l : List ℕ) (Γ : Env 𝓢) (m n : ℕ) {o : Option (Env 𝓢)} {f : Env 𝓢 → Option (Env 𝓢)}
        → Grown l Γ m o → ((Θ : Env 𝓢) → Grown l Θ n (f Θ)) → Grown l Γ (m + n) (bind o f)
    unfolding bind
    grown_then l Γ m n ea_none g = ea_none
    grown_then l Γ m n (ea_some {a = Θ} h) g = go (g Θ)
      where
        go : {u : Option (Env 𝓢)} → Each (λ Ξ. live l Ξ ≤ live l Θ + n) u → Each (λ Ξ. live l Ξ ≤ live l Γ + (m + n)) u
        go ea_none = ea_none
        go (ea_some {a = Ξ} k) = ea_some {a = Ξ} (omega arith)

    grown_more : (l : List ℕ) (Γ : Env 𝓢) (m n : ℕ) {o : Option (Env 𝓢)} → m ≤ n → Grown l Γ m o → Grown l Γ n o
    grown_more l Γ m n h ea_none = ea_none
    grown_more l Γ m n h (ea_some {a = Θ} k) = ea_some {a = Θ} (omega arith)

    set_grown : (l : List ℕ) (Γ : Env 𝓢) (x : ℕ) (A : T 𝓢) {o : Option (T 𝓢)} → Each (λ C. w C ≤ w (Γ x) + w A) o → Grown l Γ (w A) (map (extend 𝓢 Γ x) o)
    set_grown l Γ x A ea_none = ea_none
    set_grown l Γ x A (ea_some {a = C} h) = ea_some (extend_live l Γ x C (w A) h)

    cond_grown : (l : List ℕ) (Γ : Env 𝓢) (n : ℕ) {o : Option (Env 𝓢)} (b : Bool) → Grown l Γ n o → Grown l Γ n (cond b o none)
    cond_grown l Γ n true g = g
    cond_grown l Γ n false g = ea_none

    module _ (laws : SignatureLaws 𝓢) (es : List (Entry 𝓢 ℕ)) where
      abbrev E : Type 0
      E = Entry 𝓢 ℕ

      abbrev entry : ℕ → E
      entry = entry_at 𝓢 0 es

      abbrev lower : T 𝓢 → T 𝓢 → Option (T 𝓢)
      lower = meet 𝓢.types

      symbol_grown : (l : List ℕ) (A : T 𝓢) (Γ : Env 𝓢) (x : ℕ) → Grown l Γ (w A) (map (extend 𝓢 Γ x) (lower (Γ x) A))
      symbol_grown l A Γ x = set_grown l Γ x A (meet_weight 𝓢.types (Γ x) A)

      push_grown : (l : List ℕ) (A : T 𝓢) (i : ℕ) (Γ : Env 𝓢) → Grown l Γ (w A) (push 𝓢 lower entry A i Γ)
      unfolding push by_entry
      push_grown l Message i Γ = grown_same l Γ (w Message)
      push_grown l (Basic b) i Γ = go (entry i)
        where
          go : (e : E) → Grown l Γ (w (Basic b)) (by_entry 𝓢 e (λ x. map (extend 𝓢 Γ x) (lower (Γ x) (Basic b))) (λ k. cond (under 𝓢.types.forest (𝓢.result k) b) (some Γ) none) (λ a c. none) (λ s a. none))
          go (leaf_entry x) = symbol_grown l (Basic b) Γ x
          go (kind_entry (build1 k a)) = cond_grown l Γ (w (Basic b)) (under 𝓢.types.forest (𝓢.result k) b) (grown_same l Γ (w (Basic b)))
          go (kind_entry (build2 pairing a c)) = ea_none
          go (kind_entry (build2 (seal s) a c)) = ea_none
      push_grown l (Cipher u A) i Γ = go (entry i) (λ a. push_grown l A a Γ)
        where
          less : w A ≤ w (Cipher u A)
          less = unfold inner in omega arith

          go : (e : E) → ((a : ℕ) → Grown l Γ (w A) (push 𝓢 lower entry A a Γ))
              → Grown l Γ (w (Cipher u A)) (by_entry 𝓢 e (λ x. map (extend 𝓢 Γ x) (lower (Γ x) (Cipher u A))) (λ k. none) (λ a c. none) (λ s a. cond (decide (𝓢.types.same_former (𝓢.former s) u)) (push 𝓢 lower entry A a Γ) none))
          go (leaf_entry x) h = symbol_grown l (Cipher u A) Γ x
          go (kind_entry (build1 k a)) h = ea_none
          go (kind_entry (build2 pairing a c)) h = ea_none
          go (kind_entry (build2 (seal s) a c)) h = cond_grown l Γ (w (Cipher u A)) (decide (𝓢.types.same_former (𝓢.former s) u)) (grown_more l Γ (w A) (w (Cipher u A)) less (h a))
      push_grown l (Pair A B) i Γ = go (entry i) (λ a. push_grown l A a Γ) (λ c Θ. push_grown l B c Θ)
        where
          less : w A + w B ≤ w (Pair A B)
          less = unfold inner in omega arith

          go : (e : E) → ((a : ℕ) → Grown l Γ (w A) (push 𝓢 lower entry A a Γ)) → ((c : ℕ) (Θ : Env 𝓢) → Grown l Θ (w B) (push 𝓢 lower entry B c Θ))
              → Grown l Γ (w (Pair A B)) (by_entry 𝓢 e (λ x. map (extend 𝓢 Γ x) (lower (Γ x) (Pair A B))) (λ k. none) (λ a c. bind (push 𝓢 lower entry A a Γ) (λ Θ. push 𝓢 lower entry B c Θ)) (λ s a. none))
          go (leaf_entry x) h g = symbol_grown l (Pair A B) Γ x
          go (kind_entry (build1 k a)) h g = ea_none
          go (kind_entry (build2 pairing a c)) h g = grown_more l Γ (w A + w B) (w (Pair A B)) less (grown_then l Γ (w A) (w B) (h a) (λ Θ. g c Θ))
          go (kind_entry (build2 (seal s) a c)) h g = ea_none

      push_all_grown : (l : List ℕ) (ws : List (Want 𝓢)) (Γ : Env 𝓢) → Grown l Γ (load ws) (push_all 𝓢 lower entry ws Γ)
      unfolding push_all load
      push_all_grown l [] Γ = grown_same l Γ 0
      push_all_grown l (want i A ∷ ws) Γ = grown_then l Γ (w A) (load ws) (push_grown l A i Γ) (λ Θ. push_all_grown l ws Θ)

      -- what entries need of their parts weighs nothing
      needs_weight : (e : E) → load (needs 𝓢 e) ≡ 0
      unfolding needs load inner
      needs_weight (leaf_entry x) = refl
      needs_weight (kind_entry (build1 k i)) = let a = laws.flat k in let b = inner_nodes 𝓢.types (𝓢.part k) in omega arith
      needs_weight (kind_entry (build2 pairing i j)) = refl
      needs_weight (kind_entry (build2 (seal s) i j)) = refl

      needs_at_grown : (l : List ℕ) (b : Bool) (e : E) (Γ : Env 𝓢) → Grown l Γ 0 (needs_at 𝓢 lower entry b e Γ)
      unfolding needs_at
      needs_at_grown l false e Γ = grown_same l Γ 0
      needs_at_grown l true e Γ = subst (λ n. Grown l Γ n (push_all 𝓢 lower entry (needs 𝓢 e) Γ)) (needs_weight e) (push_all_grown l (needs 𝓢 e) Γ)

      needs_of_grown : (l : List ℕ) (m : ℕ → Bool) (n : ℕ) (Γ : Env 𝓢) → Grown l Γ 0 (needs_of 𝓢 lower entry m n Γ)
      unfolding needs_of
      needs_of_grown l m zero Γ = grown_same l Γ 0
      needs_of_grown l m (suc n) Γ = grown_then l Γ 0 0 (needs_of_grown l m n Γ) (λ Θ. needs_at_grown l (m n) (entry n) Θ)

      at_step_grown : (l : List ℕ) (n : ℕ) (s : Act 𝓢 ℕ) (Γ : Env 𝓢) → Grown l Γ (load (wants 𝓢 s Γ)) (at_step 𝓢 lower entry n s Γ)
      unfolding at_step
      at_step_grown l n s Γ = grown_more l Γ (load (wants 𝓢 s Γ) + 0) (load (wants 𝓢 s Γ)) (omega arith)
          (grown_then l Γ (load (wants 𝓢 s Γ)) 0 (push_all_grown l (wants 𝓢 s Γ) Γ) (λ Θ. needs_of_grown l (standing 𝓢 entry n s) n Θ))

      module _ (closed : Closed 𝓢 0 es) where
        abbrev process_of : List (Act 𝓢 ℕ) → Process 𝓢
        process_of ss = meaning 𝓢 es ss

        abbrev binds : Act 𝓢 ℕ → List ℕ
        binds s = binders 𝓢 (map_act 𝓢 (step.term 𝓢 laws es closed) s)

        -- what is bound is not live: so a bound symbol's type weighs at most what the live ones weighed when its binder was met
        abbrev Small : List (Act 𝓢 ℕ) → Env 𝓢 → Type 0
        Small ss Θ = (live (bound 𝓢 (process_of ss)) Θ ≤ length ss) × ((x : ℕ) → In x (bound 𝓢 (process_of ss)) → w (Θ x) ≤ length ss)

        step_small : (n : ℕ) (s : Act 𝓢 ℕ) (ss : List (Act 𝓢 ℕ)) {o : Option (Env 𝓢)}
            → ((x : ℕ) → In x (bound 𝓢 (process_of (s ∷ ss))) → All (Lacks 𝓢 x) (operands 𝓢 (map_act 𝓢 (step.term 𝓢 laws es closed) s)))
            → Distinct (bound 𝓢 (process_of (s ∷ ss))) → ((x : ℕ) → In x (bound 𝓢 (process_of (s ∷ ss))) → x < S) → ((t : ℕ) → In t (operands 𝓢 s) → t < n)
            → Each (Small ss) o → Each (Small (s ∷ ss)) (bind o (λ Θ. at_step 𝓢 lower entry n s Θ))
        unfolding bind bound
        step_small n s ss f u h small ea_none = ea_none
        step_small n s ss f u h small (ea_some {a = Θ} sm) = go (step.at_step_is 𝓢 laws es closed n s Θ small) (at_step_grown (binds s ++ bound 𝓢 (process_of ss)) n s Θ)
          where
            all : live (binds s ++ bound 𝓢 (process_of ss)) Θ + sum (binds s) (λ x. w (Θ x)) ≤ live (bound 𝓢 (process_of ss)) Θ
            all = unfold live in rest_drops S (binds s) (bound 𝓢 (process_of ss)) (λ x. w (Θ x)) (λ x i. h x (in_append_left (bound 𝓢 (process_of ss)) i)) u

            old : (x : ℕ) → In x (binds s) ⊎ In x (bound 𝓢 (process_of ss)) → w (Θ x) ≤ suc (length ss)
            old x (inl i) = let a = sum_elem (binds s) (λ x. w (Θ x)) i in let b = all in let c = sm.0 in omega arith
            old x (inr i) = let a = sm.1 x i in omega arith

            go : {v : Option (Env 𝓢)} → Best 𝓢 (λ Δ. step.Met 𝓢 laws es closed Δ (wants 𝓢 s Θ)) Θ v → Grown (binds s ++ bound 𝓢 (process_of ss)) Θ (load (wants 𝓢 s Θ)) v → Each (Small (s ∷ ss)) v
            go (stuck k) ea_none = ea_none
            go (best {Θ = Ξ} v d m) (ea_some g) = ea_some {a = Ξ} (
              (let a = wants_weight (step.term 𝓢 laws es closed) s Θ in let b = all in let c = sm.0 in omega arith),
              λ x i. rw (frame 𝓢 laws es closed v d m (rw (operands_map 𝓢 laws es closed s Θ) at (f x i))) (old x (in_append (binds s) i)),
            )

        infer_small : (n : ℕ) (so : List Sort) (ss : List (Act 𝓢 ℕ)) → Scoped 𝓢 (process_of ss) → Distinct (bound 𝓢 (process_of ss)) → ((x : ℕ) → In x (bound 𝓢 (process_of ss)) → x < S)
            → ((s : Act 𝓢 ℕ) (i : ℕ) → In s ss → In i (operands 𝓢 s) → i < n) → Each (Small ss) (typing 𝓢 (infer_by 𝓢 lower entry n (start 𝓢 so) ss))
        unfolding infer_by typing bound
        infer_small n so [] c u h small = ea_some {a = start 𝓢 so} ((let a : live [] (start 𝓢 so) ≡ 0 = unfold live in rest_zero S [] (λ x. w (start 𝓢 so x)) (start_weight so) in omega arith), λ x i. elim i [ ])
        infer_small n so (s ∷ ss) c u h small =
            rw (typing_before 𝓢 (infer_by 𝓢 lower entry n (start 𝓢 so) ss) (λ Θ. at_step 𝓢 lower entry n s Θ))
            (step_small n s ss (scoped_split 𝓢 c).0 u h (λ t i. small s t here i)
            (infer_small n so ss (scoped_split 𝓢 c).1 (distinct_tail (binds s) u) (λ x i. h x (in_append_right (binds s) i)) (λ s i p q. small s i (there p) q)))

        -- a symbol's type weighs at most as many as there are steps
        light : (ss : List (Act 𝓢 ℕ)) (Θ : Env 𝓢) → Small ss Θ → (x : ℕ) → x < S → w (Θ x) ≤ length ss
        light ss Θ sm x k = go (in_or_not x (bound 𝓢 (process_of ss)))
          where
            go : In x (bound 𝓢 (process_of ss)) ⊎ NotIn x (bound 𝓢 (process_of ss)) → w (Θ x) ≤ length ss
            go (inr o) = let a : w (Θ x) ≤ live (bound 𝓢 (process_of ss)) Θ = unfold live in rest_elem S x (bound 𝓢 (process_of ss)) (λ x. w (Θ x)) k o in let b = sm.0 in omega arith
            go (inl i) = sm.1 x i

  each_some : {P : Env 𝓢 → Type 0} {o : Option (Env 𝓢)} {Γ : Env 𝓢} → Each P o → o ≡ some Γ → P Γ
  each_some {P} {o} {Γ} ea_none e = absurd (none-ne-some Γ e)
  each_some {P} (ea_some p) e = subst P (some_inj.0 e) p

  -- the bound for any steps over entries
  pub small_from : (laws : SignatureLaws 𝓢) (es : List (Entry 𝓢 ℕ)) → Closed 𝓢 0 es → (n : ℕ) (so : List Sort) (ss : List (Act 𝓢 ℕ)) → Scoped 𝓢 (meaning 𝓢 es ss) → Distinct (bound 𝓢 (meaning 𝓢 es ss))
      → ((s : Act 𝓢 ℕ) (i : ℕ) → In s ss → In i (operands 𝓢 s) → i < n)
      → (Γ : Env 𝓢) → typing 𝓢 (infer_by 𝓢 (meet 𝓢.types) (entry_at 𝓢 0 es) n (start 𝓢 so) ss) ≡ some Γ → (x : ℕ) → nodes 𝓢.types (Γ x) ≤ 2 * length ss + 1
  small_from laws es closed n so ss c u small Γ e x =
      let l = bound 𝓢 (meaning 𝓢 es ss) in
      let S : ℕ = suc (x + sum l (λ y. y)) in
      let s = each_some (infer_small S laws es closed n so ss c u (λ y i. let k = sum_elem l (λ z. z) i in omega arith) small) e in
      let h = light S laws es closed ss Γ s x (omega arith) in
      let k = nodes_inner 𝓢.types (Γ x) in
      omega arith

  pub small_types : SignatureLaws 𝓢 → (t : Table 𝓢) → SmallTypes 𝓢 t
  small_types laws t c Γ a x =
      let e : infer 𝓢 t ≡ widest Γ = no_second_answer 𝓢 laws t (infer 𝓢 t) (widest Γ) (inference_is_right 𝓢 laws t c) a in
      small_from laws t.entries c.closed (length t.entries) t.sorts t.steps c.scoped c.once c.in_range Γ (typing_widest 𝓢 laws t e) x
