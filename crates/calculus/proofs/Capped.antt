-- A lower bound that is cut off at 2P + 1 nodes gives the same answers: what the code needs, which keeps each symbol's type in a slot of fixed size.
-- Assumes the laws of the kinds.
use mathlib.Core.Path.{◌≡◌, refl, ◌∙◌, ap}
use mathlib.Core.Bool.{Bool, true, false, cond, decide}
use mathlib.Core.Logic.{◌⊎◌, inl, inr}
use mathlib.Core.Option.{Option, none, some, map, bind, some_inj, none-ne-some}
use mathlib.Core.List.{List, [], ◌∷◌}
use Prim.Native.Nat.{ℕ, zero, suc, ◌+◌, ◌*◌, ◌≤◌, ◌<◌}
use native.Mathlib.Omega.{arith}
use lib.ListN.{length}
use Rattle.types.specs.Forest.{under}
use Rattle.types.specs.Types.{TypeTable, Ty, Message, Basic, Cipher, Pair, ◌<:◌, top, basic, cipher, pair, meet}
use Rattle.types.specs.Prefix.{nodes}
use Rattle.calculus.specs.Signature.{Signature, SignatureLaws, pairing, seal}
use Rattle.calculus.specs.Terms.{build1, build2, Act, map_act, operands, binders, bound}
use Rattle.calculus.specs.Tables.{Entry, leaf_entry, kind_entry, entry_at, denoted, Closed, Sort, Table, meaning}
use Rattle.calculus.specs.Scope.{In, there, Distinct, Scoped}
use Rattle.calculus.specs.Figure2.{extend}
use Rattle.calculus.specs.Typing.{start, Below, Checked, Answer, widest, untyped}
use Rattle.calculus.specs.Inference.{Want, want, wants, needs, by_entry, lowered, push, push_all, needs_at, needs_of, standing, at_step, typing, found, before, infer_by, infer_from}
use Rattle.calculus.proofs.Lists.{distinct_tail}
use Rattle.calculus.proofs.Environments.{T, Env, extend_same, Best, best, stuck}
use Rattle.calculus.proofs.PushLaws as push
use Rattle.calculus.proofs.StepLaws as step
use Rattle.calculus.proofs.StepTyping.{scoped_split}
use Rattle.calculus.proofs.SizeLaws.{small_from}

-- a narrower type has at least as many nodes
pub nodes_grow : (𝓣 : TypeTable) {a b : Ty 𝓣} → ◌<:◌ 𝓣 a b → nodes 𝓣 b ≤ nodes 𝓣 a
unfolding nodes
nodes_grow 𝓣 {a} top = some_nodes a
  where
    some_nodes : (a : Ty 𝓣) → 1 ≤ nodes 𝓣 a
    some_nodes Message = omega arith
    some_nodes (Basic l) = omega arith
    some_nodes (Cipher u a) = omega arith
    some_nodes (Pair a b) = omega arith
nodes_grow 𝓣 (basic p) = omega arith
nodes_grow 𝓣 (cipher p) = omega (arith, nodes_grow 𝓣 p)
nodes_grow 𝓣 (pair p q) = omega (arith, nodes_grow 𝓣 p, nodes_grow 𝓣 q)

module _ (𝓢 : Signature) where
  -- a lower bound is `meet`, but may be none where that has more than n nodes
  abbrev pub Caps : ℕ → (T 𝓢 → T 𝓢 → Option (T 𝓢)) → Type 0
  Caps n lower = (A B : T 𝓢) → (lower A B ≡ meet 𝓢.types A B) ⊎ ((lower A B ≡ none) × ((C : T 𝓢) → meet 𝓢.types A B ≡ some C → n < nodes 𝓢.types C))

  module _ (n : ℕ) where
    -- every type has at most n nodes
    abbrev Fits : Env 𝓢 → Type 0
    Fits Θ = (x : ℕ) → nodes 𝓢.types (Θ x) ≤ n

    fits_up : {Γ Θ : Env 𝓢} → Below 𝓢 Θ Γ → Fits Θ → Fits Γ
    fits_up w h x = omega (arith, nodes_grow 𝓢.types (w x), h x)

    -- the second answer is the first, or is none where the first does not fit
    data Cut : Option (Env 𝓢) → Option (Env 𝓢) → Type 0 where
      same : {o : Option (Env 𝓢)} → Cut o o
      cut : {o : Option (Env 𝓢)} → ((Θ : Env 𝓢) → o ≡ some Θ → Fits Θ → ⊥) → Cut o none

    cut_bind : {o u : Option (Env 𝓢)} {f g : Env 𝓢 → Option (Env 𝓢)} → Cut o u → ((Γ : Env 𝓢) → Cut (f Γ) (g Γ))
        → ((Γ Θ : Env 𝓢) → f Γ ≡ some Θ → Below 𝓢 Θ Γ) → Cut (bind o f) (bind u g)
    unfolding bind
    cut_bind (same {o = none}) h b = same
    cut_bind (same {o = some Γ}) h b = h Γ
    cut_bind (cut {o = none} k) h b = same
    cut_bind (cut {o = some Γ} k) h b = cut (λ Θ e f. k Γ refl (fits_up (b Γ Θ e) f))

    cut_cond : {o u : Option (Env 𝓢)} (b : Bool) → Cut o u → Cut (cond b o none) (cond b u none)
    cut_cond true h = h
    cut_cond false h = same

    best_below : {P : Env 𝓢 → Type 0} {Γ Θ : Env 𝓢} {o : Option (Env 𝓢)} → Best 𝓢 P Γ o → o ≡ some Θ → Below 𝓢 Θ Γ
    best_below {Θ = Θ} (best {Θ = Ξ} w p m) e = let q : Ξ ≡ Θ = some_inj.0 e in rw q at w
    best_below {Θ = Θ} (stuck k) e = absurd (none-ne-some Θ e)

    cut_lowered : (Γ : Env 𝓢) (x : ℕ) (o : Option (T 𝓢)) {u : Option (T 𝓢)} → (u ≡ o) ⊎ ((u ≡ none) × ((C : T 𝓢) → o ≡ some C → n < nodes 𝓢.types C)) → Cut (map (extend 𝓢 Γ x) o) (map (extend 𝓢 Γ x) u)
    cut_lowered Γ x o (inl e) = rw e same
    cut_lowered Γ x none (inr (e, h)) = rw e same
    cut_lowered Γ x (some C) (inr (e, h)) = rw e (cut λ Θ q f.
        let r : extend 𝓢 Γ x C ≡ Θ = some_inj.0 q in
        let k : nodes 𝓢.types C ≤ n = rw (extend_same 𝓢 Γ x C) at ((rw (← r) at f) x) in
        omega (arith, h C refl))

    module _ (laws : SignatureLaws 𝓢) (es : List (Entry 𝓢 ℕ)) (closed : Closed 𝓢 0 es) (lower : T 𝓢 → T 𝓢 → Option (T 𝓢)) (caps : Caps n lower) where
      abbrev E : Type 0
      E = Entry 𝓢 ℕ

      abbrev entry : ℕ → E
      entry = entry_at 𝓢 0 es

      abbrev full : T 𝓢 → T 𝓢 → Option (T 𝓢)
      full = meet 𝓢.types

      symbol_cut : (A : T 𝓢) (Γ : Env 𝓢) (x : ℕ) → Cut (lowered 𝓢 full entry A Γ x) (lowered 𝓢 lower entry A Γ x)
      symbol_cut A Γ x = cut_lowered Γ x (full (Γ x) A) (caps (Γ x) A)

      push_cut : (A : T 𝓢) (i : ℕ) (Γ : Env 𝓢) → Cut (push 𝓢 full entry A i Γ) (push 𝓢 lower entry A i Γ)
      unfolding push by_entry
      push_cut Message i Γ = same
      push_cut (Basic l) i Γ = go (entry i)
        where
          go : (e : E) → Cut (by_entry 𝓢 e (lowered 𝓢 full entry (Basic l) Γ) (λ k. cond (under 𝓢.types.forest (𝓢.result k) l) (some Γ) none) (λ a b. none) (λ s a. none))
              (by_entry 𝓢 e (lowered 𝓢 lower entry (Basic l) Γ) (λ k. cond (under 𝓢.types.forest (𝓢.result k) l) (some Γ) none) (λ a b. none) (λ s a. none))
          go (leaf_entry x) = symbol_cut (Basic l) Γ x
          go (kind_entry (build1 k a)) = same
          go (kind_entry (build2 pairing a b)) = same
          go (kind_entry (build2 (seal s) a b)) = same
      push_cut (Cipher u A) i Γ = go (entry i) (λ a. push_cut A a Γ)
        where
          go : (e : E) → ((a : ℕ) → Cut (push 𝓢 full entry A a Γ) (push 𝓢 lower entry A a Γ))
              → Cut (by_entry 𝓢 e (lowered 𝓢 full entry (Cipher u A) Γ) (λ k. none) (λ a b. none) (λ s a. cond (decide (𝓢.types.same_former (𝓢.former s) u)) (push 𝓢 full entry A a Γ) none))
              (by_entry 𝓢 e (lowered 𝓢 lower entry (Cipher u A) Γ) (λ k. none) (λ a b. none) (λ s a. cond (decide (𝓢.types.same_former (𝓢.former s) u)) (push 𝓢 lower entry A a Γ) none))
          go (leaf_entry x) h = symbol_cut (Cipher u A) Γ x
          go (kind_entry (build1 k a)) h = same
          go (kind_entry (build2 pairing a b)) h = same
          go (kind_entry (build2 (seal s) a b)) h = cut_cond (decide (𝓢.types.same_former (𝓢.former s) u)) (h a)
      push_cut (Pair A B) i Γ = go (entry i) (λ a. push_cut A a Γ) (λ b Θ. push_cut B b Θ)
        where
          go : (e : E) → ((a : ℕ) → Cut (push 𝓢 full entry A a Γ) (push 𝓢 lower entry A a Γ)) → ((b : ℕ) (Θ : Env 𝓢) → Cut (push 𝓢 full entry B b Θ) (push 𝓢 lower entry B b Θ))
              → Cut (by_entry 𝓢 e (lowered 𝓢 full entry (Pair A B) Γ) (λ k. none) (λ a b. bind (push 𝓢 full entry A a Γ) (λ Θ. push 𝓢 full entry B b Θ)) (λ s a. none))
              (by_entry 𝓢 e (lowered 𝓢 lower entry (Pair A B) Γ) (λ k. none) (λ a b. bind (push 𝓢 lower entry A a Γ) (λ Θ. push 𝓢 lower entry B b Θ)) (λ s a. none))
          go (leaf_entry x) h g = symbol_cut (Pair A B) Γ x
          go (kind_entry (build1 k a)) h g = same
          go (kind_entry (build2 pairing a b)) h g = cut_bind (h a) (λ Θ. g b Θ) (λ Γ Θ e. best_below (push.push_is 𝓢 laws es closed B b Γ) e)
          go (kind_entry (build2 (seal s) a b)) h g = same

      push_all_cut : (ws : List (Want 𝓢)) (Γ : Env 𝓢) → Cut (push_all 𝓢 full entry ws Γ) (push_all 𝓢 lower entry ws Γ)
      unfolding push_all
      push_all_cut [] Γ = same
      push_all_cut (want i A ∷ ws) Γ = cut_bind (push_cut A i Γ) (λ Θ. push_all_cut ws Θ) (λ Γ Θ e. best_below (push.push_all_is 𝓢 laws es closed ws Γ) e)

      needs_at_cut : (b : Bool) (e : E) (Γ : Env 𝓢) → Cut (needs_at 𝓢 full entry b e Γ) (needs_at 𝓢 lower entry b e Γ)
      unfolding needs_at
      needs_at_cut false e Γ = same
      needs_at_cut true e Γ = push_all_cut (needs 𝓢 e) Γ

      needs_of_cut : (m : ℕ → Bool) (k : ℕ) (Γ : Env 𝓢) → Cut (needs_of 𝓢 full entry m k Γ) (needs_of 𝓢 lower entry m k Γ)
      unfolding needs_of
      needs_of_cut m zero Γ = same
      needs_of_cut m (suc k) Γ = cut_bind (needs_of_cut m k Γ) (λ Θ. needs_at_cut (m k) (entry k) Θ) (λ Γ Θ e. best_below (step.needs_at_is 𝓢 laws es closed (m k) (entry k) Γ) e)

      at_step_cut : (k : ℕ) (s : Act 𝓢 ℕ) (Γ : Env 𝓢) → Cut (at_step 𝓢 full entry k s Γ) (at_step 𝓢 lower entry k s Γ)
      unfolding at_step
      at_step_cut k s Γ = cut_bind (push_all_cut (wants 𝓢 s Γ) Γ) (λ Θ. needs_of_cut (standing 𝓢 entry k s) k Θ) (λ Γ Θ e. best_below (step.needs_of_is 𝓢 laws es closed (standing 𝓢 entry k s) k Γ) e)

      uncut : {o u : Option (Env 𝓢)} → Cut o u → ((Θ : Env 𝓢) → o ≡ some Θ → Fits Θ) → u ≡ o
      uncut same h = refl
      uncut (cut {o = none} k) h = refl
      uncut (cut {o = some Θ} k) h = absurd (k Θ refl (h Θ refl))

      pub capped_steps : (k : ℕ) (so : List Sort) (ss : List (Act 𝓢 ℕ)) → Scoped 𝓢 (meaning 𝓢 es ss) → Distinct (bound 𝓢 (meaning 𝓢 es ss))
          → ((s : Act 𝓢 ℕ) (i : ℕ) → In s ss → In i (operands 𝓢 s) → i < k) → 2 * length ss + 1 ≤ n
          → infer_by 𝓢 lower entry k (start 𝓢 so) ss ≡ infer_by 𝓢 full entry k (start 𝓢 so) ss
      unfolding infer_by bound
      capped_steps k so [] c u small h = refl
      capped_steps k so (s ∷ ss) c u small h =
          ap (λ a. before 𝓢 a (λ Θ. at_step 𝓢 lower entry k s Θ)) (capped_steps k so ss (scoped_split 𝓢 c).1 (distinct_tail (binders 𝓢 (map_act 𝓢 (denoted 𝓢 0 es) s)) u) (λ s i p q. small s i (there p) q) (omega arith))
          ∙ go (infer_by 𝓢 full entry k (start 𝓢 so) ss) (small_from 𝓢 laws es closed k so (s ∷ ss) c u small)
        where
          go : (a : Answer 𝓢) → ((Γ : Env 𝓢) → typing 𝓢 (before 𝓢 a (λ Θ. at_step 𝓢 full entry k s Θ)) ≡ some Γ → (x : ℕ) → nodes 𝓢.types (Γ x) ≤ 2 * length (s ∷ ss) + 1)
              → before 𝓢 a (λ Θ. at_step 𝓢 lower entry k s Θ) ≡ before 𝓢 a (λ Θ. at_step 𝓢 full entry k s Θ)
          go (untyped i) f = unfold before in refl
          go (widest Θ) f = unfold before in ap (found 𝓢) (uncut (at_step_cut k s Θ) (λ Ξ e x. let b = f Ξ (typed Ξ e) x in omega arith))
            where
              typed : (Ξ : Env 𝓢) → at_step 𝓢 full entry k s Θ ≡ some Ξ → typing 𝓢 (before 𝓢 (widest Θ) (λ Θ. at_step 𝓢 full entry k s Θ)) ≡ some Ξ
              typed Ξ e = unfold before typing found in ap (λ o. typing 𝓢 (found 𝓢 o)) e

  -- from every step on, a lower bound cut off at n nodes gives the same answer, if 2P + 1 is at most n
  pub capped_enough : SignatureLaws 𝓢 → (t : Table 𝓢) (n : ℕ) (lower : T 𝓢 → T 𝓢 → Option (T 𝓢)) → Caps n lower → Checked 𝓢 t → 2 * length t.steps + 1 ≤ n
      → infer_by 𝓢 lower (entry_at 𝓢 0 t.entries) (length t.entries) (start 𝓢 t.sorts) t.steps ≡ infer_from 𝓢 t 0
  capped_enough laws t n lower caps c h = capped_steps n laws t.entries c.closed lower caps (length t.entries) t.sorts t.steps c.scoped c.once c.in_range h
