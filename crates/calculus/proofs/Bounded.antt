-- Proof of `TypedAsPrinted` of specs/Typing.antt: from any step of a checked table on, the printed rules and one environment type the same, within
-- the types that the sorts allow. Assumes nothing.
use mathlib.Core.Path.{◌≡◌, refl, ap}
use mathlib.Core.Logic.{◌⊎◌, inl, inr}
use mathlib.Core.List.{List, [], ◌∷◌}
use Prim.Native.Nat.{ℕ, zero, suc}
use lib.ListN.{drop}
use Rattle.types.specs.Types.{Message, Basic, top}
use Rattle.calculus.specs.Signature.{Signature}
use Rattle.calculus.specs.Terms.{Act, fresh, map_act, binders, bound, Process}
use Rattle.calculus.specs.Tables.{Entry, denoted, Sort, is_name, is_variable, sort_of, Table, meaning, process_from}
use Rattle.calculus.specs.Scope.{In, here, there, NotIn, BindsOnce, RestrictsNames, BindsVariables}
use Rattle.calculus.specs.Figure2.{◌<:◌ as Sub}
use Rattle.calculus.specs.Typing.{Typed, P-Restr, allowed, start, TypingFrom, PrintedFrom, Checked, TypedAsPrinted}
use Rattle.calculus.proofs.Lists.{in_append, in_or_not, distinct_tail}
use Rattle.calculus.proofs.TableLaws.{bound_map}
use Rattle.calculus.proofs.Environments.{Env}
use Rattle.calculus.proofs.InferenceLaws.{start_name, typed_tail, scoped_from, in_from}
use Rattle.calculus.proofs.OneEnvironment.{to_printed, of_printed}

module _ (𝓢 : Signature) where
  start_variable : (so : List Sort) (x : ℕ) → sort_of so x ≡ is_variable → start 𝓢 so x ≡ Message
  unfolding allowed
  start_variable so x e = ap (allowed 𝓢) e

  restricted : {Δ : Env 𝓢} {x : ℕ} {P : Process 𝓢} → Typed 𝓢 Δ (fresh x ∷ P) → Sub 𝓢 (Δ x) (Basic 𝓢.name)
  restricted (P-Restr l t) = l

  module _ (so : List Sort) (es : List (Entry 𝓢 ℕ)) (Δ : Env 𝓢) where
    -- what a typed step binds keeps the bound
    step_bounded : (s : Act 𝓢 ℕ) (x : ℕ) {P : Process 𝓢} → ((y : ℕ) → s ≡ fresh y → sort_of so y ≡ is_name) → (s ≡ fresh x) ⊎ (sort_of so x ≡ is_variable)
        → Typed 𝓢 Δ (map_act 𝓢 (denoted 𝓢 0 es) s ∷ P) → Sub 𝓢 (Δ x) (start 𝓢 so x)
    unfolding map_act
    step_bounded s x n (inl e) t = rw (start_name 𝓢 so x (n x e)) (restricted (rw e at t))
    step_bounded s x n (inr e) t = rw (start_variable so x e) top

    -- so does all that typed steps bind
    steps_bounded : (ss : List (Act 𝓢 ℕ)) → RestrictsNames 𝓢 so ss → BindsVariables 𝓢 so ss → Typed 𝓢 Δ (meaning 𝓢 es ss)
        → (x : ℕ) → In x (bound 𝓢 ss) → Sub 𝓢 (Δ x) (start 𝓢 so x)
    unfolding bound
    steps_bounded [] r v t x i = elim i [ ]
    steps_bounded (s ∷ ss) r v t x i = go (in_append (binders 𝓢 s) i) (steps_bounded ss (λ y p. r y (there p)) (λ q y p. v q y (there p)) (typed_tail 𝓢 t) x)
      where
        go : In x (binders 𝓢 s) ⊎ In x (bound 𝓢 ss) → (In x (bound 𝓢 ss) → Sub 𝓢 (Δ x) (start 𝓢 so x)) → Sub 𝓢 (Δ x) (start 𝓢 so x)
        go (inl p) f = step_bounded s x (λ y e. r y (rw e here)) (v s x here p) t
        go (inr p) f = f p

  -- the steps from i on bind no symbol again
  once_from : (es : List (Entry 𝓢 ℕ)) (i : ℕ) (ss : List (Act 𝓢 ℕ)) → BindsOnce 𝓢 (meaning 𝓢 es ss) → BindsOnce 𝓢 (meaning 𝓢 es (drop i ss))
  unfolding bound
  once_from es zero ss u = u
  once_from es (suc i) [] u = u
  once_from es (suc i) (s ∷ ss) u = once_from es i ss (distinct_tail (binders 𝓢 (map_act 𝓢 (denoted 𝓢 0 es) s)) u)

  module _ (t : Table 𝓢) (c : Checked 𝓢 t) (i : ℕ) where
    -- a typing in one environment is a printed one
    pub printed_of_typing : (Δ : Env 𝓢) → TypingFrom 𝓢 t i Δ → PrintedFrom 𝓢 t i Δ
    printed_of_typing Δ (b, d) = (b, to_printed 𝓢 Δ d (scoped_from 𝓢 t.entries i t.steps c.scoped) (λ x n. refl))

    -- a printed typing gives one environment, which differs from it only in what the steps bind
    pub typing_of_printed : BindsVariables 𝓢 t.sorts t.steps → (Γ : Env 𝓢) → PrintedFrom 𝓢 t i Γ → (Δ : Env 𝓢) × ((x : ℕ) → NotIn x (bound 𝓢 (process_from 𝓢 t i)) → Δ x ≡ Γ x) × TypingFrom 𝓢 t i Δ
    typing_of_printed v Γ (b, p) =
        let (Δ, o, d) = of_printed 𝓢 p (scoped_from 𝓢 t.entries i t.steps c.scoped) (once_from t.entries i t.steps c.once) in
        (Δ, o, (λ x. go Δ x (o x) d (in_or_not x (bound 𝓢 (process_from 𝓢 t i))), d))
      where
        go : (Δ : Env 𝓢) (x : ℕ) → (NotIn x (bound 𝓢 (process_from 𝓢 t i)) → Δ x ≡ Γ x) → Typed 𝓢 Δ (process_from 𝓢 t i)
            → In x (bound 𝓢 (process_from 𝓢 t i)) ⊎ NotIn x (bound 𝓢 (process_from 𝓢 t i)) → Sub 𝓢 (Δ x) (start 𝓢 t.sorts x)
        go Δ x o d (inl p) = steps_bounded t.sorts t.entries Δ (drop i t.steps)
            (λ y q. c.restricts y (in_from 𝓢 i t.steps q)) (λ s y q. v s y (in_from 𝓢 i t.steps q)) d x (rw (bound_map 𝓢 (denoted 𝓢 0 t.entries) (drop i t.steps)) at p)
        go Δ x o d (inr n) = rw (o n) (b x)

  pub typed_as_printed : (t : Table 𝓢) → TypedAsPrinted 𝓢 t
  typed_as_printed t c v i = (λ p. let (Δ, o, d) = typing_of_printed t c i v p.0 p.1 in (Δ, d), λ p. (p.0, printed_of_typing t c i p.0 p.1))
