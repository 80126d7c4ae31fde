-- A step, and all steps. Assumes nothing.
use mathlib.Core.Path.{◌≡◌, refl, ap, ◌∙◌}
use mathlib.Core.List.{List}
use mathlib.Core.Option.{bind}
use Prim.Native.Nat.{ℕ, zero, suc, ◌+◌, ◌-◌, ◌≤◌, ◌<◌}
use native.Mathlib.Omega.{arith}
use Rattle.table_layout.specs.Layout.{terms, steps}
use Rattle.calculus.specs.Figure2.{Env}
use Rattle.calculus.specs.Typing.{untyped}
use Rattle.calculus.specs.Inference.{standing, at_step, found, before, infer_by}
use Rattle.calculus.specs.Version1.{signature1}
use Rattle.entries.specs.Tiling.{listed}
use Rattle.decoded.specs.Table.{step_at}
use Rattle.std.proofs.Common.{Some, None, Ok, Err}
use Rattle.slots.specs.Fit.{Fit}
use Rattle.slots.specs.Terms.{entry}
use Rattle.slots.specs.Slots.{meet_in}
use Rattle.typing.specs.Marking.{StepMarked}
use Rattle.typing.specs.Stages.{KeysPut, WantsPut, StepPut, from, TypedFrom, Inferred}

-- ── One step ──

module _ (w s : List ℕ) (k : ℕ) where
  pub step_stop : (o : List ℕ) → WantsPut w s k o None → StepPut w s k o None
  unfolding at_step bind
  step_stop o v = record { left = λ Γ r h d. rw (v.left Γ r h d) }

  pub step_on : (o₁ o l : List ℕ) (t : Fit) → WantsPut w s k o₁ (Some tt) → StepMarked s k l → KeysPut o₁ s l o t → StepPut w s k o t
  unfolding at_step bind
  step_on o₁ o l t v m u = record {
    left = λ Γ r h d.
        let (Θ, e, g) = v.left Γ r h d in
        rw e (u.left (standing signature1 (entry s) (terms s) (step_at s k)) Θ (m.marked r h) r g);
  }

-- ── All steps ──

module _ (s : List ℕ) (Γ : Env signature1) where
  -- one step more at the front
  from_more : (j : ℕ) → j < steps s → from s Γ j ≡ before signature1 (from s Γ (suc j)) (λ Θ. at_step signature1 meet_in (entry s) (terms s) (step_at s j) Θ)
  unfolding infer_by listed
  from_more j h = let q : steps s - j ≡ suc (steps s - suc j) = omega arith in rw q

  -- a place counts on
  from_untyped : (j i : ℕ) → j ≤ steps s → from s Γ j ≡ untyped i → from s Γ 0 ≡ untyped (j + i)
  unfolding before
  from_untyped zero i h e = let q : 0 + i ≡ i = omega arith in rw q e
  from_untyped (suc j) i h e =
      let q : suc j + i ≡ j + suc i = omega arith in
      rw q (from_untyped j (suc i) (omega arith) (from_more j (omega arith) ∙ ap (λ a. before signature1 a (λ Θ. at_step signature1 meet_in (entry s) (terms s) (step_at s j) Θ)) e))

pub typed_start : (w s : List ℕ) (c : ℕ) → c ≡ steps s → TypedFrom w s c w
unfolding infer_by listed
typed_start w s c e = record { found = λ Γ r h. let q : steps s - c ≡ 0 = omega arith in rw q (Γ, refl, h) }

module _ (w s o₁ o : List ℕ) (k j : ℕ) (hj : k ≡ suc j) (hk : k ≤ steps s) (v : TypedFrom w s k o₁) where
  pub typed_more : StepPut o₁ s j o (Some tt) → TypedFrom w s j o
  unfolding before found
  typed_more u = record {
    found = λ Γ r h.
        let (Θ, e, g) = v.found Γ r h in
        let (Ξ, f, d) = u.left Θ r (omega arith) g in
        (Ξ, from_more s Γ j (omega arith) ∙ rw (rw hj at e, f), d);
  }

  pub typed_stop : StepPut o₁ s j o None → Inferred w s o (Err (record { place = j }))
  unfolding before found
  typed_stop u = record {
    answer = λ Γ r h.
        let (Θ, e, g) = v.found Γ r h in
        let f = u.left Θ r (omega arith) g in
        let q : j + 0 ≡ j = omega arith in
        rw q at (from_untyped s Γ j 0 (omega arith) (from_more s Γ j (omega arith) ∙ rw (rw hj at e, f)));
  }

pub typed_end : (w s o : List ℕ) (k : ℕ) → k ≤ 0 → TypedFrom w s k o → Inferred w s o (Ok tt)
typed_end w s o k h v = record { answer = λ Γ r d. let q : k ≡ 0 = omega arith in (rw q at v).found Γ r d }
