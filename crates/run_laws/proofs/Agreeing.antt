-- Figure 2's rules look only at the symbols that occur: two environments that agree on them type the same processes. Assumes nothing.
use mathlib.Core.Path.{◌≡◌}
use mathlib.Core.Logic.{◌⊎◌, inl, inr}
use Prim.Native.Nat.{ℕ, ◌≤◌, ◌<◌}
use native.Mathlib.Decide.{dec_lt}
use native.Mathlib.Omega.{arith}
use Rattle.types.specs.Types.{Basic, Cipher, Pair}
use Rattle.calculus.specs.Signature.{Signature}
use Rattle.calculus.specs.Terms.{Term, operands, binders, Step, Process}
use Rattle.calculus.specs.Scope.{All, all_cons, Lacks}
use Rattle.calculus.specs.Figure2.{T, Env, ◌<:◌ as Sub, ◌⊢◌∶◌ as Has}
use Rattle.calculus.specs.Typing.{Typed, P-Nil, P-Out, P-In, P-Restr, P-Match, P-PSplit, P-ShKD}
use Rattle.calculus.proofs.Inversion.{has_agree}
use Rattle.calculus.proofs.Lists.{all_split}

module _ (𝓢 : Signature) where
  -- a term holds only symbols below n
  abbrev pub TermBelow : ℕ → Term 𝓢 → Type 0
  TermBelow n M = (y : ℕ) → n ≤ y → Lacks 𝓢 y M

  -- so do a step's terms, and it binds only such symbols
  abbrev pub StepBelow : ℕ → Step 𝓢 → Type 0
  StepBelow n s = All (TermBelow n) (operands 𝓢 s) × All (λ x. x < n) (binders 𝓢 s)

  module _ (n : ℕ) (Γ Δ : Env 𝓢) (same : (x : ℕ) → x < n → Δ x ≡ Γ x) where
    -- a term
    has_same : {M : Term 𝓢} {A : T 𝓢} → TermBelow n M → Has 𝓢 Γ M A → Has 𝓢 Δ M A
    has_same {M} h d = has_agree 𝓢 (λ y. side y (dec_lt y n)) d
      where
        side : (y : ℕ) → Dec (y < n) → Lacks 𝓢 y M ⊎ (Δ y ≡ Γ y)
        side y (yes l) = inr (same y l)
        side y (no f) = inl (h y (omega arith))

    -- a process
    pub typed_same : {P : Process 𝓢} → Typed 𝓢 Γ P → All (StepBelow n) P → Typed 𝓢 Δ P
    unfolding operands binders
    typed_same P-Nil a = P-Nil
    typed_same (P-Out d e t) (all_cons p a) = let (g, w) = all_split p.0 in P-Out (has_same g d) (has_same (all_split w).0 e) (typed_same t a)
    typed_same (P-In d t) (all_cons p a) = P-In (has_same (all_split p.0).0 d) (typed_same t a)
    typed_same (P-Restr {n = x} d t) (all_cons p a) =
        let f : Sub 𝓢 (Δ x) (Basic 𝓢.name) = rw (same x (all_split p.1).0) d in P-Restr f (typed_same t a)
    typed_same (P-Match d e t) (all_cons p a) = let (g, w) = all_split p.0 in P-Match (has_same g d) (has_same (all_split w).0 e) (typed_same t a)
    typed_same (P-PSplit {M = M} {x = x} {y = y} d t) (all_cons p a) =
        let (k, b) = all_split p.1 in
        let f : Has 𝓢 Δ M (Pair (Δ x) (Δ y)) = rw (same x k, same y (all_split b).0) (has_same (all_split p.0).0 d) in
        P-PSplit f (typed_same t a)
    typed_same (P-ShKD {s = s} {M = M} {x = x} d e t) (all_cons p a) =
        let (g, w) = all_split p.0 in
        let f : Has 𝓢 Δ M (Cipher (𝓢.former s) (Δ x)) = rw (same x (all_split p.1).0) (has_same g d) in
        P-ShKD f (has_same (all_split w).0 e) (typed_same t a)
