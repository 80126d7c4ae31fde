-- Proof of the statement of specs/Typing.antt: the printed rules and one environment for all symbols say the same. Assumes nothing.
use mathlib.Core.Path.{◌≡◌, refl, sym, ◌∙◌, subst}
use mathlib.Core.Logic.{◌⊎◌, inl, inr}
use mathlib.Core.List.{List, ◌∷◌}
use Prim.Native.Nat.{ℕ}
use native.Mathlib.Decide.{ℕ_discrete}
use Rattle.types.specs.Types.{Basic, Cipher, Pair}
use Rattle.calculus.specs.Signature.{Signature}
use Rattle.calculus.specs.Terms.{Term, operands, binders, bound, Step, Process}
use Rattle.calculus.specs.Scope.{In, all_cons, NotIn, Lacks, Scoped, BindsOnce}
use Rattle.calculus.specs.Figure2.{◌<:◌ as Sub, ◌⊢◌∶◌ as Has, extend, Printed}
use Rattle.calculus.specs.Figure2 as printed
use Rattle.calculus.specs.Typing.{Typed, P-Nil, P-Out, P-In, P-Restr, P-Match, P-PSplit, P-ShKD, PrintedIsOneEnvironment}
use Rattle.calculus.proofs.Lists.{all_split, in_or_not, distinct_split}
use Rattle.calculus.proofs.Environments.{T, Env, extend_same, extend_other}
use Rattle.calculus.proofs.Inversion.{has_agree}
use Rattle.calculus.proofs.StepTyping.{scoped_split}

module _ (𝓢 : Signature) where
  -- Δ is Γ but for the symbols of a list
  abbrev Off : List ℕ → Env 𝓢 → Env 𝓢 → Type 0
  Off l Δ Γ = (x : ℕ) → NotIn x l → Δ x ≡ Γ x

  -- a term that lacks those symbols has the same types
  has_off : (l : List ℕ) {M : Term 𝓢} {A : T 𝓢} (Δ Γ : Env 𝓢) → Off l Δ Γ → ((x : ℕ) → In x l → Lacks 𝓢 x M) → Has 𝓢 Γ M A → Has 𝓢 Δ M A
  has_off l {M} Δ Γ o f d = has_agree 𝓢 (λ y. go y (in_or_not y l)) d
    where
      go : (y : ℕ) → In y l ⊎ NotIn y l → Lacks 𝓢 y M ⊎ (Δ y ≡ Γ y)
      go y (inl i) = inl (f y i)
      go y (inr n) = inr (o y n)

  off_sym : {l : List ℕ} (Δ Γ : Env 𝓢) → Off l Δ Γ → Off l Γ Δ
  off_sym Δ Γ o x n = sym (o x n)

  -- one more symbol
  off_extend : {l : List ℕ} (Δ Γ : Env 𝓢) (x : ℕ) (A : T 𝓢) → Off l Δ (extend 𝓢 Γ x A) → Off (x ∷ l) Δ Γ
  off_extend Δ Γ x A o y n = let (m, k) = all_split n in o y k ∙ extend_other 𝓢 Γ x y A (λ e. m (sym e))

  off_bind : {l : List ℕ} (Δ Γ : Env 𝓢) (x : ℕ) → Off (x ∷ l) Δ Γ → Off l Δ (extend 𝓢 Γ x (Δ x))
  off_bind {l} Δ Γ x o y n = go (ℕ_discrete x y)
    where
      go : Dec (x ≡ y) → Δ y ≡ extend 𝓢 Γ x (Δ x) y
      go (yes e) = subst (λ z. Δ z ≡ extend 𝓢 Γ x (Δ x) z) e (sym (extend_same 𝓢 Γ x (Δ x)))
      go (no m) = o y (all_cons (λ e. m (sym e)) n) ∙ sym (extend_other 𝓢 Γ x y (Δ x) m)

  off_at : {l : List ℕ} (Δ Γ : Env 𝓢) (x : ℕ) (A : T 𝓢) → Off l Δ (extend 𝓢 Γ x A) → NotIn x l → Δ x ≡ A
  off_at Δ Γ x A o n = o x n ∙ extend_same 𝓢 Γ x A

  -- the terms of a step, and the symbols bound from it on
  scoped_one : {M : Term 𝓢} {s : Step 𝓢} {P : Process 𝓢} {l : List (Term 𝓢)} → operands 𝓢 s ≡ M ∷ l → Scoped 𝓢 (s ∷ P) → (x : ℕ) → In x (bound 𝓢 (s ∷ P)) → Lacks 𝓢 x M
  scoped_one e c x i = (all_split (rw e at ((scoped_split 𝓢 c).0 x i))).0

  scoped_two : {M N : Term 𝓢} {s : Step 𝓢} {P : Process 𝓢} {l : List (Term 𝓢)} → operands 𝓢 s ≡ M ∷ N ∷ l → Scoped 𝓢 (s ∷ P) → (x : ℕ) → In x (bound 𝓢 (s ∷ P)) → Lacks 𝓢 x N
  scoped_two e c x i = (all_split (all_split (rw e at ((scoped_split 𝓢 c).0 x i))).1).0

  -- what one environment types, the printed rules type
  pub to_printed : {Δ : Env 𝓢} {P : Process 𝓢} (Γ : Env 𝓢) → Typed 𝓢 Δ P → Scoped 𝓢 P → Off (bound 𝓢 P) Δ Γ → Printed 𝓢 Γ P
  unfolding bound binders operands
  to_printed Γ P-Nil c o = printed.P-Nil
  to_printed {Δ} Γ (P-Out {P = P} d e t) c o =
      let o' = off_sym Δ Γ o in
      printed.P-Out (has_off (bound 𝓢 P) Γ Δ o' (scoped_one refl c) d) (has_off (bound 𝓢 P) Γ Δ o' (scoped_two refl c) e) (to_printed Γ t (scoped_split 𝓢 c).1 o)
  to_printed {Δ} Γ (P-In {x = x} {P = P} d t) c o =
      printed.P-In (Δ x) (has_off (x ∷ bound 𝓢 P) Γ Δ (off_sym Δ Γ o) (scoped_one refl c) d) (to_printed (extend 𝓢 Γ x (Δ x)) t (scoped_split 𝓢 c).1 (off_bind Δ Γ x o))
  to_printed {Δ} Γ (P-Restr {n = x} l t) c o =
      printed.P-Restr l (to_printed (extend 𝓢 Γ x (Δ x)) t (scoped_split 𝓢 c).1 (off_bind Δ Γ x o))
  to_printed {Δ} Γ (P-Match {P = P} d e t) c o =
      let o' = off_sym Δ Γ o in
      printed.P-Match (has_off (bound 𝓢 P) Γ Δ o' (scoped_one refl c) d) (has_off (bound 𝓢 P) Γ Δ o' (scoped_two refl c) e) (to_printed Γ t (scoped_split 𝓢 c).1 o)
  to_printed {Δ} Γ (P-PSplit {x = x} {y = y} {P = P} d t) c o =
      printed.P-PSplit (has_off (x ∷ y ∷ bound 𝓢 P) Γ Δ (off_sym Δ Γ o) (scoped_one refl c) d)
      (to_printed (extend 𝓢 (extend 𝓢 Γ x (Δ x)) y (Δ y)) t (scoped_split 𝓢 c).1 (off_bind Δ (extend 𝓢 Γ x (Δ x)) y (off_bind Δ Γ x o)))
  to_printed {Δ} Γ (P-ShKD {x = x} {P = P} d e t) c o =
      let o' = off_sym Δ Γ o in
      printed.P-ShKD (has_off (x ∷ bound 𝓢 P) Γ Δ o' (scoped_one refl c) d) (has_off (x ∷ bound 𝓢 P) Γ Δ o' (scoped_two refl c) e)
      (to_printed (extend 𝓢 Γ x (Δ x)) t (scoped_split 𝓢 c).1 (off_bind Δ Γ x o))

  -- the environment that a printed derivation builds up
  pub of_printed : {Γ : Env 𝓢} {P : Process 𝓢} → Printed 𝓢 Γ P → Scoped 𝓢 P → BindsOnce 𝓢 P → (Δ : Env 𝓢) × Off (bound 𝓢 P) Δ Γ × Typed 𝓢 Δ P
  unfolding bound binders operands
  of_printed {Γ} printed.P-Nil c u = (Γ, λ y n. refl, P-Nil)
  of_printed {Γ} (printed.P-Out {P = P} d e g) c u =
      let (Δ, o, t) = of_printed g (scoped_split 𝓢 c).1 u in
      (Δ, o, P-Out (has_off (bound 𝓢 P) Δ Γ o (scoped_one refl c) d) (has_off (bound 𝓢 P) Δ Γ o (scoped_two refl c) e) t)
  of_printed {Γ} (printed.P-In {x = x} {P = P} A d g) c u =
      let (z, u') = distinct_split u in let (Δ, o, t) = of_printed g (scoped_split 𝓢 c).1 u' in
      let o' : Off (x ∷ bound 𝓢 P) Δ Γ = off_extend Δ Γ x A o in
      (Δ, o', P-In (has_off (x ∷ bound 𝓢 P) Δ Γ o' (scoped_one refl c) d) t)
  of_printed {Γ} (printed.P-Restr {n = x} {P = P} {A = A} l g) c u =
      let (z, u') = distinct_split u in let (Δ, o, t) = of_printed g (scoped_split 𝓢 c).1 u' in
      let q : Δ x ≡ A = off_at Δ Γ x A o z in
      (Δ, off_extend Δ Γ x A o, P-Restr (subst (λ v. Sub 𝓢 v (Basic 𝓢.name)) (sym q) l) t)
  of_printed {Γ} (printed.P-Match {P = P} d e g) c u =
      let (Δ, o, t) = of_printed g (scoped_split 𝓢 c).1 u in
      (Δ, o, P-Match (has_off (bound 𝓢 P) Δ Γ o (scoped_one refl c) d) (has_off (bound 𝓢 P) Δ Γ o (scoped_two refl c) e) t)
  of_printed {Γ} (printed.P-PSplit {M = M} {x = x} {y = y} {P = P} {A = A} {B = B} d g) c u =
      let (z, u') = distinct_split u in let (n, z'') = all_split z in let (z', u'') = distinct_split u' in
      let (Δ, o, t) = of_printed g (scoped_split 𝓢 c).1 u'' in
      let o₁ : Off (y ∷ bound 𝓢 P) Δ (extend 𝓢 Γ x A) = off_extend Δ (extend 𝓢 Γ x A) y B o in
      let o' : Off (x ∷ y ∷ bound 𝓢 P) Δ Γ = off_extend Δ Γ x A o₁ in
      let q : Δ y ≡ B = off_at Δ (extend 𝓢 Γ x A) y B o z' in
      let r : Δ x ≡ A = off_at Δ Γ x A o₁ z in
      let h : Has 𝓢 Δ M (Pair (Δ x) (Δ y)) = rw (r, q) (has_off (x ∷ y ∷ bound 𝓢 P) Δ Γ o' (scoped_one refl c) d) in
      (Δ, o', P-PSplit h t)
  of_printed {Γ} (printed.P-ShKD {s = s} {M = M} {x = x} {P = P} {A = A} d e g) c u =
      let (z, u') = distinct_split u in let (Δ, o, t) = of_printed g (scoped_split 𝓢 c).1 u' in
      let o' : Off (x ∷ bound 𝓢 P) Δ Γ = off_extend Δ Γ x A o in
      let q : Δ x ≡ A = off_at Δ Γ x A o z in
      let h : Has 𝓢 Δ M (Cipher (𝓢.former s) (Δ x)) = rw q (has_off (x ∷ bound 𝓢 P) Δ Γ o' (scoped_one refl c) d) in
      (Δ, o', P-ShKD h (has_off (x ∷ bound 𝓢 P) Δ Γ o' (scoped_two refl c) e) t)

  pub printed_is_one_environment : (P : Process 𝓢) → PrintedIsOneEnvironment 𝓢 P
  printed_is_one_environment P c u Γ = (λ g. of_printed g c u, λ q. to_printed Γ q.2 c q.1)
