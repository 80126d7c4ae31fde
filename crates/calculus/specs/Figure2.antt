-- Figure 2 of the paper as it is printed, with subsumption, over any table of kinds. Assumes nothing.
use Rattle.std.specs.Prelude.{◌≡◌, [], ◌∷◌, ℕ}
use Rattle.std.proofs.Math.Decide.{ℕ_discrete}
use Rattle.types.specs.Types.{Ty, Message, Basic, Cipher, Pair, ◌<:◌ as Sub}
use Rattle.calculus.specs.Signature.{Signature, pairing, seal}
use Rattle.calculus.specs.Terms.{leaf, one, two, Term, send, receive, fresh, compare, split, decrypt, Process}

module _ (𝓢 : Signature) where
  open 𝓢 use {types, One, part, result, Seal, former, sealing, opening, name, channel}

  -- the types of the table
  abbrev pub T : Type 0
  T = Ty types

  -- subtyping
  infix 4 ◌<:◌
  abbrev pub ◌<:◌ : T → T → Type 0
  A <: B = Sub types A B

  -- a type for each symbol
  abbrev pub Env : Type 0
  Env = ℕ → T

  -- A where the symbols are the same, else B
  unfoldable pub pick : {x y : ℕ} → Dec (x ≡ y) → T → T → T
  pick (yes e) A B = A
  pick (no n) A B = B

  -- Γ, x : A
  unfoldable pub extend : Env → ℕ → T → Env
  extend Γ x A y = pick (ℕ_discrete x y) A (Γ y)

  -- the types of a term. T-ShKC is the rule of every sealed kind, T-One that of every kind with one part; T-Sub is subsumption
  infix 4 ◌⊢◌∶◌
  pub data ◌⊢◌∶◌ (Γ : Env) : Term 𝓢 → T → Type 0 where
    T-Var : {x : ℕ} → Γ ⊢ leaf x ∶ Γ x
    T-Pair : {M N : Term 𝓢} {A B : T} → Γ ⊢ M ∶ A → Γ ⊢ N ∶ B → Γ ⊢ two pairing M N ∶ Pair A B
    T-ShKC : {s : Seal} {M K : Term 𝓢} {A : T} → Γ ⊢ M ∶ A → Γ ⊢ K ∶ Basic (sealing s) → Γ ⊢ two (seal s) M K ∶ Cipher (former s) A
    T-One : {k : One} {M : Term 𝓢} → Γ ⊢ M ∶ part k → Γ ⊢ one k M ∶ Basic (result k)
    T-Sub : {M : Term 𝓢} {A B : T} → Γ ⊢ M ∶ A → A <: B → Γ ⊢ M ∶ B

  -- Γ ⊢ P: each binder extends the environment. P-ShKD is the rule of every sealed kind
  pub data Printed : Env → Process 𝓢 → Type 0 where
    P-Nil : {Γ : Env} → Printed Γ []
    P-Out : {Γ : Env} {M N : Term 𝓢} {P : Process 𝓢} → Γ ⊢ M ∶ Basic channel → Γ ⊢ N ∶ Message → Printed Γ P → Printed Γ (send M N ∷ P)
    P-In : {Γ : Env} {M : Term 𝓢} {x : ℕ} {P : Process 𝓢} (A : T) → Γ ⊢ M ∶ Basic channel → Printed (extend Γ x A) P → Printed Γ (receive M x ∷ P)
    P-Restr : {Γ : Env} {n : ℕ} {P : Process 𝓢} {A : T} → A <: Basic name → Printed (extend Γ n A) P → Printed Γ (fresh n ∷ P)
    P-Match : {Γ : Env} {M N : Term 𝓢} {P : Process 𝓢} → Γ ⊢ M ∶ Message → Γ ⊢ N ∶ Message → Printed Γ P → Printed Γ (compare M N ∷ P)
    P-PSplit : {Γ : Env} {M : Term 𝓢} {x y : ℕ} {P : Process 𝓢} {A B : T} → Γ ⊢ M ∶ Pair A B → Printed (extend (extend Γ x A) y B) P → Printed Γ (split M x y ∷ P)
    P-ShKD : {Γ : Env} {s : Seal} {M K : Term 𝓢} {x : ℕ} {P : Process 𝓢} {A : T} → Γ ⊢ M ∶ Cipher (former s) A → Γ ⊢ K ∶ Basic (opening s)
        → Printed (extend Γ x A) P → Printed Γ (decrypt s M K x ∷ P)
