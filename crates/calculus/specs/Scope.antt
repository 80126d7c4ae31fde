-- Which symbols a term holds, and the two rules on binding that a checked table keeps: no symbol is bound again (fault 8), and no term of
-- a step holds a symbol bound in that step or later (fault 9). Assumes nothing.
use Rattle.std.specs.Prelude.{◌≡◌, List, [], ◌∷◌, ◌⊎◌, ℕ}
use Rattle.calculus.specs.Signature.{Signature, Two}
use Rattle.calculus.specs.Terms.{leaf, one, two, Term, Act, fresh, operands, binders, bound, Step, Process}
use Rattle.calculus.specs.Tables.{Sort, is_name, is_variable, sort_of}

-- x is in a list
pub data In {A : Type 0} (x : A) : List A → Type 0 where
  here : {l : List A} → In x (x ∷ l)
  there : {y : A} {l : List A} → In x l → In x (y ∷ l)

-- all elements of a list have a property
pub data All {A : Type 0} (P : A → Type 0) : List A → Type 0 where
  all_nil : All P []
  all_cons : {x : A} {l : List A} → P x → All P l → All P (x ∷ l)

-- x is not in a list
abbrev pub NotIn : ℕ → List ℕ → Type 0
NotIn x l = All (λ y. ¬ (x ≡ y)) l

-- no element comes twice
pub data Distinct : List ℕ → Type 0 where
  di_nil : Distinct []
  di_cons : {x : ℕ} {l : List ℕ} → NotIn x l → Distinct l → Distinct (x ∷ l)

module _ (𝓢 : Signature) where
  -- no symbol of a term is x
  pub data Lacks (x : ℕ) : Term 𝓢 → Type 0 where
    la_symbol : {y : ℕ} → ¬ (x ≡ y) → Lacks x (leaf y)
    la_one : {k : 𝓢.One} {M : Term 𝓢} → Lacks x M → Lacks x (one k M)
    la_two : {k : Two 𝓢.Seal} {M N : Term 𝓢} → Lacks x M → Lacks x N → Lacks x (two k M N)

  -- no fault 8
  abbrev pub BindsOnce : Process 𝓢 → Type 0
  BindsOnce P = Distinct (bound 𝓢 P)

  -- no fault 9
  pub data Scoped : Process 𝓢 → Type 0 where
    sc_nil : Scoped []
    sc_step : {s : Step 𝓢} {P : Process 𝓢} → ((x : ℕ) → In x (bound 𝓢 (s ∷ P)) → All (Lacks x) (operands 𝓢 s)) → Scoped P → Scoped (s ∷ P)

  -- restriction binds names (part of fault 5)
  abbrev pub RestrictsNames : List Sort → List (Act 𝓢 ℕ) → Type 0
  RestrictsNames so ss = (x : ℕ) → In (fresh x) ss → sort_of so x ≡ is_name

  -- the other steps bind variables (part of fault 5)
  abbrev pub BindsVariables : List Sort → List (Act 𝓢 ℕ) → Type 0
  BindsVariables so ss = (s : Act 𝓢 ℕ) (x : ℕ) → In s ss → In x (binders 𝓢 s) → (s ≡ fresh x) ⊎ (sort_of so x ≡ is_variable)
