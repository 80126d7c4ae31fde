-- Figure 2 over one environment for all symbols of a table, why that says the same as the printed rules, and what it means to answer with the widest
-- typing or with the place of number 10. Assumes nothing.
use Rattle.std.specs.Prelude.{◌≡◌, List, [], ◌∷◌, ◌↔◌, ℕ, ◌+◌, ◌*◌, ◌≤◌, ◌<◌, length}
use Rattle.types.specs.Types.{Message, Basic, Cipher, Pair}
use Rattle.types.specs.Prefix.{nodes}
use Rattle.calculus.specs.Signature.{Signature}
use Rattle.calculus.specs.Terms.{Term, Act, send, receive, fresh, compare, split, decrypt, operands, bound, Process}
use Rattle.calculus.specs.Tables.{Sort, is_name, is_variable, sort_of, Closed, Table, process, process_from}
use Rattle.calculus.specs.Scope.{In, NotIn, BindsOnce, Scoped, RestrictsNames, BindsVariables}
use Rattle.calculus.specs.Figure2.{T as Types, Env as Envs, ◌<:◌ as Sub, ◌⊢◌∶◌ as Has, Printed}

module _ (𝓢 : Signature) where
  open 𝓢 use {Seal, former, opening, name, channel}

  -- the notation of Figure 2
  abbrev Env : Type 0
  Env = Envs 𝓢

  infix 4 ◌<:◌
  abbrev ◌<:◌ : Types 𝓢 → Types 𝓢 → Type 0
  A <: B = Sub 𝓢 A B

  infix 4 ◌⊢◌∶◌
  abbrev ◌⊢◌∶◌ : Env → Term 𝓢 → Types 𝓢 → Type 0
  Γ ⊢ M ∶ A = Has 𝓢 Γ M A

  -- Figure 2 where the type that a binder gives is the environment's
  pub data Typed (Γ : Env) : Process 𝓢 → Type 0 where
    P-Nil : Typed Γ []
    P-Out : {M N : Term 𝓢} {P : Process 𝓢} → Γ ⊢ M ∶ Basic channel → Γ ⊢ N ∶ Message → Typed Γ P → Typed Γ (send M N ∷ P)
    P-In : {M : Term 𝓢} {x : ℕ} {P : Process 𝓢} → Γ ⊢ M ∶ Basic channel → Typed Γ P → Typed Γ (receive M x ∷ P)
    P-Restr : {n : ℕ} {P : Process 𝓢} → Γ n <: Basic name → Typed Γ P → Typed Γ (fresh n ∷ P)
    P-Match : {M N : Term 𝓢} {P : Process 𝓢} → Γ ⊢ M ∶ Message → Γ ⊢ N ∶ Message → Typed Γ P → Typed Γ (compare M N ∷ P)
    P-PSplit : {M : Term 𝓢} {x y : ℕ} {P : Process 𝓢} → Γ ⊢ M ∶ Pair (Γ x) (Γ y) → Typed Γ P → Typed Γ (split M x y ∷ P)
    P-ShKD : {s : Seal} {M K : Term 𝓢} {x : ℕ} {P : Process 𝓢} → Γ ⊢ M ∶ Cipher (former s) (Γ x) → Γ ⊢ K ∶ Basic (opening s) → Typed Γ P → Typed Γ (decrypt s M K x ∷ P)

  -- symbol by symbol
  abbrev pub Below : Env → Env → Type 0
  Below Δ Γ = (x : ℕ) → Δ x <: Γ x

  -- every name's type lies at or below Name, free or restricted; a variable's may be any
  unfoldable pub allowed : Sort → Types 𝓢
  allowed is_name = Basic name
  allowed is_variable = Message

  -- the widest types that the sorts allow
  abbrev pub start : List Sort → Env
  start so x = allowed (sort_of so x)

  -- a typing of the steps from i on
  abbrev pub TypingFrom : Table 𝓢 → ℕ → Env → Type 0
  TypingFrom t i Γ = Below Γ (start t.sorts) × Typed Γ (process_from 𝓢 t i)

  -- the same by the printed rules: Γ is what the derivation starts from, free symbols' types and those of earlier binders
  abbrev pub PrintedFrom : Table 𝓢 → ℕ → Env → Type 0
  PrintedFrom t i Γ = Below Γ (start t.sorts) × Printed 𝓢 Γ (process_from 𝓢 t i)

  -- what the checks of a table leave (numbers 5, 8 and 9), as far as typing needs it
  pub record Checked (t : Table 𝓢) : Type 0 where
    pub closed : Closed 𝓢 0 t.entries
    pub in_range : (s : Act 𝓢 ℕ) (i : ℕ) → In s t.steps → In i (operands 𝓢 s) → i < length t.entries
    pub restricts : RestrictsNames 𝓢 t.sorts t.steps
    pub once : BindsOnce 𝓢 (process 𝓢 t)
    pub scoped : Scoped 𝓢 (process 𝓢 t)

  -- ── What typing answers ──

  -- the widest typing; or no typing, from this step on
  pub data Answer : Type 0 where
    widest : Env → Answer
    untyped : ℕ → Answer

  -- what an answer says: a typing under which every other lies, symbol by symbol; or the highest step from which the rest has none (number 10)
  pub data AnswerIs (t : Table 𝓢) : Answer → Type 0 where
    is_widest : {Γ : Env} → TypingFrom t 0 Γ → ((Δ : Env) → TypingFrom t 0 Δ → Below Δ Γ) → AnswerIs t (widest Γ)
    is_untyped : {i : ℕ} → i < length t.steps → ((Δ : Env) → TypingFrom t i Δ → ⊥) → ((j : ℕ) → i < j → (Δ : Env) × TypingFrom t j Δ) → AnswerIs t (untyped i)

  -- ── Statements ──

  -- two answers that both are right are equal
  abbrev pub NoSecondAnswer : Table 𝓢 → Type 0
  NoSecondAnswer t = (a b : Answer) → AnswerIs t a → AnswerIs t b → a ≡ b

  -- a symbol's type has at most 2P + 1 nodes, which are its bytes
  abbrev pub SmallTypes : Table 𝓢 → Type 0
  SmallTypes t = Checked t → (Γ : Env) → AnswerIs t (widest Γ) → (x : ℕ) → nodes 𝓢.types (Γ x) ≤ 2 * length t.steps + 1

  -- the printed rules type a process in Γ exactly if one environment that differs from Γ only in what the process binds does
  abbrev pub PrintedIsOneEnvironment : Process 𝓢 → Type 0
  PrintedIsOneEnvironment P = Scoped 𝓢 P → BindsOnce 𝓢 P → (Γ : Env)
      → Printed 𝓢 Γ P ↔ ((Δ : Env) × ((x : ℕ) → NotIn x (bound 𝓢 P) → Δ x ≡ Γ x) × Typed Δ P)

  -- and of a checked table: from any step on, what Figure 2 types as it is printed, one environment types, and the other way round. The printed rules
  -- bound the names' types at the start and at restriction only; the other binders keep the bound since they bind variables
  abbrev pub TypedAsPrinted : Table 𝓢 → Type 0
  TypedAsPrinted t = Checked t → BindsVariables 𝓢 t.sorts t.steps → (i : ℕ) → ((Γ : Env) × PrintedFrom t i Γ) ↔ ((Δ : Env) × TypingFrom t i Δ)
