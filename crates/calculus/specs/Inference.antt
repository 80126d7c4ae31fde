-- How the answer of Typing.antt is found: inference over a shared table of terms, steps from the last to the first. In each step the wanted types are
-- pushed down along the types, and each entry that stands in the step is visited once for what it wants of its own parts; no term is unfolded.
-- Whoever reads only what must be believed reads the statements at the end. Assumes nothing.
use Rattle.std.specs.Prelude.{◌≡◌, Bool, true, false, cond, ◌||◌, List, [], ◌∷◌, ℕ, zero, suc, eqb, length, drop}
use Rattle.std.proofs.Math.Bool.{decide}
use Rattle.std.proofs.Math.Option.{Option, none, some, map, bind}
use Rattle.types.specs.Order.{Greatest}
use Rattle.types.specs.Forest.{under}
use Rattle.types.specs.Types.{Message, Basic, Cipher, Pair, meet}
use Rattle.calculus.specs.Signature.{Signature, pairing, seal}
use Rattle.calculus.specs.Terms.{build1, build2, Act, send, receive, fresh, compare, split, decrypt, operands}
use Rattle.calculus.specs.Tables.{is_in, Entry, leaf_entry, kind_entry, entry_at, Table}
use Rattle.calculus.specs.Figure2.{T as Types, Env as Envs, extend}
use Rattle.calculus.specs.Typing.{start, Below, TypingFrom, Checked, Answer, widest, untyped, AnswerIs}

-- i is marked too
unfoldable pub mark : ℕ → (ℕ → Bool) → ℕ → Bool
mark i m u = eqb u i || m u

module _ (𝓢 : Signature) where
  open 𝓢 use {types, One, part, result, Seal, former, sealing, opening, name, channel}

  -- types, environments and entries
  abbrev T : Type 0
  T = Types 𝓢

  abbrev Env : Type 0
  Env = Envs 𝓢

  abbrev E : Type 0
  E = Entry 𝓢 ℕ

  -- ── What is wanted ──

  -- entry i is wanted to have a type
  pub data Want : Type 0 where
    want : ℕ → T → Want

  -- what a step wants of its terms, where Γ types what it binds
  unfoldable pub wants : Act 𝓢 ℕ → Env → List Want
  wants (send a b) Γ = want a (Basic channel) ∷ want b Message ∷ []
  wants (receive a x) Γ = want a (Basic channel) ∷ []
  wants (fresh x) Γ = []
  wants (compare a b) Γ = want a Message ∷ want b Message ∷ []
  wants (split a x y) Γ = want a (Pair (Γ x) (Γ y)) ∷ []
  wants (decrypt s a b x) Γ = want a (Cipher (former s) (Γ x)) ∷ want b (Basic (opening s)) ∷ []

  -- what an entry wants of its own parts, whatever type is wanted of it: a sealing key, the part of a kind with one part
  unfoldable pub needs : E → List Want
  needs (leaf_entry x) = []
  needs (kind_entry (build1 k i)) = want i (part k) ∷ []
  needs (kind_entry (build2 pairing i j)) = []
  needs (kind_entry (build2 (seal s) i j)) = want j (Basic (sealing s)) ∷ []

  -- ── The entries that stand in a step ──

  -- the parts of a marked entry are marked
  unfoldable pub spread : E → Bool → (ℕ → Bool) → ℕ → Bool
  spread e false m = m
  spread (leaf_entry x) true m = m
  spread (kind_entry (build1 k i)) true m = mark i m
  spread (kind_entry (build2 k i j)) true m = mark i (mark j m)

  module _ (entry : ℕ → E) where
    -- one pass down the first n entries
    unfoldable pub down : ℕ → (ℕ → Bool) → ℕ → Bool
    down zero m = m
    down (suc n) m = down n (spread (entry n) (m n) m)

    -- the entries inside the terms of a step
    abbrev pub standing : ℕ → Act 𝓢 ℕ → ℕ → Bool
    standing n s = down n (λ u. is_in u (operands 𝓢 s))

  -- ── A wanted type pushed down an entry ──

  -- by the entry: a symbol, a kind with one part, a pair, a sealed term
  unfoldable pub by_entry : {A : Type 0} → E → (ℕ → A) → (One → A) → (ℕ → ℕ → A) → (Seal → ℕ → A) → A
  by_entry (leaf_entry x) f g h k = f x
  by_entry (kind_entry (build1 c i)) f g h k = g c
  by_entry (kind_entry (build2 pairing i j)) f g h k = h i j
  by_entry (kind_entry (build2 (seal s) i j)) f g h k = k s i

  module _ (lower : T → T → Option T) (entry : ℕ → E) where
    -- symbol x is lowered to A
    abbrev pub lowered : T → Env → ℕ → Option Env
    lowered A Γ x = map (extend 𝓢 Γ x) (lower (Γ x) A)

    -- entry i gets the shape of a type; the walk follows the type, not the term
    unfoldable pub push : T → ℕ → Env → Option Env
    push Message i Γ = some Γ
    push (Basic l) i Γ = by_entry (entry i) (lowered (Basic l) Γ) (λ k. cond (under types.forest (result k) l) (some Γ) none) (λ a b. none) (λ s a. none)
    push (Cipher u A) i Γ = by_entry (entry i) (lowered (Cipher u A) Γ) (λ k. none) (λ a b. none) (λ s a. cond (decide (types.same_former (former s) u)) (push A a Γ) none)
    push (Pair A B) i Γ = by_entry (entry i) (lowered (Pair A B) Γ) (λ k. none) (λ a b. bind (push A a Γ) (λ Θ. push B b Θ)) (λ s a. none)

    -- all of several wants, in order
    unfoldable pub push_all : List Want → Env → Option Env
    push_all [] Γ = some Γ
    push_all (want i A ∷ ws) Γ = bind (push A i Γ) (λ Θ. push_all ws Θ)

    -- ── A step, and all steps ──

    -- the needs of an entry, if it is marked
    unfoldable pub needs_at : Bool → E → Env → Option Env
    needs_at false e Γ = some Γ
    needs_at true e Γ = push_all (needs e) Γ

    -- the needs of the marked ones of the first n entries
    unfoldable pub needs_of : (ℕ → Bool) → ℕ → Env → Option Env
    needs_of m zero Γ = some Γ
    needs_of m (suc n) Γ = bind (needs_of m n Γ) (λ Θ. needs_at (m n) (entry n) Θ)

    -- a step's wants, then the needs of what stands in it
    unfoldable pub at_step : ℕ → Act 𝓢 ℕ → Env → Option Env
    at_step n s Γ = bind (push_all (wants s Γ) Γ) (λ Θ. needs_of (standing entry n s) n Θ)

  -- the typing of an answer, if it is one
  unfoldable pub typing : Answer 𝓢 → Option Env
  typing (widest Γ) = some Γ
  typing (untyped i) = none

  -- a step that leaves no environment fails at once
  unfoldable pub found : Option Env → Answer 𝓢
  found none = untyped 0
  found (some Γ) = widest Γ

  -- one step more at the front: a place counts on
  unfoldable pub before : Answer 𝓢 → (Env → Option Env) → Answer 𝓢
  before (untyped i) f = untyped (suc i)
  before (widest Γ) f = found (f Γ)

  -- by a lower bound, over n entries, from the widest types that the sorts allow
  unfoldable pub infer_by : (T → T → Option T) → (ℕ → E) → ℕ → Env → List (Act 𝓢 ℕ) → Answer 𝓢
  infer_by lower entry n Γ [] = widest Γ
  infer_by lower entry n Γ (s ∷ ss) = before (infer_by lower entry n Γ ss) (λ Θ. at_step lower entry n s Θ)

  -- the steps of a table from i on
  abbrev pub infer_from : Table 𝓢 → ℕ → Answer 𝓢
  infer_from t i = infer_by (meet types) (entry_at 𝓢 0 t.entries) (length t.entries) (start 𝓢 t.sorts) (drop i t.steps)

  -- the answer for a table
  abbrev pub infer : Table 𝓢 → Answer 𝓢
  infer t = infer_from t 0

  -- ── Statements ──

  -- inference gives the greatest typing of the steps from i on; or there is none
  abbrev pub InferenceIsGreatest : Table 𝓢 → Type 0
  InferenceIsGreatest t = Checked 𝓢 t → (i : ℕ) → Greatest (Below 𝓢) (TypingFrom 𝓢 t i) (typing (infer_from t i))

  -- sound: the answer is a typing
  abbrev pub Sound : Table 𝓢 → Type 0
  Sound t = Checked 𝓢 t → (Γ : Env) → infer t ≡ widest Γ → TypingFrom 𝓢 t 0 Γ

  -- complete: it is there if there is any typing
  abbrev pub Complete : Table 𝓢 → Type 0
  Complete t = Checked 𝓢 t → (Δ : Env) → TypingFrom 𝓢 t 0 Δ → (Γ : Env) × (infer t ≡ widest Γ)

  -- widest: every typing lies under it, symbol by symbol
  abbrev pub WidestOfAll : Table 𝓢 → Type 0
  WidestOfAll t = Checked 𝓢 t → (Γ Δ : Env) → infer t ≡ widest Γ → TypingFrom 𝓢 t 0 Δ → Below 𝓢 Δ Γ

  -- the answer is right: the widest typing, or the place of number 10
  abbrev pub InferenceIsRight : Table 𝓢 → Type 0
  InferenceIsRight t = Checked 𝓢 t → AnswerIs 𝓢 t (infer t)
