-- Document 01's faithful rendering, as rules: what each step makes due, and which lists give just that, with permitted builds in between.
-- Assumes nothing.
use Rattle.std.specs.Prelude.{◌≡◌, List, [], ◌∷◌, ◌++◌, map, ℕ, suc, ◌<◌, length}
use Rattle.std.proofs.Math.Option.{some}
use Rattle.std.proofs.Math.ListN.{get_elem?}
use Rattle.calculus.specs.Signature.{Signature}
use Rattle.calculus.specs.Terms.{leaf, Term, Build, map_build, built, Act, send, receive, fresh, compare, split, decrypt, map_act, binders, Side, left, right, Statement, act, half, build}
use Rattle.calculus.specs.Tables.{Entry, denoted, Table, process, free}

-- a split makes two statements due, left and right; in list version 4 (request h) one
pub data Splitting : Type 0 where
  halves merged : Splitting

module _ (𝓢 : Signature) where
  -- a statement that is due, with what its registers are to mean
  pub data Due (X : Type 0) : Type 0 where
    whole : Act 𝓢 X → Due X
    part : Side → X → ℕ → Due X

  -- the symbols that it binds
  unfoldable pub binds : {X : Type 0} → Due X → List ℕ
  binds (whole a) = binders 𝓢 a
  binds (part d a x) = x ∷ []

  -- what a step makes due, in order
  unfoldable pub dues_of : {X : Type 0} → Splitting → Act 𝓢 X → List (Due X)
  dues_of v (send a b) = whole (send a b) ∷ []
  dues_of v (receive a x) = whole (receive a x) ∷ []
  dues_of v (fresh x) = whole (fresh x) ∷ []
  dues_of v (compare a b) = whole (compare a b) ∷ []
  dues_of halves (split a x y) = part left a x ∷ part right a y ∷ []
  dues_of merged (split a x y) = whole (split a x y) ∷ []
  dues_of v (decrypt s a b x) = whole (decrypt s a b x) ∷ []

  -- what the steps from number n on make due, in order, each with its step's number
  unfoldable pub dues : {X : Type 0} → Splitting → ℕ → List (Act 𝓢 X) → List (ℕ × Due X)
  dues v n [] = []
  dues v n (s ∷ P) = map (λ w. (n, w)) (dues_of v s) ++ dues v (suc n) P

  -- the registers meaning ms, a statement says what is due: each operand register means the step's term, and s is the bound symbol
  pub data Says {X : Type 0} (ms : List X) : Statement 𝓢 → Due X → Type 0 where
    says_act : {a : Act 𝓢 ℕ} {d : Act 𝓢 X} → map_act 𝓢 (get_elem? ms) a ≡ map_act 𝓢 some d → Says ms (act a) (whole d)
    says_half : {d : Side} {p x : ℕ} {m : X} → get_elem? ms p ≡ some m → Says ms (half d p x) (part d m x)

  -- a term is in the table
  pub record InTable (es : List (Entry 𝓢 ℕ)) (M : Term 𝓢) : Type 0 where
    pub place : ℕ
    pub inside : place < length es
    pub is_there : denoted 𝓢 0 es place ≡ M

  -- what is still due
  abbrev pub Dues : Type 0
  Dues = List (ℕ × Due (Term 𝓢))

  -- over a table's entries, the registers meaning ms and ws being due: the statements lead to registers that mean ns, with vs still due.
  -- A build may stand anywhere if the term that it makes is in the table; the others are the ones due, in order
  pub data Follows (es : List (Entry 𝓢 ℕ)) : List (Term 𝓢) → Dues → List (Statement 𝓢) → List (Term 𝓢) → Dues → Type 0 where
    no_more : {ms : List (Term 𝓢)} {ws : Dues} → Follows es ms ws [] ms ws
    permitted : {ms ns : List (Term 𝓢)} {ws vs : Dues} {ss : List (Statement 𝓢)} {b : Build 𝓢 ℕ} (B : Build 𝓢 (Term 𝓢))
        → map_build 𝓢 (get_elem? ms) b ≡ map_build 𝓢 some B → InTable es (built 𝓢 B) → Follows es (ms ++ (built 𝓢 B ∷ [])) ws ss ns vs → Follows es ms ws (build b ∷ ss) ns vs
    next_due : {ms ns : List (Term 𝓢)} {ws vs : Dues} {ss : List (Statement 𝓢)} {n : ℕ} {s : Statement 𝓢} {w : Due (Term 𝓢)}
        → Says ms s w → Follows es (ms ++ map leaf (binds w)) ws ss ns vs → Follows es ms ((n, w) ∷ ws) (s ∷ ss) ns vs

  -- the statements are the beginning of a faithful list of the table: the registers then mean ns, and ws is still due
  abbrev pub Beginning : Splitting → Table 𝓢 → List (Statement 𝓢) → List (Term 𝓢) → Dues → Type 0
  Beginning v t ss ns ws = Follows t.entries (map leaf (free 𝓢 t)) (dues v 0 (process 𝓢 t)) ss ns ws

  -- the statements render the table faithfully: nothing is left due
  abbrev pub Faithful : Splitting → Table 𝓢 → List (Statement 𝓢) → Type 0
  Faithful v t ss = (ns : List (Term 𝓢)) × Beginning v t ss ns []
