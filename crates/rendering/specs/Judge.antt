-- The judge of statement lists, over the entries of the table and not over terms as trees; and what its verdict says. Assumes nothing.
use Rattle.std.specs.Prelude.{◌≡◌, Bool, false, cond, ◌&&◌, List, [], ◌∷◌, ◌++◌, map, ℕ, suc, ◌<◌, length, take}
use Rattle.std.proofs.Common.{ap}
use Rattle.std.proofs.Math.Bool.{decide}
use Rattle.std.proofs.Math.Option
use Rattle.std.proofs.Math.Option.{Option, none, some, none-ne-some, some-ne-none, some_inj}
use Rattle.std.proofs.Math.Decide.{ℕ_discrete}
use Rattle.std.proofs.Math.ListN.{get_elem?}
use Rattle.calculus.specs.Signature.{Signature, same_two}
use Rattle.calculus.specs.Terms.{leaf, Term, Build, same_build, map_build, same_act, map_act, same_side, Statement, act, half, build}
use Rattle.calculus.specs.Tables.{Entry, leaf_entry, kind_entry, entry_at, denoted, Unrepeated, Table, free}
use Rattle.calculus.specs.Typing.{Checked}
use Rattle.rendering.specs.Rendering.{Splitting, Due, whole, part, binds, dues, Dues, Beginning, Faithful}

-- a register means a symbol, or a compound term of the table by its index
pub data Meaning : Type 0 where
  symbol : ℕ → Meaning
  term : ℕ → Meaning
  deriving Discrete as same_meaning

-- equality of meanings is decided
abbrev pub same_meant : Discrete Meaning
same_meant = same_meaning ℕ_discrete

-- where equality of a and b is decided, so is that of `some a` and `some b`
unfoldable pub same_some : {X : Type 0} {a b : X} → Dec (a ≡ b) → Dec (◌≡◌ {A = Option X} (some a) (some b))
same_some (yes e) = yes (ap some e)
same_some (no n) = no (λ e. n (some_inj.0 e))

-- equality of what may be missing is decided
unfoldable pub same_option : {X : Type 0} → Discrete X → Discrete (Option X)
same_option d none none = yes (λ i. none)
same_option d none (some b) = no (none-ne-some b)
same_option d (some a) none = no (some-ne-none a)
same_option d (some a) (some b) = same_some (d a b)

-- accepted; 12 with its place; 13 with its place
pub data Verdict : Type 0 where
  accepted : Verdict
  not_due : ℕ → Verdict
  unfinished : ℕ → Verdict

module _ (𝓢 : Signature) where
  open 𝓢 use {same_one, same_seal}

  -- what is still due, by index
  abbrev pub DuesByIndex : Type 0
  DuesByIndex = List (ℕ × Due 𝓢 Meaning)

  -- what entry i means
  unfoldable pub meant_by : ℕ → Entry 𝓢 ℕ → Meaning
  meant_by i (leaf_entry x) = symbol x
  meant_by i (kind_entry b) = term i

  -- what index i of a table means
  abbrev pub meant : List (Entry 𝓢 ℕ) → ℕ → Meaning
  meant es i = meant_by i (entry_at 𝓢 0 es i)

  -- the term that is meant
  unfoldable pub term_meant : List (Entry 𝓢 ℕ) → Meaning → Term 𝓢
  term_meant es (symbol x) = leaf x
  term_meant es (term i) = denoted 𝓢 0 es i

  -- does the statement say what is due?
  unfoldable pub says : List Meaning → Statement 𝓢 → Due 𝓢 Meaning → Bool
  says ms (act a) (whole d) = decide (same_act (same_option same_meant) ℕ_discrete same_seal (map_act 𝓢 (get_elem? ms) a) (map_act 𝓢 some d))
  says ms (act a) (part e m y) = false
  says ms (half d p x) (whole e) = false
  says ms (half d p x) (part e m y) = decide (same_side d e) && (decide (same_option same_meant (get_elem? ms p) (some m)) && decide (ℕ_discrete x y))
  says ms (build b) w = false

  -- is an entry what is built?
  unfoldable pub fits : (ℕ → Meaning) → Build 𝓢 (Option Meaning) → Entry 𝓢 ℕ → Bool
  fits f o (leaf_entry x) = false
  fits f o (kind_entry c) = decide (same_build same_one (same_option same_meant) (same_two same_seal) o (map_build 𝓢 (λ j. some (f j)) c))

  -- the first entry, from number i on, that is what is built
  unfoldable pub find_from : (ℕ → Meaning) → Build 𝓢 (Option Meaning) → ℕ → List (Entry 𝓢 ℕ) → Option ℕ
  find_from f o i [] = none
  find_from f o i (e ∷ es) = cond (fits f o e) (some i) (find_from f o (suc i) es)

  -- of a statement that says what is due next: what it adds to the meanings, and what is due after it; none of any other
  unfoldable pub taken : List Meaning → Statement 𝓢 → DuesByIndex → Option (List Meaning × DuesByIndex)
  taken ms s [] = none
  taken ms s ((n, w) ∷ ws) = cond (says ms s w) (some (map symbol (binds 𝓢 w), ws)) none

  -- one turn of the judge: what a statement adds to the meanings, and what is due after it; none: it is neither the next one due nor a permitted build
  unfoldable pub turn : List (Entry 𝓢 ℕ) → List Meaning → DuesByIndex → Statement 𝓢 → Option (List Meaning × DuesByIndex)
  turn es ms ws (act a) = taken ms (act a) ws
  turn es ms ws (half d p x) = taken ms (half d p x) ws
  turn es ms ws (build b) = Option.map (λ i. (term i ∷ [], ws)) (find_from (meant es) (map_build 𝓢 (get_elem? ms) b) 0 es)

  -- at the end of the statements: accepted, or 13 at the step of the first statement due
  unfoldable pub at_end : DuesByIndex → Verdict
  at_end [] = accepted
  at_end (w ∷ ws) = unfinished w.0

  -- 12 at statement i, or on with what the turn left
  unfoldable pub on_turn : ℕ → Option (List Meaning × DuesByIndex) → (List Meaning → DuesByIndex → Verdict) → Verdict
  on_turn i none f = not_due i
  on_turn i (some r) f = f r.0 r.1

  -- the verdict on the statements from number i on
  unfoldable pub judge_from : List (Entry 𝓢 ℕ) → ℕ → List Meaning → DuesByIndex → List (Statement 𝓢) → Verdict
  judge_from es i ms ws [] = at_end ws
  judge_from es i ms ws (s ∷ ss) = on_turn i (turn es ms ws s) (λ new vs. judge_from es (suc i) (ms ++ new) vs ss)

  -- the verdict on a list's statements
  unfoldable pub judge : Splitting → Table 𝓢 → List (Statement 𝓢) → Verdict
  judge v t ss = judge_from t.entries 0 (map symbol (free 𝓢 t)) (dues 𝓢 v 0 (map (map_act 𝓢 (meant t.entries)) t.steps)) ss

  -- ── Statements ──

  -- what a verdict says. 12: the statements before i are the longest faithful beginning. 13: the whole list is one, and step n is the first unfinished
  pub data VerdictIs (v : Splitting) (t : Table 𝓢) (ss : List (Statement 𝓢)) : Verdict → Type 0 where
    is_faithful : Faithful 𝓢 v t ss → VerdictIs v t ss accepted
    is_not_due : {i : ℕ} {ns : List (Term 𝓢)} {ws : Dues 𝓢} → i < length ss → Beginning 𝓢 v t (take i ss) ns ws
        → ((ns' : List (Term 𝓢)) (ws' : Dues 𝓢) → Beginning 𝓢 v t (take (suc i) ss) ns' ws' → ⊥) → VerdictIs v t ss (not_due i)
    is_unfinished : {n : ℕ} {ns : List (Term 𝓢)} {w : Due 𝓢 (Term 𝓢)} {ws : Dues 𝓢}
        → Beginning 𝓢 v t ss ns ((n, w) ∷ ws) → VerdictIs v t ss (unfinished n)

  -- the judge accepts exactly the faithful lists, and its places are exact
  abbrev pub JudgeIsExact : Type 0
  JudgeIsExact = (v : Splitting) (t : Table 𝓢) (ss : List (Statement 𝓢)) → Checked 𝓢 t → Unrepeated 𝓢 0 t.entries → VerdictIs v t ss (judge v t ss)

  -- no second answer
  abbrev pub VerdictOnce : Type 0
  VerdictOnce = (v : Splitting) (t : Table 𝓢) (ss : List (Statement 𝓢)) (a b : Verdict) → VerdictIs v t ss a → VerdictIs v t ss b → a ≡ b
