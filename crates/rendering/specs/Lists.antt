-- A list as a whole: its types equal the widest ones (number 11), and its statements render the table (12 and 13). Assumes nothing.
use Rattle.std.specs.Prelude.{◌≡◌, cond, List, [], ◌∷◌, ℕ, suc, take}
use Rattle.std.proofs.Math.Bool.{decide}
use Rattle.std.proofs.Math.Option.{Option, none, some}
use Rattle.std.proofs.Math.ListN.{get_elem?}
use Rattle.types.specs.Types.{Ty}
use Rattle.calculus.specs.Signature.{Signature}
use Rattle.calculus.specs.Terms.{Statement}
use Rattle.calculus.specs.Tables.{Unrepeated, Table}
use Rattle.calculus.specs.Typing.{Checked}
use Rattle.rendering.specs.Rendering.{Splitting, Faithful}
use Rattle.rendering.specs.Judge.{Verdict, accepted, judge, VerdictIs}

-- the first place, from number i on, at which two lists differ; where one is the beginning of the other, the place where it ends
unfoldable pub differ_from : {X : Type 0} → Discrete X → ℕ → List X → List X → Option ℕ
differ_from same i [] [] = none
differ_from same i [] (b ∷ l) = some i
differ_from same i (a ∷ k) [] = some i
differ_from same i (a ∷ k) (b ∷ l) = cond (decide (same a b)) (differ_from same (suc i) k l) (some i)

-- what it says: the lists are equal; or they are equal before i and differ there
pub data Differ {X : Type 0} (k l : List X) : Option ℕ → Type 0 where
  differ_nowhere : k ≡ l → Differ k l none
  differ_at : {i : ℕ} → take i k ≡ take i l → ¬ (get_elem? k i ≡ get_elem? l i) → Differ k l (some i)

-- the place is exact
abbrev pub DifferIsExact : Type 1
DifferIsExact = (X : Type 0) (same : Discrete X) (k l : List X) → Differ k l (differ_from same 0 k l)

-- 11 with its place; or the verdict on the statements
pub data Answer : Type 0 where
  types_differ : ℕ → Answer
  judged : Verdict → Answer

-- 11 comes before 12 and 13
unfoldable pub on_types : Option ℕ → Verdict → Answer
on_types (some i) r = types_differ i
on_types none r = judged r

module _ (𝓢 : Signature) where
  -- a list: a type for each symbol, and statements
  pub record StatementList : Type 0 where
    pub types : List (Ty 𝓢.types)
    pub statements : List (Statement 𝓢)

  -- the judge of whole lists, given the table's widest types
  unfoldable pub judge_list : Discrete (Ty 𝓢.types) → Splitting → Table 𝓢 → List (Ty 𝓢.types) → StatementList → Answer
  judge_list same v t widest l = on_types (differ_from same 0 l.types widest) (judge 𝓢 v t l.statements)

  -- a faithful rendering, whole
  pub record FaithfulList (v : Splitting) (t : Table 𝓢) (widest : List (Ty 𝓢.types)) (l : StatementList) : Type 0 where
    pub same_types : l.types ≡ widest
    pub renders : Faithful 𝓢 v t l.statements

  -- what an answer says
  pub data ListAnswerIs (v : Splitting) (t : Table 𝓢) (widest : List (Ty 𝓢.types)) (l : StatementList) : Answer → Type 0 where
    types_differ_at : {i : ℕ} → Differ l.types widest (some i) → ListAnswerIs v t widest l (types_differ i)
    types_equal : {r : Verdict} → l.types ≡ widest → VerdictIs 𝓢 v t l.statements r → ListAnswerIs v t widest l (judged r)

  -- ── Statements ──

  -- the judge's answer is right
  abbrev pub ListsJudgedExactly : Type 0
  ListsJudgedExactly = (same : Discrete (Ty 𝓢.types)) (v : Splitting) (t : Table 𝓢) (widest : List (Ty 𝓢.types)) (l : StatementList)
      → Checked 𝓢 t → Unrepeated 𝓢 0 t.entries → ListAnswerIs v t widest l (judge_list same v t widest l)

  -- no second answer
  abbrev pub AnswerOnce : Type 0
  AnswerOnce = (v : Splitting) (t : Table 𝓢) (widest : List (Ty 𝓢.types)) (l : StatementList) (a b : Answer)
      → ListAnswerIs v t widest l a → ListAnswerIs v t widest l b → a ≡ b

  -- accepted exactly if faithful
  abbrev pub AcceptsTheFaithful : Type 0
  AcceptsTheFaithful = (same : Discrete (Ty 𝓢.types)) (v : Splitting) (t : Table 𝓢) (widest : List (Ty 𝓢.types)) (l : StatementList)
      → Checked 𝓢 t → Unrepeated 𝓢 0 t.entries
      → (judge_list same v t widest l ≡ judged accepted → FaithfulList v t widest l) × (FaithfulList v t widest l → judge_list same v t widest l ≡ judged accepted)
