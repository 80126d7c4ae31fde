-- What judging a whole shelf answers, in the words of the meaning: a refusal of the table; a refusal of the shelf, by its lengths or its
-- buffer; or for each list what judging it by itself gives. Assumes nothing: these are definitions.
use Rattle.std.specs.Prelude.{◌≡◌, List, [], ◌∷◌, ℕ, ◌+◌, ◌*◌, ◌/◌, ◌%◌, ◌≤◌, ◌<◌, eqb, length, take, drop, get_or, Result, Ok, Err}
use Rattle.base.specs.Bytes.{byte, word}
use Rattle.base.specs.Pick.{pick}
use Rattle.answers.specs.Ladder.{refusal, Check}
use Rattle.answers.specs.declared.Refusal.{Refusal}
use Rattle.buffers.specs.Over.{over}
use Rattle.calculus.specs.Figure2.{Env}
use Rattle.calculus.specs.Version1.{signature1}
use Rattle.slots.specs.Slots.{Holds}
use Rattle.type_service.specs.Services.{IsWidest, TableRefused}
use Rattle.judge_service.specs.Judged.{Judged}

-- ── The lists ──

-- the exact sum of lengths, however large
unfoldable pub total : List ℕ → ℕ
total [] = 0
total (n ∷ ns) = n + total ns

-- list i of those laid end to end: as many bytes as its length says, after those of the lists before it
unfoldable pub list_at : List ℕ → List ℕ → ℕ → List ℕ
list_at lists lengths i = take (get_or lengths i 0) (drop (total (take i lengths)) lists)

-- ── The verdicts ──

-- a verdict's four bytes: number, file, and the place's high and low byte; zeros where the list is accepted
unfoldable pub verdict_bytes : Check → List ℕ
verdict_bytes (Ok tt) = 0 ∷ 0 ∷ 0 ∷ 0 ∷ []
verdict_bytes (Err x) = x.number ∷ x.file ∷ x.place / 256 ∷ x.place % 256 ∷ []

-- the bytes b are the verdict that judging the list l by itself gives
pub record IsVerdict (t l b : List ℕ) : Type 0 where
  pub verdict : Check
  pub judged : Judged t l verdict
  pub bytes : b ≡ verdict_bytes verdict

-- v holds the verdicts on the first n lists, four bytes each, in order
pub record Verdicts (t lists lengths : List ℕ) (n : ℕ) (v : List ℕ) : Type 0 where
  pub size : length v ≡ 4 * n
  pub each : (i : ℕ) → i < n → IsVerdict t (list_at lists lengths i) (take 4 (drop (4 * i) v))

-- ── The shelf's own numbers ──

-- more than 64 lists: 3; lengths that don't add up to the lists' bytes: 4; fewer bytes lent than four for each list: 15; or none of these
pub data ShelfChecked (lists lengths : List ℕ) (room : ℕ) : Check → Type 0 where
  too_many : 64 < length lengths → ShelfChecked lists lengths room (Err (refusal 3 1 0))
  not_added_up : length lengths ≤ 64 → ¬ (total lengths ≡ length lists) → ShelfChecked lists lengths room (Err (refusal 4 1 0))
  too_short : length lengths ≤ 64 → total lengths ≡ length lists → room < 4 * length lengths → ShelfChecked lists lengths room (Err (refusal 15 3 (4 * length lengths)))
  in_order : length lengths ≤ 64 → total lengths ≡ length lists → 4 * length lengths ≤ room → ShelfChecked lists lengths room (Ok tt)

-- ── The answer ──

-- the table's refusal, or the shelf's, leaves the lent buffer z as it was; else the verdicts on all lists stand at its start, bytes beyond
-- stay, and the answer is the number of the verdicts' bytes
pub data ShelfAnswered (t lists lengths z : List ℕ) : List ℕ → Result ℕ Refusal → Type 0 where
  table_refused : {x : Refusal} → TableRefused t x → ShelfAnswered t lists lengths z z (Err x)
  shelf_refused : {Γ : Env signature1} {x : Refusal} → IsWidest t Γ → ShelfChecked lists lengths (length z) (Err x) → ShelfAnswered t lists lengths z z (Err x)
  shelf_judged : {Γ : Env signature1} {v : List ℕ} → IsWidest t Γ → ShelfChecked lists lengths (length z) (Ok tt) → Verdicts t lists lengths (length lengths) v
      → ShelfAnswered t lists lengths z (over v z) (Ok (length v))

-- what is read off a verdict's four bytes
unfoldable pub verdict_read : List ℕ → Check
verdict_read b = pick (eqb (byte b 0) 0) (Ok tt) (Err (refusal (byte b 0) (byte b 1) (word b 2)))

-- ── Between the layers ──

-- the verdict r was written over the start of z, if its place fits two bytes
pub record VerdictPut (r : Check) (z o : List ℕ) : Type 0 where
  pub wrote : ((x : Refusal) → r ≡ Err x → x.place < 65536) → 4 ≤ length z → o ≡ over (verdict_bytes r) z

-- the list l was judged beside the table t, if the slots w hold its widest types, and its verdict was written over the start of z
pub record ListJudged (t w l z o : List ℕ) : Type 0 where
  pub wrote : (Γ : Env signature1) → Holds w Γ → IsWidest t Γ → 4 ≤ length z → (b : List ℕ) × IsVerdict t l b × (o ≡ over b z)

-- so were all lists of a shelf that is in order
pub record ListsJudged (t w lists lengths z o : List ℕ) : Type 0 where
  pub wrote : (Γ : Env signature1) → Holds w Γ → IsWidest t Γ → (v : List ℕ) × Verdicts t lists lengths (length lengths) v × (o ≡ over v z)
