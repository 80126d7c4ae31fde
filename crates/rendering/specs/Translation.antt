-- The translation of a table into statements, in the shape of Figures 3 and 4: each step's terms are built, each once and just before its first
-- use, then come the step's statements. It goes over the table's entries, never over terms as trees. Assumes nothing.
use Rattle.std.specs.Prelude.{◌≡◌, Bool, false, cond, ◌||◌, List, [], ◌∷◌, ◌++◌, map, ℕ, zero, suc, ◌+◌, ◌<◌, ◌≤◌, length}
use Rattle.std.proofs.Math.Bool.{decide}
use Rattle.calculus.specs.Signature.{Signature}
use Rattle.calculus.specs.Terms.{Term, Build, build1, build2, map_build, Act, map_act, operands, binders, bound, Statement, act, half, build}
use Rattle.calculus.specs.Tables.{Entry, leaf_entry, kind_entry, entry_at, denoted, Unrepeated, Table, process, free}
use Rattle.calculus.specs.Scope.{In, All}
use Rattle.calculus.specs.Typing.{Checked}
use Rattle.rendering.specs.Rendering.{Splitting, Due, whole, part, dues_of, dues, Beginning, Faithful}
use Rattle.rendering.specs.Judge.{Meaning, symbol, term, same_meant, meant, accepted, judge}

-- the first register that means m; where none does, the number after the last
unfoldable pub register_of : List Meaning → Meaning → ℕ
register_of [] m = 0
register_of (n ∷ ms) m = cond (decide (same_meant m n)) 0 (suc (register_of ms m))

-- does a register mean m?
unfoldable pub is_built : List Meaning → Meaning → Bool
is_built [] m = false
is_built (n ∷ ms) m = decide (same_meant m n) || is_built ms m

module _ (𝓢 : Signature) where
  -- the parts, in the order in which they are built: left before right, plaintext before key
  unfoldable pub parts : {A : Type 0} → Build 𝓢 A → List A
  parts (build1 k a) = a ∷ []
  parts (build2 k a b) = a ∷ b ∷ []

  -- statements, and what the registers mean after them
  abbrev pub Made : Type 0
  Made = List (Statement 𝓢) × List Meaning

  -- several terms, one after the other, with a way to build each
  unfoldable pub build_each : (ℕ → List Meaning → Made) → List ℕ → List Meaning → Made
  build_each f [] ms = ([], ms)
  build_each f (i ∷ is) ms = let r = f i ms in let q = build_each f is r.1 in (r.0 ++ q.0, q.1)

  module _ (es : List (Entry 𝓢 ℕ)) where
    -- an entry's term: its parts first
    unfoldable pub build_entry : (ℕ → List Meaning → Made) → ℕ → Entry 𝓢 ℕ → List Meaning → Made
    build_entry f i (leaf_entry x) ms = ([], ms)
    build_entry f i (kind_entry b) ms =
        let r = build_each f (parts b) ms in
        (r.0 ++ (build (map_build 𝓢 (λ j. register_of r.1 (meant 𝓢 es j)) b) ∷ []), r.1 ++ (term i ∷ []))

    -- tr_t of Figure 3: term i, unless it is built; n bounds the depth
    unfoldable pub build_term : ℕ → ℕ → List Meaning → Made
    build_term zero i ms = ([], ms)
    build_term (suc n) i ms = let r = build_entry (λ j ns. build_term n j ns) i (entry_at 𝓢 0 es i) ms in cond (is_built ms (meant 𝓢 es i)) ([], ms) r

    -- the statement that is due, with registers for its terms
    unfoldable pub stated : List Meaning → Due 𝓢 ℕ → Statement 𝓢
    stated ms (whole a) = act (map_act 𝓢 (λ i. register_of ms (meant 𝓢 es i)) a)
    stated ms (part d i x) = half d (register_of ms (meant 𝓢 es i)) x

    -- tr_p of Figure 4: each step's terms, then its statements
    unfoldable pub translate_from : Splitting → List (Act 𝓢 ℕ) → List Meaning → Made
    translate_from v [] ms = ([], ms)
    translate_from v (s ∷ P) ms =
        let r = build_each (build_term (length es)) (operands 𝓢 s) ms in
        let q = translate_from v P (r.1 ++ map symbol (binders 𝓢 s)) in
        (r.0 ++ (map (stated r.1) (dues_of 𝓢 v s) ++ q.0), q.1)

  -- the whole: free symbols count as built at the start
  abbrev pub translated : Splitting → Table 𝓢 → Made
  translated v t = translate_from t.entries v t.steps (map symbol (free 𝓢 t))

  -- its statements
  abbrev pub translation : Splitting → Table 𝓢 → List (Statement 𝓢)
  translation v t = (translated v t).0

  -- ── Statements ──

  -- numbers 5 of a table, as far as translation needs them: symbols are below S
  pub record InRange (t : Table 𝓢) : Type 0 where
    pub leaves : (i x : ℕ) → i < length t.entries → entry_at 𝓢 0 t.entries i ≡ leaf_entry x → x < length t.sorts
    pub binders : All (λ x. x < length t.sorts) (bound 𝓢 t.steps)

  -- term i is named by a step or by another term (no fault 7: each is)
  pub data Used (t : Table 𝓢) (i : ℕ) : Type 0 where
    by_step : {s : Act 𝓢 ℕ} → In s t.steps → In i (operands 𝓢 s) → Used t i
    by_term : {j : ℕ} {b : Build 𝓢 ℕ} → j < length t.entries → entry_at 𝓢 0 t.entries j ≡ kind_entry b → In i (parts b) → Used t i

  -- no fault 7
  abbrev pub NoneIdle : Table 𝓢 → Type 0
  NoneIdle t = (i : ℕ) → i < length t.entries → Used t i

  -- ours is faithful
  abbrev pub TranslationIsFaithful : Type 0
  TranslationIsFaithful = (v : Splitting) (t : Table 𝓢) → Checked 𝓢 t → InRange t → Faithful 𝓢 v t (translation v t)

  -- so the judge accepts it
  abbrev pub TranslationIsAccepted : Type 0
  TranslationIsAccepted = (v : Splitting) (t : Table 𝓢) → Checked 𝓢 t → Unrepeated 𝓢 0 t.entries → InRange t → judge 𝓢 v t (translation v t) ≡ accepted

  -- a faithful list makes every term of its table: after it, registers mean them all
  abbrev pub EveryTermIsMade : Type 0
  EveryTermIsMade = (v : Splitting) (t : Table 𝓢) (ss : List (Statement 𝓢)) (ns : List (Term 𝓢)) → Checked 𝓢 t → NoneIdle t → Beginning 𝓢 v t ss ns []
      → (i : ℕ) → i < length t.entries → In (denoted 𝓢 0 t.entries i) ns

  -- the number of compound terms
  unfoldable pub compounds : List (Entry 𝓢 ℕ) → ℕ
  compounds [] = 0
  compounds (leaf_entry x ∷ es) = compounds es
  compounds (kind_entry b ∷ es) = suc (compounds es)

  -- N is known before anything is written: the statements due, and one for each compound term
  abbrev pub LengthIsKnown : Type 0
  LengthIsKnown = (v : Splitting) (t : Table 𝓢) → Checked 𝓢 t → Unrepeated 𝓢 0 t.entries → InRange t → NoneIdle t
      → length (translation v t) ≡ length (dues 𝓢 v 0 (process 𝓢 t)) + compounds t.entries

  -- the registers that a statement names
  unfoldable pub registers : Statement 𝓢 → List ℕ
  registers (act a) = operands 𝓢 a
  registers (half d p x) = p ∷ []
  registers (build b) = parts b

  -- within the limits of document 01, N is at most 256, there are at most 224 registers, and every register that is named is below 256
  abbrev pub TranslationFits : Type 0
  TranslationFits = (v : Splitting) (t : Table 𝓢) → Checked 𝓢 t → InRange t
      → length t.sorts ≤ 96 → length t.entries ≤ 128 → length t.steps ≤ 64
      → (length (translation v t) ≤ 256) × (length (translated v t).1 ≤ 224) × All (λ s. All (λ p. p < 256) (registers s)) (translation v t)
