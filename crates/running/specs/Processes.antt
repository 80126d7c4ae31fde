-- The process by Table 2: as a function, and as rules. Assumes nothing.
use Rattle.std.specs.Prelude.{◌≡◌, cond, List, [], ◌∷◌, ◌++◌, map, ℕ, ◌≤◌, eqb, length, drop}
use Rattle.calculus.specs.Signature.{Signature, pairing, seal, Fit, itself, twins}
use Rattle.calculus.specs.Terms.{Atom, atom, leaf, one, two, Term, Value, send, receive, fresh, compare, split, decrypt, map_act, Step, Process}
use Rattle.running.specs.Values.{Fresh, tree}
use Rattle.running.specs.Acts.{Ending, finished, no_supply, not_equal, wrong_key, not_fresh, no_pair, no_ciphertext, Logged, logged, sent, received, Tests, untyped, perform, Result, ended, and_then, EndsWithin}

module _ (𝓢 : Signature) where
  -- the symbols bound so far, with their values
  abbrev pub Bindings : Type 0
  Bindings = List (ℕ × Value 𝓢)

  -- the values held for symbols
  abbrev pub values_of : Bindings → List (Value 𝓢)
  values_of σ = map (λ b. b.1) σ

  -- the value of a symbol: its first binding
  unfoldable pub look : Bindings → ℕ → Value 𝓢
  look [] x = leaf (atom 0 0)
  look (b ∷ σ) x = cond (eqb b.0 x) b.1 (look σ x)

  -- the value of a term
  unfoldable pub eval : Bindings → Term 𝓢 → Value 𝓢
  eval σ (leaf x) = look σ x
  eval σ (one k M) = one k (eval σ M)
  eval σ (two k M N) = two k (eval σ M) (eval σ N)

  -- the process as a function
  unfoldable pub run_process : Tests 𝓢 → Process 𝓢 → Bindings → List (Value 𝓢) → Result (Value 𝓢) (Unit {0})
  run_process ts [] σ su = ended finished [] su tt
  run_process ts (d ∷ P) σ su = and_then tt (perform 𝓢 (tree 𝓢) ts (values_of σ) su (map_act 𝓢 (eval σ) d)) (λ bs su'. run_process ts P (σ ++ bs) su')

  -- ── The rules of Table 2 ──

  -- the key at hand opens what another key has sealed
  pub data Fitting : Fit 𝓢.One → Value 𝓢 → Value 𝓢 → Type 0 where
    fits_itself : {k : Value 𝓢} → Fitting itself k k
    fits_twins : {c d : 𝓢.One} {v : Value 𝓢} → Fitting (twins c d) (one c v) (one d v)

  -- one step: messages, new bindings, supply left
  pub data Moves (σ : Bindings) : Step 𝓢 → List (Value 𝓢) → List (Logged (Value 𝓢)) → Bindings → List (Value 𝓢) → Type 0 where
    moves_out : {M N : Term 𝓢} {su : List (Value 𝓢)} → Moves σ (send M N) su (logged sent (eval σ M) (eval σ N) ∷ []) [] su
    moves_in : {M : Term 𝓢} {x : ℕ} {v : Value 𝓢} {su : List (Value 𝓢)} → Moves σ (receive M x) (v ∷ su) (logged received (eval σ M) v ∷ []) ((x, v) ∷ []) su
    moves_new : {x : ℕ} {a : Atom} {su : List (Value 𝓢)} → Fresh 𝓢 (values_of σ) (leaf a) → Moves σ (fresh x) (leaf a ∷ su) [] ((x, leaf a) ∷ []) su
    moves_match : {M N : Term 𝓢} {su : List (Value 𝓢)} → eval σ M ≡ eval σ N → Moves σ (compare M N) su [] [] su
    moves_split : {M : Term 𝓢} {x y : ℕ} {v w : Value 𝓢} {su : List (Value 𝓢)} → eval σ M ≡ two pairing v w → Moves σ (split M x y) su [] ((x, v) ∷ (y, w) ∷ []) su
    moves_open : {s : 𝓢.Seal} {M K : Term 𝓢} {x : ℕ} {v k : Value 𝓢} {su : List (Value 𝓢)} → eval σ M ≡ two (seal s) v k → Fitting (𝓢.fit s) k (eval σ K)
        → Moves σ (decrypt s M K x) su [] ((x, v) ∷ []) su

  -- why a step cannot be taken: the supply, and what counts as left, since a value that fails a test is used
  pub data StuckBy (σ : Bindings) : Ending → Step 𝓢 → List (Value 𝓢) → List (Value 𝓢) → Type 0 where
    stuck_in : {M : Term 𝓢} {x : ℕ} → StuckBy σ no_supply (receive M x) [] []
    stuck_new : {x : ℕ} → StuckBy σ no_supply (fresh x) [] []
    stuck_fresh : {x : ℕ} {v : Value 𝓢} {su : List (Value 𝓢)} → ((a : Atom) → v ≡ leaf a → Fresh 𝓢 (values_of σ) v → ⊥) → StuckBy σ not_fresh (fresh x) (v ∷ su) su
    stuck_match : {M N : Term 𝓢} {su : List (Value 𝓢)} → ¬ (eval σ M ≡ eval σ N) → StuckBy σ not_equal (compare M N) su su
    stuck_split : {M : Term 𝓢} {x y : ℕ} {su : List (Value 𝓢)} → ((v w : Value 𝓢) → eval σ M ≡ two pairing v w → ⊥) → StuckBy σ no_pair (split M x y) su su
    stuck_key : {s : 𝓢.Seal} {M K : Term 𝓢} {x : ℕ} {v k : Value 𝓢} {su : List (Value 𝓢)} → eval σ M ≡ two (seal s) v k → ¬ Fitting (𝓢.fit s) k (eval σ K)
        → StuckBy σ wrong_key (decrypt s M K x) su su
    stuck_seal : {s : 𝓢.Seal} {M K : Term 𝓢} {x : ℕ} {su : List (Value 𝓢)} → ((v k : Value 𝓢) → eval σ M ≡ two (seal s) v k → ⊥) → StuckBy σ no_ciphertext (decrypt s M K x) su su

  -- several steps
  pub data Reaches : Process 𝓢 → Bindings → List (Value 𝓢) → List (Logged (Value 𝓢)) → Process 𝓢 → Bindings → List (Value 𝓢) → Type 0 where
    stays : {P : Process 𝓢} {σ : Bindings} {su : List (Value 𝓢)} → Reaches P σ su [] P σ su
    moves : {d : Step 𝓢} {P Q : Process 𝓢} {σ bs τ : Bindings} {su sv sw : List (Value 𝓢)} {ms ls : List (Logged (Value 𝓢))}
        → Moves σ d su ms bs sv → Reaches P (σ ++ bs) sv ls Q τ sw → Reaches (d ∷ P) σ su (ms ++ ls) Q τ sw

  -- how a process that has come to Q ends, and the supply left
  pub data Ends (τ : Bindings) (su : List (Value 𝓢)) : Process 𝓢 → Ending → List (Value 𝓢) → Type 0 where
    ends_finished : Ends τ su [] finished su
    ends_stuck : {d : Step 𝓢} {Q : Process 𝓢} {e : Ending} {rest : List (Value 𝓢)} → StuckBy τ e d su rest → Ends τ su (d ∷ Q) e rest

  -- ── Statements ──

  -- a step that is stuck cannot be taken, for whatever cause
  abbrev pub StuckCannotMove : Type 0
  StuckCannotMove = (σ bs : Bindings) (e : Ending) (d : Step 𝓢) (su rest sv : List (Value 𝓢)) (ms : List (Logged (Value 𝓢))) → StuckBy σ e d su rest → Moves σ d su ms bs sv → ⊥

  -- the function's answer is what the rules give: after `place` steps with these messages the process has ended, for that cause and with that supply left
  abbrev pub ProcessByRules : Type 0
  ProcessByRules = (P : Process 𝓢) (σ : Bindings) (su : List (Value 𝓢)) → let r = run_process untyped P σ su in
      (τ : Bindings) × (sv : List (Value 𝓢)) × Reaches P σ su r.log (drop r.place P) τ sv × Ends τ sv (drop r.place P) r.ending r.rest × (r.place ≤ length P)

  -- the step at which it ends: the number of steps where it finished, else below it
  abbrev pub ProcessesEndWithin : Type 0
  ProcessesEndWithin = (ts : Tests 𝓢) (P : Process 𝓢) (σ : Bindings) (su : List (Value 𝓢)) → EndsWithin (length P) (run_process ts P σ su)

  -- the rules give one answer: two ends that are reached from one start are one
  abbrev pub RulesGiveOneAnswer : Type 0
  RulesGiveOneAnswer = (P Q R : Process 𝓢) (σ τ υ : Bindings) (su sv sw rest rest' : List (Value 𝓢)) (ls ms : List (Logged (Value 𝓢))) (e f : Ending)
      → Reaches P σ su ls Q τ sv → Ends τ sv Q e rest → Reaches P σ su ms R υ sw → Ends υ sw R f rest' → (ls ≡ ms) × (Q ≡ R) × (e ≡ f) × (rest ≡ rest')
