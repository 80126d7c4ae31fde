-- Demand 3: an accepted list says what its process says, and stops only where the process stops too or where a type visibly fails.
-- Assumes nothing.
use Rattle.std.specs.Prelude.{◌≡◌, true, false, List, [], ◌∷◌, ◌++◌, map, ℕ, zero, suc, ◌+◌, ◌<◌, ◌≤◌, length, drop, get_or}
use Rattle.std.proofs.Math.Option.{some}
use Rattle.std.proofs.Math.ListN.{get_elem?}
use Rattle.types.specs.Types.{Ty, Message}
use Rattle.calculus.specs.Signature.{Signature}
use Rattle.calculus.specs.Terms.{Atom, atom, Term, Value, Act, send, receive, fresh, compare, split, decrypt, Step, Process, left, right, Statement, act, half, build}
use Rattle.calculus.specs.Tables.{Entry, denoted, Closed, Unrepeated, Table, process, free}
use Rattle.calculus.specs.Scope.{All, Lacks}
use Rattle.calculus.specs.Typing.{Typed, Checked}
use Rattle.calculus.specs.Figure2.{◌⊢◌∶◌ as Has}
use Rattle.rendering.specs.Rendering.{Splitting, Faithful}
use Rattle.rendering.specs.Judge.{accepted}
use Rattle.rendering.specs.Lists.{judged, StatementList, judge_list}
use Rattle.running.specs.Values.{visible, Fresh, is_fresh, tree, index}
use Rattle.running.specs.Acts.{Tests, Ending, finished, received_lacks, opened_lacks, fresh_lacks, number_of, Logged, on_logged, Both, typed, untyped, Result}
use Rattle.running.specs.Lists.{symbol_register, run, table}
use Rattle.running.specs.Processes.{Bindings, look, eval, run_process, Reaches}

-- the endings by type: 4, 5 and 7
pub data ByType : Ending → Type 0 where
  by_received : ByType received_lacks
  by_opened : ByType opened_lacks
  by_fresh : ByType fresh_lacks

module _ (𝓢 : Signature) where
  -- n steps, and one more if the statement ends a step: an act does, and a right half
  unfoldable pub closes : Statement 𝓢 → ℕ → ℕ
  closes (act a) n = suc n
  closes (half left p x) n = n
  closes (half right p x) n = suc n
  closes (build b) n = n

  -- the steps done by the first n statements: the number of the step that statement n belongs to
  unfoldable pub step_of : List (Statement 𝓢) → ℕ → ℕ
  step_of [] n = 0
  step_of (s ∷ ss) zero = 0
  step_of (s ∷ ss) (suc n) = closes s (step_of ss n)

  -- the statements that build
  unfoldable pub builds : List (Statement 𝓢) → ℕ
  builds [] = 0
  builds (build b ∷ ss) = suc (builds ss)
  builds (act a ∷ ss) = builds ss
  builds (half d p x ∷ ss) = builds ss

  -- one more if the act sends or receives
  unfoldable pub speaks : Act 𝓢 ℕ → ℕ → ℕ
  speaks (send a b) n = suc n
  speaks (receive a x) n = suc n
  speaks (fresh x) n = n
  speaks (compare a b) n = n
  speaks (split a x y) n = n
  speaks (decrypt s a b x) n = n

  -- the statements that send or receive
  unfoldable pub messages : List (Statement 𝓢) → ℕ
  messages [] = 0
  messages (build b ∷ ss) = messages ss
  messages (act a ∷ ss) = speaks a (messages ss)
  messages (half d p x ∷ ss) = messages ss

  -- ── Traces ──

  -- a trace: its values, the starting values, the supply
  pub record Trace : Type 0 where
    pub values : List (Entry 𝓢 Atom)
    pub starting : List ℕ
    pub supply : List ℕ

  -- what entry i of a value table stands for
  abbrev pub value_of : List (Entry 𝓢 Atom) → ℕ → Value 𝓢
  value_of es i = denoted 𝓢 (atom 0 0) es i

  -- the supply, as terms
  abbrev pub supplied : Trace → List (Value 𝓢)
  supplied tr = map (value_of tr.values) tr.supply

  -- what a trace's checks leave (numbers 5 and 6)
  pub record CheckedTrace (tr : Trace) : Type 0 where
    pub closed : Closed 𝓢 (atom 0 0) tr.values
    pub once : Unrepeated 𝓢 (atom 0 0) tr.values
    pub starts : All (λ i. i < length tr.values) tr.starting
    pub supplies : All (λ i. i < length tr.values) tr.supply

  -- number 14: a starting value for each free symbol, which visibly has its type
  pub data Starts (Γ : ℕ → Ty 𝓢.types) (es : List (Entry 𝓢 Atom)) : List ℕ → List ℕ → Type 0 where
    starts_nil : Starts Γ es [] []
    starts_cons : {x i : ℕ} {xs is : List ℕ} → visible 𝓢 (index 𝓢 es) (Γ x) i ≡ true → Starts Γ es xs is → Starts Γ es (x ∷ xs) (i ∷ is)

  -- each symbol with its value
  unfoldable pub bind_all : List ℕ → List (Value 𝓢) → Bindings 𝓢
  bind_all [] vs = []
  bind_all (x ∷ xs) [] = []
  bind_all (x ∷ xs) (v ∷ vs) = (x, v) ∷ bind_all xs vs

  -- a list's types: Message where there is none
  abbrev pub types_of : List (Ty 𝓢.types) → ℕ → Ty 𝓢.types
  types_of l x = get_or l x Message

  -- ── The two runs ──

  module _ (t : Table 𝓢) (tr : Trace) where
    -- the free symbols' values
    abbrev pub start : Bindings 𝓢
    start = bind_all (free 𝓢 t) (map (value_of tr.values) tr.starting)

    -- the process on the trace's supply: no types
    abbrev pub process_run : Result (Value 𝓢) (Unit {0})
    process_run = run_process 𝓢 untyped (process 𝓢 t) start (supplied tr)

  module _ (ts : Tests 𝓢) (ss : List (Statement 𝓢)) (tr : Trace) where
    -- the list on the trace, under tests: by the list's types, or none
    abbrev pub list_run : Result ℕ (List (Entry 𝓢 Atom))
    list_run = run 𝓢 (table 𝓢) ts ss tr.values (map symbol_register tr.starting) tr.supply

    -- the list's messages, as terms
    abbrev pub said : List (Logged (Value 𝓢))
    said = map (on_logged (value_of list_run.store)) list_run.log

    -- the supply that it left, as terms
    abbrev pub left_over : List (Value 𝓢)
    left_over = map (value_of list_run.store) list_run.rest

    -- the step of the statement at which it stopped
    abbrev pub stopped_at : ℕ
    stopped_at = step_of ss list_run.place

  -- ── Demand 3 ──

  -- an ending by type, the step that it stops at, and the symbol that the step binds
  pub data Blames : Ending → Step 𝓢 → ℕ → Type 0 where
    blames_received : {M : Term 𝓢} {x : ℕ} → Blames received_lacks (receive M x) x
    blames_opened : {s : 𝓢.Seal} {M K : Term 𝓢} {x : ℕ} → Blames opened_lacks (decrypt s M K x) x
    blames_fresh : {x : ℕ} → Blames fresh_lacks (fresh x) x

  -- an ending e at step n of P, with messages ms and supply left: the value named lacks its symbol's type, and the process passes that step
  pub record Lacking (Γ : ℕ → Ty 𝓢.types) (P : Process 𝓢) (σ : Bindings 𝓢) (su : List (Value 𝓢)) (e : Ending) (n : ℕ) (ms : List (Logged (Value 𝓢))) (rest : List (Value 𝓢)) : Type 0 where
    pub step : Step 𝓢
    pub symbol : ℕ
    pub value : Value 𝓢
    pub bindings : Bindings 𝓢
    pub there : get_elem? P n ≡ some step
    pub blames : Blames e step symbol
    pub lacks : visible 𝓢 (tree 𝓢) (Γ symbol) value ≡ false
    pub passes : Reaches 𝓢 P σ su ms (drop (suc n) P) (bindings ++ ((symbol, value) ∷ [])) rest

  module _ (t : Table 𝓢) (Γ : ℕ → Ty 𝓢.types) (ss : List (Statement 𝓢)) (tr : Trace) where
    -- the list's run
    abbrev pub L : Result ℕ (List (Entry 𝓢 Atom))
    L = list_run (typed Γ) ss tr

    -- the process's run
    abbrev pub P : Result (Value 𝓢) (Unit {0})
    P = process_run t tr

    -- of the list's run L and the process's run P
    pub record Demand3 : Type 0 where
      -- the list's messages are the opening part of the process's
      pub opening : (more : List (Logged (Value 𝓢))) × (said (typed Γ) ss tr ++ more ≡ P.log)
      -- all of them unless it ended by type
      pub complete : ¬ ByType L.ending → said (typed Γ) ss tr ≡ P.log
      -- else it stops where the process stops too: for that cause, at that very step, with equal supplies used
      pub stops : ¬ ByType L.ending → (P.ending ≡ L.ending) × (P.place ≡ stopped_at (typed Γ) ss tr) × (P.rest ≡ left_over (typed Γ) ss tr)
      -- it finishes only if the process finishes
      pub finishes : L.ending ≡ finished → P.ending ≡ finished
      -- by type: the value named really lacks the type, and the process passes that step
      pub lacking : ByType L.ending → Lacking Γ (process 𝓢 t) (start t tr) (supplied tr) L.ending (stopped_at (typed Γ) ss tr) (said (typed Γ) ss tr) (left_over (typed Γ) ss tr)
      -- a split never meets a non-pair, a decryption never a non-ciphertext
      pub known : number_of L.ending ≤ 7

  -- ── Statements ──

  -- a kind of ciphertext type belongs to one kind of sealed terms
  abbrev pub OneSealEach : Type 0
  OneSealEach = (s u : 𝓢.Seal) → 𝓢.former s ≡ 𝓢.former u → s ≡ u

  -- canonical forms: where the value of every symbol in a term visibly has its type, so has the value of the term
  abbrev pub CanonicalForms : Type 0
  CanonicalForms = (Γ : ℕ → Ty 𝓢.types) (σ : Bindings 𝓢) (M : Term 𝓢) (A : Ty 𝓢.types) → Has 𝓢 Γ M A
      → ((x : ℕ) → ¬ Lacks 𝓢 x M → visible 𝓢 (tree 𝓢) (Γ x) (look 𝓢 σ x) ≡ true) → visible 𝓢 (tree 𝓢) A (eval 𝓢 σ M) ≡ true

  -- what is visible of an index of a sound value table is what is visible of the value
  abbrev pub VisibleByIndex : Type 0
  VisibleByIndex = (es : List (Entry 𝓢 Atom)) → Closed 𝓢 (atom 0 0) es → Unrepeated 𝓢 (atom 0 0) es
      → (A : Ty 𝓢.types) (i : ℕ) → i < length es → visible 𝓢 (tree 𝓢) A (value_of es i) ≡ visible 𝓢 (index 𝓢 es) A i

  -- an index of a sound value table is fresh exactly if the value that it stands for is
  abbrev pub FreshByIndex : Type 0
  FreshByIndex = (es : List (Entry 𝓢 Atom)) → Closed 𝓢 (atom 0 0) es → Unrepeated 𝓢 (atom 0 0) es
      → (held : List ℕ) (i : ℕ) → All (λ w. w < length es) held → i < length es
      → (is_fresh 𝓢 (index 𝓢 es) held i ≡ true → Fresh 𝓢 (map (value_of es) held) (value_of es i))
      × (Fresh 𝓢 (map (value_of es) held) (value_of es i) → is_fresh 𝓢 (index 𝓢 es) held i ≡ true)

  -- demand 3 holds of every faithful list
  abbrev pub Demand3Holds : Type 0
  Demand3Holds = (v : Splitting) (t : Table 𝓢) (Γ : ℕ → Ty 𝓢.types) (ss : List (Statement 𝓢)) (tr : Trace)
      → Checked 𝓢 t → Typed 𝓢 Γ (process 𝓢 t) → Faithful 𝓢 v t ss → CheckedTrace tr → Starts Γ tr.values (free 𝓢 t) tr.starting
      → Demand3 t Γ ss tr

  -- and so of every list that the judge accepts, run under its own types
  abbrev pub AcceptedListsKeepDemand3 : Type 0
  AcceptedListsKeepDemand3 = (same : Discrete (Ty 𝓢.types)) (v : Splitting) (t : Table 𝓢) (widest : List (Ty 𝓢.types)) (l : StatementList 𝓢) (tr : Trace)
      → Checked 𝓢 t → Unrepeated 𝓢 0 t.entries → Typed 𝓢 (types_of widest) (process 𝓢 t) → judge_list 𝓢 same v t widest l ≡ judged accepted
      → CheckedTrace tr → Starts (types_of l.types) tr.values (free 𝓢 t) tr.starting → Demand3 t (types_of l.types) l.statements tr

  -- a faithful list runs as its process does under the same tests: the same ending, messages and supply left, at the step of its statement
  abbrev pub ListsRunAsProcesses : Type 0
  ListsRunAsProcesses = (v : Splitting) (t : Table 𝓢) (ts : Tests 𝓢) (ss : List (Statement 𝓢)) (tr : Trace)
      → Checked 𝓢 t → Faithful 𝓢 v t ss → CheckedTrace tr → length tr.starting ≡ length (free 𝓢 t)
      → let P = run_process 𝓢 ts (process 𝓢 t) (start t tr) (supplied tr) in
      ((list_run ts ss tr).ending ≡ P.ending) × (P.place ≡ stopped_at ts ss tr) × (said ts ss tr ≡ P.log) × (left_over ts ss tr ≡ P.rest)

  -- two faithful lists of one table, of whatever version, have equal logs and endings, and leave the same supply
  abbrev pub ListsAgree : Type 0
  ListsAgree = (v v' : Splitting) (t : Table 𝓢) (ts : Tests 𝓢) (ss ss' : List (Statement 𝓢)) (tr : Trace)
      → Checked 𝓢 t → Faithful 𝓢 v t ss → Faithful 𝓢 v' t ss' → CheckedTrace tr → length tr.starting ≡ length (free 𝓢 t)
      → (said ts ss tr ≡ said ts ss' tr) × ((list_run ts ss tr).ending ≡ (list_run ts ss' tr).ending) × (left_over ts ss tr ≡ left_over ts ss' tr)

  -- the value table that a run leaves: the trace's values stand first, parts are lower, and equal values have equal indexes
  pub record SoundTable (old new : List (Entry 𝓢 Atom)) : Type 0 where
    pub extends : (more : List (Entry 𝓢 Atom)) × (new ≡ old ++ more)
    pub closed : Closed 𝓢 (atom 0 0) new
    pub once : Unrepeated 𝓢 (atom 0 0) new

  -- it is sound, the messages name its entries, and the lent buffers that document 01 asks for are enough
  abbrev pub BuffersSuffice : Type 0
  BuffersSuffice = (v : Splitting) (t : Table 𝓢) (ts : Tests 𝓢) (ss : List (Statement 𝓢)) (tr : Trace)
      → Checked 𝓢 t → Faithful 𝓢 v t ss → CheckedTrace tr → length tr.starting ≡ length (free 𝓢 t)
      → SoundTable tr.values (list_run ts ss tr).store × All (Both (λ i. i < length (list_run ts ss tr).store)) (list_run ts ss tr).log
      × (length (list_run ts ss tr).store ≤ length tr.values + builds ss) × (length (list_run ts ss tr).log ≤ messages ss)
