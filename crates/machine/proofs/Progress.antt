-- A run that has come to statement k: what is kept, and what is still to be run. Assumes nothing.
use mathlib.Core.Path.{◌≡◌, refl, ap, ◌∙◌}
use mathlib.Core.List.{List, [], ◌∷◌, ◌++◌, append-nil, append_assoc}
use Prim.Native.Nat.{ℕ, suc, ◌+◌, ◌-◌, ◌*◌, ◌<◌, ◌≤◌}
use native.Mathlib.Omega.{arith}
use native.Mathlib.Numerals.{add-one}
use lib.ListN.{length, length-append}
use Rattle.std.specs.Bool.{⊤}
use Rattle.std.proofs.Common.{Result as Answer, Ok, Err}
use Rattle.entries.specs.Tiling.{listed}
use Rattle.entries.proofs.Tiling.{listed_length}
use Rattle.list.specs.Layout.{statements, statements_at}
use Rattle.trace.specs.Layout.{supplies, supply}
use Rattle.types.specs.Version1.{T}
use Rattle.calculus.specs.Terms.{Atom, Statement}
use Rattle.calculus.specs.Tables.{Entry}
use Rattle.calculus.specs.Version1.{signature1}
use Rattle.running.specs.Acts.{Logged, Ending, finished, number_of, Out, goes, stops, typed, Result, after, and_then}
use Rattle.running.specs.Lists.{Register, execute, run, table}
use Rattle.running.specs.Demand3.{builds, messages, types_of}
use Rattle.decoded_list.specs.Statements.{statement_at, statements_of}
use Rattle.run_parts.specs.Types.{TypesAre}
use Rattle.effects.specs.Effects.{Keeps, Room, Comes, comes_on, comes_end, ending_number, Same, Does}
use Rattle.effects.specs.declared.Run.{Run}
use Rattle.effects.specs.declared.State.{State}
use Rattle.effects.specs.declared.Ending.TheVariants.{Finished}
use Rattle.effects.specs.declared.Ending.{Ending as CodeEnding}
use Rattle.execution.specs.Execution.{executing, statement_in, executing_at, builds_at, messages_at}
use Rattle.machine.specs.Statements.{Told}
use Rattle.machine.specs.Running.{ended_as, Ready, run_from, RunFrom}
use Rattle.machine.specs.declared.Ran.{Ran}
use Rattle.machine.proofs.Growth.{builds_first, messages_first, builds_few, messages_few, Small, small_on, store_longer, small_statement}

-- what a run comes to
abbrev Outcome : Type 0
Outcome = Result ℕ (List (Entry signature1 Atom))

-- the statements from k on
unfoldable pub rest_of : List ℕ → ℕ → List (Statement signature1)
rest_of l k = listed (statement_at l) k (statements l - k)

-- k statements with the messages ms before a result
abbrev later : ℕ → List (Logged ℕ) → Outcome → Outcome
later k ms r = record { ending = r.ending; place = k + r.place; rest = r.rest; log = ms ++ r.log; store = r.store }

-- the run of the statements from k on
unfoldable pub run_rest : List ℕ → List T → ℕ → List (Entry signature1 Atom) → List (Register ℕ) → List ℕ → Outcome
run_rest l As k es rs su = run signature1 (table signature1) (typed (types_of signature1 As)) (rest_of l k) es rs su

-- the run R has come to statement k
pub record Progress (l tr z y : List ℕ) (As : List T) (R : Outcome) (k : ℕ) (w o g : List ℕ) (s : State) : Type 0 where
  pub es : List (Entry signature1 Atom)
  pub rs : List (Register ℕ)
  pub su : List ℕ
  pub ms : List (Logged ℕ)
  pub keeps : Keeps tr z y es rs su ms w o g s
  pub goes_on : R ≡ later k ms (run_rest l As k es rs su)
  pub value_room : 5 * (length es + builds signature1 (rest_of l k)) ≤ length z
  pub message_room : 5 * (length ms + messages signature1 (rest_of l k)) ≤ length y
  pub few_values : length es + builds signature1 (rest_of l k) ≤ 1536
  pub few_messages : length ms + messages signature1 (rest_of l k) ≤ 512
  pub few_registers : length rs + (statements l - k) ≤ 608

-- ── The answer ──

pub told : {tr z y : List ℕ} {es : List (Entry signature1 Atom)} {rs : List (Register ℕ)} {su : List ℕ} {ms : List (Logged ℕ)} {w o g : List ℕ} {s : State} {R : Outcome} {n k : ℕ} (e : Ending) (place : ℕ)
    → R ≡ record { ending = e; place = place; rest = su; log = ms; store = es } → n ≡ number_of e → k ≡ place → Keeps tr z y es rs su ms w o g s → Told tr z w y o R (ended_as n k s)
told {tr} {su = su} {s = s} e place q i j c =
    let l : length su ≡ supplies tr - s.used = ap length c.left.rest ∙ listed_length (supply tr) s.used (supplies tr - s.used) in
    rw q (record {
      ending = i;
      place = j;
      used = omega (arith, c.left.among);
      logged = c.said.count;
      count = c.kept.count;
      values_written = c.kept.bytes;
      messages_written = c.said.bytes;
    })

-- ── The rest ──

rest_first : (l : List ℕ) (k : ℕ) → k < statements l → rest_of l k ≡ statement_at l k ∷ rest_of l (k + 1)
unfolding rest_of listed
rest_first l k h = let e : statements l - k ≡ suc (statements l - (k + 1)) = omega arith in rw (e, add-one)

rest_none : (l : List ℕ) (k : ℕ) → statements l ≤ k → rest_of l k ≡ []
unfolding rest_of listed
rest_none l k h = let e : statements l - k ≡ 0 = omega arith in rw e

rest_all : (l : List ℕ) → rest_of l 0 ≡ statements_of l
unfolding rest_of
rest_all l = let e : statements l - 0 ≡ statements l = omega arith in rw e

-- ── The start ──

pub begun : {l tr w o g : List ℕ} {s : State} {As : List T} {z y : List ℕ} {es : List (Entry signature1 Atom)} {rs : List (Register ℕ)} {su : List ℕ}
    → Ready l tr w o g s As z y es rs su → Progress l tr z y As (run_from l As es rs su) 0 w o g s
unfolding run_from run_rest
begun {l} {tr} {w} {o} {g} {s} {As} {z} {y} {es} {rs} {su} r =
    let n : length (statements_of l) ≡ statements l = listed_length (statement_at l) 0 (statements l) in
    let b = builds_few (statements_of l) in
    let m = messages_few (statements_of l) in
    record {
      es = es;
      rs = rs;
      su = su;
      ms = [];
      keeps = r.keeps;
      goes_on = rw (rest_all l) (whole (run signature1 (table signature1) (typed (types_of signature1 As)) (statements_of l) es rs su));
      value_room = rw (rest_all l) r.value_room;
      message_room = rw (rest_all l) (let q = r.message_room in omega arith);
      few_values = rw (rest_all l) (omega (arith, r.few_values, r.few_statements));
      few_messages = rw (rest_all l) (omega (arith, r.few_statements));
      few_registers = omega (arith, r.few_registers, r.few_statements);
    }
  where
    whole : (R : Outcome) → R ≡ later 0 [] R
    whole R = let e : 0 + R.place ≡ R.place = omega arith in rw e

-- ── One statement ──

module _ {l tr z y : List ℕ} {As : List T} {R : Outcome} {k : ℕ} {w o g : List ℕ} {s : State} (t : TypesAre l As) (p : Progress l tr z y As R k w o g s) (h : k < statements l) (base : ℕ) (e : base ≡ statements_at l) where
  -- statement k
  same_statement_lem : statement_in l base k ≡ statement_at l k
  unfolding statement_in statement_at
  same_statement_lem = rw e

  -- there is room for what it makes, says and gives
  room : Room (builds_at l base k) (messages_at l base k) z y p.es p.rs p.ms
  room =
      let b : builds signature1 (rest_of l k) ≡ builds signature1 (statement_at l k ∷ []) + builds signature1 (rest_of l (k + 1)) = rw (rest_first l k h) (builds_first (statement_at l k) (rest_of l (k + 1))) in
      let m : messages signature1 (rest_of l k) ≡ messages signature1 (statement_at l k ∷ []) + messages signature1 (rest_of l (k + 1)) = rw (rest_first l k h) (messages_first (statement_at l k) (rest_of l (k + 1))) in
      rw same_statement_lem (record {
        value_room = omega (arith, p.value_room);
        message_room = omega (arith, p.message_room);
        few_values = omega (arith, p.few_values);
        few_messages = omega (arith, p.few_messages);
        few_registers = omega (arith, p.few_registers);
      })

  abbrev done : List (Entry signature1 Atom) × Out ℕ (Register ℕ)
  done = execute signature1 (table signature1) (typed (types_of signature1 As)) p.es p.rs p.su (statement_at l k)

  -- what it comes to
  comes : {w' o' g' : List ℕ} {s' : State} {r : Answer ⊤ CodeEnding} → Does (builds_at l base k) (messages_at l base k) (executing_at l base k) l tr w w' o o' g g' s s' r
      → Comes tr z y done.0 p.rs p.ms w' o' g' s' done.1 r
  unfolding executing
  comes d = rw same_statement_lem at (d.does As t z y p.es p.rs p.su p.ms p.keeps room)

  small : Small (messages signature1 (statement_at l k ∷ [])) done.1
  unfolding statement_at
  small = small_statement (typed (types_of signature1 As)) p.es p.rs p.su _ _ _ _

  -- the run is what it comes to, then the rest
  runs : R ≡ later k p.ms (and_then done.0 done.1 (λ new su. run_rest l As (k + 1) done.0 (p.rs ++ new) su))
  unfolding run run_rest
  runs = rw (rest_first l k h) at p.goes_on

  -- it goes on
  pub stepped : {w' o' g' : List ℕ} {c : State} → Does (builds_at l base k) (messages_at l base k) (executing_at l base k) l tr w w' o o' g g' s c (Ok tt) → Progress l tr z y As R (k + 1) w' o' g' c
  unfolding and_then
  stepped {w'} {o'} {g'} {c} d = go done.1 runs (comes d) small
    where
      go : (u : Out ℕ (Register ℕ)) → R ≡ later k p.ms (and_then done.0 u (λ new su. run_rest l As (k + 1) done.0 (p.rs ++ new) su))
          → Comes tr z y done.0 p.rs p.ms w' o' g' c u (Ok tt) → Small (messages signature1 (statement_at l k ∷ [])) u → Progress l tr z y As R (k + 1) w' o' g' c
      go (goes ns bs su) q (comes_on i) (small_on a b) =
          let f : builds signature1 (rest_of l k) ≡ builds signature1 (statement_at l k ∷ []) + builds signature1 (rest_of l (k + 1)) = rw (rest_first l k h) (builds_first (statement_at l k) (rest_of l (k + 1))) in
          let m : messages signature1 (rest_of l k) ≡ messages signature1 (statement_at l k ∷ []) + messages signature1 (rest_of l (k + 1)) = rw (rest_first l k h) (messages_first (statement_at l k) (rest_of l (k + 1))) in
          let v = store_longer (typed (types_of signature1 As)) p.es p.rs p.su (statement_at l k) in
          let x = length-append p.ms ns in
          let j = length-append p.rs bs in
          record {
            es = done.0;
            rs = p.rs ++ bs;
            su = su;
            ms = p.ms ++ ns;
            keeps = i;
            goes_on = q ∙ next (run_rest l As (k + 1) done.0 (p.rs ++ bs) su);
            value_room = omega (arith, p.value_room);
            message_room = omega (arith, p.message_room);
            few_values = omega (arith, p.few_values);
            few_messages = omega (arith, p.few_messages);
            few_registers = omega (arith, p.few_registers);
          }
        where
          next : (Q : Outcome) → later k p.ms (after ns Q) ≡ later (k + 1) (p.ms ++ ns) Q
          next Q = let n : k + suc Q.place ≡ k + 1 + Q.place = omega arith in rw (n, append_assoc p.ms ns Q.log)
      go (stops _ _ _) q x6 _ = elim x6 [ ]

  -- it ends the run
  pub ended_by : {w' o' g' : List ℕ} {c : State} {a : CodeEnding} → Does (builds_at l base k) (messages_at l base k) (executing_at l base k) l tr w w' o o' g g' s c (Err a) → Told tr z w' y o' R (ended_as (ending_number a) k c)
  unfolding and_then
  ended_by {w'} {o'} {g'} {c} {a} d = go done.1 runs (comes d)
    where
      go : (u : Out ℕ (Register ℕ)) → R ≡ later k p.ms (and_then done.0 u (λ new su. run_rest l As (k + 1) done.0 (p.rs ++ new) su))
          → Comes tr z y done.0 p.rs p.ms w' o' g' c u (Err a) → Told tr z w' y o' R (ended_as (ending_number a) k c)
      go (stops f ns su) q (comes_end i j) = told f (k + 0) q i (omega arith) j
      go (goes _ _ _) q x5 = elim x5 [ ]

-- ── The end ──

pub all_done : {l tr z y : List ℕ} {As : List T} {R : Outcome} {k n : ℕ} {w o g : List ℕ} {s : State} → Progress l tr z y As R k w o g s → n ≡ statements l → k ≤ n → n ≤ k → Told tr z w y o R (ended_as (ending_number Finished) n s)
unfolding run_rest run number_of ending_number
all_done {l} {k = k} p e h i =
    let q = rw (rest_none l k (omega arith)) at p.goes_on in
    told finished (k + 0) (q ∙ quiet) refl (omega arith) p.keeps
  where
    quiet : later k p.ms (record { ending = finished; place = 0; rest = p.su; log = []; store = p.es }) ≡ record { ending = finished; place = k + 0; rest = p.su; log = p.ms; store = p.es }
    quiet = rw (append-nil p.ms)

-- ── As the loop goes ──

-- whatever it begins with, the run has come to statement k
pub record Running (l tr w o g : List ℕ) (s : State) (k : ℕ) (w' o' g' : List ℕ) (s' : State) : Type 0 where
  pub progress : (As : List T) (z y : List ℕ) (es : List (Entry signature1 Atom)) (rs : List (Register ℕ)) (su : List ℕ)
      → Ready l tr w o g s As z y es rs su → Progress l tr z y As (run_from l As es rs su) k w' o' g' s'

pub run_begins : (l tr w o g : List ℕ) (s : State) → Running l tr w o g s 0 w o g s
run_begins l tr w o g s = record { progress = λ As z y es rs su r. begun r }

module _ (l tr w o g : List ℕ) (s : State) (k : ℕ) (w₁ o₁ g₁ : List ℕ) (s₁ : State) (p : Running l tr w o g s k w₁ o₁ g₁ s₁) where
  module _ (n : ℕ) (m : n ≡ statements l) (h : k < n) (base : ℕ) (e : base ≡ statements_at l) (w₂ o₂ g₂ : List ℕ) (c : State) (r : Answer ⊤ CodeEnding)
      (d : Does (builds_at l base k) (messages_at l base k) (executing_at l base k) l tr w₁ w₂ o₁ o₂ g₁ g₂ s₁ c r) where
    pub run_goes_on : r ≡ Ok tt → Running l tr w o g s (k + 1) w₂ o₂ g₂ c
    run_goes_on q = record { progress = λ As z y es rs su i. stepped i.types (p.progress As z y es rs su i) (omega arith) base e (rw q at d) }

    pub run_stops : (a : CodeEnding) → r ≡ Err a → (x : Ran) → x ≡ ended_as (ending_number a) k c → RunFrom l tr w w₂ o o₂ g s x
    run_stops a q x f = record {
      ran = λ As z y es rs su i. rw f (ended_by i.types (p.progress As z y es rs su i) (omega arith) base e (rw q at d));
    }

  pub run_ends : (n : ℕ) → n ≡ statements l → k ≤ n → n ≤ k → (x : Ran) → x ≡ ended_as (ending_number Finished) n s₁ → RunFrom l tr w w₁ o o₁ g s x
  run_ends n m h i x f = record { ran = λ As z y es rs su j. rw f (all_done (p.progress As z y es rs su j) m h i) }

-- a run that works on the same as one that works on the same
pub same_still : {a b c : Run} → Same a b → Same b c → Same a c
same_still p q = record { list = q.list ∙ p.list; trace = q.trace ∙ p.trace; values = q.values ∙ p.values; log = q.log ∙ p.log; registers = q.registers ∙ p.registers; values_long = q.values_long ∙ p.values_long; log_long = q.log_long ∙ p.log_long }
