-- Proofs of the statements of specs/Demand3.antt. Assumes the laws of the signature.
use mathlib.Core.Path.{◌≡◌, refl, sym, ap, ◌∙◌}
use mathlib.Core.Logic.{◌⊎◌, inl, inr, ⊎_elim}
use mathlib.Core.Bool.{false}
use mathlib.Core.List.{List, [], ◌∷◌, ◌++◌, map}
use Prim.Native.Nat.{ℕ, suc, ◌<◌, ◌≤◌}
use native.Mathlib.Omega.{arith}
use lib.ListN.{length, length-map}
use Rattle.types.specs.Types.{Ty}
use Rattle.calculus.specs.Signature.{Signature, SignatureLaws}
use Rattle.calculus.specs.Terms.{Atom, atom, Term, leaf, Value, bound, Step, Process, Statement}
use Rattle.calculus.specs.Tables.{Entry, Closed, Unrepeated, Table, process, free}
use Rattle.calculus.specs.Scope.{All, all_nil, all_cons, Distinct}
use Rattle.calculus.specs.Typing.{Checked}
use Rattle.rendering.specs.Rendering.{Splitting, Faithful}
use Rattle.rendering.proofs.ListLaws.{accepts_the_faithful}
use Rattle.rendering.proofs.FreeLaws.{free_and_bound}
use Rattle.running.specs.Acts.{Tests, Ending, finished, number_of, typed, untyped, Result}
use Rattle.running.specs.Lists.{symbol_register, run, trees}
use Rattle.running.specs.Processes.{Bindings, run_process, StuckBy, Ends, ends_finished, ends_stuck}
use Rattle.running.specs.Demand3.{ByType, by_received, by_opened, by_fresh, step_of, Trace, value_of, supplied, CheckedTrace, types_of, Starts, starts_nil, starts_cons, bind_all, list_run, start, said, left_over, stopped_at, Lacking, Demand3, OneSealEach, VisibleByIndex, FreshByIndex, AcceptedListsKeepDemand3, Demand3Holds, ListsRunAsProcesses, ListsAgree, BuffersSuffice}
use Rattle.running.proofs.Registers.{Bound, symbols_of, Match, symbol_registers, held_symbols, new_match}
use Rattle.running.proofs.Simulation.{Walk, walk, Same, level, simulates}
use Rattle.running.proofs.Rules.{fresh_all, all_fresh, process_by_rules}
use Rattle.running.proofs.Types.{Fit, Fitted, fitted_match, safe}
use Rattle.running.proofs.Opening.{opens}
use Rattle.running.proofs.Seen.{visible_seen, fresh_seen}
use Rattle.running.proofs.Under.{on_register}
use Rattle.running.proofs.Mirror.{Mirrors, mirror}

module _ (𝓢 : Signature) where
  abbrev Val : Type 0
  Val = Value 𝓢

  -- ── the start ──

  start_symbols : (f : ℕ → Val) (xs is : List ℕ) → length is ≡ length xs → symbols_of 𝓢 (bind_all 𝓢 xs (map f is)) ≡ xs
  unfolding bind_all
  start_symbols f [] [] q = refl
  start_symbols f [] (i ∷ is) q = absurd (omega arith)
  start_symbols f (x ∷ xs) [] q = absurd (omega arith)
  start_symbols f (x ∷ xs) (i ∷ is) q = ap (λ l. x ∷ l) (start_symbols f xs is (omega arith))

  start_registers_lem : (f : ℕ → Val) (xs is : List ℕ) → length is ≡ length xs → map (on_register 𝓢 f) (map symbol_register is) ≡ symbol_registers 𝓢 (bind_all 𝓢 xs (map f is))
  unfolding bind_all
  start_registers_lem f [] [] q = refl
  start_registers_lem f [] (i ∷ is) q = absurd (omega arith)
  start_registers_lem f (x ∷ xs) [] q = absurd (omega arith)
  start_registers_lem f (x ∷ xs) (i ∷ is) q = rw (start_registers_lem f xs is (omega arith))

  starts_length : {Γ : ℕ → Ty 𝓢.types} {es : List (Entry 𝓢 Atom)} {xs is : List ℕ} → Starts 𝓢 Γ es xs is → length is ≡ length xs
  starts_length starts_nil = refl
  starts_length (starts_cons h s) = ap suc (starts_length s)

  starting_in : (es : List (Entry 𝓢 Atom)) {is : List ℕ} → All (λ i. i < length es) is → All (λ r. r.value < length es) (map symbol_register is)
  starting_in es all_nil = all_nil
  starting_in es (all_cons p s) = all_cons p (starting_in es s)

  -- ── the list over the value table, the list over trees, the process under the types ──

  abbrev tree_run : (t : Table 𝓢) (ts : Tests 𝓢) (ss : List (Statement 𝓢)) (tr : Trace 𝓢) → Result Val (Unit {0})
  tree_run t ts ss tr = run 𝓢 (trees 𝓢) ts ss tt (symbol_registers 𝓢 (start 𝓢 t tr)) (supplied 𝓢 tr)

  record Three (t : Table 𝓢) (ts : Tests 𝓢) (ss : List (Statement 𝓢)) (tr : Trace 𝓢) : Type 0 where
    mirrors : Mirrors 𝓢 tr.values ss (list_run 𝓢 ts ss tr) (tree_run t ts ss tr)
    same : Same 𝓢 ss (tree_run t ts ss tr) (run_process 𝓢 ts (process 𝓢 t) (start 𝓢 t tr) (supplied 𝓢 tr))

  three : (v : Splitting) (t : Table 𝓢) (ts : Tests 𝓢) (ss : List (Statement 𝓢)) (tr : Trace 𝓢) → Checked 𝓢 t → Faithful 𝓢 v t ss → CheckedTrace 𝓢 tr → length tr.starting ≡ length (free 𝓢 t) → Three t ts ss tr
  three v t ts ss tr c f k q =
      let es = tr.values in
      let D = value_of 𝓢 es in
      let σ = start 𝓢 t tr in
      let w : Walk 𝓢 false (map leaf (free 𝓢 t)) (process 𝓢 t) ss = walk 𝓢 v 0 (process 𝓢 t) f.1 in
      let e : symbols_of 𝓢 σ ≡ free 𝓢 t = start_symbols D (free 𝓢 t) tr.starting q in
      let d : Distinct (symbols_of 𝓢 σ ++ bound 𝓢 (process 𝓢 t)) = rw e (free_and_bound 𝓢 t c.once) in
      let m : Match 𝓢 (Bound 𝓢 σ) (map leaf (free 𝓢 t)) (symbol_registers 𝓢 σ) = rw e at (new_match 𝓢 [] σ (bound 𝓢 (process 𝓢 t)) d) in
      let r = start_registers_lem D (free 𝓢 t) tr.starting q in
      let n = mirror 𝓢 ts w es (map symbol_register tr.starting) tr.supply (record { low = k.closed; once = k.once })
      (length-map tr.starting symbol_register ∙ q ∙ sym (length-map {B = Term 𝓢} (free 𝓢 t) leaf)) (starting_in es k.starts) k.supplies in
      record {
        mirrors = rw r at n;
        same = simulates 𝓢 ts w (symbol_registers 𝓢 σ) σ σ (supplied 𝓢 tr) (record { symbols = held_symbols 𝓢 σ; sound = m }) level d;
      }

  pub visible_by_index : VisibleByIndex 𝓢
  visible_by_index es low once A i h = visible_seen 𝓢 es low once A i h

  pub fresh_by_index : FreshByIndex 𝓢
  fresh_by_index es low once held i hs h =
      let e = fresh_seen 𝓢 es low once hs i h in
      (λ t. fresh_all 𝓢 (map (value_of 𝓢 es) held) (value_of 𝓢 es i) (e ∙ t), λ f. sym e ∙ all_fresh 𝓢 (value_of 𝓢 es i) f)

  pub lists_run_as_processes : ListsRunAsProcesses 𝓢
  lists_run_as_processes v t ts ss tr c f k q =
      let a = three v t ts ss tr c f k q in
      (a.mirrors.ending ∙ a.same.ending, a.same.place ∙ ap (step_of 𝓢 ss) (sym a.mirrors.place), a.mirrors.log ∙ a.same.log, a.mirrors.rest ∙ a.same.rest)

  pub lists_agree : ListsAgree 𝓢
  lists_agree v v' t ts ss ss' tr c f f' k q =
      let a = three v t ts ss tr c f k q in
      let b = three v' t ts ss' tr c f' k q in (
        a.mirrors.log ∙ a.same.log ∙ sym (b.mirrors.log ∙ b.same.log),
        a.mirrors.ending ∙ a.same.ending ∙ sym (b.mirrors.ending ∙ b.same.ending),
        a.mirrors.rest ∙ a.same.rest ∙ sym (b.mirrors.rest ∙ b.same.rest),
      )

  pub buffers_suffice : BuffersSuffice 𝓢
  buffers_suffice v t ts ss tr c f k q =
      let m = (three v t ts ss tr c f k q).mirrors in
      (record { extends = (m.grows.more, m.grows.extends); closed = m.sound.low; once = m.sound.once }, m.inside, m.size, m.short)

  module _ (laws : SignatureLaws 𝓢) (each : OneSealEach 𝓢) where
    starts_fitted : (Γ : ℕ → Ty 𝓢.types) (es : List (Entry 𝓢 Atom)) → Closed 𝓢 (atom 0 0) es → Unrepeated 𝓢 (atom 0 0) es → {xs is : List ℕ} → Starts 𝓢 Γ es xs is → All (λ i. i < length es) is
        → Fitted 𝓢 laws each Γ (bind_all 𝓢 xs (map (value_of 𝓢 es) is))
    unfolding bind_all
    starts_fitted Γ es low once starts_nil all_nil = all_nil
    starts_fitted Γ es low once (starts_cons {x = x} {i = i} h s) (all_cons p ps) = all_cons (visible_seen 𝓢 es low once (Γ x) i p ∙ h) (starts_fitted Γ es low once s ps)

    not_finished : {e : Ending} → ByType e → e ≡ finished → ⊥
    not_finished by_received q = let w : ◌≡◌ {A = ℕ} 0 1 = cc in omega arith
    not_finished by_opened q = let w : ◌≡◌ {A = ℕ} 0 1 = cc in omega arith
    not_finished by_fresh q = let w : ◌≡◌ {A = ℕ} 0 1 = cc in omega arith

    not_stuck : {τ : Bindings 𝓢} {e : Ending} {d : Step 𝓢} {sv rest : List Val} → ByType e → StuckBy 𝓢 τ e d sv rest → ⊥
    not_stuck by_received s = elim s [ ]
    not_stuck by_opened s = elim s [ ]
    not_stuck by_fresh s = elim s [ ]

    not_ended : {τ : Bindings 𝓢} {sv rest : List Val} {P : Process 𝓢} {e : Ending} → ByType e → Ends 𝓢 τ sv P e rest → ⊥
    not_ended b ends_finished = not_finished b refl
    not_ended b (ends_stuck s) = not_stuck b s

    -- the list L over a table, its run over trees, the process under the types and without: demand 3 from the three comparisons
    module _ (t : Table 𝓢) (Γ : ℕ → Ty 𝓢.types) (ss : List (Statement 𝓢)) (tr : Trace 𝓢) (x : Three t (typed Γ) ss tr) where
      abbrev P : Process 𝓢
      P = process 𝓢 t

      abbrev σ : Bindings 𝓢
      σ = start 𝓢 t tr

      abbrev su : List Val
      su = supplied 𝓢 tr

      abbrev Q : Result Val (Unit {0})
      Q = run_process 𝓢 (typed Γ) P σ su

      abbrev U : Result Val (Unit {0})
      U = run_process 𝓢 untyped P σ su

      abbrev L : Result ℕ (List (Entry 𝓢 Atom))
      L = list_run 𝓢 (typed Γ) ss tr

      log_is : said 𝓢 (typed Γ) ss tr ≡ Q.log
      log_is = x.mirrors.log ∙ x.same.log

      ending_is : L.ending ≡ Q.ending
      ending_is = x.mirrors.ending ∙ x.same.ending

      rest_is : left_over 𝓢 (typed Γ) ss tr ≡ Q.rest
      rest_is = x.mirrors.rest ∙ x.same.rest

      place_is : Q.place ≡ stopped_at 𝓢 (typed Γ) ss tr
      place_is = x.same.place ∙ ap (step_of 𝓢 ss) (sym x.mirrors.place)

      equal_unless : ¬ ByType L.ending → Q ≡ U
      equal_unless n = ⊎_elim (λ b. absurd (n (rw ending_is b.0))) (λ e. e) (opens 𝓢 Γ P σ su).unless

      never : ByType U.ending → ⊥
      never b = not_ended b (process_by_rules 𝓢 P σ su).3

      lacking_of : ByType L.ending → (ByType Q.ending × Lacking 𝓢 Γ P σ su Q.ending Q.place Q.log Q.rest) ⊎ (Q ≡ U) → Lacking 𝓢 Γ P σ su Q.ending Q.place Q.log Q.rest
      lacking_of b (inl l) = l.1
      lacking_of b (inr e) = absurd (never (rw (ending_is, ap (λ r. r.ending) e) at b))

      demand : number_of L.ending ≤ 7 → Demand3 𝓢 t Γ ss tr
      demand known =
          record {
            opening = rw log_is (opens 𝓢 Γ P σ su).opening;
            complete = λ n. log_is ∙ ap (λ r. r.log) (equal_unless n);
            stops = λ n. let e = equal_unless n in (sym (ap (λ r. r.ending) e) ∙ sym ending_is, sym (ap (λ r. r.place) e) ∙ place_is, sym (ap (λ r. r.rest) e) ∙ sym rest_is);
            finishes = λ q. let e = equal_unless (λ b. not_finished b q) in sym (ap (λ r. r.ending) e) ∙ sym ending_is ∙ q;
            lacking = λ b. rw (ending_is, ← place_is, log_is, rest_is) (lacking_of b (opens 𝓢 Γ P σ su).unless);
            known = known;
          }

    pub demand_3_holds : Demand3Holds 𝓢
    demand_3_holds v t Γ ss tr c ty f k st =
        let es = tr.values in
        let D = value_of 𝓢 es in
        let q = starts_length st in
        let x = three v t (typed Γ) ss tr c f k q in
        let σ = start 𝓢 t tr in
        let h = starts_fitted Γ es k.closed k.once st k.starts in
        let m : Match 𝓢 (Fit 𝓢 laws Γ) (map leaf (free 𝓢 t)) (symbol_registers 𝓢 σ) = rw (start_symbols D (free 𝓢 t) tr.starting q) at (fitted_match 𝓢 laws each Γ h) in
        let w : Walk 𝓢 false (map leaf (free 𝓢 t)) (process 𝓢 t) ss = walk 𝓢 v 0 (process 𝓢 t) f.1 in
        demand t Γ ss tr x (rw x.mirrors.ending (safe 𝓢 laws each Γ w (symbol_registers 𝓢 σ) (supplied 𝓢 tr) m ty))

    pub accepted_lists_keep_demand_3 : AcceptedListsKeepDemand3 𝓢
    accepted_lists_keep_demand_3 same v t widest l tr c u ty j k st =
        let f = (accepts_the_faithful 𝓢 same v t widest l c u).0 j in
        demand_3_holds v t (types_of 𝓢 l.types) l.statements tr c (rw f.same_types ty) f.renders k st
