-- A faithful list does, step by step, what its process does under the same tests. Assumes nothing.
use mathlib.Core.Path.{◌≡◌, refl, sym, ap, ◌∙◌, subst}
use mathlib.Core.Bool.{Bool, true, false}
use mathlib.Core.Option.{Option, none, some}
use mathlib.Core.List.{List, [], ◌∷◌, ◌++◌, map, append_assoc, append-nil}
use Prim.Native.Nat.{ℕ, suc}
use native.Mathlib.Omega.{arith}
use Rattle.calculus.specs.Signature.{Signature}
use Rattle.calculus.specs.Terms.{leaf, Term, Value, Build, map_build, built, Act, send, receive, fresh, compare, split, decrypt, map_act, binders, bound, Step, Process, left, right, Statement, act, half, build}
use Rattle.calculus.specs.Tables.{Entry}
use Rattle.calculus.specs.Scope.{Distinct}
use Rattle.calculus.proofs.Lists.{map_append}
use Rattle.calculus.proofs.TableLaws.{binders_map}
use Rattle.rendering.specs.Rendering.{Splitting, halves, merged, Due, whole, part, binds, dues_of, dues, Says, says_act, says_half, Follows, no_more, permitted, next_due}
use Rattle.rendering.proofs.ActLaws.{ActZip, BuildZip}
use Rattle.running.specs.Values.{tree, tree_shape, pair_parts}
use Rattle.running.specs.Acts.{Ending, Logged, Out, finished, no_pair, Tests, perform, splitting, Result, ended, after, and_then}
use Rattle.running.specs.Lists.{Register, symbol_register, term_register, held, holds, side_of, half_of, in_registers, execute, run, trees}
use Rattle.running.specs.Processes.{Bindings, values_of, eval, run_process}
use Rattle.running.specs.Demand3.{closes, step_of}
use Rattle.running.proofs.Registers.{Stands, stands_map, Bound, bound_more, symbols_of, eval_stands, Match, match_nil, match_cons, match_append, Names, acts_named, builds_named, named_stands, named_eval, acts_eval, built_stands, symbol_registers, held_append, held_symbols, new_match, more_match}
use Rattle.running.proofs.Binding.{Binds, binds as binds_as, binds_not, perform_binds}

module _ (𝓢 : Signature) where
  abbrev Val : Type 0
  Val = Value 𝓢

  abbrev S : Type 0
  S = Statement 𝓢

  abbrev z : Val
  z = (tree 𝓢).blank

  -- ── a faithful list, with the process at its side; true: between the halves of a split ──

  pub data Walk : Bool → List (Term 𝓢) → Process 𝓢 → List S → Type 0 where
    walk_end : {ms : List (Term 𝓢)} → Walk false ms [] []
    walk_build : {g : Bool} {ms : List (Term 𝓢)} {P : Process 𝓢} {ss : List S} {b : Build 𝓢 ℕ} {B : Build 𝓢 (Term 𝓢)}
        → BuildZip 𝓢 (Names 𝓢 ms) b B → Walk g (ms ++ (built 𝓢 B ∷ [])) P ss → Walk g ms P (build b ∷ ss)
    walk_act : {ms : List (Term 𝓢)} {P : Process 𝓢} {ss : List S} {a : Act 𝓢 ℕ} {d : Step 𝓢}
        → ActZip 𝓢 (Names 𝓢 ms) a d → Walk false (ms ++ map leaf (binders 𝓢 d)) P ss → Walk false ms (d ∷ P) (act a ∷ ss)
    walk_left : {ms : List (Term 𝓢)} {P : Process 𝓢} {ss : List S} {p x y : ℕ} {M : Term 𝓢}
        → Names 𝓢 ms p M → Walk true (ms ++ (leaf x ∷ [])) (split M x y ∷ P) ss → Walk false ms (split M x y ∷ P) (half left p x ∷ ss)
    walk_right : {ms : List (Term 𝓢)} {P : Process 𝓢} {ss : List S} {p x y : ℕ} {M : Term 𝓢}
        → Names 𝓢 ms p M → Walk false (ms ++ (leaf y ∷ [])) P ss → Walk true ms (split M x y ∷ P) (half right p y ∷ ss)

  abbrev TD : Type 0
  TD = List (ℕ × Due 𝓢 (Term 𝓢))

  -- what is due while the process stands before P, or within the split that begins P
  data Owed (v : Splitting) : Bool → Process 𝓢 → TD → Type 0 where
    owed_none : Owed v false [] []
    owed_act : {n : ℕ} {d : Step 𝓢} {P : Process 𝓢} {ws : TD} → Owed v false P ws → Owed v false (d ∷ P) ((n, whole d) ∷ ws)
    owed_left : {n : ℕ} {M : Term 𝓢} {x y : ℕ} {P : Process 𝓢} {ws : TD} → Owed v true (split M x y ∷ P) ws → Owed v false (split M x y ∷ P) ((n, part left M x) ∷ ws)
    owed_right : {n : ℕ} {M : Term 𝓢} {x y : ℕ} {P : Process 𝓢} {ws : TD} → Owed v false P ws → Owed v true (split M x y ∷ P) ((n, part right M y) ∷ ws)

  owed : (v : Splitting) (n : ℕ) (P : Process 𝓢) → Owed v false P (dues 𝓢 v n P)
  unfolding dues dues_of
  owed v n [] = owed_none
  owed v n (send M N ∷ P) = owed_act (owed v (suc n) P)
  owed v n (receive M x ∷ P) = owed_act (owed v (suc n) P)
  owed v n (fresh x ∷ P) = owed_act (owed v (suc n) P)
  owed v n (compare M N ∷ P) = owed_act (owed v (suc n) P)
  owed halves n (split M x y ∷ P) = owed_left (owed_right (owed halves (suc n) P))
  owed merged n (split M x y ∷ P) = owed_act (owed merged (suc n) P)
  owed v n (decrypt s M K x ∷ P) = owed_act (owed v (suc n) P)

  walk_due : {v : Splitting} {g : Bool} {ms : List (Term 𝓢)} {n : ℕ} {w : Due 𝓢 (Term 𝓢)} {P : Process 𝓢} {ws : TD} {s : S} {ss : List S} → Owed v g P ((n, w) ∷ ws) → Says 𝓢 ms s w
      → ((g : Bool) (Q : Process 𝓢) → Owed v g Q ws → Walk g (ms ++ map leaf (binds 𝓢 w)) Q ss) → Walk g ms P (s ∷ ss)
  unfolding binds
  walk_due {ms = ms} (owed_act {d = d} {P = P} o) (says_act {a = a} e) f = walk_act (acts_named 𝓢 ms a d e) (f false P o)
  walk_due (owed_left {M = M} {x = x} {y = y} {P = P} o) (says_half e) f = walk_left (record { means = e }) (f true (split M x y ∷ P) o)
  walk_due (owed_right {P = P} o) (says_half e) f = walk_right (record { means = e }) (f false P o)

  walks : {es : List (Entry 𝓢 ℕ)} {v : Splitting} {ms ns : List (Term 𝓢)} {ws vs : TD} {ss : List S} → Follows 𝓢 es ms ws ss ns vs → vs ≡ []
      → (g : Bool) (P : Process 𝓢) → Owed v g P ws → Walk g ms P ss
  walks no_more q g [] owed_none = walk_end
  walks no_more q g (d ∷ P) o = absurd (no_dues o q)
    where
      no_dues : {v : Splitting} {g : Bool} {d : Step 𝓢} {P : Process 𝓢} {ws : TD} → Owed v g (d ∷ P) ws → ws ≡ [] → ⊥
      no_dues (owed_act o) q = let w : ◌≡◌ {A = ℕ} 0 1 = cc in omega arith
      no_dues (owed_left o) q = let w : ◌≡◌ {A = ℕ} 0 1 = cc in omega arith
      no_dues (owed_right o) q = let w : ◌≡◌ {A = ℕ} 0 1 = cc in omega arith
  walks (permitted {ms = ms} {ss = ss} {b = b} B e m f) q g P o =
      let h : Walk g (ms ++ (built 𝓢 B ∷ [])) P ss = walks f q g P o in
      walk_build (builds_named 𝓢 ms b B e) h
  walks (next_due s f) q g P o = walk_due o s (λ g Q k. walks f q g Q k)

  pub walk : {es : List (Entry 𝓢 ℕ)} (v : Splitting) {ms ns : List (Term 𝓢)} {ss : List S} (n : ℕ) (P : Process 𝓢) → Follows 𝓢 es ms (dues 𝓢 v n P) ss ns [] → Walk false ms P ss
  walk v n P f = walks f refl false P (owed v n P)

  -- ── the runs ──

  abbrev R : Type 0
  R = Result Val (Unit {0})

  -- a list's run and a process's: the same messages, ending and supply, and the step of the list's statement
  pub record Same (ss : List S) (L P : R) : Type 0 where
    pub ending : L.ending ≡ P.ending
    pub log : L.log ≡ P.log
    pub place : P.place ≡ step_of 𝓢 ss L.place
    pub rest : L.rest ≡ P.rest

  module _ (s : S) (ss : List S) (L P : R) where
    closing : (ms : List (Logged Val)) → ((n : ℕ) → closes 𝓢 s n ≡ suc n) → Same ss L P → Same (s ∷ ss) (after ms L) (after ms P)
    unfolding step_of
    closing ms c m = record { ending = m.ending; log = ap (λ l. ms ++ l) m.log; place = ap suc m.place ∙ sym (c (step_of 𝓢 ss L.place)); rest = m.rest }

    silent : ((n : ℕ) → closes 𝓢 s n ≡ n) → Same ss L P → Same (s ∷ ss) (after [] L) P
    unfolding step_of
    silent c m = record { ending = m.ending; log = m.log; place = m.place ∙ sym (c (step_of 𝓢 ss L.place)); rest = m.rest }

  both_stop : (ss : List S) (e : Ending) (ms : List (Logged Val)) (su : List Val) → Same ss (ended e ms su tt) (ended e ms su tt)
  unfolding step_of
  both_stop [] e ms su = record { ending = refl; log = refl; place = refl; rest = refl }
  both_stop (s ∷ ss) e ms su = record { ending = refl; log = refl; place = refl; rest = refl }

  -- ── the invariant: registers that mean ms hold what their terms stand for, and those for symbols are the bindings ──

  pub record Inv (ms : List (Term 𝓢)) (rs : List (Register Val)) (τ : Bindings 𝓢) : Type 0 where
    pub symbols : held rs ≡ values_of 𝓢 τ
    pub sound : Match 𝓢 (Bound 𝓢 τ) ms rs

  inv_bind : {ms : List (Term 𝓢)} {rs : List (Register Val)} {τ : Bindings 𝓢} → Inv ms rs τ → (bs : Bindings 𝓢) (r : List ℕ) → Distinct (symbols_of 𝓢 τ ++ (symbols_of 𝓢 bs ++ r))
      → Inv (ms ++ map leaf (symbols_of 𝓢 bs)) (rs ++ symbol_registers 𝓢 bs) (τ ++ bs)
  inv_bind {rs = rs} {τ = τ} i bs r d = record {
    symbols = rw (held_append 𝓢 rs (symbol_registers 𝓢 bs), held_symbols 𝓢 bs, i.symbols) (sym (map_append (λ (b : ℕ × Val). b.1) τ bs));
    sound = match_append 𝓢 (more_match 𝓢 bs i.sound) (new_match 𝓢 τ bs r d);
  }

  inv_build : {ms : List (Term 𝓢)} {rs : List (Register Val)} {τ : Bindings 𝓢} {b : Build 𝓢 ℕ} {B : Build 𝓢 (Term 𝓢)} → Inv ms rs τ → BuildZip 𝓢 (Names 𝓢 ms) b B
      → Inv (ms ++ (built 𝓢 B ∷ [])) (rs ++ (term_register (built 𝓢 (map_build 𝓢 (holds z rs) b)) ∷ [])) τ
  unfolding held
  inv_build {rs = rs} {b = b} i m = record {
    symbols = held_append 𝓢 rs (term_register (built 𝓢 (map_build 𝓢 (holds z rs) b)) ∷ []) ∙ append-nil (held rs) ∙ i.symbols;
    sound = match_append 𝓢 i.sound (match_cons (built_stands 𝓢 z i.sound m) match_nil);
  }

  -- where the process stands while the list goes on: at the same place, or before a split whose left half the list has taken
  pub data Stage : Bool → Process 𝓢 → Bindings 𝓢 → Bindings 𝓢 → Type 0 where
    level : {P : Process 𝓢} {σ : Bindings 𝓢} → Stage false P σ σ
    mid : {P : Process 𝓢} {σ τ : Bindings 𝓢} {M : Term 𝓢} {x y : ℕ} (h : Val × Val) → pair_parts 𝓢 (tree_shape 𝓢 (eval 𝓢 σ M)) ≡ some h → eval 𝓢 τ M ≡ eval 𝓢 σ M → τ ≡ σ ++ ((x, h.0) ∷ [])
        → Stage true (split M x y ∷ P) σ τ

  module _ (ts : Tests 𝓢) where
    abbrev run_l : List S → List (Register Val) → List Val → R
    run_l ss rs su = run 𝓢 (trees 𝓢) ts ss tt rs su

    abbrev run_p : Process 𝓢 → Bindings 𝓢 → List Val → R
    run_p P σ su = run_process 𝓢 ts P σ su

    act_case : {xs : List ℕ} {o : Out Val (ℕ × Val)} (a : Act 𝓢 ℕ) (ss : List S) (kl : List (Register Val) → List Val → R) (kp : Bindings 𝓢 → List Val → R) → Binds xs o
        → ((bs : Bindings 𝓢) (su : List Val) → symbols_of 𝓢 bs ≡ xs → Same ss (kl (symbol_registers 𝓢 bs) su) (kp bs su))
        → Same (act a ∷ ss) (and_then tt (in_registers o) kl) (and_then tt o kp)
    unfolding and_then in_registers closes
    act_case a ss kl kp (binds_as {ms = ms} {bs = bs} {su = su} q) f = closing (act a) ss (kl (symbol_registers 𝓢 bs) su) (kp bs su) ms (λ n. refl) (f bs su q)
    act_case a ss kl kp (binds_not {e = e} {ms = ms} {su = su} n) f = both_stop (act a ∷ ss) e ms su

    act_step : {ms : List (Term 𝓢)} (a : Act 𝓢 ℕ) (d : Step 𝓢) (ss : List S) (rs : List (Register Val)) (P : Process 𝓢) (σ : Bindings 𝓢) (su : List Val) → Inv ms rs σ → ActZip 𝓢 (Names 𝓢 ms) a d
        → ((bs : Bindings 𝓢) (su' : List Val) → symbols_of 𝓢 bs ≡ binders 𝓢 d → Same ss (run_l ss (rs ++ symbol_registers 𝓢 bs) su') (run_p P (σ ++ bs) su'))
        → Same (act a ∷ ss) (run_l (act a ∷ ss) rs su) (run_p (d ∷ P) σ su)
    unfolding run execute run_process
    act_step a d ss rs P σ su i m f =
        rw (acts_eval 𝓢 z i.sound m, i.symbols)
        (act_case a ss (λ new su'. run_l ss (rs ++ new) su') (λ bs su'. run_p P (σ ++ bs) su')
        (subst (λ xs. Binds xs (perform 𝓢 (tree 𝓢) ts (values_of 𝓢 σ) su (map_act 𝓢 (eval 𝓢 σ) d))) (binders_map 𝓢 (eval 𝓢 σ) d) (perform_binds 𝓢 (tree 𝓢) ts (values_of 𝓢 σ) su (map_act 𝓢 (eval 𝓢 σ) d))) f)

    build_step : (b : Build 𝓢 ℕ) (ss : List S) (rs : List (Register Val)) (P : Process 𝓢) (σ : Bindings 𝓢) (su : List Val)
        → Same ss (run_l ss (rs ++ (term_register (built 𝓢 (map_build 𝓢 (holds z rs) b)) ∷ [])) su) (run_p P σ su)
        → Same (build b ∷ ss) (run_l (build b ∷ ss) rs su) (run_p P σ su)
    unfolding run execute and_then closes
    build_step b ss rs P σ su h = silent (build b) ss _ _ (λ n. refl) h

    left_case : (p x y : ℕ) (ss : List S) (su : List Val) (kl : List (Register Val) → List Val → R) (kp : Bindings 𝓢 → List Val → R) (o : Option (Val × Val))
        → ((h : Val × Val) → o ≡ some h → Same ss (kl (symbol_register h.0 ∷ []) su) (and_then tt (splitting 𝓢 x y su o) kp))
        → Same (half left p x ∷ ss) (and_then tt (half_of left su o) kl) (and_then tt (splitting 𝓢 x y su o) kp)
    unfolding and_then half_of side_of splitting closes
    left_case p x y ss su kl kp none f = both_stop (half left p x ∷ ss) no_pair [] su
    left_case p x y ss su kl kp (some h) f = silent (half left p x) ss _ _ (λ n. refl) (f h refl)

    left_step : {ms : List (Term 𝓢)} (p x y : ℕ) (M : Term 𝓢) (ss : List S) (rs : List (Register Val)) (P : Process 𝓢) (σ : Bindings 𝓢) (su : List Val) → Inv ms rs σ → Names 𝓢 ms p M
        → ((h : Val × Val) → pair_parts 𝓢 (tree_shape 𝓢 (eval 𝓢 σ M)) ≡ some h → Same ss (run_l ss (rs ++ (symbol_register h.0 ∷ [])) su) (run_p (split M x y ∷ P) σ su))
        → Same (half left p x ∷ ss) (run_l (half left p x ∷ ss) rs su) (run_p (split M x y ∷ P) σ su)
    unfolding run execute run_process perform map_act
    left_step p x y M ss rs P σ su i m f =
        rw (named_eval 𝓢 z i.sound m)
        (left_case p x y ss su (λ new su'. run_l ss (rs ++ new) su') (λ bs su'. run_p P (σ ++ bs) su') (pair_parts 𝓢 (tree_shape 𝓢 (eval 𝓢 σ M))) f)

    right_step : {ms : List (Term 𝓢)} (p x y : ℕ) (M : Term 𝓢) (ss : List S) (rs : List (Register Val)) (P : Process 𝓢) (σ τ : Bindings 𝓢) (su : List Val) (h : Val × Val) → Inv ms rs τ → Names 𝓢 ms p M
        → pair_parts 𝓢 (tree_shape 𝓢 (eval 𝓢 σ M)) ≡ some h → eval 𝓢 τ M ≡ eval 𝓢 σ M
        → Same ss (run_l ss (rs ++ (symbol_register h.1 ∷ [])) su) (run_p P (σ ++ ((x, h.0) ∷ (y, h.1) ∷ [])) su)
        → Same (half right p y ∷ ss) (run_l (half right p y ∷ ss) rs su) (run_p (split M x y ∷ P) σ su)
    unfolding run execute run_process and_then perform map_act half_of splitting side_of closes
    right_step p x y M ss rs P σ τ su h i m q v r = rw (named_eval 𝓢 z i.sound m, v, q) (closing (half right p y) ss _ _ [] (λ n. refl) r)

    end_step : (rs : List (Register Val)) (σ : Bindings 𝓢) (su : List Val) → Same [] (run_l [] rs su) (run_p [] σ su)
    unfolding run run_process
    end_step rs σ su = both_stop [] finished [] su

    -- ── symbols bound once ──

    abbrev Once : Bindings 𝓢 → Process 𝓢 → Type 0
    Once σ P = Distinct (symbols_of 𝓢 σ ++ bound 𝓢 P)

    once_next : (σ bs : Bindings 𝓢) (d : Step 𝓢) (P : Process 𝓢) → symbols_of 𝓢 bs ≡ binders 𝓢 d → Once σ (d ∷ P) → Once (σ ++ bs) P
    unfolding bound
    once_next σ bs d P q o = rw (map_append (λ (b : ℕ × Val). b.0) σ bs, append_assoc, q) o

    once_here : (σ bs : Bindings 𝓢) (d : Step 𝓢) (P : Process 𝓢) → symbols_of 𝓢 bs ≡ binders 𝓢 d → Once σ (d ∷ P) → Distinct (symbols_of 𝓢 σ ++ (symbols_of 𝓢 bs ++ bound 𝓢 P))
    unfolding bound
    once_here σ bs d P q o = rw q o

    split_once : (σ : Bindings 𝓢) (M : Term 𝓢) (x y : ℕ) (P : Process 𝓢) → Once σ (split M x y ∷ P) → Distinct (symbols_of 𝓢 σ ++ (x ∷ y ∷ bound 𝓢 P))
    unfolding bound binders
    split_once σ M x y P o = o

    inv_act : {ms : List (Term 𝓢)} {rs : List (Register Val)} {τ : Bindings 𝓢} → Inv ms rs τ → (bs : Bindings 𝓢) (d : Step 𝓢) (P : Process 𝓢) → symbols_of 𝓢 bs ≡ binders 𝓢 d → Once τ (d ∷ P)
        → Inv (ms ++ map leaf (binders 𝓢 d)) (rs ++ symbol_registers 𝓢 bs) (τ ++ bs)
    inv_act {τ = τ} i bs d P q o = rw (← q) (inv_bind i bs (bound 𝓢 P) (once_here τ bs d P q o))

    right_inv : {ms : List (Term 𝓢)} {rs : List (Register Val)} {τ : Bindings 𝓢} (σ : Bindings 𝓢) (x y : ℕ) (M : Term 𝓢) (P : Process 𝓢) (h : Val × Val) → Inv ms rs τ → τ ≡ σ ++ ((x, h.0) ∷ []) → Once σ (split M x y ∷ P)
        → Inv (ms ++ (leaf y ∷ [])) (rs ++ (symbol_register h.1 ∷ [])) (σ ++ ((x, h.0) ∷ (y, h.1) ∷ []))
    right_inv {ms} {rs} {τ} σ x y M P h i t o =
        let d : Distinct (symbols_of 𝓢 τ ++ (y ∷ bound 𝓢 P)) = rw (t, map_append (λ (b : ℕ × Val). b.0) σ ((x, h.0) ∷ []), append_assoc) (split_once σ M x y P o) in
        rw (t, append_assoc) at (inv_bind i ((y, h.1) ∷ []) (bound 𝓢 P) d)

    right_once : (σ : Bindings 𝓢) (M : Term 𝓢) (P : Process 𝓢) (x y : ℕ) (h : Val × Val) → Once σ (split M x y ∷ P) → Once (σ ++ ((x, h.0) ∷ (y, h.1) ∷ [])) P
    unfolding binders
    right_once σ M P x y h o = once_next σ ((x, h.0) ∷ (y, h.1) ∷ []) (split M x y) P refl o

    eval_more : {M : Term 𝓢} {v : Val} (σ τ : Bindings 𝓢) → Stands 𝓢 (Bound 𝓢 σ) M v → eval 𝓢 (σ ++ τ) M ≡ eval 𝓢 σ M
    eval_more σ τ s = eval_stands 𝓢 (stands_map 𝓢 (λ x v. bound_more 𝓢 τ) s) ∙ sym (eval_stands 𝓢 s)

    pub simulates : {g : Bool} {ms : List (Term 𝓢)} {P : Process 𝓢} {ss : List S} → Walk g ms P ss → (rs : List (Register Val)) (σ τ : Bindings 𝓢) (su : List Val)
        → Inv ms rs τ → Stage g P σ τ → Once σ P → Same ss (run_l ss rs su) (run_p P σ su)
    simulates walk_end rs σ τ su i st o = end_step rs σ su
    simulates (walk_build {P = P} {ss = ss} {b = b} m f) rs σ τ su i st o = build_step b ss rs P σ su (simulates f _ σ τ su (inv_build i m) st o)
    simulates (walk_act {P = P} {ss = ss} {a = a} {d = d} m f) rs σ τ su i level o =
        act_step a d ss rs P σ su i m
        (λ bs su' q. simulates f (rs ++ symbol_registers 𝓢 bs) (σ ++ bs) (σ ++ bs) su' (inv_act i bs d P q o) level (once_next σ bs d P q o))
    simulates (walk_left {P = P} {ss = ss} {p = p} {x = x} {y = y} {M = M} m f) rs σ τ su i level o =
        left_step p x y M ss rs P σ su i m
        (λ h q. simulates f (rs ++ (symbol_register h.0 ∷ [])) σ (σ ++ ((x, h.0) ∷ [])) su
        (inv_bind i ((x, h.0) ∷ []) (y ∷ bound 𝓢 P) (split_once σ M x y P o))
        (mid h q (eval_more σ ((x, h.0) ∷ []) (named_stands 𝓢 z i.sound m)) refl) o)
    simulates (walk_right {P = P} {ss = ss} {p = p} {x = x} {y = y} {M = M} m f) rs σ τ su i (mid h q v t) o =
        right_step p x y M ss rs P σ τ su h i m q v
        (simulates f (rs ++ (symbol_register h.1 ∷ [])) (σ ++ ((x, h.0) ∷ (y, h.1) ∷ [])) _ su (right_inv σ x y M P h i t o) level (right_once σ M P x y h o))
