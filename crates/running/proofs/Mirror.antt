-- The run of a list over a value table mirrors its run over trees, and keeps the table sound and the log short. Assumes nothing.
use mathlib.Core.Path.{◌≡◌, refl, sym, ap, ◌∙◌}
use mathlib.Core.Bool.{Bool}
use mathlib.Core.Option
use mathlib.Core.Option.{Option, none, some}
use mathlib.Core.List.{List, [], ◌∷◌, ◌++◌, map}
use Prim.Native.Nat.{ℕ, suc, ◌+◌, ◌<◌, ◌≤◌}
use native.Mathlib.Omega.{arith}
use lib.ListN.{length, length-append, length-map}
use Rattle.calculus.specs.Signature.{Signature}
use Rattle.calculus.specs.Terms.{Atom, Term, Value, leaf, Build, map_build, built, Act, map_act, operands, binders, Step, Process, Side, left, right, Statement, act, half, build}
use Rattle.calculus.specs.Tables.{Entry, kind_entry, Lower, low_one, low_two}
use Rattle.calculus.specs.Scope.{All, all_nil, all_cons}
use Rattle.calculus.proofs.Lists.{map_append, all_append}
use Rattle.calculus.proofs.TableLaws.{binders_map}
use Rattle.rendering.proofs.ActLaws.{ActZip, BuildZip, zip_one, zip_two}
use Rattle.running.specs.Values.{pair_parts, tree, index}
use Rattle.running.specs.Acts.{Both, Ending, finished, Logged, on_logged, Out, goes, stops, Tests, perform, Result, ended, and_then}
use Rattle.running.specs.Lists.{Register, symbol_register, term_register, held, holds, side_of, half_of, in_registers, execute, run, made, table, trees}
use Rattle.running.specs.Demand3.{value_of, builds, speaks, messages}
use Rattle.running.proofs.Registers.{Names}
use Rattle.running.proofs.Binding.{Binds, binds, perform_binds}
use Rattle.running.proofs.Simulation.{Walk, walk_end, walk_build, walk_act, walk_left, walk_right}
use Rattle.running.proofs.Seen.{on_pair, on_out, OutOk, shape_ok, parts_ok, split_seen, perform_seen, perform_ok}
use Rattle.running.proofs.Made.{Sound, Grows, grows_refl, grows_trans, IsMade, is_made}
use Rattle.running.proofs.Under.{named_given, act_given, zip_binders, held_map, holds_map, act_map, symbols_map, held_ok, holds_ok, act_ok, symbols_ok, values_keep, log_keep, registers_keep, still_in, registers_in, log_in, perform_says, speaks_map, on_register, says_of}

module _ (𝓢 : Signature) where
  abbrev Val : Type 0
  Val = Value 𝓢

  abbrev E : Type 0
  E = Entry 𝓢 Atom

  abbrev D : List E → ℕ → Val
  D es = value_of 𝓢 es

  -- ── a run over a table, from es, and one over trees ──

  abbrev RI : Type 0
  RI = Result ℕ (List E)

  abbrev RT : Type 0
  RT = Result Val (Unit {0})

  pub record Mirrors (es : List E) (ss : List (Statement 𝓢)) (I : RI) (R : RT) : Type 0 where
    pub ending : I.ending ≡ R.ending
    pub place : I.place ≡ R.place
    pub rest : map (D I.store) I.rest ≡ R.rest
    pub log : map (on_logged (D I.store)) I.log ≡ R.log
    pub grows : Grows 𝓢 es I.store
    pub sound : Sound 𝓢 I.store
    pub size : length I.store ≤ length es + builds 𝓢 ss
    pub short : length I.log ≤ messages 𝓢 ss
    pub inside : All (Both (λ i. i < length I.store)) I.log

  module _ (es : List E) (sd : Sound 𝓢 es) where
    abbrev Ok : ℕ → Type 0
    Ok i = i < length es

    stopped : (ss : List (Statement 𝓢)) (e : Ending) (ms : List (Logged ℕ)) (su : List ℕ) → length ms ≤ messages 𝓢 ss → All (Both Ok) ms
        → Mirrors es ss (ended e ms su es) (ended e (map (on_logged (D es)) ms) (map (D es) su) tt)
    stopped ss e ms su h k = record { ending = refl; place = refl; rest = refl; log = refl; grows = grows_refl 𝓢 es; sound = sd; size = omega arith; short = h; inside = k }

    -- an act, then the rest
    go_on : (a : Act 𝓢 ℕ) (ss : List (Statement 𝓢)) {xs : List ℕ} (kI : List (Register ℕ) → List ℕ → RI) (kR : List (Register Val) → List Val → RT) (o : Out ℕ (ℕ × ℕ)) → Binds xs o → OutOk 𝓢 Ok o
        → says_of 𝓢 o + messages 𝓢 ss ≤ speaks 𝓢 a (messages 𝓢 ss)
        → ((bs : List (ℕ × ℕ)) (su : List ℕ) → length bs ≡ length xs → All (λ b. Ok b.1) bs → All Ok su
        → Mirrors es ss (kI (map (λ b. symbol_register b.1) bs) su) (kR (map (on_register 𝓢 (D es)) (map (λ b. symbol_register b.1) bs)) (map (D es) su)))
        → Mirrors es (act a ∷ ss) (and_then es (in_registers o) kI) (and_then tt (in_registers (on_out 𝓢 (D es) o)) kR)
    unfolding and_then in_registers OutOk says_of messages builds
    go_on a ss {xs} kI kR (goes ms bs su) (binds q) ok says f =
        let r = f bs su (sym (length-map bs (λ (b : ℕ × ℕ). b.0)) ∙ ap length q) ok.1 ok.2 in
        let I = kI (map (λ b. symbol_register b.1) bs) su in
        rw (symbols_map 𝓢 (D es) 0 (D es 0) bs)
        (record {
          ending = r.ending;
          place = ap suc r.place;
          rest = r.rest;
          log = map_append (on_logged (D I.store)) ms I.log ∙ rw (log_keep 𝓢 r.grows ok.0, r.log);
          grows = r.grows;
          sound = r.sound;
          size = r.size;
          short = rw (length-append ms I.log) (let h = r.short in omega arith);
          inside = all_append (log_in 𝓢 r.grows ok.0) r.inside;
        })
    go_on a ss kI kR (stops e ms su) q ok says f = stopped (act a ∷ ss) e ms su (omega arith) ok.0

    go_half : (d : Side) (p x : ℕ) (ss : List (Statement 𝓢)) (kI : List (Register ℕ) → List ℕ → RI) (kR : List (Register Val) → List Val → RT) {su : List ℕ} → All Ok su → (o : Option (ℕ × ℕ))
        → ((h : ℕ × ℕ) → o ≡ some h → Ok h.0 × Ok h.1)
        → ((i : ℕ) → Ok i → Mirrors es ss (kI (symbol_register i ∷ []) su) (kR (symbol_register (D es i) ∷ []) (map (D es) su)))
        → Mirrors es (half d p x ∷ ss) (and_then es (half_of d su o) kI) (and_then tt (half_of d (map (D es) su) (Option.map (on_pair 𝓢 (D es)) o)) kR)
    unfolding and_then half_of side_of messages builds
    go_half d p x ss kI kR {su} s none g f = stopped (half d p x ∷ ss) _ [] su (omega arith) all_nil
    go_half left p x ss kI kR s (some h) g f =
        let r = f h.0 (g h refl).0 in
        record { ending = r.ending; place = ap suc r.place; rest = r.rest; log = r.log; grows = r.grows; sound = r.sound; size = r.size; short = r.short; inside = r.inside }
    go_half right p x ss kI kR s (some h) g f =
        let r = f h.1 (g h refl).1 in
        record { ending = r.ending; place = ap suc r.place; rest = r.rest; log = r.log; grows = r.grows; sound = r.sound; size = r.size; short = r.short; inside = r.inside }

  -- ── builds ──

  module _ (es : List E) (rs : List (Register ℕ)) where
    build_value : {b : Build 𝓢 ℕ} {B : Build 𝓢 (Term 𝓢)} {ms : List (Term 𝓢)} → length rs ≡ length ms → BuildZip 𝓢 (Names 𝓢 ms) b B
        → built 𝓢 (map_build 𝓢 (D es) (map_build 𝓢 (holds 0 rs) b)) ≡ built 𝓢 (map_build 𝓢 (holds (tree 𝓢).blank (map (on_register 𝓢 (D es)) rs)) b)
    unfolding map_build built
    build_value q (zip_one {a = p} m) = let h = named_given 𝓢 m in rw (holds_map 𝓢 (D es) 0 (tree 𝓢).blank rs p (omega arith))
    build_value q (zip_two {a = p} {b = r} m n) =
        let h = named_given 𝓢 m in
        let k = named_given 𝓢 n in
        rw (holds_map 𝓢 (D es) 0 (tree 𝓢).blank rs p (omega arith), holds_map 𝓢 (D es) 0 (tree 𝓢).blank rs r (omega arith))

    build_low : All (λ r. r.value < length es) rs → {b : Build 𝓢 ℕ} {B : Build 𝓢 (Term 𝓢)} {ms : List (Term 𝓢)} → length rs ≡ length ms → BuildZip 𝓢 (Names 𝓢 ms) b B
        → Lower 𝓢 {L = Atom} (length es) (kind_entry (map_build 𝓢 (holds 0 rs) b))
    unfolding map_build
    build_low s q (zip_one {a = p} m) = let h = named_given 𝓢 m in low_one (holds_ok 𝓢 (λ i. i < length es) 0 s p (omega arith))
    build_low s q (zip_two {a = p} {b = r} m n) =
        let h = named_given 𝓢 m in
        let k = named_given 𝓢 n in
        low_two (holds_ok 𝓢 (λ i. i < length es) 0 s p (omega arith)) (holds_ok 𝓢 (λ i. i < length es) 0 s r (omega arith))

  module _ (ts : Tests 𝓢) where
    abbrev run_i : List (Statement 𝓢) → List E → List (Register ℕ) → List ℕ → RI
    run_i ss es rs su = run 𝓢 (table 𝓢) ts ss es rs su

    abbrev run_t : List (Statement 𝓢) → List (Register Val) → List Val → RT
    run_t ss rs su = run 𝓢 (trees 𝓢) ts ss tt rs su

    build_case : (es : List E) (rs : List (Register ℕ)) (su : List ℕ) (ss : List (Statement 𝓢)) (b : Build 𝓢 ℕ) {B : Build 𝓢 (Term 𝓢)} {ms : List (Term 𝓢)} (m : ℕ × List E)
        → IsMade 𝓢 es (map_build 𝓢 (holds 0 rs) b) m → length rs ≡ length ms → BuildZip 𝓢 (Names 𝓢 ms) b B → All (λ r. r.value < length es) rs → All (λ i. i < length es) su
        → Mirrors m.1 ss (run_i ss m.1 (rs ++ (term_register m.0 ∷ [])) su) (run_t ss (map (on_register 𝓢 (D m.1)) (rs ++ (term_register m.0 ∷ []))) (map (D m.1) su))
        → Mirrors es (build b ∷ ss) (and_then m.1 (goes [] (term_register m.0 ∷ []) su) (λ new su'. run_i ss m.1 (rs ++ new) su')) (run_t (build b ∷ ss) (map (on_register 𝓢 (D es)) rs) (map (D es) su))
    unfolding run execute and_then messages builds
    build_case es rs su ss b m i q n s t h =
        let rs' = map (on_register 𝓢 (D es)) rs in
        let e : map (on_register 𝓢 (D m.1)) (rs ++ (term_register m.0 ∷ [])) ≡ rs' ++ (term_register (built 𝓢 (map_build 𝓢 (holds (tree 𝓢).blank rs') b)) ∷ []) =
        map_append (on_register 𝓢 (D m.1)) rs (term_register m.0 ∷ []) ∙ rw (registers_keep 𝓢 i.grows s, i.stands, build_value es rs q n) in
        let r = rw (e, values_keep 𝓢 i.grows t) at h in
        record {
          ending = r.ending;
          place = ap suc r.place;
          rest = r.rest;
          log = r.log;
          grows = grows_trans 𝓢 i.grows r.grows;
          sound = r.sound;
          size = let k = r.size in let l = i.longer in omega arith;
          short = r.short;
          inside = r.inside;
        }

    half_case : (es : List E) (sd : Sound 𝓢 es) (d : Side) (p x : ℕ) (ss : List (Statement 𝓢)) (rs : List (Register ℕ)) (su : List ℕ) → p < length rs → All (λ r. r.value < length es) rs → All (λ i. i < length es) su
        → ((i : ℕ) → i < length es → Mirrors es ss (run_i ss es (rs ++ (symbol_register i ∷ [])) su) (run_t ss (map (on_register 𝓢 (D es)) (rs ++ (symbol_register i ∷ []))) (map (D es) su)))
        → Mirrors es (half d p x ∷ ss) (run_i (half d p x ∷ ss) es rs su) (run_t (half d p x ∷ ss) (map (on_register 𝓢 (D es)) rs) (map (D es) su))
    unfolding run execute
    half_case es sd d p x ss rs su l s t f =
        let i = holds 0 rs p in
        let h : i < length es = holds_ok 𝓢 (λ i. i < length es) 0 s p l in
        rw (holds_map 𝓢 (D es) 0 (tree 𝓢).blank rs p l, split_seen 𝓢 es sd.low sd.once i)
        (go_half es sd d p x ss (λ new su'. run_i ss es (rs ++ new) su') (λ new su'. run_t ss (map (on_register 𝓢 (D es)) rs ++ new) su') t (pair_parts 𝓢 ((index 𝓢 es).shape i))
        (parts_ok 𝓢 es sd.low sd.once ((index 𝓢 es).shape i) (shape_ok 𝓢 es sd.low sd.once i h))
        (λ j k. rw (map_append (on_register 𝓢 (D es)) rs (symbol_register j ∷ [])) at (f j k)))

    end_step : (es : List E) (rs : List (Register ℕ)) (su : List ℕ) → Sound 𝓢 es → Mirrors es [] (run_i [] es rs su) (run_t [] (map (on_register 𝓢 (D es)) rs) (map (D es) su))
    unfolding run
    end_step es rs su sd = stopped es sd [] finished [] su (omega arith) all_nil

    build_step : {ms : List (Term 𝓢)} (b : Build 𝓢 ℕ) {B : Build 𝓢 (Term 𝓢)} (ss : List (Statement 𝓢)) (es : List E) (rs : List (Register ℕ)) (su : List ℕ) → Sound 𝓢 es → length rs ≡ length ms
        → BuildZip 𝓢 (Names 𝓢 ms) b B → All (λ r. r.value < length es) rs → All (λ i. i < length es) su
        → ((fs : List E) (i : ℕ) → Sound 𝓢 fs → All (λ r. r.value < length fs) (rs ++ (term_register i ∷ [])) → All (λ i. i < length fs) su
        → Mirrors fs ss (run_i ss fs (rs ++ (term_register i ∷ [])) su) (run_t ss (map (on_register 𝓢 (D fs)) (rs ++ (term_register i ∷ []))) (map (D fs) su)))
        → Mirrors es (build b ∷ ss) (run_i (build b ∷ ss) es rs su) (run_t (build b ∷ ss) (map (on_register 𝓢 (D es)) rs) (map (D es) su))
    unfolding run execute
    build_step b ss es rs su sd q m s t f =
        let n : ℕ × List E = made 𝓢 es (map_build 𝓢 (holds 0 rs) b) in
        let i = is_made 𝓢 es sd (map_build 𝓢 (holds 0 rs) b) (build_low es rs s q m) in
        build_case es rs su ss b n i q m s t (f n.1 n.0 i.sound (all_append (registers_in 𝓢 i.grows s) (all_cons i.inside all_nil)) (still_in 𝓢 i.grows t))

    act_step : {ms : List (Term 𝓢)} (a : Act 𝓢 ℕ) {d : Step 𝓢} (ss : List (Statement 𝓢)) (es : List E) (rs : List (Register ℕ)) (su : List ℕ) → Sound 𝓢 es → length rs ≡ length ms
        → ActZip 𝓢 (Names 𝓢 ms) a d → All (λ r. r.value < length es) rs → All (λ i. i < length es) su
        → ((bs : List (ℕ × ℕ)) (su' : List ℕ) → length bs ≡ length (binders 𝓢 d) → All (λ b. b.1 < length es) bs → All (λ i. i < length es) su'
        → Mirrors es ss (run_i ss es (rs ++ map (λ b. symbol_register b.1) bs) su') (run_t ss (map (on_register 𝓢 (D es)) (rs ++ map (λ b. symbol_register b.1) bs)) (map (D es) su')))
        → Mirrors es (act a ∷ ss) (run_i (act a ∷ ss) es rs su) (run_t (act a ∷ ss) (map (on_register 𝓢 (D es)) rs) (map (D es) su))
    unfolding run execute
    act_step a {d} ss es rs su sd q m s t f =
        let g : All (λ p. p < length rs) (operands 𝓢 a) = rw q (act_given 𝓢 m) in
        let a' : Act 𝓢 ℕ = map_act 𝓢 (holds 0 rs) a in
        let o = act_ok 𝓢 (λ i. i < length es) 0 s a g in
        let e : binders 𝓢 a' ≡ binders 𝓢 d = binders_map 𝓢 (holds 0 rs) a ∙ zip_binders 𝓢 m in
        rw (held_map 𝓢 (D es) 0 (tree 𝓢).blank rs, act_map 𝓢 (D es) 0 (tree 𝓢).blank rs a g, perform_seen 𝓢 es sd.low sd.once ts (held_ok 𝓢 (λ i. i < length es) 0 s) t a' o)
        (go_on es sd a ss (λ new su'. run_i ss es (rs ++ new) su') (λ new su'. run_t ss (map (on_register 𝓢 (D es)) rs ++ new) su') (perform 𝓢 (index 𝓢 es) ts (held rs) su a')
        (perform_binds 𝓢 (index 𝓢 es) ts (held rs) su a') (perform_ok 𝓢 es sd.low sd.once ts (held rs) t a' o)
        (rw (speaks_map 𝓢 (holds 0 rs) a (messages 𝓢 ss)) at (perform_says 𝓢 (index 𝓢 es) ts (held rs) su a' (messages 𝓢 ss)))
        (λ bs su' l x y. rw (map_append (on_register 𝓢 (D es)) rs (map (λ (b : ℕ × ℕ). symbol_register b.1) bs)) at (f bs su' (l ∙ ap length e) x y)))

    one_longer : {W X : Type 0} (rs : List W) (ms : List X) (r : W) (m : X) → length rs ≡ length ms → length (rs ++ (r ∷ [])) ≡ length (ms ++ (m ∷ []))
    one_longer rs ms r m q = length-append rs (r ∷ []) ∙ ap (λ k. k + 1) q ∙ sym (length-append ms (m ∷ []))

    more_longer : (rs : List (Register ℕ)) (ms : List (Term 𝓢)) (bs : List (ℕ × ℕ)) (xs : List ℕ) → length rs ≡ length ms → length bs ≡ length xs
        → length (rs ++ map (λ b. symbol_register b.1) bs) ≡ length (ms ++ map leaf xs)
    more_longer rs ms bs xs q l =
        omega (arith, length-append rs (map (λ (b : ℕ × ℕ). symbol_register b.1) bs), length-map bs (λ (b : ℕ × ℕ). symbol_register b.1), l, length-append ms (map leaf xs), length-map {B = Term 𝓢} xs leaf, q)

    pub mirror : {g : Bool} {ms : List (Term 𝓢)} {P : Process 𝓢} {ss : List (Statement 𝓢)} → Walk 𝓢 g ms P ss → (es : List E) (rs : List (Register ℕ)) (su : List ℕ) → Sound 𝓢 es → length rs ≡ length ms
        → All (λ r. r.value < length es) rs → All (λ i. i < length es) su → Mirrors es ss (run_i ss es rs su) (run_t ss (map (on_register 𝓢 (D es)) rs) (map (D es) su))
    mirror walk_end es rs su sd q s t = end_step es rs su sd
    mirror (walk_build {ms = ms} {ss = ss} {b = b} {B = B} m f) es rs su sd q s t =
        build_step b ss es rs su sd q m s t (λ fs i sd' s' t'. mirror f fs (rs ++ (term_register i ∷ [])) su sd' (one_longer rs ms (term_register i) (built 𝓢 B) q) s' t')
    mirror (walk_act {ms = ms} {ss = ss} {a = a} {d = d} m f) es rs su sd q s t =
        act_step a ss es rs su sd q m s t
        (λ bs su' l x y. mirror f es (rs ++ map (λ (b : ℕ × ℕ). symbol_register b.1) bs) su' sd (more_longer rs ms bs (binders 𝓢 d) q l) (all_append s (symbols_ok 𝓢 (λ i. i < length es) 0 x)) y)
    mirror (walk_left {ms = ms} {ss = ss} {p = p} {x = x} m f) es rs su sd q s t =
        half_case es sd left p x ss rs su (rw q (named_given 𝓢 m)) s t
        (λ i h. mirror f es (rs ++ (symbol_register i ∷ [])) su sd (one_longer rs ms (symbol_register i) (leaf x) q) (all_append s (all_cons h all_nil)) t)
    mirror (walk_right {ms = ms} {ss = ss} {p = p} {y = x} m f) es rs su sd q s t =
        half_case es sd right p x ss rs su (rw q (named_given 𝓢 m)) s t
        (λ i h. mirror f es (rs ++ (symbol_register i ∷ [])) su sd (one_longer rs ms (symbol_register i) (leaf x) q) (all_append s (all_cons h all_nil)) t)
