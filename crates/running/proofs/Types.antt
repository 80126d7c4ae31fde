-- A term of a type has a value that visibly has it (canonical forms); so a faithful list of a typed table never meets a wrong shape.
-- Assumes the laws of the signature.
use mathlib.Core.Path.{◌≡◌, refl, sym}
use mathlib.Core.Bool.{Bool, true, false, cond, decide, ◌&&◌, false≢true}
use mathlib.Core.Option.{some}
use mathlib.Core.List.{List, [], ◌∷◌, ◌++◌, map}
use Prim.Native.Nat.{ℕ, ◌≤◌}
use native.Mathlib.Omega.{arith}
use Rattle.types.specs.Forest.{Under, u_same}
use Rattle.types.specs.Types.{Ty, Cipher, Pair, top, basic, cipher, pair}
use Rattle.types.proofs.ForestLaws.{under_trans, under_decided}
use Rattle.calculus.specs.Signature.{Signature, SignatureLaws, pairing, seal}
use Rattle.calculus.specs.Terms.{atom, leaf, one, two, Term, Value, same_value, build1, build2, map_build, built, Act, split, map_act, binders, Step, Process, Statement}
use Rattle.calculus.specs.Scope.{All, all_nil, all_cons, Lacks}
use Rattle.calculus.specs.Figure2.{◌<:◌ as Sub, ◌⊢◌∶◌ as Has, T-Var, T-Pair, T-ShKC, T-One, T-Sub}
use Rattle.calculus.proofs.Inversion.{lacks_itself, lacks_part, lacks_left, lacks_right}
use Rattle.calculus.specs.Typing.{Typed, P-Out, P-In, P-Restr, P-Match, P-PSplit, P-ShKD}
use Rattle.rendering.proofs.ActLaws.{ActZip, zip_send, zip_receive, zip_fresh, zip_compare, zip_split, zip_decrypt}
use Rattle.rendering.proofs.Base.{decided, decides, and_left, and_right, and_both}
use Rattle.running.specs.Values.{Shape, atomic, compound, basic_shape, pair_shape, cipher_shape, visible, is_fresh, is_atom, pair_parts, turns, inside, locked, unsealed, open_shape, tree_shape, tree}
use Rattle.running.specs.Acts.{Ending, finished, no_supply, not_equal, wrong_key, received_lacks, opened_lacks, not_fresh, fresh_lacks, number_of, Logged, Out, goes, stops, typed, passes, binding, splitting, opening, perform, Result, and_then}
use Rattle.running.specs.Lists.{Register, symbol_register, term_register, held, holds, side_of, half_of, in_registers, execute, run, trees}
use Rattle.running.specs.Processes.{Bindings, look, eval}
use Rattle.running.specs.Demand3.{OneSealEach, CanonicalForms}
use Rattle.running.proofs.Registers.{Stands, st_leaf, st_one, st_two, symbols_of, Match, match_nil, match_cons, match_append, Names, named_stands, built_stands, symbol_registers}
use Rattle.running.proofs.Simulation.{Walk, walk_end, walk_build, walk_act, walk_left, walk_right}

module _ (𝓢 : Signature) (laws : SignatureLaws 𝓢) where
  abbrev Val : Type 0
  Val = Value 𝓢

  abbrev T : Type 0
  T = Ty 𝓢.types

  abbrev B : Type 0
  B = 𝓢.types.forest.Base

  -- ── types and values ──

  basic_sub : {l m : B} → Under 𝓢.types.forest l m → (s : Shape 𝓢 Val) → basic_shape 𝓢 l s ≡ true → basic_shape 𝓢 m s ≡ true
  unfolding basic_shape
  basic_sub {l} {m} p (atomic (atom k n)) h =
      (under_decided 𝓢.types.forest laws.falls (𝓢.atom_type k) m).1 (under_trans 𝓢.types.forest ((under_decided 𝓢.types.forest laws.falls (𝓢.atom_type k) l).0 h) p)
  basic_sub {l} {m} p (compound (build1 k v)) h =
      (under_decided 𝓢.types.forest laws.falls (𝓢.result k) m).1 (under_trans 𝓢.types.forest ((under_decided 𝓢.types.forest laws.falls (𝓢.result k) l).0 h) p)
  basic_sub p (compound (build2 k v w)) h = h

  pair_sub : (p q p' q' : Val → Bool) (s : Shape 𝓢 Val) → ((v : Val) → p v ≡ true → p' v ≡ true) → ((v : Val) → q v ≡ true → q' v ≡ true) → pair_shape 𝓢 p q s ≡ true → pair_shape 𝓢 p' q' s ≡ true
  unfolding pair_shape
  pair_sub p q p' q' (atomic a) f g e = e
  pair_sub p q p' q' (compound (build1 k v)) f g e = e
  pair_sub p q p' q' (compound (build2 pairing v w)) f g e = and_both (f v (and_left (p v) (q w) e)) (g w (and_right (p v) (q w) e))
  pair_sub p q p' q' (compound (build2 (seal s) v w)) f g e = e

  pub visible_sub : {a b : T} → Sub 𝓢 a b → (v : Val) → visible 𝓢 (tree 𝓢) a v ≡ true → visible 𝓢 (tree 𝓢) b v ≡ true
  unfolding visible
  visible_sub top v h = refl
  visible_sub (basic p) v h = basic_sub p (tree_shape 𝓢 v) h
  visible_sub (cipher p) v h = h
  visible_sub (pair {a = a} {b = b} {c = c} {d = d} p q) v h =
      pair_sub (λ x. visible 𝓢 (tree 𝓢) a x) (λ y. visible 𝓢 (tree 𝓢) b y) (λ x. visible 𝓢 (tree 𝓢) c x) (λ y. visible 𝓢 (tree 𝓢) d y) (tree_shape 𝓢 v) (visible_sub p) (visible_sub q) h

  -- a symbol's value visibly has its type
  abbrev pub Fit : (ℕ → T) → ℕ → Val → Type 0
  Fit Γ x v = visible 𝓢 (tree 𝓢) (Γ x) v ≡ true

  -- canonical forms: then so does the value of any term
  pub visible_has : {Γ : ℕ → T} {M : Term 𝓢} {a : T} {v : Val} → Has 𝓢 Γ M a → Stands 𝓢 (Fit Γ) M v → visible 𝓢 (tree 𝓢) a v ≡ true
  unfolding visible tree_shape basic_shape pair_shape cipher_shape
  visible_has T-Var (st_leaf h) = h
  visible_has (T-Pair g h) (st_two p q) = and_both (visible_has g p) (visible_has h q)
  visible_has (T-ShKC {s = s} g h) (st_two p q) = decides (𝓢.types.same_former (𝓢.former s) (𝓢.former s)) refl
  visible_has (T-One {k = k} g) (st_one p) = (under_decided 𝓢.types.forest laws.falls (𝓢.result k) (𝓢.result k)).1 u_same
  visible_has {v = v} (T-Sub g s) p = visible_sub s v (visible_has g p)

  stands_eval : (Γ : ℕ → T) (σ : Bindings 𝓢) (M : Term 𝓢) → ((x : ℕ) → ¬ Lacks 𝓢 x M → Fit Γ x (look 𝓢 σ x)) → Stands 𝓢 (Fit Γ) M (eval 𝓢 σ M)
  unfolding eval
  stands_eval Γ σ (leaf x) f = st_leaf (f x (lacks_itself 𝓢))
  stands_eval Γ σ (one k M) f = st_one (stands_eval Γ σ M (λ x n. f x (λ l. n (lacks_part 𝓢 l))))
  stands_eval Γ σ (two k M N) f = st_two (stands_eval Γ σ M (λ x n. f x (λ l. n (lacks_left 𝓢 l)))) (stands_eval Γ σ N (λ x n. f x (λ l. n (lacks_right 𝓢 l))))

  pub canonical_forms : CanonicalForms 𝓢
  canonical_forms Γ σ M A h f = visible_has h (stands_eval Γ σ M f)

  -- a value that is visibly a pair splits, into values that visibly have the parts' types
  record Splits (a b : T) (v : Val) : Type 0 where
    parts : Val × Val
    splits : pair_parts 𝓢 (tree_shape 𝓢 v) ≡ some parts
    first : visible 𝓢 (tree 𝓢) a parts.0 ≡ true
    second : visible 𝓢 (tree 𝓢) b parts.1 ≡ true

  splits_of : (a b : T) (v : Val) → visible 𝓢 (tree 𝓢) (Pair a b) v ≡ true → Splits a b v
  unfolding visible tree_shape pair_shape pair_parts
  splits_of a b (leaf c) h = absurd (false≢true h)
  splits_of a b (one k u) h = absurd (false≢true h)
  splits_of a b (two pairing u w) h = record { parts = (u, w); splits = refl; first = and_left (visible 𝓢 (tree 𝓢) a u) (visible 𝓢 (tree 𝓢) b w) h; second = and_right (visible 𝓢 (tree 𝓢) a u) (visible 𝓢 (tree 𝓢) b w) h }
  splits_of a b (two (seal s) u w) h = absurd (false≢true h)

  -- ── an act on typed operands ──

  module _ (each : OneSealEach 𝓢) (Γ : ℕ → T) where
    abbrev pub Fitted : Bindings 𝓢 → Type 0
    Fitted bs = All (λ b. Fit Γ b.0 b.1) bs

    -- it ends with 0 to 7, or goes on with values that visibly have their types
    data Fine (xs : List ℕ) : Out Val (ℕ × Val) → Type 0 where
      fine_goes : {ms : List (Logged Val)} {bs : Bindings 𝓢} {su : List Val} → symbols_of 𝓢 bs ≡ xs → Fitted bs → Fine xs (goes ms bs su)
      fine_stops : {e : Ending} {ms : List (Logged Val)} {su : List Val} → number_of e ≤ 7 → Fine xs (stops e ms su)

    fine_test : (x : ℕ) (v : Val) (e : Ending) (ms : List (Logged Val)) (su : List Val) (t : Bool) → visible 𝓢 (tree 𝓢) (Γ x) v ≡ t → number_of e ≤ 7 → Fine (x ∷ []) (binding 𝓢 t e ms x v su)
    fine_test x v e ms su true q h = fine_goes refl (all_cons q all_nil)
    fine_test x v e ms su false q h = fine_stops h

    fine_choice : (t : Bool) {xs : List ℕ} {a b : Out Val (ℕ × Val)} → Fine xs a → Fine xs b → Fine xs (cond t a b)
    fine_choice true h k = h
    fine_choice false h k = k

    small : (e : Ending) → number_of e ≤ 7 → number_of e ≤ 7
    small e h = h

    fine_key : (x : ℕ) (su : List Val) (v : Val) (t : Bool) → Fine (x ∷ []) (opening 𝓢 (λ w. visible 𝓢 (tree 𝓢) (Γ x) w) x su (cond t (inside v) locked))
    unfolding opening number_of
    fine_key x su v true = fine_test x v opened_lacks [] su (visible 𝓢 (tree 𝓢) (Γ x) v) refl (small opened_lacks (omega arith))
    fine_key x su v false = fine_stops (small wrong_key (omega arith))

    fine_seal : (s u : 𝓢.Seal) (x : ℕ) (su : List Val) (v k key : Val) (d : Dec (s ≡ u)) → 𝓢.former u ≡ 𝓢.former s
        → Fine (x ∷ []) (opening 𝓢 (λ w. visible 𝓢 (tree 𝓢) (Γ x) w) x su (cond (decide d) (cond (turns 𝓢 (tree 𝓢) (𝓢.fit s) k key) (inside v) locked) unsealed))
    unfolding decide
    fine_seal s u x su v k key (yes e) q = fine_key x su v (turns 𝓢 (tree 𝓢) (𝓢.fit s) k key)
    fine_seal s u x su v k key (no n) q = absurd (n (sym (each u s q)))

    fine_open : (s : 𝓢.Seal) (x : ℕ) (su : List Val) (v key : Val) → visible 𝓢 (tree 𝓢) (Cipher (𝓢.former s) (Γ x)) v ≡ true
        → Fine (x ∷ []) (opening 𝓢 (λ w. visible 𝓢 (tree 𝓢) (Γ x) w) x su (open_shape 𝓢 (tree 𝓢) s key (tree_shape 𝓢 v)))
    unfolding visible tree_shape cipher_shape open_shape
    fine_open s x su (leaf a) key h = absurd (false≢true h)
    fine_open s x su (one k u) key h = absurd (false≢true h)
    fine_open s x su (two pairing u w) key h = absurd (false≢true h)
    fine_open s x su (two (seal c) u w) key h = fine_seal s c x su u w key (𝓢.same_seal s c) (decided (𝓢.types.same_former (𝓢.former c) (𝓢.former s)) h)

    abbrev z : Val
    z = (tree 𝓢).blank

    fine : {ms : List (Term 𝓢)} (rs : List (Register Val)) {a : Act 𝓢 ℕ} {d : Step 𝓢} {P : Process 𝓢} (hs su : List Val) → Match 𝓢 (Fit Γ) ms rs → ActZip 𝓢 (Names 𝓢 ms) a d → Typed 𝓢 Γ (d ∷ P)
        → Fine (binders 𝓢 d) (perform 𝓢 (tree 𝓢) (typed Γ) hs su (map_act 𝓢 (holds z rs) a))
    unfolding perform map_act splitting binders passes number_of
    fine rs hs su s (zip_send m n) t = fine_goes refl all_nil
    fine rs hs [] s (zip_receive m) t = fine_stops (small no_supply (omega arith))
    fine rs hs (v ∷ su) s (zip_receive {x = x} m) t = fine_test x v received_lacks _ su (visible 𝓢 (tree 𝓢) (Γ x) v) refl (small received_lacks (omega arith))
    fine rs hs [] s zip_fresh t = fine_stops (small no_supply (omega arith))
    fine rs hs (v ∷ su) s (zip_fresh {x = x}) t =
        fine_choice (is_atom 𝓢 (tree_shape 𝓢 v) && is_fresh 𝓢 (tree 𝓢) hs v) (fine_test x v fresh_lacks [] su (visible 𝓢 (tree 𝓢) (Γ x) v) refl (small fresh_lacks (omega arith))) (fine_stops (small not_fresh (omega arith)))
    fine rs hs su s (zip_compare {a = p} {b = q} m n) t = fine_choice (decide (same_value 𝓢 (holds z rs p) (holds z rs q))) (fine_goes refl all_nil) (fine_stops (small not_equal (omega arith)))
    fine rs hs su s (zip_split {a = p} {x = x} {y = y} m) (P-PSplit h ts) =
        let r = splits_of (Γ x) (Γ y) (holds z rs p) (visible_has h (named_stands 𝓢 z s m)) in
        rw r.splits (fine_goes refl (all_cons r.first (all_cons r.second all_nil)))
    fine rs hs su s (zip_decrypt {s = c} {a = p} {b = q} {x = x} m n) (P-ShKD h k ts) = fine_open c x su (holds z rs p) (holds z rs q) (visible_has h (named_stands 𝓢 z s m))

    pub fitted_match : {bs : Bindings 𝓢} → Fitted bs → Match 𝓢 (Fit Γ) (map leaf (symbols_of 𝓢 bs)) (symbol_registers 𝓢 bs)
    fitted_match all_nil = match_nil
    fitted_match (all_cons h hs) = match_cons (st_leaf h) (fitted_match hs)

    -- what goes on is typed: the rest decides
    act_safe : {xs : List ℕ} {o : Out Val (ℕ × Val)} (kl : List (Register Val) → List Val → Result Val (Unit {0})) → Fine xs o
        → ((bs : Bindings 𝓢) (su : List Val) → symbols_of 𝓢 bs ≡ xs → Fitted bs → number_of (kl (symbol_registers 𝓢 bs) su).ending ≤ 7) → number_of (and_then tt (in_registers o) kl).ending ≤ 7
    unfolding and_then in_registers
    act_safe kl (fine_goes {bs = bs} {su = su} q h) f = f bs su q h
    act_safe kl (fine_stops h) f = h

    typed_rest : {d : Step 𝓢} {P : Process 𝓢} → Typed 𝓢 Γ (d ∷ P) → Typed 𝓢 Γ P
    typed_rest (P-Out g h t) = t
    typed_rest (P-In g t) = t
    typed_rest (P-Restr g t) = t
    typed_rest (P-Match g h t) = t
    typed_rest (P-PSplit g t) = t
    typed_rest (P-ShKD g h t) = t

    typed_split : {M : Term 𝓢} {x y : ℕ} {P : Process 𝓢} → Typed 𝓢 Γ (split M x y ∷ P) → Has 𝓢 Γ M (Pair (Γ x) (Γ y))
    typed_split (P-PSplit g t) = g

    pub safe : {g : Bool} {ms : List (Term 𝓢)} {P : Process 𝓢} {ss : List (Statement 𝓢)} → Walk 𝓢 g ms P ss → (rs : List (Register Val)) (su : List Val)
        → Match 𝓢 (Fit Γ) ms rs → Typed 𝓢 Γ P → number_of (run 𝓢 (trees 𝓢) (typed Γ) ss tt rs su).ending ≤ 7
    unfolding run execute and_then half_of side_of number_of
    safe walk_end rs su s t = small finished (omega arith)
    safe (walk_build {b = b} m f) rs su s t = safe f (rs ++ (term_register (built 𝓢 (map_build 𝓢 (holds z rs) b)) ∷ [])) su (match_append 𝓢 s (match_cons (built_stands 𝓢 z s m) match_nil)) t
    safe (walk_act {ms = ms} {ss = ss} {a = a} {d = d} m f) rs su s t =
        act_safe (λ new su'. run 𝓢 (trees 𝓢) (typed Γ) ss tt (rs ++ new) su') (fine rs (held rs) su s m t)
        (λ bs su' q h.
        let k : Match 𝓢 (Fit Γ) (ms ++ map leaf (binders 𝓢 d)) (rs ++ symbol_registers 𝓢 bs) = rw (← q) (match_append 𝓢 s (fitted_match h)) in
        safe f (rs ++ symbol_registers 𝓢 bs) su' k (typed_rest t))
    safe (walk_left {p = p} {x = x} {y = y} {M = M} m f) rs su s t =
        let r = splits_of (Γ x) (Γ y) (holds z rs p) (visible_has (typed_split t) (named_stands 𝓢 z s m)) in
        rw r.splits (safe f (rs ++ (symbol_register r.parts.0 ∷ [])) su (match_append 𝓢 s (match_cons (st_leaf r.first) match_nil)) t)
    safe (walk_right {p = p} {x = x} {y = y} {M = M} m f) rs su s t =
        let r = splits_of (Γ x) (Γ y) (holds z rs p) (visible_has (typed_split t) (named_stands 𝓢 z s m)) in
        rw r.splits (safe f (rs ++ (symbol_register r.parts.1 ∷ [])) su (match_append 𝓢 s (match_cons (st_leaf r.second) match_nil)) (typed_rest t))
