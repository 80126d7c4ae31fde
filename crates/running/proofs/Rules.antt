-- What an untested act does is what Table 2's rules say: proofs of the statements of specs/Processes.antt. Assumes nothing.
use mathlib.Core.Path.{ap₂, ◌≡◌, refl, sym, ap, ◌∙◌}
use mathlib.Core.Bool.{Bool, true, false, cond, not, ◌&&◌, decide, false≢true}
use mathlib.Core.Option.{Option, none, some}
use mathlib.Core.List.{List, [], ◌∷◌, ◌++◌}
use Prim.Native.Nat.{ℕ, ◌≤◌, zero-le, suc-le-suc}
use native.Mathlib.Omega.{arith}
use lib.ListN.{length, drop}
use Rattle.calculus.specs.Signature.{Signature, pairing, seal, Fit, itself, twins}
use Rattle.calculus.specs.Terms.{Atom, leaf, one, two, Term, Value, same_value, send, receive, fresh, compare, split, decrypt, map_act, Step, Process}
use Rattle.calculus.specs.Scope.{all_nil, all_cons}
use Rattle.rendering.proofs.Base.{decided, decides, and_left, and_right, and_both}
use Rattle.running.proofs.Occurrence.{occurs_found, found_occurs}
use Rattle.running.specs.Values.{FreshDecided, Fresh, is_fresh, is_atom, pair_parts, part_of, same_parts, turns, inside, locked, unsealed, open_shape, tree_shape, occurs_in, tree}
use Rattle.running.specs.Acts.{Ending, not_equal, not_fresh, Logged, Out, goes, stops, untyped, passes, splitting, opening, perform, Result, and_then}
use Rattle.running.specs.Processes.{Bindings, values_of, eval, run_process, Fitting, fits_itself, fits_twins, Moves, moves_out, moves_in, moves_new, moves_match, moves_split, moves_open, StuckBy, stuck_in, stuck_new, stuck_fresh, stuck_match, stuck_split, stuck_key, stuck_seal, Reaches, stays, moves, Ends, ends_finished, ends_stuck, StuckCannotMove, ProcessByRules, RulesGiveOneAnswer}

module _ (𝓢 : Signature) where
  abbrev Val : Type 0
  Val = Value 𝓢

  -- ── tests of values ──

  pub fresh_all : (held : List Val) (v : Val) → is_fresh 𝓢 (tree 𝓢) held v ≡ true → Fresh 𝓢 held v
  unfolding is_fresh
  fresh_all [] v h = all_nil
  fresh_all (w ∷ held) v h = all_cons (λ o. false≢true (sym (ap not (occurs_found 𝓢 o)) ∙ and_left (not (occurs_in 𝓢 v w)) _ h)) (fresh_all held v (and_right (not (occurs_in 𝓢 v w)) _ h))

  pub all_fresh : (v : Val) {held : List Val} → Fresh 𝓢 held v → is_fresh 𝓢 (tree 𝓢) held v ≡ true
  unfolding is_fresh
  all_fresh v all_nil = refl
  all_fresh v (all_cons {x = w} n ns) = and_both (go (occurs_in 𝓢 v w) refl) (all_fresh v ns)
    where
      go : (b : Bool) → occurs_in 𝓢 v w ≡ b → not b ≡ true
      go true e = absurd (n (found_occurs 𝓢 v w e))
      go false e = refl

  part_of_lem : (c : 𝓢.One) (v w : Val) → part_of 𝓢 c (tree_shape 𝓢 v) ≡ some w → v ≡ one c w
  unfolding part_of tree_shape decide
  part_of_lem c (leaf a) w h = cc
  part_of_lem c (one k x) w h = go (𝓢.same_one c k) h
    where
      go : (d : Dec (c ≡ k)) → cond (decide d) (some x) none ≡ some w → one k x ≡ one c w
      go (yes e) q = cc
      go (no n) q = cc
  part_of_lem c (two k x y) w h = cc

  part_is : (c : 𝓢.One) (v : Val) → part_of 𝓢 c (tree_shape 𝓢 (one c v)) ≡ some v
  unfolding part_of tree_shape
  part_is c v = rw (decides (𝓢.same_one c c) refl)

  same_parts_lem : (o p : Option Val) → same_parts 𝓢 (tree 𝓢) o p ≡ true → (v : Val) × (o ≡ some v) × (p ≡ some v)
  unfolding same_parts
  same_parts_lem none p h = absurd (false≢true h)
  same_parts_lem (some v) none h = absurd (false≢true h)
  same_parts_lem (some v) (some w) h = (v, refl, ap some (sym (decided (same_value 𝓢 v w) h)))

  twins_fit : (c d : 𝓢.One) (v k key : Val) → k ≡ one c v → key ≡ one d v → Fitting 𝓢 (twins c d) k key
  twins_fit c d v k key p q = rw (p, q) fits_twins

  pub fitting_of : (f : Fit 𝓢.One) (k key : Val) → turns 𝓢 (tree 𝓢) f k key ≡ true → Fitting 𝓢 f k key
  unfolding turns
  fitting_of itself k key h = rw (decided (same_value 𝓢 k key) h) fits_itself
  fitting_of (twins c d) k key h =
      let r = same_parts_lem (part_of 𝓢 c (tree_shape 𝓢 k)) (part_of 𝓢 d (tree_shape 𝓢 key)) h in
      twins_fit c d r.0 k key (part_of_lem c k r.0 r.1) (part_of_lem d key r.0 r.2)

  pub of_fitting : {f : Fit 𝓢.One} {k key : Val} → Fitting 𝓢 f k key → turns 𝓢 (tree 𝓢) f k key ≡ true
  unfolding turns same_parts
  of_fitting (fits_itself {k = k}) = decides (same_value 𝓢 k k) refl
  of_fitting (fits_twins {c = c} {d = d} {v = v}) = rw (part_is c v, part_is d v) (decides (same_value 𝓢 v v) refl)

  -- ── each act ──

  -- an outcome is right: it is a move, or the step is stuck for that cause and nothing is said
  pub data Right (σ : Bindings 𝓢) (d : Step 𝓢) (su : List Val) : Out Val (ℕ × Val) → Type 0 where
    right_moves : {ms : List (Logged Val)} {bs : Bindings 𝓢} {sv : List Val} → Moves 𝓢 σ d su ms bs sv → Right σ d su (goes ms bs sv)
    right_stuck : {e : Ending} {sv : List Val} → StuckBy 𝓢 σ e d su sv → Right σ d su (stops e [] sv)

  module _ (σ : Bindings 𝓢) where
    compare_right : (M N : Term 𝓢) (su : List Val) (d : Dec (eval 𝓢 σ M ≡ eval 𝓢 σ N)) → Right σ (compare M N) su (cond (decide d) (goes [] [] su) (stops not_equal [] su))
    unfolding decide
    compare_right M N su (yes e) = right_moves (moves_match e)
    compare_right M N su (no n) = right_stuck (stuck_match n)

    fresh_right : (x : ℕ) (v : Val) (su : List Val) (t : Bool) → is_fresh 𝓢 (tree 𝓢) (values_of 𝓢 σ) v ≡ t
        → Right σ (fresh x) (v ∷ su) (cond (is_atom 𝓢 (tree_shape 𝓢 v) && t) (goes [] ((x, v) ∷ []) su) (stops not_fresh [] su))
    unfolding is_atom tree_shape
    fresh_right x (leaf a) su true q = right_moves (moves_new (fresh_all (values_of 𝓢 σ) (leaf a) q))
    fresh_right x (leaf a) su false q = right_stuck (stuck_fresh (λ b e f. false≢true (sym q ∙ all_fresh (leaf a) f)))
    fresh_right x (one k v) su t q = right_stuck (stuck_fresh (λ (b : Atom) (e : one k v ≡ leaf b) f. let w : ◌≡◌ {A = ℕ} 0 1 = cc in omega arith))
    fresh_right x (two k v w) su t q = right_stuck (stuck_fresh (λ (b : Atom) (e : two k v w ≡ leaf b) f. let z : ◌≡◌ {A = ℕ} 0 1 = cc in omega arith))

    split_right : (M : Term 𝓢) (x y : ℕ) (su : List Val) (v : Val) → eval 𝓢 σ M ≡ v → Right σ (split M x y) su (splitting 𝓢 x y su (pair_parts 𝓢 (tree_shape 𝓢 v)))
    unfolding splitting pair_parts tree_shape
    split_right M x y su (leaf a) e = right_stuck (stuck_split (λ (v w : Val) (q : eval 𝓢 σ M ≡ two pairing v w). let z : ◌≡◌ {A = ℕ} 0 1 = cc in omega arith))
    split_right M x y su (one k u) e = right_stuck (stuck_split (λ (v w : Val) (q : eval 𝓢 σ M ≡ two pairing v w). let z : ◌≡◌ {A = ℕ} 0 1 = cc in omega arith))
    split_right M x y su (two pairing u w) e = right_moves (moves_split e)
    split_right M x y su (two (seal s) u w) e = right_stuck (stuck_split (λ (v w : Val) (q : eval 𝓢 σ M ≡ two pairing v w). let z : ◌≡◌ {A = ℕ} 0 1 = cc in omega arith))

    key_right : (s : 𝓢.Seal) (M K : Term 𝓢) (x : ℕ) (su : List Val) (v k : Val) → eval 𝓢 σ M ≡ two (seal s) v k → (t : Bool) → turns 𝓢 (tree 𝓢) (𝓢.fit s) k (eval 𝓢 σ K) ≡ t
        → Right σ (decrypt s M K x) su (opening 𝓢 (λ w. true) x su (cond t (inside v) locked))
    unfolding opening
    key_right s M K x su v k e true q = right_moves (moves_open e (fitting_of (𝓢.fit s) k (eval 𝓢 σ K) q))
    key_right s M K x su v k e false q = right_stuck (stuck_key e (λ f. false≢true (sym q ∙ of_fitting f)))

    seal_right : (s u : 𝓢.Seal) (M K : Term 𝓢) (x : ℕ) (su : List Val) (v k : Val) → eval 𝓢 σ M ≡ two (seal u) v k → (d : Dec (s ≡ u))
        → Right σ (decrypt s M K x) su (opening 𝓢 (λ w. true) x su (cond (decide d) (cond (turns 𝓢 (tree 𝓢) (𝓢.fit s) k (eval 𝓢 σ K)) (inside v) locked) unsealed))
    unfolding decide opening
    seal_right s u M K x su v k e (yes q) = key_right s M K x su v k (e ∙ ap (λ c. two (seal c) v k) (sym q)) (turns 𝓢 (tree 𝓢) (𝓢.fit s) k (eval 𝓢 σ K)) refl
    seal_right s u M K x su v k e (no n) = right_stuck (stuck_seal (λ (a b : Val) (q : eval 𝓢 σ M ≡ two (seal s) a b). n (cc)))

    open_right : (s : 𝓢.Seal) (M K : Term 𝓢) (x : ℕ) (su : List Val) (v : Val) → eval 𝓢 σ M ≡ v → Right σ (decrypt s M K x) su (opening 𝓢 (λ w. true) x su (open_shape 𝓢 (tree 𝓢) s (eval 𝓢 σ K) (tree_shape 𝓢 v)))
    unfolding open_shape tree_shape opening
    open_right s M K x su (leaf a) e = right_stuck (stuck_seal (λ (v k : Val) (q : eval 𝓢 σ M ≡ two (seal s) v k). let z : ◌≡◌ {A = ℕ} 0 1 = cc in omega arith))
    open_right s M K x su (one c u) e = right_stuck (stuck_seal (λ (v k : Val) (q : eval 𝓢 σ M ≡ two (seal s) v k). let z : ◌≡◌ {A = ℕ} 0 1 = cc in omega arith))
    open_right s M K x su (two pairing u w) e = right_stuck (stuck_seal (λ (v k : Val) (q : eval 𝓢 σ M ≡ two (seal s) v k). let z : ◌≡◌ {A = ℕ} 0 1 = cc in omega arith))
    open_right s M K x su (two (seal t) u w) e = seal_right s t M K x su u w e (𝓢.same_seal s t)

    pub right : (su : List Val) (d : Step 𝓢) → Right σ d su (perform 𝓢 (tree 𝓢) untyped (values_of 𝓢 σ) su (map_act 𝓢 (eval 𝓢 σ) d))
    unfolding perform map_act passes
    right su (send M N) = right_moves moves_out
    right [] (receive M x) = right_stuck stuck_in
    right (v ∷ su) (receive M x) = right_moves moves_in
    right [] (fresh x) = right_stuck stuck_new
    right (v ∷ su) (fresh x) = fresh_right x v su (is_fresh 𝓢 (tree 𝓢) (values_of 𝓢 σ) v) refl
    right su (compare M N) = compare_right M N su (same_value 𝓢 (eval 𝓢 σ M) (eval 𝓢 σ N))
    right su (split M x y) = split_right M x y su (eval 𝓢 σ M) refl
    right su (decrypt s M K x) = open_right s M K x su (eval 𝓢 σ M) refl

  -- ── the whole process ──

  abbrev R : Type 0
  R = Result Val (Unit {0})

  abbrev ByRules : Process 𝓢 → Bindings 𝓢 → List Val → R → Type 0
  ByRules P σ su r = (τ : Bindings 𝓢) × (sv : List Val) × Reaches 𝓢 P σ su r.log (drop r.place P) τ sv × Ends 𝓢 τ sv (drop r.place P) r.ending r.rest × (r.place ≤ length P)

  by_step : {σ : Bindings 𝓢} {d : Step 𝓢} {su : List Val} {o : Out Val (ℕ × Val)} (P : Process 𝓢) (k : Bindings 𝓢 → List Val → R) → Right σ d su o
      → ((bs : Bindings 𝓢) (sv : List Val) → ByRules P (σ ++ bs) sv (k bs sv)) → ByRules (d ∷ P) σ su (and_then tt o k)
  unfolding and_then
  by_step P k (right_moves {bs = bs} {sv = sv} m) h = let r = h bs sv in (r.0, r.1, moves m r.2, r.3, suc-le-suc r.4)
  by_step {σ} {su = su} P k (right_stuck s) h = (σ, su, stays, ends_stuck s, zero-le)

  pub process_by_rules : ProcessByRules 𝓢
  unfolding run_process
  process_by_rules [] σ su = (σ, su, stays, ends_finished, zero-le)
  process_by_rules (d ∷ P) σ su = by_step P (λ bs sv. run_process 𝓢 untyped P (σ ++ bs) sv) (right σ su d) (λ bs sv. process_by_rules P (σ ++ bs) sv)

  -- ── a stuck step cannot be taken ──

  stuck_cannot : {σ bs : Bindings 𝓢} {e : Ending} {d : Step 𝓢} {su rest sv : List Val} {ms : List (Logged Val)} → StuckBy 𝓢 σ e d su rest → Moves 𝓢 σ d su ms bs sv → ⊥
  stuck_cannot stuck_in m = elim m [ ]
  stuck_cannot stuck_new m = elim m [ ]
  stuck_cannot (stuck_fresh h) (moves_new {a = a} f) = h a refl f
  stuck_cannot (stuck_match h) (moves_match e) = h e
  stuck_cannot (stuck_split h) (moves_split {v = v} {w = w} e) = h v w e
  stuck_cannot (stuck_key {v = v} {k = k} q h) (moves_open {v = u} {k = l} e f) = let p : l ≡ k = cc in h (rw p at f)
  stuck_cannot (stuck_seal h) (moves_open {v = v} {k = k} e f) = h v k e

  pub stuck_cannot_move : StuckCannotMove 𝓢
  stuck_cannot_move σ bs e d su rest sv ms s m = stuck_cannot s m

  pub fresh_decided : FreshDecided 𝓢
  fresh_decided held v = (fresh_all held v, all_fresh v)

  -- ── the rules give one answer ──

  stuck_once : {σ : Bindings 𝓢} {e f : Ending} {d : Step 𝓢} {su rest rest' : List Val} → StuckBy 𝓢 σ e d su rest → StuckBy 𝓢 σ f d su rest' → (e ≡ f) × (rest ≡ rest')
  stuck_once stuck_in stuck_in = (refl, refl)
  stuck_once stuck_new stuck_new = (refl, refl)
  stuck_once (stuck_fresh h) (stuck_fresh k) = (refl, refl)
  stuck_once (stuck_match h) (stuck_match k) = (refl, refl)
  stuck_once (stuck_split h) (stuck_split k) = (refl, refl)
  stuck_once (stuck_key q h) (stuck_key r k) = (refl, refl)
  stuck_once (stuck_key {v = v} {k = k} q h) (stuck_seal n) = absurd (n v k q)
  stuck_once (stuck_seal n) (stuck_key {v = v} {k = k} q h) = absurd (n v k q)
  stuck_once (stuck_seal n) (stuck_seal m) = (refl, refl)

  record SameMove (ms ms' : List (Logged Val)) (bs bs' : Bindings 𝓢) (sv sv' : List Val) : Type 0 where
    same_messages : ms ≡ ms'
    same_bindings : bs ≡ bs'
    same_supply : sv ≡ sv'

  moves_once : {σ bs bs' : Bindings 𝓢} {d : Step 𝓢} {su sv sv' : List Val} {ms ms' : List (Logged Val)} → Moves 𝓢 σ d su ms bs sv → Moves 𝓢 σ d su ms' bs' sv' → SameMove ms ms' bs bs' sv sv'
  moves_once moves_out moves_out = record { same_messages = refl; same_bindings = refl; same_supply = refl }
  moves_once moves_in moves_in = record { same_messages = refl; same_bindings = refl; same_supply = refl }
  moves_once (moves_new f) (moves_new g) = record { same_messages = refl; same_bindings = refl; same_supply = refl }
  moves_once (moves_match e) (moves_match g) = record { same_messages = refl; same_bindings = refl; same_supply = refl }
  moves_once (moves_split {v = v} {w = w} e) (moves_split {v = v'} {w = w'} g) =
      let p : v ≡ v' = cc in
      let q : w ≡ w' = cc in
      record { same_messages = refl; same_bindings = rw (p, q); same_supply = refl }
  moves_once (moves_open {v = v} e f) (moves_open {v = v'} g h) = let p : v ≡ v' = cc in record { same_messages = refl; same_bindings = rw p; same_supply = refl }

  one_answer : {P Q S : Process 𝓢} {σ τ υ : Bindings 𝓢} {su sv sw rest rest' : List Val} {ls ms : List (Logged Val)} {e f : Ending}
      → Reaches 𝓢 P σ su ls Q τ sv → Ends 𝓢 τ sv Q e rest → Reaches 𝓢 P σ su ms S υ sw → Ends 𝓢 υ sw S f rest' → (ls ≡ ms) × (Q ≡ S) × (e ≡ f) × (rest ≡ rest')
  one_answer stays ends_finished stays ends_finished = (refl, refl, refl, refl)
  one_answer stays (ends_stuck s) stays (ends_stuck u) = let h = stuck_once s u in (refl, refl, h.0, h.1)
  one_answer stays (ends_stuck s) (moves m r) n = absurd (stuck_cannot s m)
  one_answer (moves m r) n stays (ends_stuck s) = absurd (stuck_cannot s m)
  one_answer {S = S} {υ = υ} {sw = sw} (moves {P = P} {σ = σ} {bs = bs} {sv = sx} {ms = ks} m r) n (moves {bs = bs'} {sv = sy} {ms = ks'} {ls = ls'} m' r') n' =
      let c = moves_once m m' in
      let r'' : Reaches 𝓢 P (σ ++ bs) sx ls' S υ sw = rw (c.same_bindings, c.same_supply) r' in
      let h = one_answer r n r'' n' in
      (ap₂ (λ (a b : List (Logged Val)). a ++ b) c.same_messages h.0, h.1, h.2, h.3)

  pub rules_give_one_answer : RulesGiveOneAnswer 𝓢
  rules_give_one_answer P Q S σ τ υ su sv sw rest rest' ls ms e f r n r' n' = one_answer r n r' n'
