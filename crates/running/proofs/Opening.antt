-- A process under type tests does the opening part of what it does without; where a test fails, the value lacks its type and the untested
-- process passes that step. Assumes nothing.
use mathlib.Core.Path.{◌≡◌, refl, ap, ◌∙◌, subst}
use mathlib.Core.Logic.{◌⊎◌, inl, inr}
use mathlib.Core.Bool.{Bool, true, false, cond, decide, ◌&&◌}
use mathlib.Core.Option.{Option, none, some}
use mathlib.Core.List.{List, [], ◌∷◌, ◌++◌, append_assoc, append-nil}
use Prim.Native.Nat.{ℕ, suc}
use Rattle.types.specs.Types.{Ty}
use Rattle.calculus.specs.Signature.{Signature}
use Rattle.calculus.specs.Terms.{Term, Value, same_value, send, receive, fresh, compare, split, decrypt, map_act, Step, Process}
use Rattle.running.specs.Values.{visible, is_fresh, is_atom, pair_parts, Opening, inside, locked, unsealed, open_shape, tree_shape, tree}
use Rattle.running.specs.Acts.{Ending, received_lacks, opened_lacks, fresh_lacks, Logged, Out, goes, stops, typed, untyped, passes, binding, splitting, opening, perform, Result, after, and_then}
use Rattle.running.specs.Processes.{Bindings, values_of, eval, run_process, Moves, Reaches, stays, moves}
use Rattle.running.specs.Demand3.{ByType, by_received, by_opened, by_fresh, Blames, blames_received, blames_opened, blames_fresh, Lacking}
use Rattle.running.proofs.Rules.{Right, right_moves, right}

module _ (𝓢 : Signature) (Γ : ℕ → Ty 𝓢.types) where
  abbrev Val : Type 0
  Val = Value 𝓢

  -- what a tested act gives, and what the same act gives untested
  data Agree (d : Step 𝓢) : Out Val (ℕ × Val) → Out Val (ℕ × Val) → Type 0 where
    both_go : {ms : List (Logged Val)} {bs : Bindings 𝓢} {su : List Val} → Agree d (goes ms bs su) (goes ms bs su)
    both_stop : {e : Ending} {ms : List (Logged Val)} {su : List Val} → Agree d (stops e ms su) (stops e ms su)
    lacks_type : {e : Ending} {ms : List (Logged Val)} {x : ℕ} {v : Val} {su : List Val} → ByType e → Blames 𝓢 e d x → visible 𝓢 (tree 𝓢) (Γ x) v ≡ false
        → Agree d (stops e ms su) (goes ms ((x, v) ∷ []) su)

  tested : {d : Step 𝓢} (e : Ending) (ms : List (Logged Val)) (x : ℕ) (v : Val) (su : List Val) → ByType e → Blames 𝓢 e d x → (t : Bool) → visible 𝓢 (tree 𝓢) (Γ x) v ≡ t
      → Agree d (binding 𝓢 t e ms x v su) (goes ms ((x, v) ∷ []) su)
  tested e ms x v su b l true q = both_go
  tested e ms x v su b l false q = lacks_type b l q

  chosen : (t : Bool) {d : Step 𝓢} {a b c f : Out Val (ℕ × Val)} → Agree d a c → Agree d b f → Agree d (cond t a b) (cond t c f)
  chosen true h k = h
  chosen false h k = k

  agree_split : {d : Step 𝓢} (x y : ℕ) (su : List Val) (o : Option (Val × Val)) → Agree d (splitting 𝓢 x y su o) (splitting 𝓢 x y su o)
  unfolding splitting
  agree_split x y su none = both_stop
  agree_split x y su (some h) = both_go

  agree_open : (s : 𝓢.Seal) (M K : Term 𝓢) (x : ℕ) (su : List Val) (o : Opening 𝓢 Val) → Agree (decrypt s M K x) (opening 𝓢 (λ w. visible 𝓢 (tree 𝓢) (Γ x) w) x su o) (opening 𝓢 (λ w. true) x su o)
  unfolding opening
  agree_open s M K x su (inside v) = tested opened_lacks [] x v su by_opened blames_opened (visible 𝓢 (tree 𝓢) (Γ x) v) refl
  agree_open s M K x su locked = both_stop
  agree_open s M K x su unsealed = both_stop

  agree : (σ : Bindings 𝓢) (su : List Val) (d : Step 𝓢)
      → Agree d (perform 𝓢 (tree 𝓢) (typed Γ) (values_of 𝓢 σ) su (map_act 𝓢 (eval 𝓢 σ) d)) (perform 𝓢 (tree 𝓢) untyped (values_of 𝓢 σ) su (map_act 𝓢 (eval 𝓢 σ) d))
  unfolding perform map_act passes
  agree σ su (send M N) = both_go
  agree σ [] (receive M x) = both_stop
  agree σ (v ∷ su) (receive M x) = tested received_lacks _ x v su by_received blames_received (visible 𝓢 (tree 𝓢) (Γ x) v) refl
  agree σ [] (fresh x) = both_stop
  agree σ (v ∷ su) (fresh x) = chosen (is_atom 𝓢 (tree_shape 𝓢 v) && is_fresh 𝓢 (tree 𝓢) (values_of 𝓢 σ) v) (tested fresh_lacks [] x v su by_fresh blames_fresh (visible 𝓢 (tree 𝓢) (Γ x) v) refl) both_stop
  agree σ su (compare M N) = chosen (decide (same_value 𝓢 (eval 𝓢 σ M) (eval 𝓢 σ N))) both_go both_stop
  agree σ su (split M x y) = agree_split x y su (pair_parts 𝓢 (tree_shape 𝓢 (eval 𝓢 σ M)))
  agree σ su (decrypt s M K x) = agree_open s M K x su (open_shape 𝓢 (tree 𝓢) s (eval 𝓢 σ K) (tree_shape 𝓢 (eval 𝓢 σ M)))

  -- ── one step, then the rest ──

  abbrev R : Type 0
  R = Result Val (Unit {0})

  -- a tested and an untested run of one process
  pub record Opens (P : Process 𝓢) (σ : Bindings 𝓢) (su : List Val) (L U : R) : Type 0 where
    pub opening : (more : List (Logged Val)) × (L.log ++ more ≡ U.log)
    pub unless : (ByType L.ending × Lacking 𝓢 Γ P σ su L.ending L.place L.log L.rest) ⊎ (L ≡ U)

  one_move : {σ bs : Bindings 𝓢} {d : Step 𝓢} {P : Process 𝓢} {su sv : List Val} {ms : List (Logged Val)} → Moves 𝓢 σ d su ms bs sv → Reaches 𝓢 (d ∷ P) σ su ms P (σ ++ bs) sv
  one_move {σ} {bs} {d} {P} {su} {sv} {ms} m = subst (λ l. Reaches 𝓢 (d ∷ P) σ su l P (σ ++ bs) sv) (append-nil ms) (moves m stays)

  more_lacking : {σ bs : Bindings 𝓢} {d : Step 𝓢} {P : Process 𝓢} {su sv : List Val} {ms : List (Logged Val)} {e : Ending} {n : ℕ} {ls : List (Logged Val)} {rest : List Val}
      → Moves 𝓢 σ d su ms bs sv → Lacking 𝓢 Γ P (σ ++ bs) sv e n ls rest → Lacking 𝓢 Γ (d ∷ P) σ su e (suc n) (ms ++ ls) rest
  more_lacking m l = record {
    step = l.step;
    symbol = l.symbol;
    value = l.value;
    bindings = l.bindings;
    there = l.there;
    blames = l.blames;
    lacks = l.lacks;
    passes = moves m l.passes;
  }

  unless_more : {σ bs : Bindings 𝓢} {d : Step 𝓢} {P : Process 𝓢} {su sv : List Val} {ms : List (Logged Val)} → Moves 𝓢 σ d su ms bs sv → (L U : R)
      → (ByType L.ending × Lacking 𝓢 Γ P (σ ++ bs) sv L.ending L.place L.log L.rest) ⊎ (L ≡ U)
      → (ByType L.ending × Lacking 𝓢 Γ (d ∷ P) σ su L.ending (suc L.place) (ms ++ L.log) L.rest) ⊎ (after ms L ≡ after ms U)
  unless_more m L U (inl b) = inl (b.0, more_lacking m b.1)
  unless_more {ms = ms} m L U (inr e) = inr (ap (after ms) e)

  open_step : {σ : Bindings 𝓢} {d : Step 𝓢} {P : Process 𝓢} {su : List Val} {o p : Out Val (ℕ × Val)} (k k' : Bindings 𝓢 → List Val → R) → Agree d o p → Right 𝓢 σ d su p
      → ((bs : Bindings 𝓢) (sv : List Val) → Opens P (σ ++ bs) sv (k bs sv) (k' bs sv)) → Opens (d ∷ P) σ su (and_then tt o k) (and_then tt p k')
  unfolding and_then
  open_step k k' (both_go {ms = ms} {bs = bs} {su = sv}) (right_moves m) h =
      let r = h bs sv in
      record {
        opening = (r.opening.0, append_assoc ms (k bs sv).log r.opening.0 ∙ ap (λ l. ms ++ l) r.opening.1);
        unless = unless_more m (k bs sv) (k' bs sv) r.unless;
      }
  open_step k k' (both_stop {ms = ms}) g h = record { opening = ([], append-nil ms); unless = inr refl }
  open_step {σ} {d} {P} k k' (lacks_type {e = e} {ms = ms} {x = x} {v = v} {su = sv} b l q) (right_moves m) h = record {
    opening = ((k' ((x, v) ∷ []) sv).log, refl);
    unless = inl (b, record { step = d; symbol = x; value = v; bindings = σ; there = refl; blames = l; lacks = q; passes = one_move m });
  }

  pub opens : (P : Process 𝓢) (σ : Bindings 𝓢) (su : List Val) → Opens P σ su (run_process 𝓢 (typed Γ) P σ su) (run_process 𝓢 untyped P σ su)
  unfolding run_process
  opens [] σ su = record { opening = ([], refl); unless = inr refl }
  opens (d ∷ P) σ su = open_step (λ bs sv. run_process 𝓢 (typed Γ) P (σ ++ bs) sv) (λ bs sv. run_process 𝓢 untyped P (σ ++ bs) sv) (agree σ su d) (right 𝓢 σ su d) (λ bs sv. opens P (σ ++ bs) sv)
