-- What occurs in a value: the decider over trees decides it, and the marks of a value table are it, one mark a value. Assumes nothing.
use mathlib.Core.Path.{◌≡◌, refl, sym, ap, ◌∙◌}
use mathlib.Core.Bool.{Bool, true, false, ◌&&◌, ◌||◌, decide}
use mathlib.Core.List.{List, [], ◌∷◌, ◌++◌, map, append_assoc, append-nil}
use Prim.Native.Nat.{ℕ, zero, suc, ◌+◌, ◌<◌, ◌≤◌}
use native.Mathlib.Nat.{zero-add, add-zero}
use native.Mathlib.Decide.{dec_lt}
use native.Mathlib.Omega.{arith}
use lib.Dec.{ltb, eqb}
use lib.ListN.{length, get_or, length-append, get_or-append, get_or-eq_default}
use lib.Seq.{get_or-append-add}
use borrow.Author.Tests.{ltb-true, ltb-false, eq-eqb, ne_eqb}
use Rattle.calculus.specs.Signature.{Signature}
use Rattle.calculus.specs.Terms.{Atom, atom, leaf, one, two, Value, same_value}
use Rattle.calculus.specs.Tables.{Entry, entry_at}
use Rattle.calculus.specs.Scope.{In, here, there, All, all_nil, all_cons}
use Rattle.rendering.proofs.Base.{decided, decides}
use Rattle.running.specs.Values.{Occurs, occurs_itself, occurs_inside, parts_of, tree_shape, occurs_in, entry_shape, any_of, marks_from, occurs_at}

-- ── Tests ──

or_none : (a : Bool) → a || false ≡ a
or_none true = refl
or_none false = refl

or_right : (a : Bool) {b : Bool} → b ≡ true → a || b ≡ true
or_right true h = refl
or_right false h = h

module _ (𝓢 : Signature) where
  abbrev Val : Type 0
  Val = Value 𝓢

  -- tests that agree on a list
  pub any_same : {W : Type 0} (f g : W → Bool) {l : List W} → All (λ x. f x ≡ g x) l → any_of 𝓢 f l ≡ any_of 𝓢 g l
  unfolding any_of
  any_same f g all_nil = refl
  any_same f g (all_cons e h) = rw (e, any_same f g h)

  -- tests that agree
  pub any_as : {W : Type 0} (f g : W → Bool) → ((x : W) → f x ≡ g x) → (l : List W) → any_of 𝓢 f l ≡ any_of 𝓢 g l
  unfolding any_of
  any_as f g e [] = refl
  any_as f g e (x ∷ l) = rw (e x, any_as f g e l)

  any_none : {W : Type 0} (f : W → Bool) → ((x : W) → f x ≡ false) → (l : List W) → any_of 𝓢 f l ≡ false
  unfolding any_of
  any_none f e [] = refl
  any_none f e (x ∷ l) = rw (e x, any_none f e l)

  pub any_map : {W X : Type 0} (d : X → W) (f : W → Bool) (l : List X) → any_of 𝓢 f (map d l) ≡ any_of 𝓢 (λ x. f (d x)) l
  unfolding any_of
  any_map d f [] = refl
  any_map d f (x ∷ l) = rw (any_map d f l)

  -- ── Trees ──

  -- the decider goes by the parts, whatever the kind
  pub occurs_by_parts : (v w : Val) → occurs_in 𝓢 v w ≡ (decide (same_value 𝓢 v w) || any_of 𝓢 (occurs_in 𝓢 v) (parts_of 𝓢 (tree_shape 𝓢 w)))
  unfolding occurs_in any_of parts_of tree_shape
  occurs_by_parts v (leaf a) = sym (or_none (decide (same_value 𝓢 v (leaf a))))
  occurs_by_parts v (one k u) = rw (or_none (occurs_in 𝓢 v u))
  occurs_by_parts v (two k u w) = rw (or_none (occurs_in 𝓢 v w))

  found_in_lem : (v : Val) {u : Val} {l : List Val} → In u l → occurs_in 𝓢 v u ≡ true → any_of 𝓢 (occurs_in 𝓢 v) l ≡ true
  unfolding any_of
  found_in_lem v here h = rw h
  found_in_lem v (there {y = y} m) h = or_right (occurs_in 𝓢 v y) (found_in_lem v m h)

  pub occurs_found : {v w : Val} → Occurs 𝓢 v w → occurs_in 𝓢 v w ≡ true
  occurs_found {v} occurs_itself = rw (occurs_by_parts v v, decides (same_value 𝓢 v v) refl)
  occurs_found {v} {w} (occurs_inside m o) = rw (occurs_by_parts v w) (or_right (decide (same_value 𝓢 v w)) (found_in_lem v m (occurs_found o)))

  itself : (v w : Val) → decide (same_value 𝓢 v w) ≡ true → Occurs 𝓢 v w
  itself v w h = rw (← decided (same_value 𝓢 v w) h) occurs_itself

  -- one of two tests holds
  either_way : {P : Type 0} (a b : Bool) → (a ≡ true → P) → (b ≡ true → P) → a || b ≡ true → P
  either_way true b f g h = f refl
  either_way false b f g h = g h

  pub found_occurs : (v w : Val) → occurs_in 𝓢 v w ≡ true → Occurs 𝓢 v w
  unfolding occurs_in parts_of tree_shape
  found_occurs v (leaf a) h = itself v (leaf a) h
  found_occurs v (one k u) h =
      either_way (decide (same_value 𝓢 v (one k u))) (occurs_in 𝓢 v u) (itself v (one k u)) (λ q. occurs_inside {u = u} here (found_occurs v u q)) h
  found_occurs v (two k u w) h =
      either_way (decide (same_value 𝓢 v (two k u w))) (occurs_in 𝓢 v u || occurs_in 𝓢 v w) (itself v (two k u w))
      (either_way (occurs_in 𝓢 v u) (occurs_in 𝓢 v w) (λ q. occurs_inside {u = u} here (found_occurs v u q)) (λ q. occurs_inside {u = w} (there here) (found_occurs v w q))) h

  -- ── The marks of a table ──

  module _ (v : ℕ) where
    -- the marks made so far stand first
    marks_extend : (ms : List Bool) (es : List (Entry 𝓢 Atom)) → (us : List Bool) × (marks_from 𝓢 v ms es ≡ ms ++ us) × (length us ≡ length es)
    unfolding marks_from
    marks_extend ms [] = ([], sym (append-nil ms), refl)
    marks_extend ms (e ∷ es) =
        let m : Bool = eqb v (length ms) || any_of 𝓢 (λ i. get_or ms i false) (parts_of 𝓢 (entry_shape 𝓢 e)) in
        let r = marks_extend (ms ++ (m ∷ [])) es in
        (m ∷ r.0, r.1 ∙ append_assoc ms (m ∷ []) r.0, ap suc r.2)

    -- a mark among the first n
    abbrev low_mark : List Bool → ℕ → ℕ → Bool
    low_mark ms n p = ltb p n && get_or ms p false

    -- the marks of the first ones, as marks of all
    low_same : (ms us : List Bool) (p : ℕ) → get_or ms p false ≡ low_mark (ms ++ us) (length ms) p
    low_same ms us p = go (ltb p (length ms)) refl
      where
        go : (b : Bool) → ltb p (length ms) ≡ b → get_or ms p false ≡ (b && get_or (ms ++ us) p false)
        go true e = sym (get_or-append ms us false p (ltb-true _ _ e))
        go false e = get_or-eq_default ms false (ltb-false _ _ e)

    mark_here : (ms : List Bool) (es : List (Entry 𝓢 Atom)) (i : ℕ) → i < length es
        → get_or (marks_from 𝓢 v ms es) (length ms + i) false
        ≡ (eqb v (length ms + i) || any_of 𝓢 (low_mark (marks_from 𝓢 v ms es) (length ms + i)) (parts_of 𝓢 (entry_shape 𝓢 (entry_at 𝓢 (atom 0 0) es i))))
    unfolding marks_from
    mark_here ms [] i h = absurd (omega arith)
    mark_here ms (e ∷ es) zero h =
        let m : Bool = eqb v (length ms) || any_of 𝓢 (λ i. get_or ms i false) (parts_of 𝓢 (entry_shape 𝓢 e)) in
        let r = marks_extend (ms ++ (m ∷ [])) es in
        let q : marks_from 𝓢 v (ms ++ (m ∷ [])) es ≡ ms ++ (m ∷ r.0) = r.1 ∙ append_assoc ms (m ∷ []) r.0 in
        rw (q, get_or-append-add ms (m ∷ r.0) 0 false, add-zero (length ms))
        (ap (λ (b : Bool). eqb v (length ms) || b) (any_as (λ i. get_or ms i false) (low_mark (ms ++ (m ∷ r.0)) (length ms)) (low_same ms (m ∷ r.0)) (parts_of 𝓢 (entry_shape 𝓢 e))))
    mark_here ms (e ∷ es) (suc i) h =
        let m : Bool = eqb v (length ms) || any_of 𝓢 (λ i. get_or ms i false) (parts_of 𝓢 (entry_shape 𝓢 e)) in
        let q : length (ms ++ (m ∷ [])) ≡ suc (length ms) = rw (length-append ms (m ∷ [])) (omega arith) in
        let k : length ms + suc i ≡ length (ms ++ (m ∷ [])) + i = omega arith in
        rw k (mark_here (ms ++ (m ∷ [])) es i (omega arith))

    -- value v occurs in value i exactly if it is value i or occurs in a lower part of it
    pub occurs_at_lem : (es : List (Entry 𝓢 Atom)) (i : ℕ) → i < length es
        → occurs_at 𝓢 es v i ≡ (eqb v i || any_of 𝓢 (λ p. ltb p i && occurs_at 𝓢 es v p) (parts_of 𝓢 (entry_shape 𝓢 (entry_at 𝓢 (atom 0 0) es i))))
    unfolding occurs_at
    occurs_at_lem es i h = rw (zero-add i) at (mark_here [] es i h)

    -- nothing occurs past the end
    pub occurs_past : (es : List (Entry 𝓢 Atom)) (i : ℕ) → length es ≤ i → occurs_at 𝓢 es v i ≡ false
    unfolding occurs_at
    occurs_past es i h =
        let r = marks_extend [] es in
        let l : length (marks_from 𝓢 v [] es) ≤ i = rw (r.1, r.2) h in
        get_or-eq_default (marks_from 𝓢 v [] es) false l

    -- a value occurs in itself
    pub occurs_here : (es : List (Entry 𝓢 Atom)) → v < length es → occurs_at 𝓢 es v v ≡ true
    occurs_here es h = rw (occurs_at_lem es v h, eq-eqb v v refl)

    -- and in no lower one
    occurs_under : (es : List (Entry 𝓢 Atom)) (n i : ℕ) → i < n → i < v → occurs_at 𝓢 es v i ≡ false
    occurs_under es zero i l h = absurd (omega arith)
    occurs_under es (suc n) i l h = go (dec_lt i (length es))
        (any_none (λ p. ltb p i && occurs_at 𝓢 es v p) (λ p. by p (ltb p i) refl (λ q. occurs_under es n p (omega arith) (omega arith))) (parts_of 𝓢 (entry_shape 𝓢 (entry_at 𝓢 (atom 0 0) es i))))
      where
        by : (p : ℕ) (b : Bool) → ltb p i ≡ b → (p < i → occurs_at 𝓢 es v p ≡ false) → (b && occurs_at 𝓢 es v p) ≡ false
        by p true e f = f (ltb-true _ _ e)
        by p false e f = refl

        go : Dec (i < length es) → any_of 𝓢 (λ p. ltb p i && occurs_at 𝓢 es v p) (parts_of 𝓢 (entry_shape 𝓢 (entry_at 𝓢 (atom 0 0) es i))) ≡ false → occurs_at 𝓢 es v i ≡ false
        go (yes k) e = rw (occurs_at_lem es i k, ne_eqb v i (λ (q : v ≡ i). omega arith), e)
        go (no k) e = occurs_past es i (omega arith)

    pub occurs_not_under : (es : List (Entry 𝓢 Atom)) (i : ℕ) → i < v → occurs_at 𝓢 es v i ≡ false
    occurs_not_under es i h = occurs_under es (suc i) i (omega arith) h
