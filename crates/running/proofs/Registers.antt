-- Terms stand for values; registers hold what the terms that they mean stand for. Assumes nothing.
use mathlib.Core.Path.{◌≡◌, refl, sym}
use mathlib.Core.Bool.{Bool, true, false, cond}
use mathlib.Core.Option.{some, some_inj}
use mathlib.Core.List.{List, [], ◌∷◌, ◌++◌, map, append_assoc}
use Prim.Native.Nat.{ℕ, zero, suc}
use native.Mathlib.Omega.{arith}
use lib.ListN.{get_elem?}
use borrow.Author.Tests.{eq-eqb, ne_eqb}
use Rattle.calculus.specs.Signature.{Signature, Two}
use Rattle.calculus.specs.Terms.{leaf, one, two, Term, Value, Build, map_build, built, Act, map_act}
use Rattle.calculus.specs.Scope.{all_nil, all_cons, NotIn, Distinct, di_cons}
use Rattle.calculus.proofs.Lists.{map_append}
use Rattle.rendering.proofs.ActLaws.{ActZip, zip_send, zip_receive, zip_fresh, zip_compare, zip_split, zip_decrypt, BuildZip, zip_one, zip_two, zip_acts, zip_builds}
use Rattle.running.specs.Lists.{Register, symbol_register, held, holds}
use Rattle.running.specs.Processes.{Bindings, values_of, look, eval}

module _ (𝓢 : Signature) where
  abbrev pub Val : Type 0
  Val = Value 𝓢

  -- a term stands for a value, given what its symbols stand for
  pub data Stands (L : ℕ → Val → Type 0) : Term 𝓢 → Val → Type 0 where
    st_leaf : {x : ℕ} {v : Val} → L x v → Stands L (leaf x) v
    st_one : {k : 𝓢.One} {M : Term 𝓢} {v : Val} → Stands L M v → Stands L (one k M) (one k v)
    st_two : {k : Two 𝓢.Seal} {M N : Term 𝓢} {v w : Val} → Stands L M v → Stands L N w → Stands L (two k M N) (two k v w)

  pub stands_map : {K L : ℕ → Val → Type 0} → ((x : ℕ) (v : Val) → K x v → L x v) → {M : Term 𝓢} {v : Val} → Stands K M v → Stands L M v
  stands_map f (st_leaf {x = x} {v = v} l) = st_leaf (f x v l)
  stands_map f (st_one g) = st_one (stands_map f g)
  stands_map f (st_two g h) = st_two (stands_map f g) (stands_map f h)

  -- ── the first binding of a symbol ──

  pub data Bound : Bindings 𝓢 → ℕ → Val → Type 0 where
    bound_here : {σ : Bindings 𝓢} {x : ℕ} {v : Val} → Bound ((x, v) ∷ σ) x v
    bound_there : {σ : Bindings 𝓢} {b : ℕ × Val} {x : ℕ} {v : Val} → ¬ (x ≡ b.0) → Bound σ x v → Bound (b ∷ σ) x v

  pub look_bound : {σ : Bindings 𝓢} {x : ℕ} {v : Val} → Bound σ x v → look 𝓢 σ x ≡ v
  unfolding look
  look_bound (bound_here {x = x}) = rw (eq-eqb x x refl)
  look_bound (bound_there {b = b} {x = x} n k) = rw (ne_eqb b.0 x (λ e. n (sym e))) (look_bound k)

  pub bound_more : {σ : Bindings 𝓢} {x : ℕ} {v : Val} (τ : Bindings 𝓢) → Bound σ x v → Bound (σ ++ τ) x v
  bound_more τ bound_here = bound_here
  bound_more τ (bound_there n b) = bound_there n (bound_more τ b)

  abbrev pub symbols_of : Bindings 𝓢 → List ℕ
  symbols_of σ = map (λ b. b.0) σ

  pub bound_new : (σ τ : Bindings 𝓢) (x : ℕ) (v : Val) → NotIn x (symbols_of σ) → Bound (σ ++ ((x, v) ∷ τ)) x v
  bound_new [] τ x v h = bound_here
  bound_new (b ∷ σ) τ x v (all_cons n h) = bound_there n (bound_new σ τ x v h)

  pub eval_stands : {σ : Bindings 𝓢} {M : Term 𝓢} {v : Val} → Stands (Bound σ) M v → eval 𝓢 σ M ≡ v
  unfolding eval
  eval_stands (st_leaf b) = look_bound b
  eval_stands (st_one g) = rw (eval_stands g)
  eval_stands (st_two g h) = rw (eval_stands g, eval_stands h)

  -- ── registers that mean terms ──

  pub data Match (L : ℕ → Val → Type 0) : List (Term 𝓢) → List (Register Val) → Type 0 where
    match_nil : Match L [] []
    match_cons : {M : Term 𝓢} {r : Register Val} {ms : List (Term 𝓢)} {rs : List (Register Val)} → Stands L M r.value → Match L ms rs → Match L (M ∷ ms) (r ∷ rs)

  pub match_append : {L : ℕ → Val → Type 0} {ms ns : List (Term 𝓢)} {rs qs : List (Register Val)} → Match L ms rs → Match L ns qs → Match L (ms ++ ns) (rs ++ qs)
  match_append match_nil q = q
  match_append (match_cons p ps) q = match_cons p (match_append ps q)

  pub match_map : {K L : ℕ → Val → Type 0} → ((x : ℕ) (v : Val) → K x v → L x v) → {ms : List (Term 𝓢)} {rs : List (Register Val)} → Match K ms rs → Match L ms rs
  match_map f match_nil = match_nil
  match_map f (match_cons p ps) = match_cons (stands_map f p) (match_map f ps)

  -- register p means M
  pub record Names (ms : List (Term 𝓢)) (p : ℕ) (M : Term 𝓢) : Type 0 where
    pub means : get_elem? ms p ≡ some M

  pub acts_named : (ms : List (Term 𝓢)) (a : Act 𝓢 ℕ) (d : Act 𝓢 (Term 𝓢)) → map_act 𝓢 (get_elem? ms) a ≡ map_act 𝓢 some d → ActZip 𝓢 (Names ms) a d
  acts_named ms a d e = go (zip_acts 𝓢 (get_elem? ms) some a d e)
    where
      go : {a : Act 𝓢 ℕ} {d : Act 𝓢 (Term 𝓢)} → ActZip 𝓢 (λ p M. get_elem? ms p ≡ some M) a d → ActZip 𝓢 (Names ms) a d
      go (zip_send e f) = zip_send (record { means = e }) (record { means = f })
      go (zip_receive e) = zip_receive (record { means = e })
      go zip_fresh = zip_fresh
      go (zip_compare e f) = zip_compare (record { means = e }) (record { means = f })
      go (zip_split e) = zip_split (record { means = e })
      go (zip_decrypt e f) = zip_decrypt (record { means = e }) (record { means = f })

  pub builds_named : (ms : List (Term 𝓢)) (b : Build 𝓢 ℕ) (B : Build 𝓢 (Term 𝓢)) → map_build 𝓢 (get_elem? ms) b ≡ map_build 𝓢 some B → BuildZip 𝓢 (Names ms) b B
  builds_named ms b B e = go (zip_builds 𝓢 (get_elem? ms) some b B e)
    where
      go : {b : Build 𝓢 ℕ} {B : Build 𝓢 (Term 𝓢)} → BuildZip 𝓢 (λ p M. get_elem? ms p ≡ some M) b B → BuildZip 𝓢 (Names ms) b B
      go (zip_one e) = zip_one (record { means = e })
      go (zip_two e f) = zip_two (record { means = e }) (record { means = f })

  pub named_stands : {L : ℕ → Val → Type 0} (z : Val) {ms : List (Term 𝓢)} {rs : List (Register Val)} {p : ℕ} {M : Term 𝓢} → Match L ms rs → Names ms p M → Stands L M (holds z rs p)
  named_stands {L} z {ms} {rs} {p} {M} m n = go p m n.means
    where
      go : {ms : List (Term 𝓢)} {rs : List (Register Val)} (p : ℕ) → Match L ms rs → get_elem? ms p ≡ some M → Stands L M (holds z rs p)
      go p match_nil n = absurd (let w : ◌≡◌ {A = ℕ} 0 1 = cc in omega arith)
      go zero (match_cons s ps) n = rw (some_inj.0 n) at s
      go (suc p) (match_cons s ps) n = go p ps n

  module _ (z : Val) {σ : Bindings 𝓢} {ms : List (Term 𝓢)} {rs : List (Register Val)} (m : Match (Bound σ) ms rs) where
    pub named_eval : {p : ℕ} {M : Term 𝓢} → Names ms p M → holds z rs p ≡ eval 𝓢 σ M
    named_eval n = sym (eval_stands (named_stands z m n))

    -- the operands of a statement are those of its step
    pub acts_eval : {a : Act 𝓢 ℕ} {d : Act 𝓢 (Term 𝓢)} → ActZip 𝓢 (Names ms) a d → map_act 𝓢 (holds z rs) a ≡ map_act 𝓢 (eval 𝓢 σ) d
    unfolding map_act
    acts_eval (zip_send e f) = rw (named_eval e, named_eval f)
    acts_eval (zip_receive e) = rw (named_eval e)
    acts_eval zip_fresh = refl
    acts_eval (zip_compare e f) = rw (named_eval e, named_eval f)
    acts_eval (zip_split e) = rw (named_eval e)
    acts_eval (zip_decrypt e f) = rw (named_eval e, named_eval f)

  -- what is built stands for its value
  pub built_stands : {L : ℕ → Val → Type 0} (z : Val) {ms : List (Term 𝓢)} {rs : List (Register Val)} → Match L ms rs → {b : Build 𝓢 ℕ} {B : Build 𝓢 (Term 𝓢)} → BuildZip 𝓢 (Names ms) b B
      → Stands L (built 𝓢 B) (built 𝓢 (map_build 𝓢 (holds z rs) b))
  unfolding built map_build
  built_stands z m (zip_one e) = st_one (named_stands z m e)
  built_stands z m (zip_two e f) = st_two (named_stands z m e) (named_stands z m f)

  -- ── registers that mean symbols ──

  abbrev pub symbol_registers : {W : Type 0} → List (ℕ × W) → List (Register W)
  symbol_registers bs = map (λ b. symbol_register b.1) bs

  pub held_append : {W : Type 0} (rs qs : List (Register W)) → held (rs ++ qs) ≡ held rs ++ held qs
  unfolding held
  held_append [] qs = refl
  held_append (r ∷ rs) qs = go r.for_symbol (held_append rs qs)
    where
      go : (t : Bool) → held (rs ++ qs) ≡ held rs ++ held qs → cond t (r.value ∷ held (rs ++ qs)) (held (rs ++ qs)) ≡ cond t (r.value ∷ held rs) (held rs) ++ held qs
      go true e = rw e
      go false e = e

  pub held_symbols : (bs : Bindings 𝓢) → held (symbol_registers bs) ≡ values_of 𝓢 bs
  unfolding held
  held_symbols [] = refl
  held_symbols (b ∷ bs) = rw (held_symbols bs)

  -- ── symbols bound once ──

  pub distinct_mid : (l : List ℕ) (x : ℕ) (r : List ℕ) → Distinct (l ++ (x ∷ r)) → NotIn x l
  distinct_mid [] x r d = all_nil
  distinct_mid (y ∷ l) x r (di_cons n d) = all_cons (λ e. last l n (sym e)) (distinct_mid l x r d)
    where
      last : (l : List ℕ) → NotIn y (l ++ (x ∷ r)) → y ≡ x → ⊥
      last [] (all_cons h hs) e = h e
      last (k ∷ l) (all_cons h hs) e = last l hs e

  -- registers for new bindings hold what their symbols stand for
  pub new_match : (σ bs : Bindings 𝓢) (r : List ℕ) → Distinct (symbols_of σ ++ (symbols_of bs ++ r)) → Match (Bound (σ ++ bs)) (map leaf (symbols_of bs)) (symbol_registers bs)
  new_match σ [] r d = match_nil
  new_match σ (b ∷ bs) r d =
      let e : symbols_of (σ ++ (b ∷ [])) ++ (symbols_of bs ++ r) ≡ symbols_of σ ++ (symbols_of (b ∷ bs) ++ r) =
      rw (map_append (λ (c : ℕ × Val). c.0) σ (b ∷ [])) (append_assoc (symbols_of σ) (b.0 ∷ []) (symbols_of bs ++ r)) in
      let q : Match (Bound (σ ++ (b ∷ bs))) (map leaf (symbols_of bs)) (symbol_registers bs) = rw (append_assoc σ (b ∷ []) bs) at (new_match (σ ++ (b ∷ [])) bs r (rw e d)) in
      match_cons (st_leaf (bound_new σ bs b.0 b.1 (distinct_mid (symbols_of σ) b.0 (symbols_of bs ++ r) d))) q

  pub more_match : {σ : Bindings 𝓢} (τ : Bindings 𝓢) {ms : List (Term 𝓢)} {rs : List (Register Val)} → Match (Bound σ) ms rs → Match (Bound (σ ++ τ)) ms rs
  more_match τ m = match_map (λ x v. bound_more τ) m
