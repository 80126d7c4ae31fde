-- A wanted type pushed down an entry gives the widest environment in which the entry has the type's shape. Assumes the laws of the kinds.
use mathlib.Core.Path.{◌≡◌, refl}
use mathlib.Core.Bool.{Bool, true, false, cond, decide}
use mathlib.Core.Option.{Option, none, some, bind}
use mathlib.Core.List.{List, [], ◌∷◌}
use Prim.Native.Nat.{ℕ}
use native.Mathlib.Omega.{arith}
use Rattle.types.specs.Forest.{Under, under}
use Rattle.types.specs.Types.{Message, Basic, Cipher, Pair, top, meet}
use Rattle.types.proofs.ForestLaws.{under_decided}
use Rattle.types.proofs.TypeLaws.{meet_is_greatest}
use Rattle.calculus.specs.Signature.{Signature, SignatureLaws, Two, pairing, seal}
use Rattle.calculus.specs.Terms.{Term, leaf, one, two, build1, build2}
use Rattle.calculus.specs.Tables.{Entry, leaf_entry, kind_entry, entry_at, denoted, Closed}
use Rattle.calculus.specs.Figure2.{◌<:◌ as Sub}
use Rattle.calculus.specs.Typing.{Below}
use Rattle.calculus.specs.Inference.{Want, want, by_entry, lowered, push, push_all}
use Rattle.calculus.proofs.TableLaws.{denoted_leaf, denoted_one, denoted_two}
use Rattle.calculus.proofs.Environments.{T, Env, Best, stuck, best_free, best_and, best_iff, best_lowered}
use Rattle.calculus.proofs.Inversion.{Shape, sh_message, sh_symbol, sh_one, sh_pair, sh_seal, shape_down}

module _ (𝓢 : Signature) where
  open 𝓢 use {types, One, result, Seal, former}

  -- ── What a shape says of each kind of term ──
  symbol_in : {Γ : Env 𝓢} {x : ℕ} {A : T 𝓢} → Shape 𝓢 Γ (leaf x) A → Sub 𝓢 (Γ x) A
  symbol_in sh_message = top
  symbol_in (sh_symbol l) = l

  pair_in : {Γ : Env 𝓢} {M N : Term 𝓢} {A B : T 𝓢} → Shape 𝓢 Γ (two pairing M N) (Pair A B) → Shape 𝓢 Γ M A × Shape 𝓢 Γ N B
  pair_in (sh_pair p q) = (p, q)

  seal_in : {Γ : Env 𝓢} {s : Seal} {M N : Term 𝓢} {u : types.Former} {A : T 𝓢} → Shape 𝓢 Γ (two (seal s) M N) (Cipher u A) → (former s ≡ u) × Shape 𝓢 Γ M A
  seal_in (sh_seal e p) = (e, p)

  one_in : {Γ : Env 𝓢} {k : One} {M : Term 𝓢} {l : types.forest.Base} → Shape 𝓢 Γ (one k M) (Basic l) → Under types.forest (result k) l
  one_in (sh_one u) = u

  one_cipher : {Γ : Env 𝓢} {k : One} {M : Term 𝓢} {u : types.Former} {A : T 𝓢} → Shape 𝓢 Γ (one k M) (Cipher u A) → ⊥
  one_cipher p = elim p [ ]

  one_pair : {Γ : Env 𝓢} {k : One} {M : Term 𝓢} {A B : T 𝓢} → Shape 𝓢 Γ (one k M) (Pair A B) → ⊥
  one_pair p = elim p [ ]

  two_basic : {Γ : Env 𝓢} (k : Two Seal) {M N : Term 𝓢} {l : types.forest.Base} → Shape 𝓢 Γ (two k M N) (Basic l) → ⊥
  two_basic pairing p = elim p [ ]
  two_basic (seal s) p = elim p [ ]

  pair_cipher : {Γ : Env 𝓢} {M N : Term 𝓢} {u : types.Former} {A : T 𝓢} → Shape 𝓢 Γ (two pairing M N) (Cipher u A) → ⊥
  pair_cipher p = elim p [ ]

  seal_pair : {Γ : Env 𝓢} {s : Seal} {M N : Term 𝓢} {A B : T 𝓢} → Shape 𝓢 Γ (two (seal s) M N) (Pair A B) → ⊥
  seal_pair p = elim p [ ]

  module _ (laws : SignatureLaws 𝓢) (es : List (Entry 𝓢 ℕ)) (closed : Closed 𝓢 0 es) where
    abbrev E : Type 0
    E = Entry 𝓢 ℕ

    -- entry i, and its term
    abbrev pub entry : ℕ → E
    entry = entry_at 𝓢 0 es

    abbrev pub term : ℕ → Term 𝓢
    term = denoted 𝓢 0 es

    abbrev pub pushed : T 𝓢 → ℕ → Env 𝓢 → Option (Env 𝓢)
    pushed = push 𝓢 (meet types) entry

    abbrev low : T 𝓢 → Env 𝓢 → ℕ → Option (Env 𝓢)
    low = lowered 𝓢 (meet types) entry

    abbrev Gives : ℕ → T 𝓢 → Env 𝓢 → Option (Env 𝓢) → Type 0
    Gives i A Γ o = Best 𝓢 (λ Δ. Shape 𝓢 Δ (term i) A) Γ o

    as_term : (i : ℕ) (M : Term 𝓢) (A : T 𝓢) {Γ : Env 𝓢} {o : Option (Env 𝓢)} → term i ≡ M → Best 𝓢 (λ Δ. Shape 𝓢 Δ M A) Γ o → Gives i A Γ o
    as_term i M A e b = rw e b

    symbol_is : (i x : ℕ) (A : T 𝓢) (Γ : Env 𝓢) → entry i ≡ leaf_entry x → Gives i A Γ (low A Γ x)
    symbol_is i x A Γ q = as_term i (leaf x) A (denoted_leaf 𝓢 0 es closed i q)
        (best_iff 𝓢 (λ Δ w p. sh_symbol p) (λ Δ w p. symbol_in p) (best_lowered 𝓢 Γ x A (meet_is_greatest types laws.falls (Γ x) A)))

    one_is : (i a : ℕ) (k : One) (A : T 𝓢) {Γ : Env 𝓢} {o : Option (Env 𝓢)} → entry i ≡ kind_entry (build1 k a) → Best 𝓢 (λ Δ. Shape 𝓢 Δ (one k (term a)) A) Γ o → Gives i A Γ o
    one_is i a k A q b = as_term i (one k (term a)) A (denoted_one 𝓢 0 es closed i q) b

    two_is : (i a c : ℕ) (k : Two Seal) (A : T 𝓢) {Γ : Env 𝓢} {o : Option (Env 𝓢)} → entry i ≡ kind_entry (build2 k a c) → Best 𝓢 (λ Δ. Shape 𝓢 Δ (two k (term a) (term c)) A) Γ o → Gives i A Γ o
    two_is i a c k A q b = as_term i (two k (term a) (term c)) A (denoted_two 𝓢 0 es closed i q) b

    cond_is : {P : Env 𝓢 → Type 0} {Q : Type 0} (Γ : Env 𝓢) (b : Bool) → ((b ≡ true → Q) × (Q → b ≡ true)) → (Q → (Δ : Env 𝓢) → P Δ) → ((Δ : Env 𝓢) → P Δ → Q) → Best 𝓢 P Γ (cond b (some Γ) none)
    cond_is Γ true d f g = best_free 𝓢 Γ (f (d.0 refl))
    cond_is Γ false d f g = stuck λ Δ w p. let z : false ≡ true = d.1 (g Δ p) in let y : ◌≡◌ {A = ℕ} 0 1 = cc in omega arith

    same_is : {P Q : Env 𝓢 → Type 0} {R : Type 0} {Γ : Env 𝓢} {o : Option (Env 𝓢)} (d : Dec R) → Best 𝓢 Q Γ o → (R → (Δ : Env 𝓢) → Q Δ → P Δ) → ((Δ : Env 𝓢) → P Δ → R × Q Δ) → Best 𝓢 P Γ (cond (decide d) o none)
    unfolding decide
    same_is (yes e) b f g = best_iff 𝓢 (λ Δ w q. f e Δ q) (λ Δ w p. (g Δ p).1) b
    same_is (no n) b f g = stuck λ Δ w p. n (g Δ p).0

    pub push_is : (A : T 𝓢) (i : ℕ) (Γ : Env 𝓢) → Best 𝓢 (λ Δ. Shape 𝓢 Δ (term i) A) Γ (pushed A i Γ)
    unfolding push by_entry
    push_is Message i Γ = best_free 𝓢 Γ (λ Δ. sh_message)
    push_is (Basic l) i Γ = go (entry i) refl
      where
        go : (e : E) → entry i ≡ e → Gives i (Basic l) Γ (by_entry 𝓢 e (low (Basic l) Γ) (λ k. cond (under types.forest (result k) l) (some Γ) none) (λ a b. none) (λ s a. none))
        go (leaf_entry x) q = symbol_is i x (Basic l) Γ q
        go (kind_entry (build1 k a)) q = one_is i a k (Basic l) q
            (cond_is Γ (under types.forest (result k) l) (under_decided types.forest laws.falls (result k) l) (λ u Δ. sh_one u) (λ Δ p. one_in p))
        go (kind_entry (build2 pairing a b)) q = two_is i a b pairing (Basic l) q (stuck λ Δ w p. two_basic pairing p)
        go (kind_entry (build2 (seal s) a b)) q = two_is i a b (seal s) (Basic l) q (stuck λ Δ w p. two_basic (seal s) p)
    push_is (Cipher u A) i Γ = go (entry i) refl (λ a. push_is A a Γ)
      where
        go : (e : E) → entry i ≡ e → ((a : ℕ) → Gives a A Γ (pushed A a Γ))
            → Gives i (Cipher u A) Γ (by_entry 𝓢 e (low (Cipher u A) Γ) (λ k. none) (λ a b. none) (λ s a. cond (decide (types.same_former (former s) u)) (pushed A a Γ) none))
        go (leaf_entry x) q h = symbol_is i x (Cipher u A) Γ q
        go (kind_entry (build1 k a)) q h = one_is i a k (Cipher u A) q (stuck λ Δ w p. one_cipher p)
        go (kind_entry (build2 pairing a b)) q h = two_is i a b pairing (Cipher u A) q (stuck λ Δ w p. pair_cipher p)
        go (kind_entry (build2 (seal s) a b)) q h = two_is i a b (seal s) (Cipher u A) q (same_is (types.same_former (former s) u) (h a) (λ e Δ p. sh_seal e p) (λ Δ p. seal_in p))
    push_is (Pair A B) i Γ = go (entry i) refl (λ a. push_is A a Γ) (λ b Θ. push_is B b Θ)
      where
        go : (e : E) → entry i ≡ e → ((a : ℕ) → Gives a A Γ (pushed A a Γ)) → ((b : ℕ) (Θ : Env 𝓢) → Gives b B Θ (pushed B b Θ))
            → Gives i (Pair A B) Γ (by_entry 𝓢 e (low (Pair A B) Γ) (λ k. none) (λ a b. bind (pushed A a Γ) (λ Θ. pushed B b Θ)) (λ s a. none))
        go (leaf_entry x) q h g = symbol_is i x (Pair A B) Γ q
        go (kind_entry (build1 k a)) q h g = one_is i a k (Pair A B) q (stuck λ Δ w p. one_pair p)
        go (kind_entry (build2 pairing a b)) q h g = two_is i a b pairing (Pair A B) q
            (best_iff 𝓢 (λ Δ w p. sh_pair p.0 p.1) (λ Δ w p. pair_in p) (best_and 𝓢 (λ Γ Δ w p. shape_down 𝓢 w p) (h a) (λ Θ. g b Θ)))
        go (kind_entry (build2 (seal s) a b)) q h g = two_is i a b (seal s) (Pair A B) q (stuck λ Δ w p. seal_pair p)

    -- ── Several wants ──
    pub data Shaped (Δ : Env 𝓢) : List (Want 𝓢) → Type 0 where
      sd_nil : Shaped Δ []
      sd_cons : {i : ℕ} {A : T 𝓢} {ws : List (Want 𝓢)} → Shape 𝓢 Δ (term i) A → Shaped Δ ws → Shaped Δ (want i A ∷ ws)

    pub shaped_split : {Δ : Env 𝓢} {i : ℕ} {A : T 𝓢} {ws : List (Want 𝓢)} → Shaped Δ (want i A ∷ ws) → Shape 𝓢 Δ (term i) A × Shaped Δ ws
    shaped_split (sd_cons p q) = (p, q)

    pub shaped_down : {Γ Δ : Env 𝓢} {ws : List (Want 𝓢)} → Below 𝓢 Δ Γ → Shaped Γ ws → Shaped Δ ws
    shaped_down w sd_nil = sd_nil
    shaped_down w (sd_cons p q) = sd_cons (shape_down 𝓢 w p) (shaped_down w q)

    pub push_all_is : (ws : List (Want 𝓢)) (Γ : Env 𝓢) → Best 𝓢 (λ Δ. Shaped Δ ws) Γ (push_all 𝓢 (meet types) entry ws Γ)
    unfolding push_all
    push_all_is [] Γ = best_free 𝓢 Γ (λ Δ. sd_nil)
    push_all_is (want i A ∷ ws) Γ = best_iff 𝓢 (λ Δ z p. sd_cons p.0 p.1) (λ Δ z d. shaped_split d)
        (best_and 𝓢 (λ Γ Δ w p. shape_down 𝓢 w p) (push_is A i Γ) (λ Θ. push_all_is ws Θ))
