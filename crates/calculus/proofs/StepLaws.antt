-- One step of the inference: the wants of a step, and the needs of what stands in it, give the widest environment in which the step's terms have
-- the types that Figure 2 wants. Assumes the laws of the kinds.
use mathlib.Core.Path.{◌≡◌, refl}
use mathlib.Core.Bool.{Bool, true, false}
use mathlib.Core.List.{List, [], ◌∷◌}
use Prim.Native.Nat.{ℕ, zero, suc, ◌<◌}
use native.Mathlib.Decide.{ℕ_discrete}
use native.Mathlib.Omega.{arith}
use Rattle.types.specs.Types.{Basic, meet}
use Rattle.calculus.specs.Signature.{Signature, SignatureLaws, Two, pairing, seal}
use Rattle.calculus.specs.Terms.{Term, one, two, build1, build2, Act, send, receive, fresh, compare, split, decrypt, operands}
use Rattle.calculus.specs.Tables.{Entry, leaf_entry, kind_entry, Closed}
use Rattle.calculus.specs.Scope.{In, here, there}
use Rattle.calculus.specs.Figure2.{◌⊢◌∶◌ as Has}
use Rattle.calculus.specs.Inference.{Want, want, wants, needs, standing, needs_at, needs_of, at_step}
use Rattle.calculus.proofs.TableLaws.{denoted_leaf, denoted_one, denoted_two, lower_all}
use Rattle.calculus.proofs.Environments.{T, Env, Best, best_free, best_and, best_iff}
use Rattle.calculus.proofs.Inversion.{Shape, Keyed, ke_symbol, ke_one, ke_pair, ke_seal, has_shape, shape_has}
use Rattle.calculus.proofs.PushLaws as push
use Rattle.calculus.proofs.PushLaws.{sd_nil, sd_cons}
use Rattle.calculus.proofs.Standing.{Names, na_one, na_left, na_right, names_lower, Inside, in_self, in_part, marked_stands, stands_marked}

module _ (𝓢 : Signature) (laws : SignatureLaws 𝓢) (es : List (Entry 𝓢 ℕ)) (closed : Closed 𝓢 0 es) where
  open 𝓢 use {types, One, part, Seal, sealing}

  abbrev E : Type 0
  E = Entry 𝓢 ℕ

  abbrev pub entry : ℕ → E
  entry = push.entry 𝓢 laws es closed

  abbrev pub term : ℕ → Term 𝓢
  term = push.term 𝓢 laws es closed

  abbrev pub Shaped : Env 𝓢 → List (Want 𝓢) → Type 0
  Shaped = push.Shaped 𝓢 laws es closed

  -- what an entry wants of its own parts is met
  abbrev pub InnerMet : Env 𝓢 → ℕ → Type 0
  InnerMet Δ u = Shaped Δ (needs 𝓢 (entry u))

  -- ── The needs inside a term are those of the entries inside it ──
  one_keyed : {Γ : Env 𝓢} {k : One} {M : Term 𝓢} → Keyed 𝓢 Γ (one k M) → Keyed 𝓢 Γ M × Shape 𝓢 Γ M (part k)
  one_keyed (ke_one p s) = (p, s)

  two_keyed : {Γ : Env 𝓢} (k : Two Seal) {M N : Term 𝓢} → Keyed 𝓢 Γ (two k M N) → Keyed 𝓢 Γ M × Keyed 𝓢 Γ N
  two_keyed pairing (ke_pair p q) = (p, q)
  two_keyed (seal s) (ke_seal p q r) = (p, q)

  seal_keyed : {Γ : Env 𝓢} {s : Seal} {M N : Term 𝓢} → Keyed 𝓢 Γ (two (seal s) M N) → Shape 𝓢 Γ N (Basic (sealing s))
  seal_keyed (ke_seal p q r) = r

  keyed_self : {Δ : Env 𝓢} (t : ℕ) (e : E) → entry t ≡ e → Keyed 𝓢 Δ (term t) → Shaped Δ (needs 𝓢 e)
  unfolding needs
  keyed_self t (leaf_entry x) q k = sd_nil
  keyed_self t (kind_entry (build1 c i)) q k = sd_cons (one_keyed (rw (denoted_one 𝓢 0 es closed t q) at k)).1 sd_nil
  keyed_self t (kind_entry (build2 pairing i j)) q k = sd_nil
  keyed_self t (kind_entry (build2 (seal s) i j)) q k = sd_cons (seal_keyed (rw (denoted_two 𝓢 0 es closed t q) at k)) sd_nil

  keyed_part : {Δ : Env 𝓢} {i : ℕ} (t : ℕ) {e : E} → entry t ≡ e → Names 𝓢 i e → Keyed 𝓢 Δ (term t) → Keyed 𝓢 Δ (term i)
  keyed_part t q na_one k = (one_keyed (rw (denoted_one 𝓢 0 es closed t q) at k)).0
  keyed_part t q (na_left {k = c}) k = (two_keyed c (rw (denoted_two 𝓢 0 es closed t q) at k)).0
  keyed_part t q (na_right {k = c}) k = (two_keyed c (rw (denoted_two 𝓢 0 es closed t q) at k)).1

  keyed_in : {Δ : Env 𝓢} {t u : ℕ} → Keyed 𝓢 Δ (term t) → Inside 𝓢 es closed t u → InnerMet Δ u
  keyed_in {t = t} k in_self = keyed_self t (entry t) refl k
  keyed_in k (in_part {t = t} q r) = keyed_in (keyed_part t refl q k) r

  keyed_of : {Δ : Env 𝓢} (n t : ℕ) → t < n → ((u : ℕ) → Inside 𝓢 es closed t u → InnerMet Δ u) → Keyed 𝓢 Δ (term t)
  unfolding needs
  keyed_of zero t l h = absurd (omega arith)
  keyed_of {Δ} (suc n) t l h = go (entry t) refl (h t in_self) (λ i q. keyed_of n i (let a = names_lower 𝓢 q (lower_all 𝓢 0 es closed t) in omega arith) (λ u r. h u (in_part q r)))
    where
      go : (e : E) → entry t ≡ e → Shaped Δ (needs 𝓢 e) → ((i : ℕ) → Names 𝓢 i (entry t) → Keyed 𝓢 Δ (term i)) → Keyed 𝓢 Δ (term t)
      go (leaf_entry x) q s r = rw (denoted_leaf 𝓢 0 es closed t q) ke_symbol
      go (kind_entry (build1 k i)) q s r = rw (denoted_one 𝓢 0 es closed t q) (ke_one (r i (rw q na_one)) (push.shaped_split 𝓢 laws es closed s).0)
      go (kind_entry (build2 pairing i j)) q s r = rw (denoted_two 𝓢 0 es closed t q) (ke_pair (r i (rw q na_left)) (r j (rw q na_right)))
      go (kind_entry (build2 (seal c) i j)) q s r = rw (denoted_two 𝓢 0 es closed t q) (ke_seal (r i (rw q na_left)) (r j (rw q na_right)) (push.shaped_split 𝓢 laws es closed s).0)

  -- ── Wants that are met by Figure 2's rules ──
  pub data Met (Δ : Env 𝓢) : List (Want 𝓢) → Type 0 where
    me_nil : Met Δ []
    me_cons : {i : ℕ} {A : T 𝓢} {ws : List (Want 𝓢)} → Has 𝓢 Δ (term i) A → Met Δ ws → Met Δ (want i A ∷ ws)

  unfoldable pub indexes : List (Want 𝓢) → List ℕ
  indexes [] = []
  indexes (want i A ∷ ws) = i ∷ indexes ws

  pub indexes_are : (s : Act 𝓢 ℕ) (Γ : Env 𝓢) → indexes (wants 𝓢 s Γ) ≡ operands 𝓢 s
  unfolding indexes wants operands
  indexes_are (send a b) Γ = refl
  indexes_are (receive a x) Γ = refl
  indexes_are (fresh x) Γ = refl
  indexes_are (compare a b) Γ = refl
  indexes_are (split a x y) Γ = refl
  indexes_are (decrypt s a b x) Γ = refl

  in_operands : (s : Act 𝓢 ℕ) (Γ : Env 𝓢) {t : ℕ} → In t (indexes (wants 𝓢 s Γ)) → In t (operands 𝓢 s)
  in_operands s Γ i = rw (indexes_are s Γ) at i

  in_indexes : (s : Act 𝓢 ℕ) (Γ : Env 𝓢) {t : ℕ} → In t (operands 𝓢 s) → In t (indexes (wants 𝓢 s Γ))
  in_indexes s Γ i = rw (indexes_are s Γ) i

  met_shaped : {Δ : Env 𝓢} {ws : List (Want 𝓢)} → Met Δ ws → Shaped Δ ws
  met_shaped me_nil = sd_nil
  met_shaped (me_cons d m) = sd_cons (has_shape 𝓢 d).1 (met_shaped m)

  met_inner : {Δ : Env 𝓢} {ws : List (Want 𝓢)} → Met Δ ws → (u t : ℕ) → In t (indexes ws) → Inside 𝓢 es closed t u → InnerMet Δ u
  unfolding indexes
  met_inner me_nil u t i r = elim i [ ]
  met_inner (me_cons d m) u t here r = keyed_in (has_shape 𝓢 d).0 r
  met_inner (me_cons d m) u t (there i) r = met_inner m u t i r

  shaped_met : {Δ : Env 𝓢} {ws : List (Want 𝓢)} → Shaped Δ ws → ((u t : ℕ) → In t (indexes ws) → Inside 𝓢 es closed t u → InnerMet Δ u) → Met Δ ws
  unfolding indexes
  shaped_met sd_nil h = me_nil
  shaped_met (sd_cons {i = i} p q) h = me_cons (shape_has 𝓢 (keyed_of (suc i) i (omega arith) (λ u r. h u i here r)) p) (shaped_met q (λ u t j r. h u t (there j) r))

  -- ── The needs of the marked entries ──
  pub needs_at_is : (b : Bool) (e : E) (Γ : Env 𝓢) → Best 𝓢 (λ Δ. b ≡ true → Shaped Δ (needs 𝓢 e)) Γ (needs_at 𝓢 (meet types) entry b e Γ)
  unfolding needs_at
  needs_at_is false e Γ = best_free 𝓢 Γ (λ Δ z. absurd (let y : ◌≡◌ {A = ℕ} 0 1 = cc in omega arith))
  needs_at_is true e Γ = best_iff 𝓢 (λ Δ w p z. p) (λ Δ w p. p refl) (push.push_all_is 𝓢 laws es closed (needs 𝓢 e) Γ)

  -- the first n of the marked entries have what they need
  abbrev pub InnerAll : (ℕ → Bool) → ℕ → Env 𝓢 → Type 0
  InnerAll m n Δ = (u : ℕ) → u < n → m u ≡ true → InnerMet Δ u

  inner_join : (m : ℕ → Bool) (n : ℕ) (Δ : Env 𝓢) → InnerAll m n Δ → (m n ≡ true → InnerMet Δ n) → InnerAll m (suc n) Δ
  inner_join m n Δ h k u l e = go (ℕ_discrete n u)
    where
      go : Dec (n ≡ u) → InnerMet Δ u
      go (yes q) = rw q at (k (rw (← q) at e))
      go (no q) = h u (omega arith) e

  pub needs_of_is : (m : ℕ → Bool) (n : ℕ) (Γ : Env 𝓢) → Best 𝓢 (InnerAll m n) Γ (needs_of 𝓢 (meet types) entry m n Γ)
  unfolding needs_of
  needs_of_is m zero Γ = best_free 𝓢 Γ (λ Δ u l e. absurd (omega arith))
  needs_of_is m (suc n) Γ = best_iff 𝓢 (λ Δ w p. inner_join m n Δ p.0 p.1) (λ Δ w p. (λ u l e. p u (omega arith) e, λ e. p n (omega arith) e))
      (best_and 𝓢 (λ Γ Δ w p u l e. push.shaped_down 𝓢 laws es closed w (p u l e)) (needs_of_is m n Γ) (λ Θ. needs_at_is (m n) (entry n) Θ))

  -- ── A step ──
  pub at_step_is : (n : ℕ) (s : Act 𝓢 ℕ) (Γ : Env 𝓢) → ((t : ℕ) → In t (operands 𝓢 s) → t < n) → Best 𝓢 (λ Δ. Met Δ (wants 𝓢 s Γ)) Γ (at_step 𝓢 (meet types) entry n s Γ)
  unfolding at_step
  at_step_is n s Γ small = best_iff 𝓢
      (λ Δ w p. shaped_met p.0 (λ u t i r. let (l, e) = stands_marked 𝓢 es closed n (operands 𝓢 s) small u (t, in_operands s Γ i, r) in p.1 u l e))
      (λ Δ w d. (met_shaped d, λ u l e. let (t, i, r) = marked_stands 𝓢 es closed n (operands 𝓢 s) u e in met_inner d u t (in_indexes s Γ i) r))
      (best_and 𝓢 (λ Γ Δ w p. push.shaped_down 𝓢 laws es closed w p) (push.push_all_is 𝓢 laws es closed (wants 𝓢 s Γ) Γ) (λ Θ. needs_of_is (standing 𝓢 entry n s) n Θ))
