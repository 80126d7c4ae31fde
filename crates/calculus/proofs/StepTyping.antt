-- What Figure 2 asks of one step, as wants: a typing of a step and the rest is the step's wants met and a typing of the rest; and a symbol that no term
-- of the step holds keeps its type. Assumes the laws of the kinds.
use mathlib.Core.Path.{◌≡◌, refl}
use mathlib.Core.List.{List, [], ◌∷◌, map}
use mathlib.Core.Logic.{◌⊎◌, inl, inr}
use Prim.Native.Nat.{ℕ}
use native.Mathlib.Decide.{ℕ_discrete}
use Rattle.types.specs.Types.{Basic, Cipher, Pair, pair, cipher}
use Rattle.types.proofs.TypeLaws.{<:_antisym}
use Rattle.calculus.specs.Signature.{Signature, SignatureLaws}
use Rattle.calculus.specs.Terms.{Term, Act, send, receive, fresh, compare, split, decrypt, map_act, operands, binders, bound, Step, Process}
use Rattle.calculus.specs.Tables.{Entry, Closed, meaning}
use Rattle.calculus.specs.Scope.{In, here, there, All, Lacks, Scoped, sc_step}
use Rattle.calculus.specs.Figure2.{◌<:◌ as Sub, ◌⊢◌∶◌ as Has, T-Sub, extend}
use Rattle.calculus.specs.Typing.{Typed, P-Nil, P-Out, P-In, P-Restr, P-Match, P-PSplit, P-ShKD, Below}
use Rattle.calculus.specs.Inference.{Want, want, wants}
use Rattle.calculus.proofs.Lists.{all_split, in_append_left, in_append_right}
use Rattle.calculus.proofs.Environments.{T, Env, sub_refl, sub_trans, extend_same, extend_other, extend_below}
use Rattle.calculus.proofs.Inversion.{has_down, has_agree}
use Rattle.calculus.proofs.StepLaws as step
use Rattle.calculus.proofs.StepLaws.{me_nil, me_cons}

module _ (𝓢 : Signature) where
  -- ── Lists of steps ──
  pub bound_here : {x : ℕ} (s : Step 𝓢) (P : Process 𝓢) → In x (binders 𝓢 s) → In x (bound 𝓢 (s ∷ P))
  unfolding bound
  bound_here s P i = in_append_left (bound 𝓢 P) i

  pub bound_there : {x : ℕ} (s : Step 𝓢) (P : Process 𝓢) → In x (bound 𝓢 P) → In x (bound 𝓢 (s ∷ P))
  unfolding bound
  bound_there s P i = in_append_right (binders 𝓢 s) i

  pub scoped_split : {s : Step 𝓢} {P : Process 𝓢} → Scoped 𝓢 (s ∷ P) → ((x : ℕ) → In x (bound 𝓢 (s ∷ P)) → All (Lacks 𝓢 x) (operands 𝓢 s)) × Scoped 𝓢 P
  scoped_split (sc_step f c) = (f, c)

  -- a narrower environment types the same steps, if it gives what they bind the same types
  pub typed_down : {Γ Δ : Env 𝓢} {P : Process 𝓢} → Below 𝓢 Δ Γ → ((x : ℕ) → In x (bound 𝓢 P) → Δ x ≡ Γ x) → Typed 𝓢 Γ P → Typed 𝓢 Δ P
  unfolding bound binders
  typed_down w e P-Nil = P-Nil
  typed_down w e (P-Out d f t) = P-Out (has_down 𝓢 w d) (has_down 𝓢 w f) (typed_down w e t)
  typed_down w e (P-In d t) = P-In (has_down 𝓢 w d) (typed_down w (λ x i. e x (there i)) t)
  typed_down w e (P-Restr {n = n} l t) = P-Restr (sub_trans 𝓢 (w n) l) (typed_down w (λ x i. e x (there i)) t)
  typed_down w e (P-Match d f t) = P-Match (has_down 𝓢 w d) (has_down 𝓢 w f) (typed_down w e t)
  typed_down {Γ} {Δ} w e (P-PSplit {M = M} {x = x} {y = y} d t) =
      let h : Has 𝓢 Δ M (Pair (Δ x) (Δ y)) = rw (e x here, e y (there here)) (has_down 𝓢 w d) in P-PSplit h (typed_down w (λ x i. e x (there (there i))) t)
  typed_down {Γ} {Δ} w e (P-ShKD {s = s} {M = M} {x = x} d f t) =
      let h : Has 𝓢 Δ M (Cipher (𝓢.former s) (Δ x)) = rw (e x here) (has_down 𝓢 w d) in P-ShKD h (has_down 𝓢 w f) (typed_down w (λ x i. e x (there i)) t)

  module _ (laws : SignatureLaws 𝓢) (es : List (Entry 𝓢 ℕ)) (closed : Closed 𝓢 0 es) where
    abbrev pub entry : ℕ → Entry 𝓢 ℕ
    entry = step.entry 𝓢 laws es closed

    abbrev pub term : ℕ → Term 𝓢
    term = step.term 𝓢 laws es closed

    abbrev pub Met : Env 𝓢 → List (Want 𝓢) → Type 0
    Met = step.Met 𝓢 laws es closed

    -- the step and the process that are meant
    abbrev pub step_of : Act 𝓢 ℕ → Step 𝓢
    step_of s = map_act 𝓢 term s

    abbrev pub rest : List (Act 𝓢 ℕ) → Process 𝓢
    rest ss = meaning 𝓢 es ss

    -- ── What a step wants, by Figure 2 ──

    -- it depends on the types of what the step binds only
    pub wants_local : (s : Act 𝓢 ℕ) (Γ Δ : Env 𝓢) → ((x : ℕ) → In x (binders 𝓢 (step_of s)) → Γ x ≡ Δ x) → wants 𝓢 s Γ ≡ wants 𝓢 s Δ
    unfolding binders wants map_act
    wants_local (send a b) Γ Δ h = refl
    wants_local (receive a x) Γ Δ h = refl
    wants_local (fresh x) Γ Δ h = refl
    wants_local (compare a b) Γ Δ h = refl
    wants_local (split a x y) Γ Δ h = rw (h x here, h y (there here))
    wants_local (decrypt s a b x) Γ Δ h = rw (h x here)

    met_sub : {Δ : Env 𝓢} {i : ℕ} {A B : T 𝓢} {ws : List (Want 𝓢)} → Sub 𝓢 A B → Met Δ (want i A ∷ ws) → Met Δ (want i B ∷ ws)
    met_sub l (me_cons d m) = me_cons (T-Sub d l) m

    -- and is the more the narrower they are
    pub wants_mono : (s : Act 𝓢 ℕ) (Γ Δ : Env 𝓢) → Below 𝓢 Δ Γ → Met Δ (wants 𝓢 s Δ) → Met Δ (wants 𝓢 s Γ)
    unfolding wants
    wants_mono (send a b) Γ Δ w d = d
    wants_mono (receive a x) Γ Δ w d = d
    wants_mono (fresh x) Γ Δ w d = d
    wants_mono (compare a b) Γ Δ w d = d
    wants_mono (split a x y) Γ Δ w d = met_sub (pair (w x) (w y)) d
    wants_mono (decrypt s a b x) Γ Δ w d = met_sub (cipher (w x)) d

    met_one : {Δ : Env 𝓢} {i : ℕ} {A : T 𝓢} → Met Δ (want i A ∷ []) → Has 𝓢 Δ (term i) A
    met_one (me_cons d m) = d

    met_two : {Δ : Env 𝓢} {i j : ℕ} {A B : T 𝓢} → Met Δ (want i A ∷ want j B ∷ []) → Has 𝓢 Δ (term i) A × Has 𝓢 Δ (term j) B
    met_two (me_cons d (me_cons e m)) = (d, e)

    pub typed_split : {Δ : Env 𝓢} {P : Process 𝓢} (s : Act 𝓢 ℕ) → Typed 𝓢 Δ (step_of s ∷ P) → Met Δ (wants 𝓢 s Δ) × Typed 𝓢 Δ P
    unfolding wants map_act
    typed_split (send a b) (P-Out d e t) = (me_cons d (me_cons e me_nil), t)
    typed_split (receive a x) (P-In d t) = (me_cons d me_nil, t)
    typed_split (fresh x) (P-Restr l t) = (me_nil, t)
    typed_split (compare a b) (P-Match d e t) = (me_cons d (me_cons e me_nil), t)
    typed_split (split a x y) (P-PSplit d t) = (me_cons d me_nil, t)
    typed_split (decrypt s a b x) (P-ShKD d e t) = (me_cons d (me_cons e me_nil), t)

    pub typed_join : {Δ : Env 𝓢} {P : Process 𝓢} (s : Act 𝓢 ℕ) → ((x : ℕ) → step_of s ≡ fresh x → Sub 𝓢 (Δ x) (Basic 𝓢.name)) → Met Δ (wants 𝓢 s Δ) → Typed 𝓢 Δ P → Typed 𝓢 Δ (step_of s ∷ P)
    unfolding wants map_act
    typed_join (send a b) n m t = let (d, e) = met_two m in P-Out d e t
    typed_join (receive a x) n m t = P-In (met_one m) t
    typed_join (fresh x) n m t = P-Restr (n x refl) t
    typed_join (compare a b) n m t = let (d, e) = met_two m in P-Match d e t
    typed_join (split a x y) n m t = P-PSplit (met_one m) t
    typed_join (decrypt s a b x) n m t = let (d, e) = met_two m in P-ShKD d e t

    -- ── A symbol that no term of the step holds keeps its type ──
    met_extend : {Γ : Env 𝓢} {x : ℕ} {ws : List (Want 𝓢)} (B : T 𝓢) → Met Γ ws → All (Lacks 𝓢 x) (map term (step.indexes 𝓢 laws es closed ws)) → Met (extend 𝓢 Γ x B) ws
    unfolding step.indexes
    met_extend B me_nil f = me_nil
    met_extend {Γ} {x} B (me_cons {i = i} d m) f = me_cons (has_agree 𝓢 (λ y. go y (ℕ_discrete x y)) d) (met_extend B m (all_split f).1)
      where
        go : (y : ℕ) → Dec (x ≡ y) → Lacks 𝓢 y (term i) ⊎ (extend 𝓢 Γ x B y ≡ Γ y)
        go y (yes e) = inl (rw e at (all_split f).0)
        go y (no n) = inr (extend_other 𝓢 Γ x y B n)

    pub operands_map : (s : Act 𝓢 ℕ) (Γ : Env 𝓢) → operands 𝓢 (step_of s) ≡ map term (step.indexes 𝓢 laws es closed (wants 𝓢 s Γ))
    unfolding operands map_act wants step.indexes
    operands_map (send a b) Γ = refl
    operands_map (receive a x) Γ = refl
    operands_map (fresh x) Γ = refl
    operands_map (compare a b) Γ = refl
    operands_map (split a x y) Γ = refl
    operands_map (decrypt s a b x) Γ = refl

    pub frame : {Γ Θ : Env 𝓢} {ws : List (Want 𝓢)} {x : ℕ} → Below 𝓢 Θ Γ → Met Θ ws → ((Δ : Env 𝓢) → Below 𝓢 Δ Γ → Met Δ ws → Below 𝓢 Δ Θ)
        → All (Lacks 𝓢 x) (map term (step.indexes 𝓢 laws es closed ws)) → Θ x ≡ Γ x
    frame {Γ} {Θ} {x = x} w d m f = <:_antisym 𝓢.types laws.falls (w x)
        (rw (extend_same 𝓢 Θ x (Γ x)) at (m (extend 𝓢 Θ x (Γ x)) (extend_below 𝓢 (sub_refl 𝓢 (Γ x)) (λ y n. w y)) (met_extend (Γ x) d f) x))

    -- a step that means a restriction is one
    pub is_fresh_lem : (s : Act 𝓢 ℕ) (x : ℕ) → step_of s ≡ fresh x → s ≡ fresh x
    unfolding map_act
    is_fresh_lem (send a b) x e = cc
    is_fresh_lem (receive a y) x e = cc
    is_fresh_lem (fresh y) x e = cc
    is_fresh_lem (compare a b) x e = cc
    is_fresh_lem (split a y z) x e = cc
    is_fresh_lem (decrypt s a b y) x e = cc
