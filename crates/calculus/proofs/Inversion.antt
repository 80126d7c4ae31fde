-- Figure 2 on terms, split in two: a term has a type exactly if the needs inside it are met and it has the type's shape. Assumes nothing.
use mathlib.Core.Path.{◌≡◌, refl}
use mathlib.Core.Logic.{◌⊎◌, inl, inr}
use Prim.Native.Nat.{ℕ}
use Rattle.types.specs.Forest.{Under, u_same}
use Rattle.types.specs.Types.{Message, Basic, Cipher, Pair, top, basic, cipher, pair}
use Rattle.types.proofs.ForestLaws.{under_trans}
use Rattle.calculus.specs.Signature.{Signature, Two, pairing, seal}
use Rattle.calculus.specs.Terms.{Term, leaf, one, two}
use Rattle.calculus.specs.Scope.{Lacks, la_symbol, la_one, la_two}
use Rattle.calculus.specs.Figure2.{◌<:◌ as Sub, ◌⊢◌∶◌ as Has, T-Var, T-Pair, T-ShKC, T-One, T-Sub}
use Rattle.calculus.specs.Typing.{Below}
use Rattle.calculus.proofs.Environments.{T, Env, sub_refl, sub_trans}

module _ (𝓢 : Signature) where
  open 𝓢 use {types, One, part, result, Seal, former, sealing}

  -- nothing is said of what Message hides, nor of keys
  pub data Shape (Γ : Env 𝓢) : Term 𝓢 → T 𝓢 → Type 0 where
    sh_message : {M : Term 𝓢} → Shape Γ M Message
    sh_symbol : {x : ℕ} {A : T 𝓢} → Sub 𝓢 (Γ x) A → Shape Γ (leaf x) A
    sh_one : {k : One} {M : Term 𝓢} {l : types.forest.Base} → Under types.forest (result k) l → Shape Γ (one k M) (Basic l)
    sh_pair : {M N : Term 𝓢} {A B : T 𝓢} → Shape Γ M A → Shape Γ N B → Shape Γ (two pairing M N) (Pair A B)
    sh_seal : {s : Seal} {u : types.Former} {M K : Term 𝓢} {A : T 𝓢} → former s ≡ u → Shape Γ M A → Shape Γ (two (seal s) M K) (Cipher u A)

  -- every kind inside a term has the parts that it needs
  pub data Keyed (Γ : Env 𝓢) : Term 𝓢 → Type 0 where
    ke_symbol : {x : ℕ} → Keyed Γ (leaf x)
    ke_one : {k : One} {M : Term 𝓢} → Keyed Γ M → Shape Γ M (part k) → Keyed Γ (one k M)
    ke_pair : {M N : Term 𝓢} → Keyed Γ M → Keyed Γ N → Keyed Γ (two pairing M N)
    ke_seal : {s : Seal} {M K : Term 𝓢} → Keyed Γ M → Keyed Γ K → Shape Γ K (Basic (sealing s)) → Keyed Γ (two (seal s) M K)

  pub shape_sub : {Γ : Env 𝓢} {M : Term 𝓢} {A B : T 𝓢} → Shape Γ M A → Sub 𝓢 A B → Shape Γ M B
  shape_sub sh_message top = sh_message
  shape_sub (sh_symbol l) m = sh_symbol (sub_trans 𝓢 l m)
  shape_sub (sh_one u) top = sh_message
  shape_sub (sh_one u) (basic l) = sh_one (under_trans types.forest u l)
  shape_sub (sh_pair p q) top = sh_message
  shape_sub (sh_pair p q) (pair l m) = sh_pair (shape_sub p l) (shape_sub q m)
  shape_sub (sh_seal e p) top = sh_message
  shape_sub (sh_seal e p) (cipher l) = sh_seal e (shape_sub p l)

  pub shape_down : {Γ Δ : Env 𝓢} {M : Term 𝓢} {A : T 𝓢} → Below 𝓢 Δ Γ → Shape Γ M A → Shape Δ M A
  shape_down w sh_message = sh_message
  shape_down w (sh_symbol {x = x} l) = sh_symbol (sub_trans 𝓢 (w x) l)
  shape_down w (sh_one u) = sh_one u
  shape_down w (sh_pair p q) = sh_pair (shape_down w p) (shape_down w q)
  shape_down w (sh_seal e p) = sh_seal e (shape_down w p)

  pub has_shape : {Γ : Env 𝓢} {M : Term 𝓢} {A : T 𝓢} → Has 𝓢 Γ M A → Keyed Γ M × Shape Γ M A
  has_shape {Γ} (T-Var {x = x}) = (ke_symbol, sh_symbol (sub_refl 𝓢 (Γ x)))
  has_shape (T-Pair d e) = let (p, s) = has_shape d in let (q, t) = has_shape e in (ke_pair p q, sh_pair s t)
  has_shape (T-ShKC d e) = let (p, s) = has_shape d in let (q, t) = has_shape e in (ke_seal p q t, sh_seal refl s)
  has_shape (T-One d) = let (p, s) = has_shape d in (ke_one p s, sh_one u_same)
  has_shape (T-Sub d l) = let (p, s) = has_shape d in (p, shape_sub s l)

  seal_has : {Γ : Env 𝓢} {s : Seal} {u : types.Former} {M K : Term 𝓢} {A : T 𝓢} → former s ≡ u → Has 𝓢 Γ (two (seal s) M K) (Cipher (former s) A) → Has 𝓢 Γ (two (seal s) M K) (Cipher u A)
  seal_has e d = rw e at d

  pub shape_has : {Γ : Env 𝓢} {M : Term 𝓢} {A : T 𝓢} → Keyed Γ M → Shape Γ M A → Has 𝓢 Γ M A
  shape_has ke_symbol sh_message = T-Sub T-Var top
  shape_has ke_symbol (sh_symbol l) = T-Sub T-Var l
  shape_has (ke_one p s) sh_message = T-Sub (T-One (shape_has p s)) top
  shape_has (ke_one p s) (sh_one u) = T-Sub (T-One (shape_has p s)) (basic u)
  shape_has (ke_pair p q) sh_message = T-Sub (T-Pair (shape_has p sh_message) (shape_has q sh_message)) top
  shape_has (ke_pair p q) (sh_pair s t) = T-Pair (shape_has p s) (shape_has q t)
  shape_has (ke_seal p q k) sh_message = T-Sub (T-ShKC (shape_has p sh_message) (shape_has q k)) top
  shape_has (ke_seal p q k) (sh_seal e s) = seal_has e (T-ShKC (shape_has p s) (shape_has q k))

  -- ── Other environments ──

  -- a narrower environment types at least as much
  pub has_down : {Γ Δ : Env 𝓢} {M : Term 𝓢} {A : T 𝓢} → Below 𝓢 Δ Γ → Has 𝓢 Γ M A → Has 𝓢 Δ M A
  has_down w (T-Var {x = x}) = T-Sub T-Var (w x)
  has_down w (T-Pair d e) = T-Pair (has_down w d) (has_down w e)
  has_down w (T-ShKC d e) = T-ShKC (has_down w d) (has_down w e)
  has_down w (T-One d) = T-One (has_down w d)
  has_down w (T-Sub d l) = T-Sub (has_down w d) l

  -- what a term lacks, its parts lack
  pub lacks_itself : {x : ℕ} → Lacks 𝓢 x (leaf x) → ⊥
  lacks_itself (la_symbol n) = n refl

  pub lacks_part : {x : ℕ} {k : One} {M : Term 𝓢} → Lacks 𝓢 x (one k M) → Lacks 𝓢 x M
  lacks_part (la_one l) = l

  pub lacks_left : {x : ℕ} {k : Two Seal} {M N : Term 𝓢} → Lacks 𝓢 x (two k M N) → Lacks 𝓢 x M
  lacks_left (la_two l r) = l

  pub lacks_right : {x : ℕ} {k : Two Seal} {M N : Term 𝓢} → Lacks 𝓢 x (two k M N) → Lacks 𝓢 x N
  lacks_right (la_two l r) = r

  one_lacks : {k : One} {M : Term 𝓢} {A : Type 0} {y : ℕ} → Lacks 𝓢 y (one k M) ⊎ A → Lacks 𝓢 y M ⊎ A
  one_lacks (inl f) = inl (lacks_part f)
  one_lacks (inr a) = inr a

  left_lacks : {k : Two Seal} {M N : Term 𝓢} {A : Type 0} {y : ℕ} → Lacks 𝓢 y (two k M N) ⊎ A → Lacks 𝓢 y M ⊎ A
  left_lacks (inl f) = inl (lacks_left f)
  left_lacks (inr a) = inr a

  right_lacks : {k : Two Seal} {M N : Term 𝓢} {A : Type 0} {y : ℕ} → Lacks 𝓢 y (two k M N) ⊎ A → Lacks 𝓢 y N ⊎ A
  right_lacks (inl f) = inl (lacks_right f)
  right_lacks (inr a) = inr a

  -- only the symbols that a term holds matter
  pub has_agree : {Γ Δ : Env 𝓢} {M : Term 𝓢} {A : T 𝓢} → ((y : ℕ) → Lacks 𝓢 y M ⊎ (Δ y ≡ Γ y)) → Has 𝓢 Γ M A → Has 𝓢 Δ M A
  has_agree {Γ} {Δ} h (T-Var {x = x}) = go (h x)
    where
      go : Lacks 𝓢 x (leaf x) ⊎ (Δ x ≡ Γ x) → Has 𝓢 Δ (leaf x) (Γ x)
      go (inl f) = absurd (lacks_itself f)
      go (inr e) = let l : Sub 𝓢 (Δ x) (Γ x) = rw e (sub_refl 𝓢 (Γ x)) in T-Sub T-Var l
  has_agree h (T-Pair d e) = T-Pair (has_agree (λ y. left_lacks (h y)) d) (has_agree (λ y. right_lacks (h y)) e)
  has_agree h (T-ShKC d e) = T-ShKC (has_agree (λ y. left_lacks (h y)) d) (has_agree (λ y. right_lacks (h y)) e)
  has_agree h (T-One d) = T-One (has_agree (λ y. one_lacks (h y)) d)
  has_agree h (T-Sub d l) = T-Sub (has_agree h d) l
