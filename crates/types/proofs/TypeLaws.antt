-- Proofs of the statements of specs/Types.antt. Assumes the law `Falls` of the basic types.
use mathlib.Core.Path.{◌≡◌, refl, ap, ap₂, subst}
use mathlib.Core.Bool.{cond, decide}
use mathlib.Core.Option.{Option, none, map, bind}
use Rattle.types.specs.Order.{Greatest, greatest, nothing}
use Rattle.types.specs.Forest.{Falls, Under, u_same}
use Rattle.types.specs.Types.{TypeTable, Ty, Message, Basic, Cipher, Pair, ◌<:◌, top, basic, cipher, pair, meet, TypesAreOrdered, MeetIsGreatest}
use Rattle.types.proofs.ForestLaws.{under_trans, under_antisym, lower_of_is_greatest}

module _ (𝓣 : TypeTable) where
  abbrev T : Type 0
  T = Ty 𝓣

  abbrev B : Type 0
  B = 𝓣.forest.Base

  infix 4 ◌⊑◌
  abbrev ◌⊑◌ : T → T → Type 0
  a ⊑ b = ◌<:◌ 𝓣 a b

  pub <:_refl : (a : T) → a ⊑ a
  <:_refl Message = top
  <:_refl (Basic l) = basic u_same
  <:_refl (Cipher u a) = cipher (<:_refl a)
  <:_refl (Pair a b) = pair (<:_refl a) (<:_refl b)

  pub <:_trans : {a b c : T} → a ⊑ b → b ⊑ c → a ⊑ c
  <:_trans p top = top
  <:_trans (basic p) (basic q) = basic (under_trans 𝓣.forest p q)
  <:_trans (cipher {u = u} {a = a} p) (cipher {a = b} {b = c} q) = cipher (<:_trans {a = a} p q)
  <:_trans (pair {a = a} {b = b} p q) (pair r s) = pair (<:_trans {a = a} p r) (<:_trans {a = b} q s)

  -- what lies below a ciphertext type is one of the same kind
  below_cipher : {v : 𝓣.Former} {b e : T} → e ⊑ Cipher v b → (a : T) × (e ≡ Cipher v a) × (a ⊑ b)
  below_cipher (cipher {a = a} p) = (a, refl, p)

  -- ── What lies below both of two types of different shapes: nothing ──
  no_basic_cipher : {l : B} {v : 𝓣.Former} {c e : T} → e ⊑ Basic l → e ⊑ Cipher v c → ⊥
  no_basic_cipher (basic p) q = elim q [ ]

  no_basic_pair : {l : B} {c d e : T} → e ⊑ Basic l → e ⊑ Pair c d → ⊥
  no_basic_pair (basic p) q = elim q [ ]

  no_cipher_pair : {u : 𝓣.Former} {a c d e : T} → e ⊑ Cipher u a → e ⊑ Pair c d → ⊥
  no_cipher_pair (cipher p) q = elim q [ ]

  no_two_ciphers : {u v : 𝓣.Former} {a c e : T} → ¬ (u ≡ v) → e ⊑ Cipher u a → e ⊑ Cipher v c → ⊥
  no_two_ciphers n (cipher p) (cipher q) = n refl

  abbrev Lower : T → T → T → Type 0
  Lower a b c = (c ⊑ a) × (c ⊑ b)

  -- ── And of one shape: part by part ──
  basic_none : {l m : B} → ((d : B) → Under 𝓣.forest d l × Under 𝓣.forest d m → ⊥) → {e : T} → e ⊑ Basic l → e ⊑ Basic m → ⊥
  basic_none n (basic p) (basic q) = n _ (p, q)

  basic_max : {l m k : B} {e : T} → ((d : B) → Under 𝓣.forest d l × Under 𝓣.forest d m → Under 𝓣.forest d k) → e ⊑ Basic l → e ⊑ Basic m → e ⊑ Basic k
  basic_max n (basic p) (basic q) = basic (n _ (p, q))

  plain_is : {l m : B} {o : Option B} → Greatest (Under 𝓣.forest) (λ c. Under 𝓣.forest c l × Under 𝓣.forest c m) o
      → Greatest ◌⊑◌ (Lower (Basic l) (Basic m)) (map Basic o)
  plain_is (nothing n) = nothing λ e h. basic_none n h.0 h.1
  plain_is (greatest h m) = greatest (basic h.0, basic h.1) (λ e k. basic_max m k.0 k.1)

  cipher_none : {u : 𝓣.Former} {a b e : T} → ((t : T) → Lower a b t → ⊥) → e ⊑ Cipher u a → e ⊑ Cipher u b → ⊥
  cipher_none n p q =
      let (c, i, h) = below_cipher p in
      let (d, j, k) = below_cipher q in
      let e : d ≡ c = cc in
      n c (h, rw e at k)

  cipher_max : {u : 𝓣.Former} {a b c e : T} → ((t : T) → Lower a b t → t ⊑ c) → e ⊑ Cipher u a → e ⊑ Cipher u b → e ⊑ Cipher u c
  cipher_max n p q =
      let (c, i, h) = below_cipher p in
      let (d, j, k) = below_cipher q in
      let e : d ≡ c = cc in
      rw i (cipher (n c (h, rw e at k)))

  around_is : (u : 𝓣.Former) {a b : T} {o : Option T} → Greatest ◌⊑◌ (Lower a b) o → Greatest ◌⊑◌ (Lower (Cipher u a) (Cipher u b)) (map (Cipher u) o)
  around_is u (nothing n) = nothing λ e h. cipher_none n h.0 h.1
  around_is u (greatest h m) = greatest (cipher h.0, cipher h.1) (λ e k. cipher_max m k.0 k.1)

  same_former_is : {u v : 𝓣.Former} {a b : T} {o : Option T} (d : Dec (u ≡ v)) → Greatest ◌⊑◌ (Lower a b) o → Greatest ◌⊑◌ (Lower (Cipher u a) (Cipher v b)) (cond (decide d) (map (Cipher u) o) none)
  unfolding decide
  same_former_is {u} {v} {a} {b} {o} (yes e) g = subst (λ w. Greatest ◌⊑◌ (Lower (Cipher u a) (Cipher w b)) (map (Cipher u) o)) e (around_is u g)
  same_former_is (no n) g = nothing λ e h. no_two_ciphers n h.0 h.1

  left_none : {a b c d e : T} → ((t : T) → Lower a c t → ⊥) → e ⊑ Pair a b → e ⊑ Pair c d → ⊥
  left_none n (pair p q) (pair r s) = n _ (p, r)

  right_none : {a b c d e : T} → ((t : T) → Lower b d t → ⊥) → e ⊑ Pair a b → e ⊑ Pair c d → ⊥
  right_none n (pair p q) (pair r s) = n _ (q, s)

  pair_max : {a b c d x y e : T} → ((t : T) → Lower a c t → t ⊑ x) → ((t : T) → Lower b d t → t ⊑ y)
      → e ⊑ Pair a b → e ⊑ Pair c d → e ⊑ Pair x y
  pair_max m n (pair p q) (pair r s) = pair (m _ (p, r)) (n _ (q, s))

  both_is : {a b c d : T} {o u : Option T} → Greatest ◌⊑◌ (Lower a c) o → Greatest ◌⊑◌ (Lower b d) u → Greatest ◌⊑◌ (Lower (Pair a b) (Pair c d)) (bind o (λ x. map (Pair x) u))
  unfolding bind
  both_is (nothing n) g = nothing λ e h. left_none n h.0 h.1
  both_is (greatest h m) (nothing n) = nothing λ e h. right_none n h.0 h.1
  both_is (greatest h m) (greatest k n) = greatest (pair h.0 k.0, pair h.1 k.1) (λ e j. pair_max m n j.0 j.1)

  module _ (falls : Falls 𝓣.forest) where
    pub <:_antisym : {a b : T} → a ⊑ b → b ⊑ a → a ≡ b
    <:_antisym top top = refl
    <:_antisym (basic p) (basic q) = ap Basic (under_antisym 𝓣.forest falls p q)
    <:_antisym (cipher {u = u} {a = a} {b = b} p) q =
        let (c, i, h) = below_cipher q in
        let e : c ≡ b = cc in
        ap (Cipher u) (<:_antisym p (rw e at h))
    <:_antisym (pair p q) (pair r s) = ap₂ Pair (<:_antisym p r) (<:_antisym q s)

    pub types_are_ordered : TypesAreOrdered 𝓣
    types_are_ordered = record { reflexive = <:_refl; transitive = λ p q. <:_trans p q; antisymmetric = λ p q. <:_antisym p q }

    pub meet_is_greatest : MeetIsGreatest 𝓣
    unfolding meet
    meet_is_greatest Message b = greatest (top, <:_refl b) (λ e h. h.1)
    meet_is_greatest (Basic l) Message = greatest (<:_refl (Basic l), top) (λ e h. h.0)
    meet_is_greatest (Basic l) (Basic m) = plain_is (lower_of_is_greatest 𝓣.forest falls l m)
    meet_is_greatest (Basic l) (Cipher v c) = nothing λ e h. no_basic_cipher h.0 h.1
    meet_is_greatest (Basic l) (Pair c d) = nothing λ e h. no_basic_pair h.0 h.1
    meet_is_greatest (Cipher u a) Message = greatest (<:_refl (Cipher u a), top) (λ e h. h.0)
    meet_is_greatest (Cipher u a) (Basic m) = nothing λ e h. no_basic_cipher h.1 h.0
    meet_is_greatest (Cipher u a) (Cipher v c) = same_former_is (𝓣.same_former u v) (meet_is_greatest a c)
    meet_is_greatest (Cipher u a) (Pair c d) = nothing λ e h. no_cipher_pair h.0 h.1
    meet_is_greatest (Pair a b) Message = greatest (<:_refl (Pair a b), top) (λ e h. h.0)
    meet_is_greatest (Pair a b) (Basic m) = nothing λ e h. no_basic_pair h.1 h.0
    meet_is_greatest (Pair a b) (Cipher v c) = nothing λ e h. no_cipher_pair h.1 h.0
    meet_is_greatest (Pair a b) (Pair c d) = both_is (meet_is_greatest a c) (meet_is_greatest b d)
