-- The bytes that the reader takes for a type are exactly those of document 01's types. Assumes nothing.
use mathlib.Core.Path.{◌≡◌, refl, sym, ap, ◌∙◌}
use mathlib.Core.Bool.{Bool, true, false, not}
use mathlib.Core.Logic.{◌↔◌}
use mathlib.Core.Option.{Option, none, some, some_inj, none-ne-some, map}
use mathlib.Core.List.{List, [], ◌∷◌, ◌++◌, append_assoc, append-nil}
use Prim.Native.Nat.{ℕ, zero, suc, ◌+◌, ◌<◌}
use native.Mathlib.Nat.{lt_of_not-le, add-zero}
use native.Mathlib.Numerals.{add-one}
use native.Mathlib.Decide.{dec_lt}
use native.Mathlib.Omega.{arith}
use lib.Dec.{eqb}
use borrow.Author.Tests.{eqb-true, le-ltb}
use Rattle.base.specs.Bytes.{byte}
use Rattle.base.specs.Pick.{both}
use Rattle.base.specs.Search.{first, walk, all_right}
use Rattle.base.proofs.Searched.{all_right_each}
use Rattle.codes.specs.Types.{type_known, type_parts}
use Rattle.types.specs.Types.{Message, Basic, Cipher, Pair}
use Rattle.types.specs.Prefix.{Node, n_message, n_basic, n_cipher, n_pair, parts, follows, encoded}
use Rattle.types.specs.Version1.{types1, code1, node_of1, codes1, T, bytes}
use Rattle.types.proofs.Version1Laws.{code_laws1, once1, byte_unknown}
use Rattle.list.specs.Layout.{wants}
use Rattle.base.proofs.BothLaws.{both_parts}

-- ── The two tables of type codes agree ──

-- a code is unknown to both, or known to both and followed by as many types
unfoldable pub same_class : Option ℕ → Bool → ℕ → Bool
same_class none k p = not k
same_class (some n) k p = both k (eqb p n)

abbrev agree : ℕ → Bool
agree b = same_class (follows codes1 b) (type_known 1 b) (type_parts b)

-- one test over the table
agreed : all_right (first agree 0 6) ≡ true
unfolding same_class follows parts node_of1 type_known type_parts byte first walk
agreed = refl

-- and no code past it is known
pub codes_agree : (b : ℕ) → same_class (follows codes1 b) (type_known 1 b) (type_parts b) ≡ true
unfolding same_class type_known
codes_agree b = go (dec_lt b 6)
  where
    go : Dec (b < 6) → agree b ≡ true
    go (yes h) = all_right_each agree 6 agreed b h
    go (no n) =
        let l : 6 < suc b = lt_of_not-le n in
        rw (byte_unknown b (omega arith), le-ltb b 6 (omega arith))

-- so a code that n types follow there is known here, and n types follow it here
pub code_class : (b n : ℕ) → follows codes1 b ≡ some n → (type_known 1 b ≡ true) × (type_parts b ≡ n)
unfolding same_class
code_class b n e =
    let (k, p) = both_parts (type_known 1 b) (eqb (type_parts b) n) (rw e at (codes_agree b)) in
    (k, eqb-true (type_parts b) n p)

-- and a code that is known here is known there
pub code_known : (b : ℕ) → type_known 1 b ≡ true → follows codes1 b ≡ some (type_parts b)
unfolding same_class
code_known b k = go (follows codes1 b) (codes_agree b)
  where
    go : (o : Option ℕ) → same_class o (type_known 1 b) (type_parts b) ≡ true → o ≡ some (type_parts b)
    go none e = let z : ◌≡◌ {A = Bool} true false = sym e ∙ rw k in let y : ◌≡◌ {A = ℕ} 0 1 = cc in absurd (omega arith)
    go (some n) e = ap some (sym (eqb-true (type_parts b) n (both_parts (type_known 1 b) (eqb (type_parts b) n) e).1))

-- ── A list of types ──

-- the bytes of n types, one after the other
pub data Types : ℕ → List ℕ → Type 0 where
  no_type : Types 0 []
  type_then : {n : ℕ} {r : List ℕ} (A : T) → Types n r → Types (suc n) (bytes A ++ r)

-- the first of them, and the rest
taken : {n : ℕ} {l : List ℕ} → Types (suc n) l → (A : T) × (r : List ℕ) × (l ≡ bytes A ++ r) × Types n r
taken (type_then {r = r} A w) = (A, r, refl, w)

empty : {l : List ℕ} → Types 0 l → l ≡ []
empty no_type = refl

-- a known code, and the types that follow it, are one type
one_more : (n b : ℕ) (r : List ℕ) → type_known 1 b ≡ true → Types (n + type_parts b) r → Types (suc n) (b ∷ r)
unfolding follows parts encoded
one_more n b r k w = go (node_of1 b) refl (code_known b k)
  where
    go : (o : Option (Node types1)) → node_of1 b ≡ o → map (parts types1) o ≡ some (type_parts b) → Types (suc n) (b ∷ r)
    go none q e = absurd (none-ne-some (type_parts b) e)
    go (some n_message) q e =
        let p : 0 ≡ type_parts b = some_inj.0 e in
        let m : n + type_parts b ≡ n = omega arith in
        rw (code_laws1.only b n_message q) (type_then Message (rw m at w))
    go (some (n_basic x)) q e =
        let p : 0 ≡ type_parts b = some_inj.0 e in
        let m : n + type_parts b ≡ n = omega arith in
        rw (code_laws1.only b (n_basic x) q) (type_then (Basic x) (rw m at w))
    go (some (n_cipher u)) q e =
        let p : 1 ≡ type_parts b = some_inj.0 e in
        let m : n + type_parts b ≡ suc n = omega arith in
        let (A, t, i, v) = taken (rw m at w) in
        rw (code_laws1.only b (n_cipher u) q, i) (type_then (Cipher u A) v)
    go (some n_pair) q e =
        let p : 2 ≡ type_parts b = some_inj.0 e in
        let m : n + type_parts b ≡ suc (suc n) = omega arith in
        let (A, t, i, v) = taken (rw m at w) in
        let (B, z, j, y) = taken v in
        rw (code_laws1.only b n_pair q, i, j, ← append_assoc (bytes A) (bytes B) z) (type_then (Pair A B) y)

-- what the reader takes for n types is n types
pub wanted_types : (n : ℕ) (l : List ℕ) → wants 1 n l ≡ true → Types n l
unfolding wants
wanted_types n [] e = let q : n ≡ 0 = eqb-true n 0 e in rw q no_type
wanted_types zero (b ∷ r) e = let z : ◌≡◌ {A = ℕ} 0 1 = cc in absurd (omega arith)
wanted_types (suc n) (b ∷ r) e =
    let (k, w) = both_parts (type_known 1 b) (wants 1 (n + type_parts b) r) e in
    one_more n b r k (wanted_types (n + type_parts b) r w)

-- the reader's turn at a type's first byte
code_turn : (h : Node types1) (p n : ℕ) (r : List ℕ) → map (parts types1) (some h) ≡ some p → wants 1 (suc n) (code1 h ∷ r) ≡ wants 1 (n + p) r
unfolding wants follows
code_turn h p n r e =
    let (k, q) = code_class (code1 h) p (rw (code_laws1.known h) e) in
    rw (k, q)

-- a type is taken for one
pub type_wanted : (A : T) (n : ℕ) (r : List ℕ) → wants 1 (suc n) (bytes A ++ r) ≡ wants 1 n r
unfolding encoded parts
type_wanted Message n r = code_turn n_message 0 n r refl ∙ rw add-zero
type_wanted (Basic x) n r = code_turn (n_basic x) 0 n r refl ∙ rw add-zero
type_wanted (Cipher u A) n r = code_turn (n_cipher u) 1 n (bytes A ++ r) refl ∙ rw add-one (type_wanted A n r)
type_wanted (Pair A B) n r =
    let m : n + 2 ≡ suc (suc n) = omega arith in
    code_turn n_pair 2 n ((bytes A ++ bytes B) ++ r) refl ∙ rw (append_assoc (bytes A) (bytes B) r, m) (type_wanted A (suc n) (bytes B ++ r) ∙ type_wanted B n r)

-- ── Reading is exact ──

-- the bytes are exactly one type if and only if they are a type's bytes
pub types_exact : (l : List ℕ) → (wants 1 1 l ≡ true) ↔ ((A : T) × (l ≡ bytes A))
unfolding wants
types_exact l = (λ e. to (taken (wanted_types 1 l e)), λ w. rw (w.1 ∙ sym (append-nil (bytes w.0))) (type_wanted w.0 0 []))
  where
    to : (A : T) × (r : List ℕ) × (l ≡ bytes A ++ r) × Types 0 r → (A : T) × (l ≡ bytes A)
    to (A, r, e, w) = (A, e ∙ rw (empty w) (append-nil (bytes A)))

-- and of no second one
pub type_once : (A B : T) → bytes A ≡ bytes B → A ≡ B
type_once A B e = (once1 A B [] [] (ap (λ (l : List ℕ). l ++ []) e)).0
