-- Laws of the types' bytes at a place: the parts that follow a code, the end of a type, and its copy. Assumes nothing.
use mathlib.Core.Path.{◌≡◌, refl, sym, ◌∙◌}
use mathlib.Core.List.{List, ◌∷◌, ◌++◌, append_assoc}
use mathlib.Core.Bool.{Bool, true, false}
use mathlib.Core.Option.{some, none, some_inj}
use Prim.Native.Nat.{ℕ, ◌+◌, ◌-◌, ◌≤◌, ◌<◌}
use native.Mathlib.Omega.{arith}
use native.Mathlib.Numerals.{add-one}
use lib.ListN.{length, take, drop, get_or, drop_of_length-le}
use lib.Seq.{drop-cons}
use Rattle.types.specs.Types.{Message, Basic, Cipher, Pair}
use Rattle.types.specs.Prefix.{encoded, EndIs}
use Rattle.types.specs.Version1.{T, bytes, name, channel, shkey, shared, code1, codes1}
use Rattle.types.proofs.Version1Laws.{code_laws1}
use Rattle.types.proofs.PrefixLaws.{not_empty, some_bytes, ends_inside, ends_part, ends_type}
use lib.Dec.{leb}
use borrow.Author.Tests.{leb-true, leb-false}
use Rattle.buffers.specs.Over.{over, over_if}
use Rattle.buffers.proofs.OverLaws.{over_fits}
use Rattle.std.specs.Prelude.{unwrap_or}
use Rattle.type_bytes.specs.Lower.{End}
use Rattle.type_bytes.specs.Ends.{end_of, Past}
use Rattle.type_bytes.specs.Meets.{Copied}
use Rattle.std.proofs.Common.{Bor, Some, None}
use Rattle.std.proofs.lemmas.List.{get_or_read}
use Rattle.std.specs.Slice.{IsItemAt}

-- ── The first byte ──

-- the byte that `get` has found
pub read_at : (s : List ℕ) (p : ℕ) (b : Bor ℕ) → IsItemAt s p (Some b) → (p < length s) × (b.now ≡ get_or s p 0)
read_at s p b (_, e, _, (h, _), _) = (h, get_or_read s p b.now h e 0)

-- the code of a type
unfoldable pub tag : T → ℕ
tag Message = 0
tag (Basic name) = 1
tag (Basic channel) = 2
tag (Basic shkey) = 3
tag (Pair a b) = 4
tag (Cipher shared a) = 5

head : {m n : ℕ} {x y : List ℕ} → m ∷ x ≡ n ∷ y → m ≡ n
head e = cc

tail : {m n : ℕ} {x y : List ℕ} → m ∷ x ≡ n ∷ y → x ≡ y
tail e = cc

tag_is : (t : T) (n : ℕ) (l r : List ℕ) → n ∷ l ≡ bytes t ++ r → n ≡ tag t
unfolding encoded code1 tag
tag_is Message n l r e = head e
tag_is (Basic name) n l r e = head e
tag_is (Basic channel) n l r e = head e
tag_is (Basic shkey) n l r e = head e
tag_is (Pair a b) n l r e = head e
tag_is (Cipher shared a) n l r e = head e

pub bytes_some : (t : T) → 0 < length (bytes t)
bytes_some t = some_bytes codes1 t

pub no_type : (s : List ℕ) (p : ℕ) (t : T) (x : List ℕ) → length s ≤ p → drop p s ≡ bytes t ++ x → ⊥
no_type s p t x h e = not_empty codes1 t x (sym (drop_of_length-le s h) ∙ e)

-- the parts of the type at p
module _ (s : List ℕ) (p : ℕ) (h : p < length s) where
  pub from : drop p s ≡ get_or s p 0 ∷ drop (p + 1) s
  from = rw add-one (drop-cons s p 0 h)

  pub head_is : (t : T) (x : List ℕ) → drop p s ≡ bytes t ++ x → get_or s p 0 ≡ tag t
  head_is t x e = tag_is t _ _ x (sym from ∙ e)

  pub in_pair : (a b : T) (x : List ℕ) → drop p s ≡ bytes (Pair a b) ++ x → drop (p + 1) s ≡ bytes a ++ (bytes b ++ x)
  unfolding encoded
  in_pair a b x e = tail (sym from ∙ e) ∙ append_assoc (bytes a) (bytes b) x

  pub in_cipher : (a : T) (x : List ℕ) → drop p s ≡ bytes (Cipher shared a) ++ x → drop (p + 1) s ≡ bytes a ++ x
  unfolding encoded
  in_cipher a x e = tail (sym from ∙ e)

-- the code says which type it is
pub as_message : (a : T) → 0 ≡ tag a → a ≡ Message
unfolding tag
as_message Message e = refl
as_message (Basic name) e = absurd (omega arith)
as_message (Basic channel) e = absurd (omega arith)
as_message (Basic shkey) e = absurd (omega arith)
as_message (Pair a b) e = absurd (omega arith)
as_message (Cipher shared a) e = absurd (omega arith)

pub as_pair : (a : T) → 4 ≡ tag a → (b : T) × (c : T) × (a ≡ Pair b c)
unfolding tag
as_pair Message e = absurd (omega arith)
as_pair (Basic name) e = absurd (omega arith)
as_pair (Basic channel) e = absurd (omega arith)
as_pair (Basic shkey) e = absurd (omega arith)
as_pair (Pair a b) e = (a, b, refl)
as_pair (Cipher shared a) e = absurd (omega arith)

pub as_cipher : (a : T) → 5 ≡ tag a → (b : T) × (a ≡ Cipher shared b)
unfolding tag
as_cipher Message e = absurd (omega arith)
as_cipher (Basic name) e = absurd (omega arith)
as_cipher (Basic channel) e = absurd (omega arith)
as_cipher (Basic shkey) e = absurd (omega arith)
as_cipher (Pair a b) e = absurd (omega arith)
as_cipher (Cipher shared a) e = (a, refl)

-- ── Past and copied ──

pub past_none : (s : List ℕ) (p : ℕ) → EndIs codes1 s p none → Past s p (length s)
past_none s p w = record { on = omega arith; rest = λ t x e. absurd (w t x e) }

pub copied_none : (s : List ℕ) (p : ℕ) (z : List ℕ) → EndIs codes1 s p none → Copied s p z z None
copied_none s p z w = record { fits = tt; wrote = λ t x i. absurd (w t x i) }

module _ (s : List ℕ) (p e : ℕ) (w : EndIs codes1 s p (some e)) where
  pub past_end : Past s p e
  past_end = record { on = omega (arith, w.1, some_bytes codes1 w.0); rest = λ t x i. (ends_type codes1 code_laws1 s p e w t x i).1 }

  pub end_inside : e ≤ length s
  end_inside = ends_inside codes1 code_laws1 s p e w

  pub copied_short : (z : List ℕ) → length z < e - p → Copied s p z z None
  copied_short z h = record {
    fits = tt;
    wrote = λ t x i c q.
        let k : w.0 ≡ c = (ends_type codes1 code_laws1 s p e w t x i).0 ∙ some_inj.0 q in
        rw (← k) (omega (arith, w.1));
  }

  pub copied_whole : (z o : List ℕ) → e - p ≤ length z → o ≡ over (take (e - p) (drop p s)) z → Copied s p z o (Some (e - p))
  copied_whole z o h q = record {
    fits = h;
    wrote = λ t x i.
        let k : w.0 ≡ t = (ends_type codes1 code_laws1 s p e w t x i).0 in
        rw (← k) (w.0, refl, omega (arith, w.1), rw (ends_part codes1 code_laws1 s p e w) at q);
  }

  -- the copy of the type's bytes was tried: it was made where they fit
  size : length (take (e - p) (drop p s)) ≡ e - p
  size = rw (ends_part codes1 code_laws1 s p e w) (omega (arith, w.1))

  pub copied_fits : (z o : List ℕ) (b : Bool) → b ≡ leb (length (take (e - p) (drop p s))) (length z) → b ≡ true
      → o ≡ over_if (take (e - p) (drop p s)) z → Copied s p z o (Some (e - p))
  copied_fits z o b f t q =
      let h : length (take (e - p) (drop p s)) ≤ length z = leb-true _ _ (sym f ∙ t) in
      copied_whole z o (rw size at h) (q ∙ over_fits (take (e - p) (drop p s)) z h)

  pub copied_not : (z o : List ℕ) (b : Bool) → b ≡ leb (length (take (e - p) (drop p s))) (length z) → b ≡ false
      → o ≡ over_if (take (e - p) (drop p s)) z → Copied s p z o None
  copied_not z o b f t q =
      let h : length z < length (take (e - p) (drop p s)) = leb-false _ _ (sym f ∙ t) in
      let k : o ≡ z = rw (sym f ∙ t) at q in
      rw k (copied_short z (rw size at h))

pub past_found : (s : List ℕ) (p : ℕ) (o : End) → EndIs codes1 s p (end_of o) → Past s p (unwrap_or o (length s))
past_found s p (Some e) w = past_end s p e w
past_found s p None w = past_none s p w
