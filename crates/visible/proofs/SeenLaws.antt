-- What a value visibly is, by its entry, by its tag, and by a type's first code. Assumes nothing.
use mathlib.Core.Path.{◌≡◌, refl, sym}
use mathlib.Core.Bool.{Bool, true, false, decide, ◌&&◌}
use mathlib.Core.Option.{Option-elim}
use mathlib.Core.List.{List}
use Prim.Native.Nat.{ℕ, zero, suc, ◌+◌, ◌<◌}
use native.Mathlib.Omega.{arith}
use lib.Dec.{eqb}
use borrow.Author.Tests.{ne_eqb}
use Rattle.base.specs.Pick.{pick}
use Rattle.types.specs.Forest.{under, within}
use Rattle.types.specs.Types.{Message, Basic, Cipher, Pair}
use Rattle.types.specs.Version1.{T, name, channel, shkey, shared, parent1, depth1, forest1}
use Rattle.type_bytes.proofs.EndLaws.{tag}
use Rattle.calculus.specs.Signature.{pairing, seal}
use Rattle.calculus.specs.Terms.{Atom, atom, build2}
use Rattle.calculus.specs.Tables.{Entry, leaf_entry, kind_entry, entry_at}
use Rattle.calculus.specs.Version1.{signature1, encryption, atom_type1}
use Rattle.running.specs.Values.{visible, basic_shape, pair_shape, cipher_shape, entry_shape, index}
use Rattle.decoded.proofs.ValueLaws.{no_atom}
use Rattle.value_table.specs.Values.{table_at, tag_at, part_at}
use Rattle.value_table.proofs.Reading.{tag_small, entry_atom, entry_pair, entry_seal}
use Rattle.visible.specs.Seen.{atom_of, leaf_of}

-- ── What an atom visibly is ──

-- every basic type lies under Name; the others only under themselves
under_name : (k : ℕ) → under forest1 (atom_type1 k) name ≡ true
unfolding under within parent1 depth1 atom_type1 decide Option-elim
under_name zero = refl
under_name (suc zero) = refl
under_name (suc (suc zero)) = refl
under_name (suc (suc (suc k))) = refl

under_channel : (k : ℕ) → under forest1 (atom_type1 k) channel ≡ eqb (k + 1) 2
unfolding under within parent1 depth1 atom_type1 decide Option-elim
under_channel zero = refl
under_channel (suc zero) = refl
under_channel (suc (suc zero)) = refl
under_channel (suc (suc (suc k))) = sym (ne_eqb (suc (suc (suc k)) + 1) 2 λ e. omega arith)

under_shkey : (k : ℕ) → under forest1 (atom_type1 k) shkey ≡ eqb (k + 1) 3
unfolding under within parent1 depth1 atom_type1 decide Option-elim
under_shkey zero = refl
under_shkey (suc zero) = refl
under_shkey (suc (suc zero)) = refl
under_shkey (suc (suc (suc k))) = sym (ne_eqb (suc (suc (suc k)) + 1) 3 λ e. omega arith)

-- ── By the entry of the value ──

module _ (es : List (Entry signature1 Atom)) (v : ℕ) where
  abbrev pub sees : T → Bool
  sees A = visible signature1 (index signature1 es) A v

  atom_sees : (A : T) (k m : ℕ) → entry_at signature1 no_atom es v ≡ leaf_entry (atom k m) → 0 < tag A → tag A < 4 → sees A ≡ pick (eqb (tag A) 1) true (eqb (k + 1) (tag A))
  unfolding visible basic_shape entry_shape tag
  atom_sees Message k m e h l = absurd (omega arith)
  atom_sees (Basic name) k m e h l = rw e (under_name k)
  atom_sees (Basic channel) k m e h l = rw e (under_channel k)
  atom_sees (Basic shkey) k m e h l = rw e (under_shkey k)
  atom_sees (Pair a b) k m e h l = absurd (omega arith)
  atom_sees (Cipher shared a) k m e h l = absurd (omega arith)

  pair_not_basic : (A : T) (a b : ℕ) → entry_at signature1 no_atom es v ≡ kind_entry (build2 pairing a b) → 0 < tag A → tag A < 4 → sees A ≡ false
  unfolding visible basic_shape entry_shape tag
  pair_not_basic Message a b e h l = absurd (omega arith)
  pair_not_basic (Basic u) a b e h l = rw e
  pair_not_basic (Pair x y) a b e h l = absurd (omega arith)
  pair_not_basic (Cipher shared x) a b e h l = absurd (omega arith)

  seal_not_basic : (A : T) (a b : ℕ) → entry_at signature1 no_atom es v ≡ kind_entry (build2 (seal encryption) a b) → 0 < tag A → tag A < 4 → sees A ≡ false
  unfolding visible basic_shape entry_shape tag
  seal_not_basic Message a b e h l = absurd (omega arith)
  seal_not_basic (Basic u) a b e h l = rw e
  seal_not_basic (Pair x y) a b e h l = absurd (omega arith)
  seal_not_basic (Cipher shared x) a b e h l = absurd (omega arith)

  atom_not_cipher : (A : T) (a : Atom) → entry_at signature1 no_atom es v ≡ leaf_entry a → sees (Cipher shared A) ≡ false
  unfolding visible cipher_shape entry_shape
  atom_not_cipher A a e = rw e

  pair_not_cipher : (A : T) (a b : ℕ) → entry_at signature1 no_atom es v ≡ kind_entry (build2 pairing a b) → sees (Cipher shared A) ≡ false
  unfolding visible cipher_shape entry_shape
  pair_not_cipher A a b e = rw e

  seal_cipher : (A : T) (a b : ℕ) → entry_at signature1 no_atom es v ≡ kind_entry (build2 (seal encryption) a b) → sees (Cipher shared A) ≡ true
  unfolding visible cipher_shape entry_shape decide
  seal_cipher A a b e = rw e

  atom_not_pair : (A B : T) (a : Atom) → entry_at signature1 no_atom es v ≡ leaf_entry a → sees (Pair A B) ≡ false
  unfolding visible pair_shape entry_shape
  atom_not_pair A B a e = rw e

  seal_not_pair : (A B : T) (a b : ℕ) → entry_at signature1 no_atom es v ≡ kind_entry (build2 (seal encryption) a b) → sees (Pair A B) ≡ false
  unfolding visible pair_shape entry_shape
  seal_not_pair A B a b e = rw e

  pub pair_sees : (A B : T) (a b : ℕ) → entry_at signature1 no_atom es v ≡ kind_entry (build2 pairing a b)
      → sees (Pair A B) ≡ (visible signature1 (index signature1 es) A a && visible signature1 (index signature1 es) B b)
  unfolding visible pair_shape entry_shape
  pair_sees A B a b e = rw e

-- ── By the tag ──

module _ (s : List ℕ) (n v : ℕ) where
  basic_by_tag : (t a : ℕ) → t ≡ tag_at s n v → a ≡ part_at s n v 0 → (A : T) → 0 < tag A → tag A < 4 → atom_of (tag A) t a ≡ sees (table_at s n) v A
  unfolding atom_of
  basic_by_tag zero a p q A h l = rw q (sym (atom_sees (table_at s n) v A _ _ (entry_atom s n v (sym p)) h l))
  basic_by_tag (suc zero) a p q A h l = sym (pair_not_basic (table_at s n) v A _ _ (entry_pair s n v (sym p)) h l)
  basic_by_tag (suc (suc zero)) a p q A h l = sym (seal_not_basic (table_at s n) v A _ _ (entry_seal s n v (sym p)) h l)
  basic_by_tag (suc (suc (suc t))) a p q A h l = absurd (let z = tag_small s n v in omega arith)

  cipher_by_tag : (t : ℕ) → t ≡ tag_at s n v → (A : T) → eqb t 2 ≡ sees (table_at s n) v (Cipher shared A)
  cipher_by_tag zero p A = sym (atom_not_cipher (table_at s n) v A _ (entry_atom s n v (sym p)))
  cipher_by_tag (suc zero) p A = sym (pair_not_cipher (table_at s n) v A _ _ (entry_pair s n v (sym p)))
  cipher_by_tag (suc (suc zero)) p A = sym (seal_cipher (table_at s n) v A _ _ (entry_seal s n v (sym p)))
  cipher_by_tag (suc (suc (suc t))) p A = absurd (let z = tag_small s n v in omega arith)

  pub no_pair_by_tag : (t : ℕ) → t ≡ tag_at s n v → ¬ (t ≡ 1) → (A B : T) → sees (table_at s n) v (Pair A B) ≡ false
  no_pair_by_tag zero p d A B = atom_not_pair (table_at s n) v A B _ (entry_atom s n v (sym p))
  no_pair_by_tag (suc zero) p d A B = absurd (d refl)
  no_pair_by_tag (suc (suc zero)) p d A B = seal_not_pair (table_at s n) v A B _ _ (entry_seal s n v (sym p))
  no_pair_by_tag (suc (suc (suc t))) p d A B = absurd (let z = tag_small s n v in omega arith)

-- ── By the type's first code ──

-- a type that is no pair is decided by its code, and the value's tag and first number
pub leaf_is : (s : List ℕ) (n v : ℕ) (A : T) → ¬ (tag A ≡ 4) → leaf_of (tag A) (tag_at s n v) (part_at s n v 0) ≡ sees (table_at s n) v A
unfolding leaf_of tag visible
leaf_is s n v Message d = refl
leaf_is s n v (Basic name) d = basic_by_tag s n v _ _ refl refl (Basic name) (omega arith) (omega arith)
leaf_is s n v (Basic channel) d = basic_by_tag s n v _ _ refl refl (Basic channel) (omega arith) (omega arith)
leaf_is s n v (Basic shkey) d = basic_by_tag s n v _ _ refl refl (Basic shkey) (omega arith) (omega arith)
leaf_is s n v (Pair a b) d = absurd (d refl)
leaf_is s n v (Cipher shared a) d = cipher_by_tag s n v _ refl a
