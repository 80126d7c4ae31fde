-- Values read from a buffer: by tag and numbers, and back from the bytes that are written. Assumes nothing.
use mathlib.Core.Path.{◌≡◌, refl, sym, ap, ◌∙◌}
use mathlib.Core.Bool.{Bool, true, false}
use mathlib.Core.List.{List, [], ◌∷◌, ◌++◌, append_assoc}
use Prim.Native.Nat.{ℕ, zero, suc, ◌+◌, ◌*◌, ◌/◌, ◌%◌, ◌<◌, ◌≤◌}
use native.Mathlib.Omega.{arith}
use lib.Dec.{ltb}
use lib.ListN.{length, drop, get_or, get_or-eq_default}
use lib.Seq.{get_or-drop, drop-drop}
use borrow.Author.Tests.{ltb-true, ltb-false}
use Rattle.base.specs.Bytes.{byte, word}
use Rattle.base.specs.Pick.{pick, both}
use Rattle.codes.specs.Rows.{field_bytes, width}
use Rattle.entries.specs.Fields.{number, place_of, code, field}
use Rattle.entries.specs.Tiling.{listed, joined}
use Rattle.entries.proofs.Tiling.{listed_length}
use Rattle.calculus.specs.Signature.{pairing, seal}
use Rattle.calculus.specs.Terms.{Atom, atom, build1, build2}
use Rattle.calculus.specs.Tables.{Entry, leaf_entry, kind_entry, entry_at}
use Rattle.calculus.specs.Version1.{encryption, signature1}
use Rattle.decoded.specs.Table.{two_code}
use Rattle.decoded.specs.Values.{value_of, value_at, values_of}
use Rattle.decoded.proofs.Listed.{listed_all_at}
use Rattle.decoded.proofs.ValueLaws.{no_atom}
use Rattle.value_table.specs.Values.{value_in, table_at, known, tag_at, part_at, five_bytes, value_bytes}

-- ── By tag and numbers ──

-- the number of values
pub table_length : (s : List ℕ) (n : ℕ) → length (table_at s n) ≡ n
unfolding table_at
table_length s n = listed_length (value_in s) 0 n

-- an unknown tag is read as the plain atom 0
value_none : (op a b : ℕ) → 3 ≤ op → value_of op a b ≡ leaf_entry no_atom
unfolding value_of
value_none zero a b h = absurd (omega arith)
value_none (suc zero) a b h = absurd (omega arith)
value_none (suc (suc zero)) a b h = absurd (omega arith)
value_none (suc (suc (suc op))) a b h = refl

module _ (s : List ℕ) (n i : ℕ) where
  -- value i is what stands there
  pub entry_in : i < n → entry_at signature1 no_atom (table_at s n) i ≡ value_of (code s 3 0 i) (field s 3 0 i 0) (field s 3 0 i 1)
  unfolding table_at value_in
  entry_in h = listed_all_at (value_in s) (leaf_entry no_atom) n i h

  entry_past : n ≤ i → entry_at signature1 no_atom (table_at s n) i ≡ leaf_entry no_atom
  entry_past h = get_or-eq_default (table_at s n) (leaf_entry no_atom) (rw (table_length s n) h)

  -- value i is what its tag and its numbers say
  pub entry_read : entry_at signature1 no_atom (table_at s n) i ≡ value_of (tag_at s n i) (part_at s n i 0) (part_at s n i 1)
  unfolding tag_at part_at known value_of
  entry_read = go (ltb i n) refl (ltb (code s 3 0 i) 3) refl
    where
      go : (b : Bool) → ltb i n ≡ b → (d : Bool) → ltb (code s 3 0 i) 3 ≡ d
          → entry_at signature1 no_atom (table_at s n) i ≡ value_of (pick (both b d) (code s 3 0 i) 0) (pick (both b d) (field s 3 0 i 0) 0) (pick (both b d) (field s 3 0 i 1) 0)
      go true p true q = entry_in (ltb-true _ _ p)
      go true p false q = entry_in (ltb-true _ _ p) ∙ value_none (code s 3 0 i) _ _ (ltb-false _ _ q)
      go false p d q = entry_past (ltb-false _ _ p)

  -- its tag is known
  pub tag_small : tag_at s n i < 3
  unfolding tag_at known
  tag_small = go (ltb i n) (ltb (code s 3 0 i) 3) refl
    where
      go : (b d : Bool) → ltb (code s 3 0 i) 3 ≡ d → pick (both b d) (code s 3 0 i) 0 < 3
      go true true q = ltb-true _ _ q
      go true false q = omega arith
      go false d q = omega arith

  -- an atom, a pair, a ciphertext
  pub entry_atom : tag_at s n i ≡ 0 → entry_at signature1 no_atom (table_at s n) i ≡ leaf_entry (atom (part_at s n i 0) (part_at s n i 1))
  unfolding value_of
  entry_atom e = rw e at entry_read

  pub entry_pair : tag_at s n i ≡ 1 → entry_at signature1 no_atom (table_at s n) i ≡ kind_entry (build2 pairing (part_at s n i 0) (part_at s n i 1))
  unfolding value_of
  entry_pair e = rw e at entry_read

  pub entry_seal : tag_at s n i ≡ 2 → entry_at signature1 no_atom (table_at s n) i ≡ kind_entry (build2 (seal encryption) (part_at s n i 0) (part_at s n i 1))
  unfolding value_of
  entry_seal e = rw e at entry_read

-- ── Back from the bytes ──

-- the tag and the two numbers of a value
unfoldable pub tag_of : Entry signature1 Atom → ℕ
tag_of (leaf_entry (atom k n)) = 0
tag_of (kind_entry (build1 k a)) = elim k [ ]
tag_of (kind_entry (build2 k a b)) = two_code k

unfoldable pub first_of : Entry signature1 Atom → ℕ
first_of (leaf_entry (atom k n)) = k
first_of (kind_entry (build1 k a)) = a
first_of (kind_entry (build2 k a b)) = a

unfoldable pub second_of : Entry signature1 Atom → ℕ
second_of (leaf_entry (atom k n)) = n
second_of (kind_entry (build1 k a)) = 0
second_of (kind_entry (build2 k a b)) = b

-- they are what is written
pub bytes_of : (e : Entry signature1 Atom) → value_bytes e ≡ five_bytes (tag_of e) (first_of e) (second_of e)
unfolding value_bytes tag_of first_of second_of
bytes_of (leaf_entry (atom k n)) = refl
bytes_of (kind_entry (build1 k a)) = elim k [ ]
bytes_of (kind_entry (build2 k a b)) = refl

-- and they say which value it is
pub value_of_lem : (e : Entry signature1 Atom) → value_of (tag_of e) (first_of e) (second_of e) ≡ e
unfolding value_of tag_of first_of second_of two_code
value_of_lem (leaf_entry (atom k n)) = refl
value_of_lem (kind_entry (build1 k a)) = elim k [ ]
value_of_lem (kind_entry (build2 pairing a b)) = refl
value_of_lem (kind_entry (build2 (seal encryption) a b)) = refl

pub value_bytes_length : (e : Entry signature1 Atom) → length (value_bytes e) ≡ 5
unfolding five_bytes
value_bytes_length e = rw (bytes_of e)

-- five bytes at the place of value i
byte_there : (v w r : List ℕ) (p j : ℕ) → drop p v ≡ w ++ r → byte v (p + j) ≡ get_or (w ++ r) j 0
unfolding byte
byte_there v w r p j e = sym (get_or-drop p v j 0) ∙ ap (λ (l : List ℕ). get_or l j 0) e

word_there : (v : List ℕ) (p x a : ℕ) → p ≡ x → byte v x ≡ a / 256 → byte v (x + 1) ≡ a % 256 → word v p ≡ a
unfolding word
word_there v p x a q h l = rw (q, h, l) (omega arith)

module _ (v r : List ℕ) (i t a b : ℕ) (e : drop (i * 5) v ≡ five_bytes t a b ++ r) where
  code_there : code v 3 0 i ≡ t
  unfolding code place_of width five_bytes byte
  code_there =
      let z : 0 + i * 5 ≡ i * 5 + 0 = omega arith in
      rw z (unfold byte in byte_there v (five_bytes t a b) r (i * 5) 0 e)

  first_there : field v 3 0 i 0 ≡ a
  unfolding field number place_of width field_bytes five_bytes byte
  first_there =
      word_there v (0 + i * 5 + 1 + 0 * 2) (i * 5 + 1) a (omega arith) (byte_there v (five_bytes t a b) r (i * 5) 1 e)
      (let z : i * 5 + 1 + 1 ≡ i * 5 + 2 = omega arith in rw z (byte_there v (five_bytes t a b) r (i * 5) 2 e))

  second_there : field v 3 0 i 1 ≡ b
  unfolding field number place_of width field_bytes five_bytes byte
  second_there =
      word_there v (0 + i * 5 + 1 + 1 * 2) (i * 5 + 3) b (omega arith) (byte_there v (five_bytes t a b) r (i * 5) 3 e)
      (let z : i * 5 + 3 + 1 ≡ i * 5 + 4 = omega arith in rw z (byte_there v (five_bytes t a b) r (i * 5) 4 e))

  next_there : drop (suc i * 5) v ≡ r
  unfolding five_bytes
  next_there =
      let z : suc i * 5 ≡ i * 5 + 5 = omega arith in
      rw (z, ← drop-drop 5 (i * 5) v, e)

value_there : (v r : List ℕ) (i : ℕ) (e : Entry signature1 Atom) → drop (i * 5) v ≡ value_bytes e ++ r → value_in v i ≡ e
unfolding value_in
value_there v r i e q =
    let d : drop (i * 5) v ≡ five_bytes (tag_of e) (first_of e) (second_of e) ++ r = rw (bytes_of e) at q in
    rw (code_there v r i _ _ _ d, first_there v r i _ _ _ d, second_there v r i _ _ _ d) (value_of_lem e)

values_there : (v r : List ℕ) (i : ℕ) (es : List (Entry signature1 Atom)) → drop (i * 5) v ≡ joined value_bytes es ++ r → listed (value_in v) i (length es) ≡ es
unfolding listed joined
values_there v r i [] q = refl
values_there v r i (e ∷ es) q =
    let d : drop (i * 5) v ≡ value_bytes e ++ (joined value_bytes es ++ r) = q ∙ append_assoc (value_bytes e) (joined value_bytes es) r in
    let f : drop (i * 5) v ≡ five_bytes (tag_of e) (first_of e) (second_of e) ++ (joined value_bytes es ++ r) = rw (bytes_of e) at d in
    rw (value_there v _ i e d, values_there v r (suc i) es (next_there v _ i _ _ _ f))

-- the values that stand at the start of a buffer are its first ones
pub table_there : (v r : List ℕ) (es : List (Entry signature1 Atom)) → v ≡ joined value_bytes es ++ r → table_at v (length es) ≡ es
unfolding table_at
table_there v r es q = values_there v r 0 es q

-- ── The values of a trace, from the part that holds them ──

code_part : (tr : List ℕ) (i : ℕ) → code (drop 10 tr) 3 0 i ≡ code tr 3 10 i
unfolding code place_of width byte
code_part tr i = get_or-drop 10 tr (0 + i * 5) 0 ∙ ap (λ (p : ℕ). get_or tr p 0) (omega arith)

word_part : (tr : List ℕ) (p q : ℕ) → q ≡ 10 + p → word (drop 10 tr) p ≡ word tr q
unfolding word byte
word_part tr p q e =
    let z : 10 + (p + 1) ≡ 10 + p + 1 = omega arith in
    rw (e, get_or-drop 10 tr p 0, get_or-drop 10 tr (p + 1) 0, z)

field_part : (tr : List ℕ) (i j : ℕ) → field (drop 10 tr) 3 0 i j ≡ field tr 3 10 i j
unfolding field number place_of width field_bytes byte
field_part tr i j = word_part tr (0 + i * 5 + 1 + j * 2) (10 + i * 5 + 1 + j * 2) (omega arith)

part_value : (tr : List ℕ) (i : ℕ) → value_in (drop 10 tr) i ≡ value_at tr i
unfolding value_in value_at
part_value tr i = rw (code_part tr i, field_part tr i 0, field_part tr i 1)

-- the part of a trace from its values on is a value table
pub part_table : (tr : List ℕ) → table_at (drop 10 tr) (word tr 5) ≡ values_of tr
unfolding table_at listed
part_table tr = same (word tr 5) 0
  where
    same : (n i : ℕ) → listed (value_in (drop 10 tr)) i n ≡ listed (value_at tr) i n
    same zero i = refl
    same (suc n) i = rw (part_value tr i, same n (suc i))
