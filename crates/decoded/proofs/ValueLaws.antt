-- The values of a trace in the meaning layer's terms: parts are lower, no value is repeated, and equal values have equal indexes.
-- Assumes that numbers 5 and 6 find no fault among the values; each law says so by the tests of the two rungs.
use mathlib.Core.Path.{◌≡◌, refl, sym, ap, ◌∙◌}
use mathlib.Core.Bool.{true}
use mathlib.Core.List.{List, [], ◌∷◌}
use Prim.Native.Nat.{ℕ, zero, suc, ◌+◌, ◌<◌}
use native.Mathlib.Omega.{arith}
use lib.ListN.{length}
use Rattle.base.specs.Bytes.{byte, word}
use Rattle.codes.specs.Rows.{rows, cell, fields, part_role}
use Rattle.entries.specs.Fields.{code, field, role}
use Rattle.entries.specs.Faults.{node_ok, alone}
use Rattle.entries.proofs.InOrder.{entry_code, entry_field}
use Rattle.entries.proofs.Unlike.{entries_unlike}
use Rattle.calculus.specs.Signature.{Two, pairing, seal}
use Rattle.calculus.specs.Terms.{Atom, atom, build1, build2}
use Rattle.calculus.specs.Tables.{Entry, leaf_entry, kind_entry, entry_at, denoted, Lower, low_leaf, low_two, Closed, Unrepeated}
use Rattle.calculus.specs.Version1.{Seal1, encryption, signature1}
use Rattle.calculus.proofs.TableLaws.{equal_trees_equal_indexes}
use Rattle.decoded.specs.Table.{two_code}
use Rattle.decoded.specs.Values.{value_of, value_at, values_of, value_numbers}
use Rattle.entries.proofs.Tiling.{listed_length}
use Rattle.decoded.proofs.Listed.{listed_all_at}
use Rattle.decoded.proofs.Shapes.{three_same}

-- the leaf that stands past the end
abbrev pub no_atom : Atom
no_atom = atom 0 0

-- a value of a known tag, written again, is its tag and its numbers
value_written : (op a b : ℕ) → op < 3 → value_numbers (value_of op a b) ≡ op ∷ a ∷ b ∷ []
unfolding value_numbers value_of two_code
value_written zero a b h = refl
value_written (suc zero) a b h = refl
value_written (suc (suc zero)) a b h = refl
value_written (suc (suc (suc op))) a b h = absurd (omega arith)

-- the parts of a kind with two
value_roles : (k : Two Seal1) → (cell 3 (two_code k) 1 ≡ part_role) × (cell 3 (two_code k) 2 ≡ part_role)
unfolding two_code cell byte
value_roles pairing = (refl, refl)
value_roles (seal encryption) = (refl, refl)

value_role : (s : List ℕ) (i op j : ℕ) → code s 3 10 i ≡ op → role s 3 10 i j ≡ cell 3 op (j + 1)
unfolding role
value_role s i op j e = rw e

-- value i of the table, and how many there are
pub value_at_lem : (s : List ℕ) (i : ℕ) → i < word s 5 → entry_at signature1 no_atom (values_of s) i ≡ value_at s i
value_at_lem s i h = listed_all_at (value_at s) (leaf_entry no_atom) (word s 5) i h

pub values_length : (s : List ℕ) → length (values_of s) ≡ word s 5
values_length s = listed_length (value_at s) 0 (word s 5)

module _ (s : List ℕ) (version : ℕ) (right : (i : ℕ) → i < word s 5 → node_ok s 3 version 10 0 i ≡ true) where
  -- tag and numbers of each
  pub value_numbers_lem : (i : ℕ) → i < word s 5 → value_numbers (value_at s i) ≡ code s 3 10 i ∷ field s 3 10 i 0 ∷ field s 3 10 i 1 ∷ []
  unfolding value_at node_ok rows byte
  value_numbers_lem i h = value_written (code s 3 10 i) (field s 3 10 i 0) (field s 3 10 i 1) (entry_code s 3 version 10 i _ (right i h))

  -- a part is lower
  part_lower : (i : ℕ) → i < word s 5 → (j : ℕ) → j < 2 → role s 3 10 i j ≡ part_role → field s 3 10 i j < i
  unfolding node_ok fields byte
  part_lower i h j u e = rw e at (entry_field s 3 version 10 i _ (right i h) j u)

  lower_of_lem : (i : ℕ) → i < word s 5 → (e : Entry signature1 Atom) → value_numbers e ≡ code s 3 10 i ∷ field s 3 10 i 0 ∷ field s 3 10 i 1 ∷ [] → Lower signature1 i e
  unfolding value_numbers
  lower_of_lem i h (leaf_entry (atom k n)) q = low_leaf
  lower_of_lem i h (kind_entry (build1 k a)) q = elim k [ ]
  lower_of_lem i h (kind_entry (build2 k a b)) q =
      let (c, e, f) = three_same q in
      let (l, r) = value_roles k in
      low_two (rw e at (part_lower i h 0 (omega arith) (value_role s i (two_code k) 0 c ∙ l))) (rw f at (part_lower i h 1 (omega arith) (value_role s i (two_code k) 1 c ∙ r)))

  -- parts are lower
  pub values_closed : Closed signature1 no_atom (values_of s)
  values_closed i h =
      let l : i < word s 5 = rw (values_length s) at h in
      rw (value_at_lem s i l) (lower_of_lem i l (value_at s i) (value_numbers_lem i l))

  module _ (unlike : (i : ℕ) → i < word s 5 → alone s 3 10 i ≡ true) where
    -- no value is repeated
    pub values_unrepeated : Unrepeated signature1 no_atom (values_of s)
    values_unrepeated i j h l q =
        let a : i < word s 5 = rw (values_length s) at h in
        let b : j < word s 5 = rw (values_length s) at l in
        let e : value_at s i ≡ value_at s j = sym (value_at_lem s i a) ∙ q ∙ value_at_lem s j b in
        let (c, f, g) = three_same (sym (value_numbers_lem j b) ∙ sym (ap value_numbers e) ∙ value_numbers_lem i a) in
        entries_unlike s 3 10 (word s 5) unlike i j a b c f g

    -- equal values have equal indexes
    pub equal_values_equal_indexes : (i j : ℕ) → i < word s 5 → j < word s 5 → denoted signature1 no_atom (values_of s) i ≡ denoted signature1 no_atom (values_of s) j → i ≡ j
    equal_values_equal_indexes i j h l q =
        equal_trees_equal_indexes signature1 no_atom (values_of s) values_closed values_unrepeated i j (rw (values_length s) h) (rw (values_length s) l) q
