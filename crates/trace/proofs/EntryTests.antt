-- What numbers 5 and 6 test of a trace, by document 01. Assumes that the version is 1 (number 2), where it says so.
use mathlib.Core.Path.{◌≡◌, refl}
use mathlib.Core.Bool.{true}
use mathlib.Core.Logic.{◌↔◌}
use mathlib.Core.List.{List}
use Prim.Native.Nat.{ℕ, zero, suc, ◌+◌, ◌<◌}
use native.Mathlib.Omega.{arith}
use lib.ListN.{get_or}
use borrow.Author.Tests.{ltb-true, lt-ltb}
use Rattle.base.specs.Bytes.{byte}
use Rattle.codes.specs.Rows.{rows, cell, fields, known, atom_kinds, limits_of}
use Rattle.entries.specs.Fields.{field, role, same_entry}
use Rattle.entries.specs.Faults.{node_ok, alone}
use Rattle.entries.proofs.InOrder.{entry_code, entry_field, entry_right}
use Rattle.entries.proofs.Unlike.{same_parts_lem, entries_unlike, apart_alone}
use Rattle.opening.specs.Opening.{version}
use Rattle.trace.specs.Layout.{values, index, tag, left, right, index_ok}
use Rattle.trace.specs.Right.{Value, atom, pair, ciphertext, ValuesDiffer}

-- ── Values ──

module _ (s : List ℕ) (i : ℕ) where
  abbrev value_limits : List ℕ
  value_limits = limits_of i 0 (atom_kinds 1) 0 0

  value_by : (op : ℕ) → tag s i ≡ op → op < 3 → left s i < get_or value_limits (cell 3 op 1) 0 → right s i < get_or value_limits (cell 3 op 2) 0 → Value s i
  unfolding cell byte atom_kinds
  value_by zero e h l r = atom e l r
  value_by (suc zero) e h l r = pair e l r
  value_by (suc (suc zero)) e h l r = ciphertext e l r
  value_by (suc (suc (suc op))) e h l r = absurd (omega arith)

  value_from : (op : ℕ) → tag s i ≡ op → known 3 1 op ≡ true → left s i < get_or value_limits (cell 3 op 1) 0 → right s i < get_or value_limits (cell 3 op 2) 0
      → node_ok s 3 1 10 0 i ≡ true
  unfolding node_ok fields byte
  value_from op c k l r = entry_right s 3 1 10 i value_limits op c k λ j h. each j h
    where
      each : (j : ℕ) → j < 2 → field s 3 10 i j < get_or value_limits (cell 3 op (j + 1)) 0
      each zero h = l
      each (suc zero) h = r
      each (suc (suc j)) h = absurd (omega arith)

  -- number 5 does not apply to value i exactly if it is in order
  pub value_ok_means : version s ≡ 1 → (node_ok s 3 (version s) 10 0 i ≡ true) ↔ Value s i
  unfolding node_ok rows fields known cell role byte atom_kinds
  value_ok_means v = rw v (λ e. to e, λ t. from t)
    where
      to : node_ok s 3 1 10 0 i ≡ true → Value s i
      to e =
          value_by (tag s i) refl (entry_code s 3 1 10 i value_limits e)
          (entry_field s 3 1 10 i value_limits e 0 (omega arith)) (entry_field s 3 1 10 i value_limits e 1 (omega arith))

      from : Value s i → node_ok s 3 1 10 0 i ≡ true
      from (atom c l r) = value_from 0 c refl l r
      from (pair c l r) = value_from 1 c refl l r
      from (ciphertext c l r) = value_from 2 c refl l r

-- number 6 applies to no value exactly if no two are equal
pub values_alone_means : (s : List ℕ) → ((i : ℕ) → i < values s → alone s 3 10 i ≡ true) ↔ ValuesDiffer s
values_alone_means s = (λ f. entries_unlike s 3 10 (values s) f, λ d i h. apart_alone s 3 10 i λ j l e. other i h j l d e)
  where
    other : (i : ℕ) → i < values s → (j : ℕ) → j < i → ValuesDiffer s → same_entry s 3 10 i j ≡ true → ⊥
    other i h j l d e =
        let (a, b, c) = same_parts_lem s 3 10 i j e in
        let q : i ≡ j = d i j h (omega arith) a b c in
        omega arith

-- ── Starting values and supply ──

-- number 5 does not apply to an index exactly if it lies below the limit
pub index_ok_means : (s : List ℕ) (base limit i : ℕ) → (index_ok s base limit i ≡ true) ↔ (index s base i < limit)
unfolding index_ok
index_ok_means s base limit i = (λ e. ltb-true _ _ e, λ h. lt-ltb _ _ h)

-- a value's tag is known
pub tag_known : {s : List ℕ} {i : ℕ} → Value s i → tag s i < 3
tag_known (atom e l r) = omega arith
tag_known (pair e l r) = omega arith
tag_known (ciphertext e l r) = omega arith
