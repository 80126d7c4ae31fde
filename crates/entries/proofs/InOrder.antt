-- What number 5 tests of an entry of any kind: its code is known, and each field lies below the limit of its role. Assumes nothing.
use mathlib.Core.Path.{◌≡◌}
use mathlib.Core.Bool.{true}
use mathlib.Core.List.{List}
use Prim.Native.Nat.{ℕ, ◌+◌, ◌<◌}
use native.Mathlib.Omega.{arith}
use lib.Dec.{ltb}
use lib.ListN.{get_or}
use borrow.Author.Tests.{ltb-true, lt-ltb}
use Rattle.base.proofs.BothLaws.{both_left, both_right, both_true}
use Rattle.base.proofs.Searched.{all_right_each, each_all_right}
use Rattle.codes.specs.Rows.{rows, cell, fields, known}
use Rattle.entries.specs.Fields.{code, field, role, field_ok, fields_ok, entry_ok}

-- an entry in order: its code is known, and each field lies below the limit of its role
known_code : (kind version op : ℕ) → known kind version op ≡ true → op < rows kind
unfolding known
known_code kind version op e = ltb-true _ _ (both_left (ltb op (rows kind)) _ e)

pub entry_code : (s : List ℕ) (kind version base i : ℕ) (limits : List ℕ) → entry_ok s kind version base i limits ≡ true → code s kind base i < rows kind
unfolding entry_ok
entry_code s kind version base i limits e = known_code kind version _ (both_left (known kind version (code s kind base i)) _ e)

pub entry_field : (s : List ℕ) (kind version base i : ℕ) (limits : List ℕ) → entry_ok s kind version base i limits ≡ true
    → (j : ℕ) → j < fields kind → field s kind base i j < get_or limits (role s kind base i j) 0
unfolding entry_ok fields_ok field_ok
entry_field s kind version base i limits e j h =
    ltb-true _ _ (all_right_each (field_ok s kind base i limits) (fields kind) (both_right (known kind version (code s kind base i)) _ e) j h)

-- and the other way: an entry whose code is op is in order where op is known and each field lies below the limit of its role
pub entry_right : (s : List ℕ) (kind v base i : ℕ) (limits : List ℕ) (op : ℕ) → code s kind base i ≡ op → known kind v op ≡ true
    → ((j : ℕ) → j < fields kind → field s kind base i j < get_or limits (cell kind op (j + 1)) 0) → entry_ok s kind v base i limits ≡ true
unfolding entry_ok fields_ok field_ok role
entry_right s kind v base i limits op c k f =
    both_true (known kind v (code s kind base i)) _ (rw c k) (each_all_right (field_ok s kind base i limits) (fields kind) λ j h. one j (f j h))
  where
    one : (j : ℕ) → field s kind base i j < get_or limits (cell kind op (j + 1)) 0 → field_ok s kind base i limits j ≡ true
    one j l = lt-ltb (field s kind base i j) (get_or limits (cell kind (code s kind base i) (j + 1)) 0) (rw c l)

-- an unused field is 0: the limit of no role is 1
pub zero_below : {v : ℕ} → v ≡ 0 → v < 1
zero_below e = omega arith

pub below_zero : {v : ℕ} → v < 1 → v ≡ 0
below_zero h = omega arith
