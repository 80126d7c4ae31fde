-- Where a statement's fields stand. Assumes nothing.
use mathlib.Core.Path.{◌≡◌, ap}
use mathlib.Core.List.{List}
use Prim.Native.Nat.{ℕ, ◌+◌, ◌*◌}
use native.Mathlib.Omega.{arith}
use Rattle.base.specs.Bytes.{byte}
use Rattle.codes.specs.Rows.{field_bytes, width}
use Rattle.entries.specs.Fields.{field, place_of, number}

-- the fields of a statement are bytes
pub statement_field_byte : (s : List ℕ) (base i j : ℕ) → field s 2 base i j ≡ byte s (base + i * 4 + 1 + j)
unfolding field place_of number field_bytes width byte
statement_field_byte s base i j = ap (byte s) (omega arith)
