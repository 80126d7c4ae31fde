-- The fields of terms and steps are bytes. Assumes nothing.
use mathlib.Core.Path.{◌≡◌, ap}
use mathlib.Core.List.{List}
use Prim.Native.Nat.{ℕ, ◌+◌, ◌*◌}
use native.Mathlib.Omega.{arith}
use Rattle.base.specs.Bytes.{byte}
use Rattle.codes.specs.Rows.{field_bytes, width}
use Rattle.entries.specs.Fields.{field, place_of, number}

pub term_field_byte : (s : List ℕ) (base i j : ℕ) → field s 0 base i j ≡ byte s (base + i * 3 + 1 + j)
unfolding field place_of number field_bytes width byte
term_field_byte s base i j = ap (byte s) (omega arith)

pub step_field_byte : (s : List ℕ) (base i j : ℕ) → field s 1 base i j ≡ byte s (base + i * 5 + 1 + j)
unfolding field place_of number field_bytes width byte
step_field_byte s base i j = ap (byte s) (omega arith)
