-- Parts of a list, as the borrow checker states them. Assumes nothing.
use mathlib.Core.Path.{◌≡◌}
use mathlib.Core.List.{List}
use Prim.Native.Nat.{ℕ, ◌-◌}
use lib.ListN.{length, take, drop, length-drop}
use lib.Seq.{take-length}

-- `&s[a..]`: all from a on
pub part_from : (a : ℕ) (s : List ℕ) → take (length s - a) (drop a s) ≡ drop a s
part_from a s = rw (← length-drop a s) (take-length (drop a s))

-- its length
pub part_length : (a : ℕ) (s : List ℕ) → length (take (length s - a) (drop a s)) ≡ length s - a
part_length a s = rw (part_from a s) (length-drop a s)
