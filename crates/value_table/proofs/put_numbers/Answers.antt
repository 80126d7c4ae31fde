-- `value_table::put_numbers` meets its contract. Assumes nothing.
use mathlib.Core.Path.{◌≡◌, ◌∙◌}
use Prim.Native.Nat.{ℕ, ◌/◌, ◌%◌, ◌<◌}
use native.Mathlib.Omega.{arith}
use borrow.Author.Rules.{rules}
use Rattle.value_table.specs.Values.{five_bytes}
use Rattle.value_table.proofs.put_numbers.Goals as goal

high_byte : (n : ℕ) → n < 65536 → n / 256 % 256 ≡ n / 256
high_byte n h = omega arith

pub returns : goal.returns
unfolding five_bytes
returns c = c.copy.ensures.written ∙ rw (c.to_be_bytes.ensures, c.to_be_bytes-2.ensures, high_byte c.args.a (search rules), high_byte c.args.b (search rules))
