-- `shelf_service::add_up`: what is left and the lengths passed are the bytes. Assumes nothing.
use mathlib.Core.Path.{◌≡◌}
use Prim.Native.Nat.{◌+◌}
use lib.ListN.{take}
use Rattle.shelf_service.specs.Shelf.{total}
use Rattle.shelf_service.proofs.add_up.Given as goal

abbrev pub invariant-loop-n : goal.invariant-loop-n
invariant-loop-n l = l.left + total (take l.n-index l.lengths) ≡ l.bytes
