-- `filing::way_of` meets its contract. Assumes nothing.
use Rattle.codes.specs.Kinds.{kind_number}
use Rattle.filing.specs.Filing.{key_of, way_from, way_of}
use Prim.Native.Nat.{◌-◌}
use mathlib.Core.Path.{◌≡◌}
use Rattle.filing.proofs.way_of.Given as goal

abbrev pub invariant-loop : goal.invariant-loop
invariant-loop l = way_from (key_of l.s (kind_number l.kind) l.base) l.slots l.own (41 - l.counter) l.key l.slot ≡ way_of l.s (kind_number l.kind) l.base l.slots l.own
