-- `filing::way_of` meets its contract. Assumes nothing.
use Rattle.codes.specs.Kinds.{kind_number}
use Rattle.filing.proofs.Filing.{way_end, way_out, way_free, way_twin, way_on}
use Rattle.filing.specs.Filing.{key_of, way_of}
use Prim.Native.Nat.{◌+◌, ◌-◌}
use native.Mathlib.Omega.{arith}
use mathlib.Core.Path.{◌≡◌, refl, sym, ◌∙◌}
use Rattle.filing.proofs.way_of.Goals as goal

pub loop-init : goal.loop-init
unfolding way_of
loop-init c = refl

pub returns-then-slots-slot : goal.returns-then-slots-slot
returns-then-slots-slot c =
    let a = c.args in
    let l = c.loop in
    sym (way_out (key_of a.s.now (kind_number a.kind) a.base) a.slots.now a.own (41 - l.counter) l.key l.slot (omega arith) c.if-slots-slot.true) ∙ l.invariant

pub returns-then-held-eq0 : goal.returns-then-held-eq0
returns-then-held-eq0 c =
    let a = c.args in
    let l = c.loop in
    sym (way_free (key_of a.s.now (kind_number a.kind) a.base) a.slots.now a.own (41 - l.counter) l.key l.slot (omega arith) c.if-slots-slot.false c.if-held-eq0.true) ∙ l.invariant

pub returns-then-key_at-own : goal.returns-then-key_at-own
returns-then-key_at-own c =
    let a = c.args in
    let l = c.loop in
    sym (way_twin (key_of a.s.now (kind_number a.kind) a.base) a.slots.now a.own (41 - l.counter) l.key l.slot (omega arith) c.if-slots-slot.false c.if-held-eq0.false (sym c.key_at.ensures ∙ c.if-key_at-own.true)) ∙ l.invariant

pub loop-preserved : goal.loop-preserved
loop-preserved c =
    let a = c.args in
    let l = c.loop in
    let one : 41 - (l.counter + 1) ≡ 41 - l.counter - 1 = omega arith in
    rw one (sym (way_on (key_of a.s.now (kind_number a.kind) a.base) a.slots.now a.own (41 - l.counter) l.key l.slot (omega arith) c.if-slots-slot.false c.if-held-eq0.false (λ e. c.if-key_at-own.false (c.key_at.ensures ∙ e))) ∙ l.invariant)

pub returns : goal.returns
returns c =
    let a = c.args in
    let l = c.loop in
    let z : 41 - l.counter ≡ 0 = omega arith in
    sym (way_end (key_of a.s.now (kind_number a.kind) a.base) a.slots.now a.own l.key l.slot) ∙ (rw z at l.invariant)
