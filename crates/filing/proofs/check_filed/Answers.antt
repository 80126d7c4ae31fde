-- `filing::check_filed` meets its contract. Assumes nothing.
use borrow.Author.Rules.{rules}
use Rattle.codes.specs.Kinds.{kind_number}
use Rattle.answers.specs.Files.{file_number}
use Rattle.filing.proofs.Filing.{filed_room, filed_alone, filed_equal, filed_more}
use Rattle.entries.proofs.Words.{slice_bytes}
use Rattle.entries.specs.Faults.{alone, twin_rung}
use Rattle.answers.proofs.Ladder.{rung_found, rung_clean}
use Rattle.base.proofs.Searched.{first_right}
use native.Mathlib.Omega.{arith}
use mathlib.Core.Path.{refl, sym, ◌∙◌}
use Rattle.filing.proofs.check_filed.Goals as goal

pub offset_bounds-slots-slot : goal.offset_bounds-slots-slot
offset_bounds-slots-slot c =
    let a = c.args in
    omega (arith, filed_room a.s.now (kind_number a.kind) a.base c.loop-i.slots c.key_at.result _ (sym c.way_of.ensures ∙ c.in-Free.is))

pub bounds-slots-slot : goal.bounds-slots-slot
bounds-slots-slot c =
    let a = c.args in
    filed_room a.s.now (kind_number a.kind) a.base c.loop-i.slots c.key_at.result _ (sym c.way_of.ensures ∙ c.in-Free.is)

pub returns-in-Twin : goal.returns-in-Twin
returns-in-Twin c =
    let a = c.args in
    let l = c.loop-i in
    c.refuse.ensures ∙ rung_found (twin_rung a.s.now (kind_number a.kind) (file_number a.file) a.base a.count) l.i _ l.invariant.alone_so_far c.loop-i-test.true (filed_equal a.s.now (kind_number a.kind) a.base l.slots l.i (slice_bytes a.s.now (search rules)) l.invariant.filed_so_far (rw c.key_at.ensures at (sym c.way_of.ensures ∙ c.in-Twin.is))) refl

pub loop-i-preserved : goal.loop-i-preserved
loop-i-preserved c =
    let a = c.args in
    let l = c.loop-i in
    let e = rw c.key_at.ensures at (sym c.way_of.ensures ∙ c.in-Free.is) in
    record {
      alone_so_far = l.invariant.alone_so_far ∙ first_right (alone a.s.now (kind_number a.kind) a.base) l.i a.count c.loop-i-test.true (filed_alone a.s.now (kind_number a.kind) a.base l.slots l.i _ l.invariant.filed_so_far e);
      filed_so_far = filed_more a.s.now (kind_number a.kind) a.base l.slots l.i _ l.invariant.filed_so_far e;
    }

pub returns : goal.returns
returns c =
    let a = c.args in
    let l = c.loop-i in
    rung_clean (twin_rung a.s.now (kind_number a.kind) (file_number a.file) a.base a.count) l.i l.invariant.alone_so_far c.loop-i-test.false
