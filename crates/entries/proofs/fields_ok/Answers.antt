-- `entries::fields_ok` meets its contract. Assumes nothing.
use mathlib.Core.Path.{◌≡◌, refl, sym, ap, ◌∙◌}
use native.Mathlib.Omega.{arith}
use Rattle.base.proofs.Searched.{first_wrong_lem, first_right, first_end}
use Rattle.codes.specs.Kinds.{kind_number}
use Rattle.codes.specs.Rows.{fields}
use Rattle.entries.specs.Fields.{field_ok, fields_ok}
use Rattle.entries.proofs.fields_ok.Goals as goal

pub loop-j-init : goal.loop-j-init
loop-j-init c = refl

pub returns-then-not-field_ok : goal.returns-then-not-field_ok
unfolding fields_ok
returns-then-not-field_ok c =
    let q : c.field_count-n.result ≡ fields (kind_number c.args.kind) = c.field_count-n.ensures ∙ ap fields c.number.ensures in
    let a = c.args in
    rw (← q, c.loop-j.invariant, first_wrong_lem (field_ok a.s.now (kind_number a.kind) a.base a.i a.limits.now) c.loop-j.j c.field_count-n.result (omega arith) (sym c.field_ok.ensures ∙ c.if-not-field_ok.true))

pub loop-j-preserved : goal.loop-j-preserved
loop-j-preserved c = c.loop-j.invariant ∙ first_right _ _ _ (omega arith) (sym c.field_ok.ensures ∙ c.if-not-field_ok.false)

pub returns : goal.returns
unfolding fields_ok
returns c =
    let q : c.field_count-n.result ≡ fields (kind_number c.args.kind) = c.field_count-n.ensures ∙ ap fields c.number.ensures in
    let a = c.args in
    rw (← q, c.loop-j.invariant, first_end (field_ok a.s.now (kind_number a.kind) a.base a.i a.limits.now) c.loop-j.j c.field_count-n.result (omega arith))
