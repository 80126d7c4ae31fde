-- `translate::build_term` meets its contract. Assumes nothing.
use Rattle.std.proofs.Common.{sym, ◌∙◌, arith}
use Rattle.translate.specs.Stepwise.{built}
use Rattle.translate.proofs.BuiltLaws.{built_settled}
use Rattle.translate.proofs.Writing.{stands_none}
use Rattle.translate.proofs.Building.{compound, left_lower, right_lower, left_ready, right_ready, make_fits, made_done}
use Rattle.translate.proofs.+build_term.Goals as goal

pub returns-then-is_settled : goal.returns-then-is_settled
returns-then-is_settled t c r y q =
    stands_none (built c.args.s.now c.args.i) r (built_settled _ c.requires.0 _ c.requires.1 r.1 _ q.stands.holds.of_terms (sym c.is_settled.ensures ∙ c.if-is_settled.true)) q.stands

pub build_term-requires : goal.build_term-requires
build_term-requires t c =
    let q = c.requires.2.2 in
    let n = sym c.is_settled.ensures ∙ c.if-is_settled.false in
    let l = left_lower _ c.requires.0 _ c.requires.1 c.term_field-left.ensures c.term_field-right.ensures q n in
    (omega (arith, c.decreases, l), (c.requires.0, omega (arith, l), (_, _, left_ready _ c.requires.0 _ c.requires.1 c.term_field-left.ensures c.term_field-right.ensures q n)))

pub build_term-requires-2 : goal.build_term-requires-2
build_term-requires-2 t c =
    let q = c.requires.2.2 in
    let n = sym c.is_settled.ensures ∙ c.if-is_settled.false in
    let f = c.term_field-left.ensures in
    let g = c.term_field-right.ensures in
    let l = right_lower _ c.requires.0 _ c.requires.1 f g q n in
    let d = c.build_term.ensures _ _ (left_ready _ c.requires.0 _ c.requires.1 f g q n) in
    (omega (arith, c.decreases, l), (c.requires.0, omega (arith, l), (_, _, right_ready _ c.requires.0 _ c.requires.1 f g q n d)))

pub make_term-requires : goal.make_term-requires
make_term-requires t c =
    let q = c.requires.2.2 in
    let n = sym c.is_settled.ensures ∙ c.if-is_settled.false in
    let f = c.term_field-left.ensures in
    let g = c.term_field-right.ensures in
    let d = c.build_term.ensures _ _ (left_ready _ c.requires.0 _ c.requires.1 f g q n) in
    let d₂ = c.build_term-2.ensures _ _ (right_ready _ c.requires.0 _ c.requires.1 f g q n d) in
    let m = make_fits _ c.requires.0 _ c.requires.1 f g q n d d₂ in
    ((compound _ c.requires.0 _ c.requires.1 f g q n).code_small, m.0, m.1)

pub returns : goal.returns
returns t c r y q =
    let n = sym c.is_settled.ensures ∙ c.if-is_settled.false in
    let f = c.term_field-left.ensures in
    let g = c.term_field-right.ensures in
    let d = c.build_term.ensures _ _ (left_ready _ c.requires.0 _ c.requires.1 f g q n) in
    let d₂ = c.build_term-2.ensures _ _ (right_ready _ c.requires.0 _ c.requires.1 f g q n d) in
    made_done _ c.requires.0 _ c.requires.1 f g q n d d₂ c.make_term.ensures.written c.make_term.ensures.given
