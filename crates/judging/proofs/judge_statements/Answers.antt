-- `judging::judge_statements` meets its contract. Assumes nothing.
use mathlib.Core.Path.{refl, sym, ap, ◌∙◌}
use Prim.Native.Nat.{ℕ, ◌≤◌, ◌<◌}
use lib.ListN.{length-replicate}
use Rattle.list.specs.Layout.{statements}
use Rattle.list.proofs.Framed.{list_passes}
use Rattle.decoded.specs.Table.{free_count}
use Rattle.std.proofs.lemmas.Result.{err_from_is_err_and}
use Rattle.judging.specs.Verdicts.{verdict_of}
use Rattle.judging.proofs.WalkLaws.{turn_stops, turn_goes, going_start, going_stop, going_on, going_end}
use borrow.Author.Rules.{rules}
use Rattle.judging.proofs.judge_statements.Goals as goal

pub loop-i-init : goal.loop-i-init
loop-i-init c = λ e p. going_start c.args.table.now e c.args.list.now _ _ refl refl (rw c.wide-given.ensures (c.list_free.ensures e (length-replicate {A = ℕ} 256 0))) (search rules)

pub returns-in_err-state : goal.returns-in_err-state
returns-in_err-state c =
    let a = c.args in
    let n = c.loop-i in
    let k : n.i < statements a.list.now = rw c.statement_count-i-end.ensures at c.loop-i-test.true in
    let r = err_from_is_err_and c.from_residual.result c.from_residual.ensures.1 in
    let z = turn_stops _ _ _ (sym c.ok_or.ensures.value ∙ c.in_err-state.was) in
    record {
      verdict = λ e p.
          let y = (list_passes a.list.now (free_count a.table.now)).0 p in
          rw (r.1, r.2, z.1) (going_stop a.table.now a.list.now _ _ e y n.state n.i k (n.invariant e y) _ c.statements_at-base.ensures _ c.take_turn-turn.ensures z.0);
    }

pub loop-i-preserved : goal.loop-i-preserved
loop-i-preserved c =
    let a = c.args in
    let n = c.loop-i in
    let k : n.i < statements a.list.now = rw c.statement_count-i-end.ensures at c.loop-i-test.true in
    let z = turn_goes _ _ _ (sym c.ok_or.ensures.value ∙ c.in_ok-state.was) in
    λ e p. going_on a.table.now a.list.now _ _ e p n.state n.i k (n.invariant e p) _ c.statements_at-base.ensures _ c.take_turn-turn.ensures _ z

pub returns : goal.returns
returns c =
    let k : statements c.args.list.now ≤ c.loop-i.i = rw c.statement_count-i-end.ensures at c.loop-i-test.false in
    record { verdict = λ e p. ap verdict_of c.at_end.ensures ∙ going_end c.args.table.now c.args.list.now _ e _ _ k (c.loop-i.invariant e ((list_passes c.args.list.now (free_count c.args.table.now)).0 p)) }
