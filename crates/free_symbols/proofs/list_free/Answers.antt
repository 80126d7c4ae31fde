-- `free_symbols::list_free` meets its contract. Assumes nothing.
use mathlib.Core.Path.{◌≡◌, sym, ◌∙◌}
use mathlib.Core.List.{List}
use Prim.Native.Nat.{ℕ}
use native.Mathlib.Omega.{arith}
use Rattle.marks.specs.Put.{blank}
use Rattle.table_layout.specs.Layout.{symbols}
use Rattle.free_symbols.specs.Free.{bound_in}
use Rattle.free_symbols.proofs.BoundLaws.{marked_right}
use Rattle.free_symbols.proofs.FreeLaws.{free_none, free_more, free_all, lists_none, lists_free, lists_bound}
use borrow.Author.Rules.{rules}
use Rattle.free_symbols.proofs.list_free.Goals.{then-is_free, else-is_free}
use Rattle.free_symbols.proofs.list_free.Goals as goal

pub loop-x-init : goal.loop-x-init
loop-x-init c =
    let s : List ℕ = c.args.s.now in
    (search rules, λ e k. rw (free_none s) (lists_none _ k))

pub loop-x-preserved : goal.loop-x-preserved
unfolding blank
loop-x-preserved c =
    let s : List ℕ = c.args.s.now in
    let l = c.loop-x in
    elim c.if-is_free.branch [
      | then-is_free w ↦ rw (w.list-is, w.count-is, w.wide.ensures) (omega arith, λ e k. rw (free_more s l.x) (lists_free (bound_in s) _ _ l.x (search rules) (marked_right s e c.mark_bound.ensures) (sym c.get-is_free.ensures ∙ w.if-is_free.true) (l.invariant.1 e k) (omega arith)))
      | else-is_free w ↦ rw (w.list-is, w.count-is) (omega arith, λ e k. rw (free_more s l.x) (lists_bound (bound_in s) _ _ l.x (search rules) (marked_right s e c.mark_bound.ensures) (λ q. w.if-is_free.false (c.get-is_free.ensures ∙ q)) (l.invariant.1 e k)))
    ]

pub returns : goal.returns
returns c =
    let s : List ℕ = c.args.s.now in
    let l = c.loop-x in
    let q : l.x ≡ symbols s = omega (arith, c.symbol_count-x-end.ensures) in
    λ e k. rw (q, free_all s) at (l.invariant.1 e k)
