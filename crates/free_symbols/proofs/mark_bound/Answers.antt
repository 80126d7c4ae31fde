-- `free_symbols::mark_bound` meets its contract. Assumes nothing.
use mathlib.Core.Path.{◌≡◌}
use mathlib.Core.List.{List}
use Prim.Native.Nat.{ℕ}
use native.Mathlib.Omega.{arith}
use Rattle.marks.proofs.PutLaws.{put_start, put_more}
use Rattle.table_layout.specs.Layout.{steps}
use Rattle.table_binding.specs.Binding.{binds}
use Rattle.free_symbols.specs.Free.{is_bound}
use Rattle.free_symbols.proofs.mark_bound.Goals as goal

pub loop-k-init : goal.loop-k-init
loop-k-init c = put_start _ (λ e x. binds c.args.s.now e x) 1

pub loop-k-preserved : goal.loop-k-preserved
loop-k-preserved c =
    let s : List ℕ = c.args.s.now in
    put_more (λ e x. binds s e x) c.loop-k.k c.loop-k.invariant c.mark_step.ensures

pub returns : goal.returns
unfolding is_bound
returns c =
    let s : List ℕ = c.args.s.now in
    let q : c.loop-k.k ≡ steps s = omega (arith, c.step_count-k-end.ensures) in
    rw q at c.loop-k.invariant
