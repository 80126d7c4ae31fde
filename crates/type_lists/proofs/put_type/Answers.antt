-- `type_lists::put_type` meets its contract. Assumes nothing.
use mathlib.Core.Path.{refl}
use lib.ListN.{length-set}
use Rattle.buffers.proofs.OverLaws.{rest_kept}
use native.Mathlib.Omega.{arith}
use Rattle.type_lists.proofs.ListLaws.{put_short, put_whole}
use Rattle.type_lists.proofs.put_type.Goals as goal

pub returns-then-out-m : goal.returns-then-out-m
returns-then-out-m c = put_short _ _ _ _ c.slot_type-t.ensures c.if-out-m.true

pub slice_bounds-copy-count : goal.slice_bounds-copy-count
slice_bounds-copy-count c = simp length-set (omega arith)

pub slice_bounds-copy-start : goal.slice_bounds-copy-start
slice_bounds-copy-start c = simp length-set (omega arith)

pub shape_of-out : goal.shape_of-out
shape_of-out c = rest_kept c.args.out.now _ c.copy.new.out c.copy.auto.out

pub returns : goal.returns
returns c = put_whole _ c.args.out.now _ _ c.slot_type-t.ensures c.if-out-m.false _ refl _ c.copy.ensures.written
