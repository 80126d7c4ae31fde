-- `compile::read_full`: one more read goes behind what was read. Assumes nothing.
use Rattle.std.proofs.Common.{◌≡◌, ℕ, ◌+◌, ◌≤◌, List, ◌++◌, rules, length, take, drop, ap, ◌∙◌, sym, subst, le_refl, length-take-le, drop_at}
use Rattle.std.proofs.lemmas.Slice.{take-put_mid_below}
use Rattle.std.specs.Io.KnownBytes.{Consumes}
use Rattle.std.proofs.KnownBytes.{Consumes-trans}
use borrow.Rule.Slice.PartMut.{put_mid, post_of}
use lib.Seq.{take-add, take-append-le}
use Rattle.compile.proofs.read_full.Goals as goal

-- the first a + n of a buffer in which ys was written at a are the first a and the first n of ys
front : (a k n : ℕ) (xs ys : List ℕ) → a ≤ length xs → n ≤ length ys → take a xs ++ take n ys ≡ take (a + n) (put_mid a k xs ys)
front a k n xs ys within fits =
    let new = put_mid a k xs ys in
    let after = post_of a k xs in
    let kept : take a new ≡ take a xs = take-put_mid_below _ _ _ _ _ (le_refl _) within in
    let behind : take n (drop a new) ≡ take n ys =
    ap (take n) (drop_at (take a xs) (ys ++ after) a (length-take-le a xs within)) ∙ take-append-le n ys after fits in
    sym (take-add a n new ∙ ap (λ l. l ++ take n (drop a new)) kept ∙ ap (λ l. take a xs ++ l) behind)

pub loop-done-preserved : goal.loop-done-preserved
loop-done-preserved g c = record {
  same = search rules;
  room = search rules;
  read = subst (Consumes _ _) (front c.loop-done.done _ c.in_ok-n.n c.loop-done.bytes c.read.new.buf c.loop-done.invariant.room c.in_ok-n.ensures.bound.0) (Consumes-trans _ _ _ _ _ c.loop-done.invariant.read c.in_ok-n.ensures.bytes.0);
}
