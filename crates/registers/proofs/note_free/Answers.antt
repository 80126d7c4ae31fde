-- `registers::note_free` meets its contract. Assumes nothing.
use mathlib.Core.Path.{◌≡◌, sym, ◌∙◌}
use mathlib.Core.List.{List}
use Prim.Native.Nat.{ℕ, ◌+◌, ◌<◌}
use native.Mathlib.Omega.{arith}
use lib.ListN.{length, get_or, length-replicate}
use borrow.Author.Rules.{rules}
use Rattle.rendering.specs.Judge.{symbol}
use Rattle.decoded.specs.Table.{free_of}
use Rattle.registers.proofs.HeldLaws.{held_none, noted_symbol}
use Rattle.registers.proofs.Marking.{free_to, free_none, free_more, free_length, free_all, start_length}
use Rattle.registers.proofs.note_free.Goals as goal

pub loop-i-init : goal.loop-i-init
loop-i-init c = λ e b. rw (free_none c.args.s.now) (held_none symbol _ b)

pub loop-i-preserved : goal.loop-i-preserved
loop-i-preserved c =
    let s : List ℕ = c.args.s.now in
    let i : ℕ = c.loop-i.i in
    λ e b.
    let f = c.list_free-registers.ensures e (length-replicate {A = ℕ} 256 0) in
    let h : i < length (free_of s) = omega (arith, f.count, c.loop-i-test.true) in
    let x : c.get.result ≡ get_or (free_of s) i 0 = c.get.ensures ∙ f.at i c.loop-i-test.true in
    rw (free_more s i h, ← x) (noted_symbol (free_to s i) _ _ c.get.result (i + 1) (search rules) (omega (arith, free_length s i)) (c.loop-i.invariant e b) c.note.ensures)

pub returns : goal.returns
returns c =
    let s : List ℕ = c.args.s.now in
    λ e b.
    let f = c.list_free-registers.ensures e (length-replicate {A = ℕ} 256 0) in
    let q : c.loop-i.i ≡ length (free_of s) = omega (arith, f.count, c.loop-i-test.false) in
    (rw (free_all s c.loop-i.i q) at (c.loop-i.invariant e b), f.count ∙ sym (start_length s))
