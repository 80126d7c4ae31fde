-- `starting::start_seen` meets its contract. Assumes nothing.
use borrow.Author.Rules.{rules}
use mathlib.Core.List.{List}
use Prim.Native.Nat.{ℕ, ◌-◌}
use native.Mathlib.Omega.{arith}
use lib.ListN.{length}
use Rattle.trace.specs.Layout.{starts_at, index_place, index}
use Rattle.entries.proofs.Words.{slice_bytes, word_small}
use Rattle.starting.proofs.StartLaws.{seen_short, seen_there}
use Rattle.starting.proofs.start_seen.Goals as goal

pub returns-then-trace-lt10 : goal.returns-then-trace-lt10
returns-then-trace-lt10 c = seen_short _ _ _ _ _ c.if-trace-lt10.true

pub overflow_cast-v : goal.overflow_cast-v
unfolding index
overflow_cast-v c =
    let a = c.args in
    let s = a.trace.now in
    omega (arith, c.starting_at-v.ensures, word_small s (index_place (starts_at s) a.i) (slice_bytes s (search rules)))

pub returns : goal.returns
returns c =
    let s : List ℕ = c.args.trace.now in
    seen_there _ s _ _ _ _ _ (length s - 10) _ (slice_bytes _ (search rules)) c.visible_at.ensures (omega (arith, c.if-trace-lt10.false)) (omega (arith, c.type_at.ensures)) c.value_count-n.ensures c.starting_at-v.ensures
