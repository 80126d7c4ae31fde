-- `starting::check_starts` meets its contract. Assumes nothing.
use mathlib.Core.Path.{refl, ◌∙◌}
use Prim.Native.Nat.{ℕ}
use native.Mathlib.Omega.{arith}
use lib.ListN.{length-replicate}
use Rattle.starting.proofs.StartLaws.{none_yet, wrong_starts, all_start, one_more, one_lacks}
use Rattle.starting.proofs.check_starts.Goals as goal

pub returns-then-count-n : goal.returns-then-count-n
returns-then-count-n c = wrong_starts _ _ _ _ _ (λ e. c.list_free-n.ensures e (length-replicate {A = ℕ} 256 0)) (λ e. c.if-count-n.true (c.starting_count-count.ensures ∙ e)) _ (c.refuse.ensures ∙ rw (c.min.ensures, c.starting_count-count.ensures) refl)

pub loop-i-init : goal.loop-i-init
loop-i-init c = none_yet _ _ _

pub returns-then-not-start_seen : goal.returns-then-not-start_seen
returns-then-not-start_seen c = one_lacks _ _ _ _ _ (λ e. c.list_free-n.ensures e (length-replicate {A = ℕ} 256 0)) (omega (arith, c.if-count-n.false, c.starting_count-count.ensures)) _ c.loop-i.invariant _ refl _ c.start_seen.ensures (omega (arith, c.starting_count-count.ensures)) c.if-not-start_seen.true _ c.refuse-then-not-start_seen.ensures

pub loop-i-preserved : goal.loop-i-preserved
loop-i-preserved c = one_more _ _ _ _ _ (λ e. c.list_free-n.ensures e (length-replicate {A = ℕ} 256 0)) (omega (arith, c.if-count-n.false, c.starting_count-count.ensures)) _ c.loop-i.invariant _ refl _ c.start_seen.ensures (omega (arith, c.starting_count-count.ensures)) c.if-not-start_seen.false

pub returns : goal.returns
returns c = all_start _ _ _ _ _ (λ e. c.list_free-n.ensures e (length-replicate {A = ℕ} 256 0)) (omega (arith, c.if-count-n.false, c.starting_count-count.ensures)) _ c.loop-i.invariant (omega arith)
