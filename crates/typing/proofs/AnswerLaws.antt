-- What was found, in the words of the meaning: a slot is large enough, and the meaning's inference is right. Assumes nothing.
use mathlib.Core.Path.{◌≡◌, sym, ap, ◌∙◌}
use mathlib.Core.List.{List}
use Prim.Native.Nat.{ℕ, ◌+◌, ◌-◌, ◌*◌, ◌≤◌}
use native.Mathlib.Omega.{arith}
use lib.Dec.{leb}
use lib.ListN.{length}
use borrow.Author.Tests.{leb-true}
use Rattle.base.proofs.BothLaws.{both_right}
use Rattle.answers.specs.Ladder.{least}
use Rattle.table_layout.specs.Layout.{symbols, terms, steps, counts_ok}
use Rattle.table.specs.Faults.{table_rungs}
use Rattle.calculus.specs.Typing.{AnswerIs}
use Rattle.calculus.specs.Tables.{Entry, entry_at}
use Rattle.calculus.specs.Inference.{infer_by, infer}
use Rattle.calculus.specs.Version1.{signature1}
use Rattle.calculus.proofs.Capped.{capped_enough}
use Rattle.calculus.proofs.Version1Laws.{laws1, right1}
use Rattle.entries.specs.Tiling.{listed}
use Rattle.decoded.specs.Table.{term_at, step_at, table_of}
use Rattle.entries.proofs.Tiling.{listed_length}
use Rattle.decoded.proofs.Passed.{Entered, table_passed}
use Rattle.decoded.proofs.Checked.{table_checked}
use Rattle.slots.specs.Terms.{entry}
use Rattle.slots.specs.Slots.{widest_of, StartedAll, meet_in}
use Rattle.slots.proofs.TermLaws.{entries_are, in_range}
use Rattle.slots.proofs.SlotLaws.{caps}
use Rattle.typing.specs.Stages.{from, Found, Inferred}
use Rattle.typing.specs.Answers.{TypingIs, TableInferred}
use Rattle.std.proofs.Common.{Ok, Err}
use Rattle.typing.specs.Typing.{Typing}

module _ (s : List ℕ) (p : least (table_rungs s) ≡ Ok tt) where
  few_steps : Entered s → 2 * length (table_of s).steps + 1 ≤ 129
  unfolding counts_ok
  few_steps n =
      let l : steps s ≤ 64 = leb-true (steps s) 64 (both_right (leb (terms s) 128) _ (both_right (leb (symbols s) 96) _ n.frame.counts_right)) in
      omega (arith, listed_length (step_at s) 0 (steps s))

  -- the slots' inference is the meaning's
  from_is : from s (widest_of s) 0 ≡ infer signature1 (table_of s)
  from_is =
      let z : steps s - 0 ≡ steps s = omega arith in
      let l : length (table_of s).entries ≡ terms s = listed_length (term_at s) 0 (terms s) in
      ap (λ (n : ℕ). infer_by signature1 meet_in (entry s) (terms s) (widest_of s) (listed (step_at s) 0 n)) z
      ∙ ap (λ (f : ℕ → Entry signature1 ℕ). infer_by signature1 meet_in f (terms s) (widest_of s) (table_of s).steps) (entries_are s)
      ∙ ap (λ (n : ℕ). infer_by signature1 meet_in (entry_at signature1 0 (table_of s).entries) n (widest_of s) (table_of s).steps) (sym l)
      ∙ capped_enough signature1 laws1 (table_of s) 129 meet_in caps (table_checked s p) (few_steps (table_passed s p).entered)

  right : AnswerIs signature1 (table_of s) (from s (widest_of s) 0)
  right = rw from_is (right1 (table_of s) (table_checked s p))

  answered : (o : List ℕ) (r : Typing) → Found s (widest_of s) o r → TypingIs s o r
  answered o (Ok u) (Θ, e, h) = (Θ, h, rw e at right)
  answered o (Err n) e = rw e at right

pub table_inferred : (s w z o : List ℕ) (r : Typing) → StartedAll s 96 w z → Inferred z s o r → TableInferred s w o r
table_inferred s w z o r a i = record {
  answer = λ h p. answered s p o r (i.answer (widest_of s) (in_range s (table_passed s p).entered) (a.started h));
}
