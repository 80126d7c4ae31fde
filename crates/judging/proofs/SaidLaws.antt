-- What the code finds at a statement that is not a build is the judge's turn. Assumes that 1 to 9 pass.
use mathlib.Core.Path.{◌≡◌, sym, ◌∙◌}
use mathlib.Core.Bool.{true, false}
use mathlib.Core.Option.{none}
use mathlib.Core.List.{List}
use Prim.Native.Nat.{ℕ, ◌<◌, ◌≤◌}
use borrow.Author.Tests.{eqb-true}
use Rattle.answers.specs.Ladder.{least}
use Rattle.entries.specs.Fields.{code}
use Rattle.table_layout.specs.Layout.{steps, steps_at}
use Rattle.table.specs.Faults.{table_rungs}
use Rattle.calculus.specs.Version1.{signature1}
use Rattle.rendering.specs.Judge.{Meaning, turn}
use Rattle.decoded_list.specs.Statements.{statement_of}
use Rattle.decoded.specs.Indexes.{entries_of}
use Rattle.judging.specs.declared.Registers.{Registers}
use Rattle.judging.specs.declared.State.{State}
use Rattle.judging.specs.Meanings.{Known}
use Rattle.judging.specs.Due.{BindsNext, due_from, is_due, new_of}
use Rattle.judging.specs.Turns.{Answer, Next, HalfDone, WentOn}
use Rattle.judging.proofs.DueBytes.{new_count}
use Rattle.judging.proofs.DueLaws.{Operands, DueIs, due_is}
use Rattle.judging.proofs.TurnLaws.{turn_end, turn_due, turn_not_due, due_small, due_left_done}
use Rattle.std.proofs.Common.{Ok}

module _ (t : List ℕ) (e : least (table_rungs t) ≡ Ok tt) (ms : List Meaning) (a : State) (half_done : HalfDone t a) (op u v p q x : ℕ) (l : op < 7) (o : Operands ms op u v p q) where
  -- the judge's answer
  abbrev answer : Answer
  answer = turn signature1 (entries_of t) ms (due_from t a.step a.half) (statement_of op u v x)

  -- all steps are done
  pub said_end : steps t ≤ a.step → answer ≡ none
  said_end h = turn_end t ms a.step op u v x a.half l h (λ z. (half_done z).0)

  module _ (h : a.step < steps t) where
    due : DueIs t a.step a.half
    due = due_is t e a.step h a.half (λ z. (half_done z).1)

    -- it is not the one due
    pub said_not : is_due t a.step a.half op p q x ≡ false → answer ≡ none
    said_not z = turn_not_due t ms a.step a.half due op u v p q x l o z

    -- it is
    pub said_on : (z z' : Registers) (b : State) → is_due t a.step a.half op p q x ≡ true → Known ms z
        → BindsNext op x z z' → Next op a.step b → WentOn t ms z' op answer b
    said_on z z' b y known f g =
        record {
          new = new_of op x;
          turned = turn_due t ms a.step a.half due op u v p q x l o y ∙ rw (g.step_right, g.half_right);
          count = new_count op x l;
          known = f ms (due_small t ms a.step a.half due op u v p q x l o y) known;
          done = λ w. done (eqb-true op 4 (sym g.half_right ∙ w));
        }
      where
        done : op ≡ 4 → (b.step < steps t) × (code t 1 (steps_at t) b.step ≡ 4)
        done i =
            let s : b.step ≡ a.step = g.step_right ∙ rw i in
            rw s (h, due_left_done t ms a.step a.half due op u v p q x l o y i)
