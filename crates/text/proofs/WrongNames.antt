-- The first wrong name is found: what `wrong_name` computes is what is meant. Assumes nothing.
use mathlib.Core.Path.{◌≡◌, refl, sym, ap, ◌∙◌}
use mathlib.Core.Bool.{Bool, true, false, cond}
use mathlib.Core.Option.{none, some, some_inj, none-ne-some}
use mathlib.Core.List.{List, [], ◌∷◌, ◌++◌}
use Prim.Native.Nat.{ℕ}
use lib.Dec.{eqb}
use borrow.Author.Tests.{eqb-true, eqb-false, ne_eqb}
use Rattle.calculus.specs.Scope.{All, all_nil, all_cons}
use Rattle.text.specs.Places.{Occurrence, givings, first_wrong, wrong_name, GivenOnce}
use Rattle.text.specs.Statements.{WrongNameIsFirst, NoNameIsWrong}

module _ (all : List Occurrence) where
  -- where the first wrong one of some stands, counted among all
  record WrongIn (os : List Occurrence) (p : ℕ) : Type 0 where
    before : List Occurrence
    wrong : Occurrence
    after : List Occurrence
    in_order : os ≡ before ++ (wrong ∷ after)
    right_before : All (GivenOnce all) before
    not_once : ¬ GivenOnce all wrong
    stands_at : wrong.at ≡ p

  found : (os : List Occurrence) (p : ℕ) → first_wrong all os ≡ some p → WrongIn os p
  unfolding first_wrong
  found [] p e = absurd (none-ne-some p e)
  found (o ∷ os) p e = go (eqb (givings o.name all) 1) refl e (found os p)
    where
      go : (t : Bool) → eqb (givings o.name all) 1 ≡ t → cond t (first_wrong all os) (some o.at) ≡ some p → (first_wrong all os ≡ some p → WrongIn os p) → WrongIn (o ∷ os) p
      go true q e f =
          let w = f e in
          record {
            before = o ∷ w.before;
            wrong = w.wrong;
            after = w.after;
            in_order = ap (λ (l : List Occurrence). o ∷ l) w.in_order;
            right_before = all_cons (eqb-true _ _ q) w.right_before;
            not_once = w.not_once;
            stands_at = w.stands_at;
          }
      go false q e f = record { before = []; wrong = o; after = os; in_order = refl; right_before = all_nil; not_once = eqb-false _ _ q; stands_at = some_inj.0 e }

  finds : (before : List Occurrence) (o : Occurrence) (after : List Occurrence) → All (GivenOnce all) before → ¬ GivenOnce all o → first_wrong all (before ++ (o ∷ after)) ≡ some o.at
  unfolding first_wrong
  finds [] o after all_nil n = rw (ne_eqb (givings o.name all) 1 n)
  finds (b ∷ bs) o after (all_cons h a) n = rw h (finds bs o after a n)

  all_once : (os : List Occurrence) → first_wrong all os ≡ none → All (GivenOnce all) os
  unfolding first_wrong
  all_once [] e = all_nil
  all_once (o ∷ os) e = go (eqb (givings o.name all) 1) refl e (all_once os)
    where
      go : (t : Bool) → eqb (givings o.name all) 1 ≡ t → cond t (first_wrong all os) (some o.at) ≡ none → (first_wrong all os ≡ none → All (GivenOnce all) os) → All (GivenOnce all) (o ∷ os)
      go true q e f = all_cons (eqb-true _ _ q) (f e)
      go false q e f = absurd (none-ne-some o.at (sym e))

  none_wrong : (os : List Occurrence) → All (GivenOnce all) os → first_wrong all os ≡ none
  unfolding first_wrong
  none_wrong [] all_nil = refl
  none_wrong (o ∷ os) (all_cons h a) = rw h (none_wrong os a)

pub wrong_name_is_first : WrongNameIsFirst
unfolding wrong_name
wrong_name_is_first os p = (
  λ e. let w = found os os p e in
      record {
        before = w.before;
        wrong = w.wrong;
        after = w.after;
        in_order = w.in_order;
        right_before = w.right_before;
        not_once = w.not_once;
        stands_at = w.stands_at;
      },
  λ w. ap (first_wrong os) w.in_order ∙ finds os w.before w.wrong w.after w.right_before w.not_once ∙ ap (λ (a : ℕ). some a) w.stands_at,
)

pub no_name_is_wrong : NoNameIsWrong
unfolding wrong_name
no_name_is_wrong os = (λ e. all_once os os e, λ a. none_wrong os os a)
