-- What rungs say that pass: the things of each are in order. Assumes nothing.
use mathlib.Core.Path.{◌≡◌, refl, sym, ◌∙◌}
use mathlib.Core.Bool.{Bool, true}
use mathlib.Core.List.{List, [], ◌∷◌, ◌++◌}
use Prim.Native.Nat.{ℕ, ◌<◌}
use native.Mathlib.Omega.{arith}
use Rattle.base.specs.Search.{Search, clean, wrong, first}
use Rattle.base.proofs.Searched.{Found, all_are_right, first_bad, found}
use Rattle.answers.specs.Ladder.{refusal, Rung, whole, answered, least, and_then, Check}
use Rattle.answers.proofs.Ladder.{least_none, least_append}
use Rattle.std.proofs.Common.{Ok, Err}

-- where the rungs pass, the first one's things are all in order, and the others pass
data Passed (r : Rung) (rs : List Rung) : Type 0 where
  passed : ((i : ℕ) → i < r.count → r.ok i ≡ true) → least rs ≡ Ok tt → Passed r rs

rung_passed : (r : Rung) (rs : List Rung) → least (r ∷ rs) ≡ Ok tt → Passed r rs
unfolding least
rung_passed r rs e = go (first r.ok 0 r.count) (found r.ok 0 r.count (omega arith)) e
  where
    go : (s : Search) → Found r.ok 0 r.count s → answered r s (least rs) ≡ Ok tt → Passed r rs
    go clean (all_are_right f) e = passed (λ i h. f i (omega arith) h) (unfold answered in e)
    go (wrong i) f e = let q : Err (refusal r.number r.file (r.place i)) ≡ (Ok tt) = (unfold answered in e) in let z : ◌≡◌ {A = ℕ} 0 1 = cc in absurd (omega arith)

pub first_passed : (r : Rung) (rs : List Rung) → least (r ∷ rs) ≡ Ok tt → (i : ℕ) → i < r.count → r.ok i ≡ true
first_passed r rs e = go (rung_passed r rs e)
  where
    go : Passed r rs → (i : ℕ) → i < r.count → r.ok i ≡ true
    go (passed f q) = f

pub rest_passed : (r : Rung) (rs : List Rung) → least (r ∷ rs) ≡ Ok tt → least rs ≡ Ok tt
rest_passed r rs e = go (rung_passed r rs e)
  where
    go : Passed r rs → least rs ≡ Ok tt
    go (passed f q) = q

-- and the other way: a rung whose things are all in order leaves the answer to the others
pub rung_right : (r : Rung) (rs : List Rung) → ((i : ℕ) → i < r.count → r.ok i ≡ true) → least (r ∷ rs) ≡ least rs
unfolding least
rung_right r rs f = go (first r.ok 0 r.count) (found r.ok 0 r.count (omega arith))
  where
    go : (s : Search) → Found r.ok 0 r.count s → answered r s (least rs) ≡ least rs
    go clean g = unfold answered in refl
    go (wrong i) (first_bad p q e g) = let h = f i q in let z : ◌≡◌ {A = ℕ} 0 1 = cc in absurd (omega arith)

-- a rung by itself passes exactly if each of its things is in order
pub rung_passes : (r : Rung) → ((i : ℕ) → i < r.count → r.ok i ≡ true) → least (r ∷ []) ≡ Ok tt
rung_passes r f = rung_right r [] f ∙ least_none

-- a test of the whole file that passes is right, and the others pass
pub whole_passed : (n f : ℕ) (b : Bool) (rs : List Rung) → least (whole n f b ∷ rs) ≡ Ok tt → (b ≡ true) × (least rs ≡ Ok tt)
whole_passed n f b rs e = (first_passed (whole n f b) rs e 0 (omega arith), rest_passed (whole n f b) rs e)

-- two layers pass exactly if each does
pub layers_passed : (xs ys : List Rung) → least (xs ++ ys) ≡ Ok tt → (least xs ≡ Ok tt) × (least ys ≡ Ok tt)
layers_passed xs ys e = go (least xs) refl (sym (least_append xs ys) ∙ e)
  where
    go : (a : Check) → least xs ≡ a → and_then a (least ys) ≡ Ok tt → (least xs ≡ Ok tt) × (least ys ≡ Ok tt)
    go (Ok tt) q e = (q, e)
    go (Err x) q e = let z : ◌≡◌ {A = ℕ} 0 1 = cc in absurd (omega arith)
