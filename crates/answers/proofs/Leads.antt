-- Rungs stand in order where each leads all that follow it, by its number or by its places. Assumes nothing.
use mathlib.Core.Path.{◌≡◌, refl}
use mathlib.Core.Bool.{Bool, true, false}
use mathlib.Core.Logic.{inl, inr}
use mathlib.Core.List.{List, [], ◌∷◌}
use Prim.Native.Nat.{ℕ, ◌≤◌, ◌<◌}
use native.Mathlib.Omega.{arith}
use lib.Dec.{T, ltb}
use borrow.Author.Tests.{ltb-true}
use Rattle.base.specs.Pick.{both}
use Rattle.answers.specs.Ladder.{Rung, whole}
use Rattle.answers.specs.Least.{At, Fault, here, later, Before, Ordered, rung}
use Rattle.answers.specs.declared.Refusal.{Refusal}

-- every fault of the first rung comes before every fault of the second
pub data Leads (r q : Rung) : Type 0 where
  by_number : r.number < q.number → Leads r q
  by_place : r.number ≡ q.number → r.file ≡ q.file → ((i j : ℕ) → i < r.count → r.place i ≤ q.place j) → Leads r q

-- and so of all rungs of a list
pub data LeadsAll (r : Rung) : List Rung → Type 0 where
  none_left : LeadsAll r []
  and_one : {q : Rung} {qs : List Rung} → Leads r q → LeadsAll r qs → LeadsAll r (q ∷ qs)

leads_before : (r q : Rung) (x y : Refusal) → Leads r q → At r x → At q y → Before x y
leads_before r q x y (by_number h) a b = rw (a.named, b.named) (inl h)
leads_before r q x y (by_place n f p) a b = rw (a.named, b.named) (inr (n, f, p a.thing b.thing a.among))

-- one more rung, in front of those that it leads
pub ordered_more : (r : Rung) (rs : List Rung) → ((i j : ℕ) → i ≤ j → r.place i ≤ r.place j) → LeadsAll r rs → Ordered rs → Ordered (r ∷ rs)
ordered_more r rs up l o = rung (λ i j h k. up i j h) (λ x y a f. before rs x y l a f) o
  where
    before : (rs : List Rung) (x y : Refusal) → LeadsAll r rs → At r x → Fault y rs → Before x y
    before (q ∷ qs) x y (and_one h t) a (here b) = leads_before r q x y h a b
    before (q ∷ qs) x y (and_one h t) a (later f) = before qs x y t a f
    before [] x y _ a x6 = elim x6 [ ]

-- rungs of higher numbers only
abbrev pub all_above : ℕ → List Rung → Bool
all_above n [] = true
all_above n (q ∷ qs) = both (ltb n q.number) (all_above n qs)

pub by_numbers : (r : Rung) (qs : List Rung) → T (all_above r.number qs) → LeadsAll r qs
by_numbers r [] t = none_left
by_numbers r (q ∷ qs) t = go (ltb r.number q.number) refl t (λ u. by_numbers r qs u)
  where
    go : (b : Bool) → ltb r.number q.number ≡ b → T (both b (all_above r.number qs)) → (T (all_above r.number qs) → LeadsAll r qs) → LeadsAll r (q ∷ qs)
    go true e t f = and_one (by_number (ltb-true _ _ e)) (f t)
    go false e t f = absurd t

-- a fault of the whole file, in front of rungs of higher numbers
pub at_once : (n f : ℕ) (b : Bool) (rs : List Rung) → T (all_above n rs) → Ordered rs → Ordered (whole n f b ∷ rs)
at_once n f b rs t o = ordered_more (whole n f b) rs (λ i j h. omega arith) (by_numbers (whole n f b) rs t) o
