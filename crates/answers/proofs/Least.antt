-- The ladder answers the least fault, and no second answer fits. Assumes nothing.
use mathlib.Core.Path.{◌≡◌, refl, sym, ap, ◌∙◌}
use mathlib.Core.Bool.{Bool, true, false}
use mathlib.Core.Logic.{inl, inr}
use mathlib.Core.List.{List, [], ◌∷◌}
use Prim.Native.Nat.{ℕ, suc, ◌≤◌, ◌<◌}
use native.Mathlib.Nat.{lt_of_not-le}
use native.Mathlib.Decide.{dec_lt}
use native.Mathlib.Omega.{arith}
use Rattle.base.specs.Search.{Search, clean, wrong, first}
use Rattle.base.proofs.Searched.{Found, all_are_right, first_bad, found}
use Rattle.answers.specs.Ladder.{refusal, Rung, answered, least, Check}
use Rattle.answers.specs.Least.{At, Fault, here, later, Before, Least, none, lowest, Ordered, no_rung, rung}
use Rattle.answers.specs.declared.Refusal.{Refusal}
use Rattle.std.proofs.Common.{Err}

-- what a rung's search says: it is clean and the rung has no fault, or it is the rung's first fault
at_none : (r : Rung) → Found r.ok 0 r.count clean → (x : Refusal) → At r x → ⊥
at_none r (all_are_right f) x a = let z : ◌≡◌ {A = Bool} true false = sym (f a.thing (omega arith) a.among) ∙ a.broken in let y : ◌≡◌ {A = ℕ} 0 1 = cc in omega arith

not_lt : (k i : ℕ) → (k < i → ⊥) → i ≤ k
not_lt k i h = let l : i < suc k = lt_of_not-le h in omega arith

at_first : (r : Rung) {i : ℕ} → Found r.ok 0 r.count (wrong i)
    → (i < r.count) × (r.ok i ≡ false) × ((k : ℕ) → r.ok k ≡ false → i ≤ k)
at_first r {i} (first_bad p q e f) = (q, e, λ k b. lower k b (dec_lt k i))
  where
    lower : (k : ℕ) → r.ok k ≡ false → Dec (k < i) → i ≤ k
    lower k b (no h) = not_lt k i h
    lower k b (yes h) = let z : ◌≡◌ {A = Bool} true false = sym (f k (omega arith) h) ∙ b in let y : ◌≡◌ {A = ℕ} 0 1 = cc in absurd (omega arith)

-- the ladder answers the least fault, or there is none
pub least_fault : (rs : List Rung) → Ordered rs → Least rs (least rs)
unfolding least
least_fault [] no_rung = none λ x f. elim f [ ]
least_fault (r ∷ rs) (rung up before o) = go (first r.ok 0 r.count) (found r.ok 0 r.count (omega arith)) (least_fault rs o)
  where
    all : {c : Check} → Found r.ok 0 r.count clean → Least rs c → Least (r ∷ rs) c
    all f (none n) = none λ x g. nowhere x g
      where
        nowhere : (x : Refusal) → Fault x (r ∷ rs) → ⊥
        nowhere x (here a) = at_none r f x a
        nowhere x (later g) = n x g
    all f (lowest {x = x} h m) = lowest {x = x} (later h) λ y g. under y g
      where
        under : (y : Refusal) → Fault y (r ∷ rs) → Before x y
        under y (here a) = absurd (at_none r f y a)
        under y (later g) = m y g

    go : (s : Search) → Found r.ok 0 r.count s → Least rs (least rs) → Least (r ∷ rs) (answered r s (least rs))
    go clean f l = unfold answered in all f l
    go (wrong i) f l = unfold answered in lowest (here own) λ y g. under y g
      where
        it : Refusal
        it = refusal r.number r.file (r.place i)

        own : At r it
        own = let q = at_first r f in record { thing = i; among = q.0; broken = q.1; named = refl }

        under : (y : Refusal) → Fault y (r ∷ rs) → Before it y
        under y (here a) = let q = at_first r f in rw a.named (inr (refl, refl, up i a.thing (q.2 a.thing a.broken) a.among))
        under y (later g) = before it y own g

-- no second answer is the least fault
pub least_one : (rs : List Rung) {a b : Check} → Least rs a → Least rs b → a ≡ b
least_one rs (none n) (none m) = refl
least_one rs (none n) (lowest {x = x} f m) = absurd (n x f)
least_one rs (lowest {x = x} f m) (none n) = absurd (n x f)
least_one rs (lowest {x = x} f m) (lowest {x = y} g n) = ap Err (same (m y g) (n x f))
  where
    same : Before x y → Before y x → x ≡ y
    same (inl h) (inl k) = absurd (omega arith)
    same (inl h) (inr k) = absurd (omega arith)
    same (inr h) (inl k) = absurd (omega arith)
    same (inr (a, b, c)) (inr (d, e, g)) = let p : x.place ≡ y.place = omega arith in eta a b p
      where
        eta : x.number ≡ y.number → x.file ≡ y.file → x.place ≡ y.place → x ≡ y
        eta a b p = let q : ◌≡◌ {A = Refusal} (refusal x.number x.file x.place) y = rw (a, b, p) in q
