-- What `all`, `any` and `find` over a range answer, in the words of `Search`. Assumes nothing.
use mathlib.Core.Path.{◌≡◌, refl, ap, ◌∙◌}
use mathlib.Core.Bool.{Bool, true, false, not}
use mathlib.Core.List.{List}
use Prim.Native.Nat.{ℕ, zero, suc, ◌+◌, ◌-◌, ◌<◌, ◌≤◌}
use native.Mathlib.Numerals.{add-one, unary_clauses}
use native.Mathlib.Omega.{arith}
use denote.Param.Members.{Mut}
use denote.Ref.{Bor}
use Rattle.std.proofs.Common.{Option, Some, None, add-zero, zero-add}
use Rattle.std.specs.declared.ops.Range.{Range}
use Rattle.std.proofs.iter.Yields.{nat_range_steps}
use Rattle.std.proofs.lemmas.Iterator.{YieldsList-from_range}
use Rattle.std.proofs.lemmas.Iterator.Search.{all_from_yields_List, any_from_yields_List, find_from_yields_List}
use Rattle.std.specs.Bool.{⊤}
use Rattle.std.specs.Fn.{Called, CalledAt}
use Rattle.std.specs.Iterator.{YieldsThen}
use Rattle.std.specs.List.{FoldsTo, list_all, list_any, find, range_with_len}
use Rattle.std.specs.Option.{MatchOption, option_map}
use Rattle.base.specs.Pick.{either}
use Rattle.base.specs.Search.{Search, clean, wrong, walk, first, all_right, some}

all_walked : (ok : ℕ → Bool) (i n : ℕ) → list_all ok (range_with_len i n) ≡ all_right (walk ok i n)
unfolding walk
all_walked ok i zero = refl
all_walked ok i (suc n) = go (ok i) refl (all_walked ok (suc i) n)
  where
    go : (b : Bool) → ok i ≡ b → list_all ok (range_with_len (suc i) n) ≡ all_right (walk ok (suc i) n) → list_all ok (range_with_len i (suc n)) ≡ all_right (walk ok i (suc n))
    go true e h = rw (e, add-one) h
    go false e h = rw e refl

all_ranged : (ok : ℕ → Bool) (n : ℕ) → list_all ok (range_with_len 0 n) ≡ all_right (first ok 0 n)
unfolding first
all_ranged ok n = simp unary_clauses (all_walked ok 0 n)

-- `all` over `0..n`, where each call of its closure answers the test
pub all_in_range : {F : Type 0} {g : Mut F (ℕ × Unit {0}) Bool} {u : Range ℕ} {f : F} {r : Bool} (ok : ℕ → Bool) (n : ℕ)
    → (xs : List ℕ) × (o : Option ℕ) × (j : F) × YieldsThen nat_range_steps (record { start = 0; end = n }) xs o u × FoldsTo (λ p x q. Called g p (x, tt) true q) f xs j × MatchOption o (r ≡ true) (λ x. (r ≡ false) × ((h : F) × Called g j (x, tt) false h))
    → ((x : ℕ) (b : Bool) (q : F) → Called g f (x, tt) b q → (q ≡ f) × (b ≡ ok x)) → r ≡ all_right (first ok 0 n)
all_in_range {u = u} {f = f} {r = r} ok n ran calls = all_from_yields_List ok u f r ran (YieldsList-from_range 0 n n refl (omega arith)) calls ∙ all_ranged ok n

-- what `find` found, where it looks for a number at which a test fails
abbrev pub searched : Option ℕ → Search
searched None = clean
searched (Some i) = wrong i

find_walked : (ok : ℕ → Bool) (i n : ℕ) → searched (find (λ k. not (ok k)) (range_with_len i n)) ≡ walk ok i n
unfolding walk
find_walked ok i zero = refl
find_walked ok i (suc n) = go (ok i) refl (find_walked ok (suc i) n)
  where
    go : (b : Bool) → ok i ≡ b → searched (find (λ k. not (ok k)) (range_with_len (suc i) n)) ≡ walk ok (suc i) n → searched (find (λ k. not (ok k)) (range_with_len i (suc n))) ≡ walk ok i (suc n)
    go true e h = rw (e, add-one) h
    go false e h = rw e refl

find_ranged : (ok : ℕ → Bool) (n : ℕ) → searched (find (λ k. not (ok k)) (range_with_len 0 n)) ≡ first ok 0 n
unfolding first
find_ranged ok n = simp unary_clauses (find_walked ok 0 n)

same_found : (r : Option ℕ) → searched r ≡ searched (option_map (λ x. x) r)
same_found None = refl
same_found (Some i) = refl

-- `find` over `0..n`, where each call of its closure answers that the test fails
pub find_in_range : {F : Type 0} {g : Mut F (Bor ℕ × Unit {0}) Bool} {f : F} (ok : ℕ → Bool) (n : ℕ) (u : Range ℕ) (r : Option ℕ)
    → (xs : List ℕ) × (j : F) × YieldsThen nat_range_steps (record { start = 0; end = n }) xs r u × FoldsTo (λ p x q. CalledAt g p x false q) f xs j × MatchOption r ⊤ (λ x. (h : F) × CalledAt g j x true h)
    → ((x : ℕ) (b : Bool) (q : F) → CalledAt g f x b q → (q ≡ f) × (b ≡ not (ok x))) → searched r ≡ first ok 0 n
find_in_range {f = f} ok n u r ran calls =
    same_found r ∙ ap searched (find_from_yields_List (λ k. not (ok k)) u f r ran (YieldsList-from_range 0 n n refl (omega arith)) calls) ∙ find_ranged ok n

any_more : (f : ℕ → Bool) (i n : ℕ) → list_any f (range_with_len i (suc n)) ≡ either (f (i + n)) (list_any f (range_with_len i n))
any_more f i zero = go (f i) refl
  where
    go : (b : Bool) → f i ≡ b → list_any f (range_with_len i 1) ≡ either (f (i + 0)) false
    go true e = rw (add-zero, e) refl
    go false e = rw (add-zero, e) refl
any_more f i (suc n) = go (f i) refl (f (i + suc n)) refl (any_more f (suc i) n)
  where
    go : (a : Bool) → f i ≡ a → (b : Bool) → f (i + suc n) ≡ b → list_any f (range_with_len (suc i) (suc n)) ≡ either (f (suc i + n)) (list_any f (range_with_len (suc i) n))
        → list_any f (range_with_len i (suc (suc n))) ≡ either (f (i + suc n)) (list_any f (range_with_len i (suc n)))
    go true e true q h = rw (e, q) refl
    go true e false q h = rw (e, q) refl
    go false e b q h = let z : suc i + n ≡ i + suc n = omega arith in rw (e, add-one i, ← z) h

any_ranged : (f : ℕ → Bool) (n : ℕ) → list_any f (range_with_len 0 n) ≡ some f n
unfolding some
any_ranged f zero = refl
any_ranged f (suc n) = any_more f 0 n ∙ rw (zero-add, any_ranged f n)

-- `any` over `0..n`, where each call of its closure answers whether the number has the property
pub any_in_range : {F : Type 0} {g : Mut F (ℕ × Unit {0}) Bool} {u : Range ℕ} {f : F} {r : Bool} (has : ℕ → Bool) (n : ℕ)
    → (xs : List ℕ) × (o : Option ℕ) × (j : F) × YieldsThen nat_range_steps (record { start = 0; end = n }) xs o u × FoldsTo (λ p x q. Called g p (x, tt) false q) f xs j × MatchOption o (r ≡ false) (λ x. (r ≡ true) × ((h : F) × Called g j (x, tt) true h))
    → ((x : ℕ) (b : Bool) (q : F) → Called g f (x, tt) b q → (q ≡ f) × (b ≡ has x)) → r ≡ some has n
any_in_range {u = u} {f = f} {r = r} has n ran calls = any_from_yields_List has u f r ran (YieldsList-from_range 0 n n refl (omega arith)) calls ∙ any_ranged has n

-- tests that agree on a range find the same
walk_same : (f g : ℕ → Bool) (i n : ℕ) → ((k : ℕ) → i ≤ k → k < i + n → f k ≡ g k) → walk f i n ≡ walk g i n
unfolding walk
walk_same f g i zero h = refl
walk_same f g i (suc n) h = rw (h i (omega arith) (omega arith), walk_same f g (suc i) n (λ k p q. h k (omega arith) (omega arith)))

pub first_same : (f g : ℕ → Bool) (n : ℕ) → ((k : ℕ) → k < n → f k ≡ g k) → first f 0 n ≡ first g 0 n
unfolding first
first_same f g n h = walk_same f g 0 (n - 0) (λ k p q. h k (omega arith))
