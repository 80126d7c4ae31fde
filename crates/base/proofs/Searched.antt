-- Laws of `first`: one step of the walk, its ends, and what its answer says of every number of the range. Assumes nothing.
use mathlib.Core.Path.{◌≡◌, refl}
use mathlib.Core.Logic.{⊎_elim}
use mathlib.Core.Bool.{Bool, true, false}
use Prim.Native.Nat.{ℕ, zero, suc, ◌+◌, ◌-◌, ◌<◌, ◌≤◌}
use native.Mathlib.Numerals.{add-one}
use native.Mathlib.Nat.{eq-or-lt_of_le}
use native.Mathlib.Omega.{arith}
use Rattle.base.specs.Pick.{pick}
use Rattle.base.specs.Search.{Search, first, walk, clean, wrong, all_right}

pub first_wrong_lem : (ok : ℕ → Bool) (i n : ℕ) → i < n → ok i ≡ false → first ok i n ≡ wrong i
unfolding first walk
first_wrong_lem ok i n h e =
    let s : n - i ≡ suc (n - (i + 1)) = omega arith in
    rw (s, e)

pub first_right : (ok : ℕ → Bool) (i n : ℕ) → i < n → ok i ≡ true → first ok i n ≡ first ok (i + 1) n
unfolding first walk
first_right ok i n h e =
    let s : n - i ≡ suc (n - (i + 1)) = omega arith in
    rw (s, e, add-one)

pub first_end : (ok : ℕ → Bool) (i n : ℕ) → n ≤ i → first ok i n ≡ clean
unfolding first walk
first_end ok i n h =
    let s : n - i ≡ 0 = omega arith in
    rw s

-- what a search says of its range: i is the first number at which ok fails, or there is none
pub data Found (ok : ℕ → Bool) (i n : ℕ) : Search → Type 0 where
  all_are_right : ((k : ℕ) → i ≤ k → k < n → ok k ≡ true) → Found ok i n clean
  first_bad : {j : ℕ} → i ≤ j → j < n → ok j ≡ false → ((k : ℕ) → i ≤ k → k < j → ok k ≡ true) → Found ok i n (wrong j)

walked : (ok : ℕ → Bool) (k i n : ℕ) → n ≡ i + k → Found ok i n (walk ok i k)
unfolding walk
walked ok zero i n e = all_are_right λ k p q. absurd (omega arith)
walked ok (suc k) i n e = turn (ok i) refl (walked ok k (suc i) n (omega arith))
  where
    from : (j : ℕ) → i ≤ j → ok i ≡ true → (suc i ≤ j → ok j ≡ true) → ok j ≡ true
    from j p e g = ⊎_elim (λ h. rw (← h) e) (λ h. g h) (eq-or-lt_of_le p)

    more : {t : Search} → ok i ≡ true → Found ok (suc i) n t → Found ok i n t
    more e (all_are_right f) = all_are_right λ j p q. from j p e (λ h. f j h q)
    more e (first_bad {j = j} p q r f) = first_bad {j = j} (omega arith) q r (λ k u v. from k u e (λ h. f k h v))

    turn : (b : Bool) → ok i ≡ b → Found ok (suc i) n (walk ok (suc i) k) → Found ok i n (pick b (walk ok (suc i) k) (wrong i))
    turn true e f = more e f
    turn false b f = first_bad {j = i} (omega arith) (omega arith) b (λ k p q. absurd (omega arith))

pub found : (ok : ℕ → Bool) (i n : ℕ) → i ≤ n → Found ok i n (first ok i n)
unfolding first
found ok i n h = walked ok (n - i) i n (omega arith)

-- all are right exactly if each is
pub all_right_each : (ok : ℕ → Bool) (n : ℕ) → all_right (first ok 0 n) ≡ true → (k : ℕ) → k < n → ok k ≡ true
all_right_each ok n e = go (first ok 0 n) (found ok 0 n (omega arith)) e
  where
    go : (s : Search) → Found ok 0 n s → all_right s ≡ true → (k : ℕ) → k < n → ok k ≡ true
    go clean (all_are_right f) e k h = f k (omega arith) h
    go (wrong i) f e k h = let z : ◌≡◌ {A = ℕ} 0 1 = cc in absurd (omega arith)

pub each_all_right : (ok : ℕ → Bool) (n : ℕ) → ((k : ℕ) → k < n → ok k ≡ true) → all_right (first ok 0 n) ≡ true
each_all_right ok n f = go (first ok 0 n) (found ok 0 n (omega arith))
  where
    go : (s : Search) → Found ok 0 n s → all_right s ≡ true
    go clean g = refl
    go (wrong i) (first_bad p q e g) = let z : ◌≡◌ {A = ℕ} 0 1 = cc (f i q) in absurd (omega arith)
