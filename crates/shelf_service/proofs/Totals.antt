-- Exact sums of lengths. Assumes nothing.
use mathlib.Core.Path.{◌≡◌, refl, sym, ap, ◌∙◌}
use mathlib.Core.Bool.{false}
use mathlib.Core.List.{List, [], ◌∷◌, ◌++◌}
use Prim.Native.Nat.{ℕ, zero, suc, ◌+◌, ◌-◌, ◌≤◌, ◌<◌}
use native.Mathlib.Omega.{arith}
use native.Mathlib.Numerals.{add-one}
use lib.Dec.{eqb}
use lib.ListN.{length, take, drop, get_or}
use lib.Seq.{take-suc, take_all, split_at}
use borrow.Author.Tests.{eq-eqb, ne_eqb}
use Rattle.shelf_service.specs.Shelf.{total}

total_append : (k l : List ℕ) → total (k ++ l) ≡ total k + total l
unfolding total
total_append [] l = omega arith
total_append (n ∷ k) l = let q = total_append k l in omega arith

-- nothing is added up yet
pub total_none : total [] ≡ 0
unfolding total
total_none = refl

-- one length more
pub total_more : (ns : List ℕ) (i : ℕ) → i < length ns → total (take (i + 1) ns) ≡ total (take i ns) + get_or ns i 0
total_more ns i h = rw (add-one, take-suc ns i 0 h) (total_append (take i ns) (get_or ns i 0 ∷ []) ∙ one (get_or ns i 0))
  where
    one : (n : ℕ) → total (take i ns) + total (n ∷ []) ≡ total (take i ns) + n
    one n = unfold total in omega arith

-- it is at most the sum of all
pub total_among : (ns : List ℕ) (i : ℕ) → i < length ns → total (take i ns) + get_or ns i 0 ≤ total ns
unfolding total
total_among ns i h =
    let q : total ns ≡ total (take i ns ++ get_or ns i 0 ∷ drop (suc i) ns) = ap total (split_at ns i 0 h) in
    let r : total ns ≡ total (take i ns) + (get_or ns i 0 + total (drop (suc i) ns)) = q ∙ total_append (take i ns) (get_or ns i 0 ∷ drop (suc i) ns) in
    omega arith

-- all are
pub total_all : (ns : List ℕ) (i : ℕ) → length ns ≤ i → total (take i ns) ≡ total ns
total_all ns i h = ap total (take_all i ns h)

-- ── Taken from what is left ──

module _ (ns : List ℕ) (i bytes left : ℕ) (e : left + total (take i ns) ≡ bytes) where
  -- a length is longer
  pub too_long : i < length ns → ¬ (get_or ns i 0 ≤ left) → false ≡ eqb (total ns) bytes
  too_long h l = sym (ne_eqb (total ns) bytes (λ q. omega (arith, total_among ns i h)))

  -- or it is taken
  pub one_taken : i < length ns → get_or ns i 0 ≤ left → (left - get_or ns i 0) + total (take (i + 1) ns) ≡ bytes
  one_taken h l = omega (arith, total_more ns i h)

  -- all are taken: they add up if nothing is left
  pub nothing_left : length ns ≤ i → eqb left 0 ≡ eqb (total ns) bytes
  nothing_left h = go left (omega (arith, total_all ns i h))
    where
      go : (n : ℕ) → n + total ns ≡ bytes → eqb n 0 ≡ eqb (total ns) bytes
      go zero q = eq-eqb 0 0 refl ∙ sym (eq-eqb (total ns) bytes (omega arith))
      go (suc n) q = ne_eqb (suc n) 0 (λ z. omega arith) ∙ sym (ne_eqb (total ns) bytes (λ z. omega arith))

-- by which the lengths are taken one by one
pub ruleset add_up_steps = (total_none, one_taken, nothing_left)
