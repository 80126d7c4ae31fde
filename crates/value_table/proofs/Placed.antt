-- What `find` over the first so many values answers. Assumes nothing.
use mathlib.Core.Path.{◌≡◌, refl, sym, ap}
use mathlib.Core.Bool.{Bool, true, false, not}
use mathlib.Core.List.{List}
use Prim.Native.Nat.{ℕ, ◌<◌, ◌≤◌}
use native.Mathlib.Omega.{arith}
use lib.Dec.{ltb}
use borrow.Author.Tests.{ltb-true, ltb-false}
use denote.Ref.{Bor}
use denote.Param.Members.{Mut}
use Rattle.std.proofs.Common.{Option, Some, None}
use Rattle.std.specs.declared.ops.Range.{Range}
use Rattle.std.proofs.iter.Yields.{nat_range_steps}
use Rattle.std.proofs.lemmas.Iterator.{first_from_Range}
use Rattle.std.specs.Bool.{⊤}
use Rattle.std.specs.Fn.{CalledAt}
use Rattle.std.specs.Iterator.{YieldsThen}
use Rattle.std.specs.List.{FoldsTo}
use Rattle.std.specs.Option.{MatchOption}
use Rattle.base.specs.Search.{Search, clean, wrong, first}
use Rattle.base.proofs.Searched.{Found, all_are_right, first_bad, found}
use Rattle.value_table.specs.Kept.{found_place}

module _ (test : ℕ → Bool) (n : ℕ) where
  -- the first number below n that passes, or none
  abbrev Placed : Option ℕ → Type 0
  Placed r = MatchOption r ((k : ℕ) → 0 ≤ k → k < n → test k ≡ false) (λ i. (0 ≤ i) × (i < n) × (test i ≡ true) × ((k : ℕ) → 0 ≤ k → k < i → test k ≡ false))

  placed : (r : Option ℕ) → Placed r → r ≡ found_place (first (λ k. not (test k)) 0 n)
  placed r p = go r p (first (λ k. not (test k)) 0 n) (found (λ k. not (test k)) 0 n (omega arith))
    where
      same : (i j : ℕ) → test i ≡ true → not (test j) ≡ false → ((k : ℕ) → k < i → test k ≡ false) → ((k : ℕ) → k < j → not (test k) ≡ true) → i ≡ j
      same i j a b f g = go (ltb i j) (ltb j i) refl refl
        where
          go : (l m : Bool) → ltb i j ≡ l → ltb j i ≡ m → i ≡ j
          go true m x y = cc (a, g i (ltb-true i j x))
          go false true x y = cc (b, f j (ltb-true j i y))
          go false false x y = omega (arith, ltb-false i j x, ltb-false j i y)

      go : (r : Option ℕ) → Placed r → (s : Search) → Found (λ k. not (test k)) 0 n s → r ≡ found_place s
      go None p clean f = refl
      go None p (wrong j) (first_bad l h e f) = cc (p j l h)
      go (Some i) p clean (all_are_right f) = cc (f i p.0 p.1)
      go (Some i) p (wrong j) (first_bad l h e f) = ap Some (same i j p.2 e (λ k x. p.3 k (omega arith) x) (λ k x. f k (omega arith) x))

-- `find` over `0..n`, where each call of its closure answers the test
pub find_in_range : {F : Type 0} {g : Mut F (Bor ℕ × Unit {0}) Bool} {f : F} {r : Option ℕ} (u : Range ℕ) (test : ℕ → Bool) (n : ℕ)
    → (xs : List ℕ) × (j : F) × YieldsThen nat_range_steps (record { start = 0; end = n }) xs r u × FoldsTo (λ p x q. CalledAt g p x false q) f xs j × MatchOption r ⊤ (λ x. (h : F) × CalledAt g j x true h)
    → ((x : ℕ) (b : Bool) (q : F) → CalledAt g f x b q → (q ≡ f) × (b ≡ test x)) → r ≡ found_place (first (λ k. not (test k)) 0 n)
find_in_range {f = f} {r = r} u test n ran calls =
    placed test n r (first_from_Range _ u f r (λ i. test i ≡ true) (λ i. test i ≡ false) ran (λ x q c. sym (calls x true q c).1) (λ x q c. let k = calls x false q c in (k.0, sym k.1)))
