-- What `find` over a range answers, as the walk that finds the first number at which a test fails. Assumes nothing.
use mathlib.Core.Path.{◌≡◌, refl, ap}
use mathlib.Core.Bool.{Bool, true, false}
use mathlib.Core.Logic.{◌⊎◌, inl, inr}
use Rattle.std.proofs.lemmas.Bool.{cases_order}
use Prim.Native.Nat.{ℕ, ◌<◌, ◌≤◌}
use native.Mathlib.Omega.{arith}
use Rattle.std.proofs.Common.{Option, Some, None}
use Rattle.std.specs.Option.{MatchOption}
use Rattle.base.specs.Search.{Search, clean, wrong, first}
use Rattle.base.proofs.Searched.{Found, all_are_right, first_bad, found}
use Rattle.base.proofs.BothLaws.{clash}
use Rattle.judging.specs.Turns.{found_as}

module _ (ok : ℕ → Bool) (n : ℕ) where
  -- no number fails, or i is the first that does
  abbrev pub FirstFound : Option ℕ → Type 0
  FirstFound r = MatchOption r ((k : ℕ) → 0 ≤ k → k < n → ok k ≡ true) (λ i. (0 ≤ i) × (i < n) × (ok i ≡ false) × ((k : ℕ) → 0 ≤ k → k < i → ok k ≡ true))

  found_first : (r : Option ℕ) (s : Search) → FirstFound r → Found ok 0 n s → found_as r ≡ s
  found_first None clean f g = refl
  found_first None (wrong j) f (first_bad p q e h) = clash (f j p q) e
  found_first (Some i) clean f (all_are_right h) = clash (h i f.0 f.1) f.2
  found_first (Some i) (wrong j) f (first_bad p q e h) = go (cases_order i j)
    where
      go : (i ≡ j) ⊎ ((i < j) ⊎ (j < i)) → wrong i ≡ wrong j
      go (inl z) = ap wrong z
      go (inr (inl z)) = clash (h i f.0 z) f.2
      go (inr (inr z)) = clash (f.3 j p z) e

  pub found_in_range : (r : Option ℕ) → FirstFound r → found_as r ≡ first ok 0 n
  found_in_range r f = found_first r (first ok 0 n) f (found ok 0 n (omega arith))
