-- What number 8 tests: which steps bind a symbol, and when a step binds new symbols only. Assumes nothing.
use mathlib.Core.Path.{◌≡◌, refl}
use mathlib.Core.Bool.{Bool, true, false, not}
use mathlib.Core.Logic.{◌↔◌, ◌⊎◌, inl, inr}
use mathlib.Core.List.{List}
use Prim.Native.Nat.{ℕ, zero, suc, ◌≤◌, ◌<◌}
use native.Mathlib.Nat.{eq-or-lt_of_le}
use native.Mathlib.Omega.{arith}
use lib.Dec.{eqb}
use borrow.Author.Tests.{eqb-true, eqb-false, eq-eqb, ne_eqb, not-true}
use Rattle.base.specs.Pick.{pick, both, either}
use Rattle.base.proofs.BothLaws.{clash, both_left, both_right, both_true}
use Rattle.codes.specs.Rows.{name_role, variable_role}
use Rattle.table_layout.specs.Layout.{step_field, step_role}
use Rattle.table_binding.specs.Binding.{is_binder, binds_at, binds, binder, again, twice, binds_new}
use Rattle.decoded.specs.Meaning.{Binder, Binds, BindsNew}
use Rattle.decoded.proofs.Tests.{either_cases, either_left, either_right, either_at, at_either}

-- field j of step k binds a symbol
pub is_binder_means : (s : List ℕ) (k j : ℕ) → (is_binder s k j ≡ true) ↔ Binder s k j
unfolding is_binder
is_binder_means s k j = (λ h. to (either_cases _ _ h), λ b. from b)
  where
    to : (eqb (step_role s k j) name_role ≡ true) ⊎ (eqb (step_role s k j) variable_role ≡ true) → Binder s k j
    to (inl h) = inl (eqb-true _ _ h)
    to (inr h) = inr (eqb-true _ _ h)

    from : Binder s k j → is_binder s k j ≡ true
    from (inl e) = either_left (eqb (step_role s k j) name_role) (eqb (step_role s k j) variable_role) (eq-eqb _ _ e)
    from (inr e) = either_right (eqb (step_role s k j) name_role) (eqb (step_role s k j) variable_role) (eq-eqb _ _ e)

-- step k binds x
pub binds_means : (s : List ℕ) (k x : ℕ) → (binds s k x ≡ true) ↔ Binds s k x
unfolding binds
binds_means s k x = (λ h. to (either_at (λ j. binds_at s k j x) 2 h), λ b. from b)
  where
    to : (j : ℕ) × (2 ≤ j) × (j < 4) × (binds_at s k j x ≡ true) → Binds s k x
    to (j, l, u, h) =
        record {
          at = j;
          from = l;
          among = u;
          binds = (is_binder_means s k j).0 (both_left (is_binder s k j) _ h);
          names = eqb-true _ _ (both_right (is_binder s k j) _ h);
        }

    from : Binds s k x → binds s k x ≡ true
    from b =
        at_either (λ j. binds_at s k j x) 2 b.at b.from b.among
        (both_true _ _ ((is_binder_means s k b.at).1 b.binds) (eq-eqb _ _ b.names))

-- the binding step that `binder` notes lies after k exactly if a step from k on binds x
pub binder_means : (s : List ℕ) (x n k : ℕ) → (k < binder s x n) ↔ ((j : ℕ) × (k ≤ j) × (j < n) × Binds s j x)
unfolding binder
binder_means s x n k = (λ h. to n h, λ (j, l, u, b). from n j l u ((binds_means s j x).1 b))
  where
    to : (n : ℕ) → k < binder s x n → (j : ℕ) × (k ≤ j) × (j < n) × Binds s j x
    to zero h = absurd (omega arith)
    to (suc n) h = go (binds s n x) refl h (λ h. to n h)
      where
        go : (b : Bool) → binds s n x ≡ b → k < pick b (suc n) (binder s x n) → (k < binder s x n → (j : ℕ) × (k ≤ j) × (j < n) × Binds s j x)
            → (j : ℕ) × (k ≤ j) × (j < suc n) × Binds s j x
        go true q h r = (n, omega arith, omega arith, (binds_means s n x).0 q)
        go false q h r = let (j, l, u, b) = r h in (j, l, omega arith, b)

    from : (n j : ℕ) → k ≤ j → j < n → binds s j x ≡ true → k < binder s x n
    from zero j l u e = absurd (omega arith)
    from (suc n) j l u e = go (binds s n x) refl (eq-or-lt_of_le u) (λ u. from n j l u e)
      where
        go : (b : Bool) → binds s n x ≡ b → (suc j ≡ suc n) ⊎ (suc j < suc n) → (j < n → k < binder s x n) → k < pick b (suc n) (binder s x n)
        go true q p r = omega arith
        go false q (inl p) r = let z : j ≡ n = omega arith in clash e (rw z q)
        go false q (inr p) r = r (omega arith)

-- field j of step k binds a symbol that an earlier step binds
again_means : (s : List ℕ) (k j : ℕ) → (again s k j ≡ true) ↔ (Binder s k j × ((i : ℕ) × (i < k) × Binds s i (step_field s k j)))
unfolding again
again_means s k j = (λ h. to h, λ (b, (i, l, c)). from b i l c)
  where
    to : both (is_binder s k j) (not (eqb (binder s (step_field s k j) k) 0)) ≡ true → Binder s k j × ((i : ℕ) × (i < k) × Binds s i (step_field s k j))
    to h =
        let n : binder s (step_field s k j) k ≡ 0 → ⊥ = eqb-false _ _ (not-true _ (both_right (is_binder s k j) _ h)) in
        let (i, l, u, b) = (binder_means s (step_field s k j) k 0).0 (omega arith) in
        ((is_binder_means s k j).0 (both_left (is_binder s k j) _ h), (i, u, b))

    from : Binder s k j → (i : ℕ) → i < k → Binds s i (step_field s k j) → both (is_binder s k j) (not (eqb (binder s (step_field s k j) k) 0)) ≡ true
    from b i l c =
        let p : 0 < binder s (step_field s k j) k = (binder_means s (step_field s k j) k 0).1 (i, omega arith, l, c) in
        both_true _ _ ((is_binder_means s k j).1 b) (rw (ne_eqb (binder s (step_field s k j) k) 0 (λ e. omega arith)))

-- step k binds one symbol twice
twice_means : (s : List ℕ) (k : ℕ) → (twice s k ≡ true) ↔ (Binder s k 2 × Binder s k 3 × (step_field s k 2 ≡ step_field s k 3))
unfolding twice
twice_means s k = (
  λ h. (
    (is_binder_means s k 2).0 (both_left (is_binder s k 2) _ h),
    (is_binder_means s k 3).0 (both_left (is_binder s k 3) _ (both_right (is_binder s k 2) _ h)),
    eqb-true _ _ (both_right (is_binder s k 3) _ (both_right (is_binder s k 2) _ h)),
  ),
  λ (a, b, e). both_true _ _ ((is_binder_means s k 2).1 a) (both_true _ _ ((is_binder_means s k 3).1 b) (eq-eqb _ _ e)),
)

-- number 8 does not apply exactly if no earlier step binds a symbol that step k binds, and the two that it binds differ
pub binds_new_means : (s : List ℕ) (k : ℕ) → (binds_new s k ≡ true) ↔ BindsNew s k
unfolding binds_new
binds_new_means s k = (λ h. to (not-true _ h), λ b. from b (either (again s k 2) (either (again s k 3) (twice s k))) refl)
  where
    some_again : (j : ℕ) → 2 ≤ j → j < 4 → again s k j ≡ true → either (again s k 2) (either (again s k 3) (twice s k)) ≡ true
    some_again j l u e = go (either_cases (again s k 2) (again s k 3) (at_either (λ j. again s k j) 2 j l u e))
      where
        go : (again s k 2 ≡ true) ⊎ (again s k 3 ≡ true) → either (again s k 2) (either (again s k 3) (twice s k)) ≡ true
        go (inl p) = either_left (again s k 2) (either (again s k 3) (twice s k)) p
        go (inr p) = either_right (again s k 2) (either (again s k 3) (twice s k)) (either_left (again s k 3) (twice s k) p)

    to : either (again s k 2) (either (again s k 3) (twice s k)) ≡ false → BindsNew s k
    to h =
        record {
          not_earlier = λ x j b l c. clash (some_again b.at b.from b.among ((again_means s k b.at).1 (b.binds, (j, l, rw b.names c)))) h;
          two_differ = λ a b e. clash (either_right (again s k 2) (either (again s k 3) (twice s k)) (either_right (again s k 3) (twice s k) ((twice_means s k).1 (a, b, e)))) h;
        }

    none_again : BindsNew s k → (j : ℕ) → 2 ≤ j → j < 4 → again s k j ≡ true → ⊥
    none_again b j l u e =
        let (c, (i, h, d)) = (again_means s k j).0 e in
        b.not_earlier (step_field s k j) i (record { at = j; from = l; among = u; binds = c; names = refl }) h d

    from : BindsNew s k → (t : Bool) → either (again s k 2) (either (again s k 3) (twice s k)) ≡ t → not t ≡ true
    from b false e = refl
    from b true e = absurd (go (either_cases (again s k 2) (either (again s k 3) (twice s k)) e))
      where
        then : (again s k 3 ≡ true) ⊎ (twice s k ≡ true) → ⊥
        then (inl p) = none_again b 3 (omega arith) (omega arith) p
        then (inr p) = let (c, d, q) = (twice_means s k).0 p in b.two_differ c d q

        go : (again s k 2 ≡ true) ⊎ (either (again s k 3) (twice s k) ≡ true) → ⊥
        go (inl p) = none_again b 2 (omega arith) (omega arith) p
        go (inr p) = then (either_cases (again s k 3) (twice s k) p)
