-- Free and bound symbols: none comes twice, and every symbol of the table is one of them. Assumes nothing.
use mathlib.Core.Path.{◌≡◌, refl}
use mathlib.Core.Logic.{◌⊎◌, inl, inr, ⊎_elim}
use mathlib.Core.Bool.{Bool, true, false, cond}
use mathlib.Core.List.{List, [], ◌∷◌, ◌++◌}
use Prim.Native.Nat.{ℕ, suc, ◌+◌, ◌<◌, ◌≤◌}
use native.Mathlib.Decide.{ℕ_discrete}
use native.Mathlib.Omega.{arith}
use lib.ListN.{length}
use Rattle.calculus.specs.Signature.{Signature}
use Rattle.calculus.specs.Terms.{bound}
use Rattle.calculus.specs.Tables.{is_in, denoted, Sort, missing, Table, process, free}
use Rattle.calculus.specs.Scope.{In, here, there, All, all_nil, all_cons, NotIn, Distinct, di_nil, di_cons, BindsOnce}
use Rattle.calculus.proofs.Lists.{in_true, in_false, distinct_append}
use Rattle.calculus.proofs.TableLaws.{bound_map}

-- ── Missing symbols ──

missing_from : (i : ℕ) (so : List Sort) (l : List ℕ) → All (λ x. i ≤ x) (missing i so l)
unfolding missing
missing_from i [] l = all_nil
missing_from i (s ∷ so) l = go (is_in i l) (up (missing_from (suc i) so l))
  where
    up : {k : List ℕ} → All (λ x. suc i ≤ x) k → All (λ x. i ≤ x) k
    up all_nil = all_nil
    up (all_cons {x = x} p ps) = let h : i ≤ x = omega arith in all_cons h (up ps)

    go : (t : Bool) → All (λ x. i ≤ x) (missing (suc i) so l) → All (λ x. i ≤ x) (cond t (missing (suc i) so l) (i ∷ missing (suc i) so l))
    go true h = h
    go false h = let q : i ≤ i = omega arith in all_cons q h

missing_out : (i : ℕ) (so : List Sort) (l : List ℕ) → All (λ x. NotIn x l) (missing i so l)
unfolding missing
missing_out i [] l = all_nil
missing_out i (s ∷ so) l = go (is_in i l) refl (missing_out (suc i) so l)
  where
    go : (t : Bool) → is_in i l ≡ t → All (λ x. NotIn x l) (missing (suc i) so l) → All (λ x. NotIn x l) (cond t (missing (suc i) so l) (i ∷ missing (suc i) so l))
    go true q h = h
    go false q h = all_cons (in_false i l q) h

missing_distinct : (i : ℕ) (so : List Sort) (l : List ℕ) → Distinct (missing i so l)
unfolding missing
missing_distinct i [] l = di_nil
missing_distinct i (s ∷ so) l = go (is_in i l) (missing_distinct (suc i) so l)
  where
    above : {k : List ℕ} → All (λ x. suc i ≤ x) k → NotIn i k
    above all_nil = all_nil
    above (all_cons {x = x} p ps) = all_cons (λ (e : i ≡ x). omega arith) (above ps)

    go : (t : Bool) → Distinct (missing (suc i) so l) → Distinct (cond t (missing (suc i) so l) (i ∷ missing (suc i) so l))
    go true d = d
    go false d = di_cons (above (missing_from (suc i) so l)) d

-- a number in range is missing or in the list
missing_or : (i : ℕ) (so : List Sort) (l : List ℕ) (x : ℕ) → i ≤ x → x < i + length so → In x (missing i so l) ⊎ In x l
unfolding missing
missing_or i [] l x p q = absurd (omega arith)
missing_or i (s ∷ so) l x p q = go (is_in i l) refl (ℕ_discrete x i) (missing_or (suc i) so l x)
  where
    go : (t : Bool) → is_in i l ≡ t → Dec (x ≡ i) → (suc i ≤ x → x < suc i + length so → In x (missing (suc i) so l) ⊎ In x l)
        → In x (cond t (missing (suc i) so l) (i ∷ missing (suc i) so l)) ⊎ In x l
    go true h (yes e) f = inr (rw e (in_true i l h))
    go true h (no n) f = f (omega arith) (omega arith)
    go false h (yes e) f = inl (rw e here)
    go false h (no n) f = ⊎_elim (λ (a : In x (missing (suc i) so l)). inl (there a)) (λ (b : In x l). inr b) (f (omega arith) (omega arith))

-- those that are missing are in range
pub missing_below : (i : ℕ) (so : List Sort) (l : List ℕ) → All (λ x. x < i + length so) (missing i so l)
unfolding missing
missing_below i [] l = all_nil
missing_below i (s ∷ so) l = go (is_in i l) (up (missing_below (suc i) so l))
  where
    up : {k : List ℕ} → All (λ x. x < suc i + length so) k → All (λ x. x < i + length (s ∷ so)) k
    up all_nil = all_nil
    up (all_cons {x = x} p ps) = let h : x < i + length (s ∷ so) = omega arith in all_cons h (up ps)

    go : (t : Bool) → All (λ x. x < i + length (s ∷ so)) (missing (suc i) so l) → All (λ x. x < i + length (s ∷ so)) (cond t (missing (suc i) so l) (i ∷ missing (suc i) so l))
    go true h = h
    go false h = let q : i < i + length (s ∷ so) = omega arith in all_cons q h

module _ (𝓢 : Signature) where
  pub free_and_bound : (t : Table 𝓢) → BindsOnce 𝓢 (process 𝓢 t) → Distinct (free 𝓢 t ++ bound 𝓢 (process 𝓢 t))
  free_and_bound t o =
      let e = bound_map 𝓢 (denoted 𝓢 0 t.entries) t.steps in
      rw e (distinct_append (missing_distinct 0 t.sorts (bound 𝓢 t.steps)) (rw e at o) (missing_out 0 t.sorts (bound 𝓢 t.steps)))

  pub free_or_bound : (t : Table 𝓢) (x : ℕ) → x < length t.sorts → In x (free 𝓢 t) ⊎ In x (bound 𝓢 t.steps)
  free_or_bound t x h = missing_or 0 t.sorts (bound 𝓢 t.steps) x (omega arith) (omega arith)
