-- The steps of a table that passes 1 to 5 in the meaning layer's terms: the operands and binders of a step are exactly what its bytes use
-- and bind, and the free symbols are those that no step binds. Assumes that 1 to 5 pass, where it says so.
use mathlib.Core.Path.{◌≡◌, refl}
use mathlib.Core.Bool.{Bool, true, false, cond}
use mathlib.Core.Logic.{◌↔◌, ◌⊎◌, inl, inr}
use mathlib.Core.List.{List, [], ◌∷◌, ◌++◌}
use Prim.Native.Nat.{ℕ, zero, suc, ◌+◌, ◌≤◌, ◌<◌}
use native.Mathlib.Nat.{eq-or-lt_of_le}
use native.Mathlib.Omega.{arith}
use lib.ListN.{length}
use Rattle.base.specs.Bytes.{byte}
use Rattle.codes.specs.Rows.{cell, no_role, term_role as step_term_role}
use Rattle.table_layout.specs.Layout.{symbols, steps, step_field, step_role}
use Rattle.calculus.specs.Terms.{Term, Act, send, receive, fresh, compare, split, decrypt, map_act, operands, binders, bound}
use Rattle.calculus.specs.Tables.{Sort, is_variable, sort_of, is_in, missing}
use Rattle.calculus.specs.Scope.{In, here, there, All, all_nil, all_cons}
use Rattle.calculus.specs.Version1.{signature1}
use Rattle.calculus.proofs.Lists.{all_in, in_cases, in_append_left, in_append_right, in_append, in_false, not_in_in}
use Rattle.rendering.proofs.FreeLaws.{free_or_bound}
use Rattle.entries.specs.Tiling.{listed}
use Rattle.decoded.specs.Table.{sort_at, step_at, table_of, step_bytes, free_of}
use Rattle.decoded.specs.Meaning.{Uses, Binder, Binds}
use Rattle.entries.proofs.Tiling.{listed_length}
use Rattle.decoded.proofs.Listed.{listed_all_at}
use Rattle.decoded.proofs.Passed.{Entered}
use Rattle.decoded.proofs.Shapes.{five_bytes, five_same, step_role_lem, step_written, step_uses, step_binds}

-- ── Symbols and steps by index ──

-- how many symbols there are, and the sort of each
pub sorts_length : (s : List ℕ) → length (table_of s).sorts ≡ symbols s
sorts_length s = listed_length (sort_at s) 0 (symbols s)

pub sort_at_lem : (s : List ℕ) (x : ℕ) → x < symbols s → sort_of (table_of s).sorts x ≡ sort_at s x
sort_at_lem s x h = listed_all_at (sort_at s) is_variable (symbols s) x h

-- how many steps there are
pub steps_length_lem : (s : List ℕ) → length (table_of s).steps ≡ steps s
steps_length_lem s = listed_length (step_at s) 0 (steps s)

-- ── Steps over terms instead of indexes ──

-- what all operands have, all operands over terms have
pub operands_mapped : {P : ℕ → Type 0} {Q : Term signature1 → Type 0} (f : ℕ → Term signature1) → ((i : ℕ) → P i → Q (f i)) → (p : Act signature1 ℕ)
    → All P (operands signature1 p) → All Q (operands signature1 (map_act signature1 f p))
unfolding operands map_act
operands_mapped f g (send a b) (all_cons u (all_cons v w)) = all_cons (g a u) (all_cons (g b v) all_nil)
operands_mapped f g (receive a x) (all_cons u w) = all_cons (g a u) all_nil
operands_mapped f g (fresh x) w = all_nil
operands_mapped f g (compare a b) (all_cons u (all_cons v w)) = all_cons (g a u) (all_cons (g b v) all_nil)
operands_mapped f g (split a x y) (all_cons u w) = all_cons (g a u) all_nil
operands_mapped f g (decrypt c a b x) (all_cons u (all_cons v w)) = all_cons (g a u) (all_cons (g b v) all_nil)

-- ── Symbols that are missing from a list ──

missing_at : (x i : ℕ) (so : List Sort) (l : List ℕ) → In x (missing i so l) → (i ≤ x) × (x < i + length so) × (is_in x l ≡ false)
unfolding missing
missing_at x i [] l a = elim a [ ]
missing_at x i (o ∷ so) l a = go (is_in i l) refl a (λ b. missing_at x (suc i) so l b)
  where
    more : (suc i ≤ x) × (x < suc i + length so) × (is_in x l ≡ false) → (i ≤ x) × (x < i + suc (length so)) × (is_in x l ≡ false)
    more (h, u, e) = (omega arith, omega arith, e)

    first : is_in i l ≡ false → (x ≡ i) ⊎ In x (missing (suc i) so l) → (In x (missing (suc i) so l) → (suc i ≤ x) × (x < suc i + length so) × (is_in x l ≡ false))
        → (i ≤ x) × (x < i + suc (length so)) × (is_in x l ≡ false)
    first e (inl z) r = (omega arith, omega arith, rw z e)
    first e (inr b) r = more (r b)

    go : (b : Bool) → is_in i l ≡ b → In x (cond b (missing (suc i) so l) (i ∷ missing (suc i) so l))
        → (In x (missing (suc i) so l) → (suc i ≤ x) × (x < suc i + length so) × (is_in x l ≡ false)) → (i ≤ x) × (x < i + suc (length so)) × (is_in x l ≡ false)
    go true e a r = more (r a)
    go false e a r = first e (in_cases a) r

-- ── Nothing is left out ──

module _ (s : List ℕ) (k : ℕ) where
  -- a field of no role is neither a term nor a binder
  no_term_lem : {A : Type 0} (j : ℕ) → step_role s k j ≡ no_role → step_role s k j ≡ step_term_role → A
  no_term_lem j e r = absurd (omega arith)

  no_binder : {A : Type 0} (j : ℕ) → step_role s k j ≡ no_role → Binder s k j → A
  no_binder j e (inl r) = absurd (omega arith)
  no_binder j e (inr r) = absurd (omega arith)

  -- the fields a, b, x and y
  a_listed : (p : Act signature1 ℕ) → step_bytes p ≡ five_bytes s k → step_role s k 0 ≡ step_term_role → In (step_field s k 0) (operands signature1 p)
  unfolding step_bytes operands cell byte
  a_listed (send a b) q r = let (c, fa, fb, fx, fy) = five_same q in rw fa here
  a_listed (receive a x) q r = let (c, fa, fb, fx, fy) = five_same q in rw fa here
  a_listed (fresh x) q r = let (c, fa, fb, fx, fy) = five_same q in no_term_lem 0 (step_role_lem s k 2 0 c) r
  a_listed (compare a b) q r = let (c, fa, fb, fx, fy) = five_same q in rw fa here
  a_listed (split a x y) q r = let (c, fa, fb, fx, fy) = five_same q in rw fa here
  a_listed (decrypt e a b x) q r = let (c, fa, fb, fx, fy) = five_same q in rw fa here

  b_listed : (p : Act signature1 ℕ) → step_bytes p ≡ five_bytes s k → step_role s k 1 ≡ step_term_role → In (step_field s k 1) (operands signature1 p)
  unfolding step_bytes operands cell byte
  b_listed (send a b) q r = let (c, fa, fb, fx, fy) = five_same q in rw fb (there here)
  b_listed (receive a x) q r = let (c, fa, fb, fx, fy) = five_same q in no_term_lem 1 (step_role_lem s k 1 1 c) r
  b_listed (fresh x) q r = let (c, fa, fb, fx, fy) = five_same q in no_term_lem 1 (step_role_lem s k 2 1 c) r
  b_listed (compare a b) q r = let (c, fa, fb, fx, fy) = five_same q in rw fb (there here)
  b_listed (split a x y) q r = let (c, fa, fb, fx, fy) = five_same q in no_term_lem 1 (step_role_lem s k 4 1 c) r
  b_listed (decrypt e a b x) q r = let (c, fa, fb, fx, fy) = five_same q in rw fb (there here)

  x_listed : (p : Act signature1 ℕ) → step_bytes p ≡ five_bytes s k → Binder s k 2 → In (step_field s k 2) (binders signature1 p)
  unfolding step_bytes binders cell byte
  x_listed (send a b) q r = let (c, fa, fb, fx, fy) = five_same q in no_binder 2 (step_role_lem s k 0 2 c) r
  x_listed (receive a x) q r = let (c, fa, fb, fx, fy) = five_same q in rw fx here
  x_listed (fresh x) q r = let (c, fa, fb, fx, fy) = five_same q in rw fx here
  x_listed (compare a b) q r = let (c, fa, fb, fx, fy) = five_same q in no_binder 2 (step_role_lem s k 3 2 c) r
  x_listed (split a x y) q r = let (c, fa, fb, fx, fy) = five_same q in rw fx here
  x_listed (decrypt e a b x) q r = let (c, fa, fb, fx, fy) = five_same q in rw fx here

  y_listed : (p : Act signature1 ℕ) → step_bytes p ≡ five_bytes s k → Binder s k 3 → In (step_field s k 3) (binders signature1 p)
  unfolding step_bytes binders cell byte
  y_listed (send a b) q r = let (c, fa, fb, fx, fy) = five_same q in no_binder 3 (step_role_lem s k 0 3 c) r
  y_listed (receive a x) q r = let (c, fa, fb, fx, fy) = five_same q in no_binder 3 (step_role_lem s k 1 3 c) r
  y_listed (fresh x) q r = let (c, fa, fb, fx, fy) = five_same q in no_binder 3 (step_role_lem s k 2 3 c) r
  y_listed (compare a b) q r = let (c, fa, fb, fx, fy) = five_same q in no_binder 3 (step_role_lem s k 3 3 c) r
  y_listed (split a x y) q r = let (c, fa, fb, fx, fy) = five_same q in rw fy (there here)
  y_listed (decrypt e a b x) q r = let (c, fa, fb, fx, fy) = five_same q in no_binder 3 (step_role_lem s k 5 3 c) r

module _ (s : List ℕ) (n : Entered s) where
  -- step k uses the terms that are its operands
  pub operands_mean : (k t : ℕ) → k < steps s → In t (operands signature1 (step_at s k)) ↔ Uses s k t
  operands_mean k t h = (λ i. all_in (step_uses s n k h) t i, λ u. from u.at u.among u.is_term u.names)
    where
      from : (j : ℕ) → j < 2 → step_role s k j ≡ step_term_role → step_field s k j ≡ t → In t (operands signature1 (step_at s k))
      from zero u r e = rw e at (a_listed s k (step_at s k) (step_written s n k h) r)
      from (suc zero) u r e = rw e at (b_listed s k (step_at s k) (step_written s n k h) r)
      from (suc (suc j)) u r e = absurd (omega arith)

  -- and binds the symbols that are its binders
  pub binders_mean : (k x : ℕ) → k < steps s → In x (binders signature1 (step_at s k)) ↔ Binds s k x
  binders_mean k x h = (λ i. all_in (step_binds s n k h) x i, λ b. from b.at b.from b.among b.binds b.names)
    where
      from : (j : ℕ) → 2 ≤ j → j < 4 → Binder s k j → step_field s k j ≡ x → In x (binders signature1 (step_at s k))
      from zero l u r e = absurd (omega arith)
      from (suc zero) l u r e = absurd (omega arith)
      from (suc (suc zero)) l u r e = rw e at (x_listed s k (step_at s k) (step_written s n k h) r)
      from (suc (suc (suc zero))) l u r e = rw e at (y_listed s k (step_at s k) (step_written s n k h) r)
      from (suc (suc (suc (suc j)))) l u r e = absurd (omega arith)

  -- what the steps of a range bind
  pub bound_at : {x : ℕ} (i m : ℕ) → i + m ≤ steps s → In x (bound signature1 (listed (step_at s) i m)) → (k : ℕ) × (i ≤ k) × (k < i + m) × Binds s k x
  unfolding bound listed
  bound_at i zero h a = elim a [ ]
  bound_at {x} i (suc m) h a = go (in_append (binders signature1 (step_at s i)) a) (λ b. bound_at (suc i) m (omega arith) b)
    where
      go : In x (binders signature1 (step_at s i)) ⊎ In x (bound signature1 (listed (step_at s) (suc i) m))
          → (In x (bound signature1 (listed (step_at s) (suc i) m)) → (k : ℕ) × (suc i ≤ k) × (k < suc i + m) × Binds s k x)
          → (k : ℕ) × (i ≤ k) × (k < i + suc m) × Binds s k x
      go (inl b) r = (i, omega arith, omega arith, all_in (step_binds s n i (omega arith)) x b)
      go (inr b) r = let (k, l, u, c) = r b in (k, omega arith, omega arith, c)

  at_bound : (x i m k : ℕ) → i + m ≤ steps s → i ≤ k → k < i + m → Binds s k x → In x (bound signature1 (listed (step_at s) i m))
  unfolding bound listed
  at_bound x i zero k h l u b = absurd (omega arith)
  at_bound x i (suc m) k h l u b = go (eq-or-lt_of_le l) (λ v. at_bound x (suc i) m k (omega arith) v (omega arith) b)
    where
      go : (i ≡ k) ⊎ (i < k) → (suc i ≤ k → In x (bound signature1 (listed (step_at s) (suc i) m))) → In x (binders signature1 (step_at s i) ++ bound signature1 (listed (step_at s) (suc i) m))
      go (inl e) r = let c : Binds s i x = rw e b in in_append_left _ ((binders_mean i x (omega arith)).1 c)
      go (inr v) r = in_append_right (binders signature1 (step_at s i)) (r v)

  -- the steps of the table bind what some step binds
  pub bound_means : (x : ℕ) → In x (bound signature1 (table_of s).steps) ↔ ((k : ℕ) × (k < steps s) × Binds s k x)
  bound_means x = (
    λ a. (let (k, l, u, b) = bound_at 0 (steps s) (omega arith) a in (k, omega arith, b)),
    λ (k, h, b). at_bound x 0 (steps s) k (omega arith) (omega arith) (omega arith) b,
  )

  -- the free symbols are those that no step binds
  pub free_means : (x : ℕ) → In x (free_of s) ↔ ((x < symbols s) × ((k : ℕ) → k < steps s → ¬ Binds s k x))
  free_means x = (λ a. to (missing_at x 0 (table_of s).sorts (bound signature1 (table_of s).steps) a), λ (h, f). from h f (free_or_bound signature1 (table_of s) x (rw (sorts_length s) h)))
    where
      to : (0 ≤ x) × (x < 0 + length (table_of s).sorts) × (is_in x (bound signature1 (table_of s).steps) ≡ false) → (x < symbols s) × ((k : ℕ) → k < steps s → ¬ Binds s k x)
      to (l, u, e) =
          let z = sorts_length s in
          (omega arith, λ k h b. not_in_in (in_false x (bound signature1 (table_of s).steps) e) ((bound_means x).1 (k, h, b)))

      from : x < symbols s → ((k : ℕ) → k < steps s → ¬ Binds s k x) → In x (free_of s) ⊎ In x (bound signature1 (table_of s).steps) → In x (free_of s)
      from h f (inl a) = a
      from h f (inr b) = let (k, l, c) = (bound_means x).0 b in absurd (f k l c)
