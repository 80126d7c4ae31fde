-- How many statements are due, and how many terms are compound, by index. Assumes nothing.
use mathlib.Core.Path.{◌≡◌, refl, sym}
use mathlib.Core.Bool.{Bool, true, false, cond}
use mathlib.Core.List.{List, [], ◌∷◌, map}
use Prim.Native.Nat.{ℕ, zero, suc, ◌+◌, ◌≤◌}
use native.Mathlib.Omega.{arith}
use lib.Dec.{eqb}
use lib.ListN.{length, length-append, length-map}
use borrow.Author.Tests.{eqb-true, eqb-false}
use Rattle.base.specs.Pick.{pick, either}
use Rattle.entries.specs.Fields.{code}
use Rattle.table_layout.specs.Layout.{terms, steps, terms_at, steps_at}
use Rattle.calculus.specs.Terms.{Term, Act, send, receive, fresh, compare, split, decrypt, map_act}
use Rattle.calculus.specs.Tables.{Entry, leaf_entry, kind_entry, denoted}
use Rattle.calculus.specs.Version1.{signature1}
use Rattle.rendering.specs.Rendering.{Due, halves, dues_of, dues}
use Rattle.rendering.specs.Translation.{compounds}
use Rattle.entries.specs.Tiling.{listed}
use Rattle.decoded.specs.Table.{entry_of, act_of, term_at, step_at, table_of}
use Rattle.statement_counts.specs.Counts.{due_of, due_count, compound_of, is_compound, compound_count}
use Rattle.decoded.proofs.Tabled.{step_as, term_as}
use Rattle.statement_counts.proofs.Totals.{total}

-- what a step makes due does not depend on its terms
due_mapped : (f : ℕ → Term signature1) (p : Act signature1 ℕ) → length (dues_of signature1 halves (map_act signature1 f p)) ≡ length (dues_of signature1 halves p)
unfolding dues_of map_act
due_mapped f (send a b) = refl
due_mapped f (receive a x) = refl
due_mapped f (fresh x) = refl
due_mapped f (compare a b) = refl
due_mapped f (split a x y) = refl
due_mapped f (decrypt e a b x) = refl

dues_total : (s : List ℕ) (f : ℕ → Term signature1) (m i n : ℕ) → length (dues signature1 halves m (map (map_act signature1 f) (listed (step_at s) i n))) ≡ total (due_of s) i n
unfolding dues listed total due_of
dues_total s f m i zero = refl
dues_total s f m i (suc n) =
    let p : List (Due signature1 (Term signature1)) = dues_of signature1 halves (map_act signature1 f (step_at s i)) in
    let a = length-append {A = ℕ × Due signature1 (Term signature1)} (map (λ w. (m, w)) p) (dues signature1 halves (suc m) (map (map_act signature1 f) (listed (step_at s) (suc i) n))) in
    let b = length-map {B = ℕ × Due signature1 (Term signature1)} p (λ w. (m, w)) in
    omega (arith, a, b, due_mapped f (step_at s i), dues_total s f (suc m) (suc i) n)

pub due_total : (s : List ℕ) → due_count s ≡ total (due_of s) 0 (steps s)
unfolding due_count
due_total s = dues_total s (denoted signature1 0 (table_of s).entries) 0 0 (steps s)

compounds_total : (s : List ℕ) (i n : ℕ) → compounds signature1 (listed (term_at s) i n) ≡ total (compound_of s) i n
unfolding compounds listed total compound_of
compounds_total s i zero = refl
compounds_total s i (suc n) = go (term_at s i) (compounds_total s (suc i) n)
  where
    go : (t : Entry signature1 ℕ) → compounds signature1 (listed (term_at s) (suc i) n) ≡ total (compound_of s) (suc i) n
        → compounds signature1 (t ∷ listed (term_at s) (suc i) n) ≡ compounds signature1 (t ∷ []) + total (compound_of s) (suc i) n
    go (leaf_entry x) e = omega arith
    go (kind_entry b) e = omega arith

pub compound_total : (s : List ℕ) → compound_count s ≡ total (compound_of s) 0 (terms s)
unfolding compound_count
compound_total s = compounds_total s 0 (terms s)

-- ── One step, one term ──

due_split : (s : List ℕ) (k : ℕ) → code s 1 (steps_at s) k ≡ 4 → 2 ≡ due_of s k
unfolding due_of dues_of act_of
due_split s k c = rw (step_as s k 4 c)

due_other : (s : List ℕ) (k op : ℕ) → code s 1 (steps_at s) k ≡ op → ¬ (op ≡ 4) → 1 ≡ due_of s k
unfolding due_of dues_of act_of
due_other s k zero c n = rw (step_as s k 0 c)
due_other s k (suc zero) c n = rw (step_as s k 1 c)
due_other s k (suc (suc zero)) c n = rw (step_as s k 2 c)
due_other s k (suc (suc (suc zero))) c n = rw (step_as s k 3 c)
due_other s k (suc (suc (suc (suc zero)))) c n = absurd (n refl)
due_other s k (suc (suc (suc (suc (suc zero))))) c n = rw (step_as s k 5 c)
due_other s k (suc (suc (suc (suc (suc (suc op)))))) c n = rw (step_as s k (suc (suc (suc (suc (suc (suc op)))))) c)

compound_pair : (s : List ℕ) (i : ℕ) → code s 0 (terms_at s) i ≡ 1 → 1 ≡ compound_of s i
unfolding compound_of compounds entry_of
compound_pair s i c = rw (term_as s i 1 c)

compound_encrypted : (s : List ℕ) (i : ℕ) → code s 0 (terms_at s) i ≡ 2 → 1 ≡ compound_of s i
unfolding compound_of compounds entry_of
compound_encrypted s i c = rw (term_as s i 2 c)

compound_not : (s : List ℕ) (i op : ℕ) → code s 0 (terms_at s) i ≡ op → ¬ (op ≡ 1) → ¬ (op ≡ 2) → 0 ≡ compound_of s i
unfolding compound_of compounds entry_of
compound_not s i zero c p q = rw (term_as s i 0 c)
compound_not s i (suc zero) c p q = absurd (p refl)
compound_not s i (suc (suc zero)) c p q = absurd (q refl)
compound_not s i (suc (suc (suc op))) c p q = rw (term_as s i (suc (suc (suc op))) c)

-- what a step makes due, by its code
pub due_by_code : (s : List ℕ) (k : ℕ) → due_of s k ≡ pick (eqb (code s 1 (steps_at s) k) 4) 2 1
due_by_code s k = go (eqb (code s 1 (steps_at s) k) 4) refl
  where
    go : (b : Bool) → eqb (code s 1 (steps_at s) k) 4 ≡ b → due_of s k ≡ pick b 2 1
    go true q = sym (due_split s k (eqb-true _ _ q))
    go false q = sym (due_other s k _ refl (eqb-false _ _ q))

-- whether a term is compound, by its code
pub compound_by_code : (s : List ℕ) (i : ℕ) → is_compound s i ≡ either (eqb (code s 0 (terms_at s) i) 1) (eqb (code s 0 (terms_at s) i) 2)
unfolding is_compound
compound_by_code s i = go (eqb (code s 0 (terms_at s) i) 1) (eqb (code s 0 (terms_at s) i) 2) refl refl
  where
    go : (a b : Bool) → eqb (code s 0 (terms_at s) i) 1 ≡ a → eqb (code s 0 (terms_at s) i) 2 ≡ b → eqb (compound_of s i) 1 ≡ either a b
    go true b p q = rw (← compound_pair s i (eqb-true _ _ p))
    go false true p q = rw (← compound_encrypted s i (eqb-true _ _ q))
    go false false p q = rw (← compound_not s i _ refl (eqb-false _ _ p) (eqb-false _ _ q))

-- at most two statements
pub few_due : (p : Act signature1 ℕ) → length (dues_of signature1 halves p) ≤ 2
unfolding dues_of
few_due (send a b) = omega arith
few_due (receive a x) = omega arith
few_due (fresh x) = omega arith
few_due (compare a b) = omega arith
few_due (split a x y) = omega arith
few_due (decrypt e a b x) = omega arith

pub due_small : (s : List ℕ) (k : ℕ) → due_of s k ≤ 2
unfolding due_of
due_small s k = few_due (step_at s k)

-- at most one term
pub compound_small : (s : List ℕ) (i : ℕ) → compound_of s i ≤ 1
unfolding compound_of compounds
compound_small s i = go (term_at s i)
  where
    go : (t : Entry signature1 ℕ) → compounds signature1 (t ∷ []) ≤ 1
    go (leaf_entry x) = omega arith
    go (kind_entry b) = omega arith

-- so it counts as one term or none
pub compound_counts : (s : List ℕ) (i : ℕ) → cond (is_compound s i) 1 0 ≡ compound_of s i
unfolding is_compound
compound_counts s i = go (eqb (compound_of s i) 1) refl
  where
    go : (b : Bool) → eqb (compound_of s i) 1 ≡ b → cond b 1 0 ≡ compound_of s i
    go true q = sym (eqb-true _ _ q)
    go false q = omega (arith, compound_small s i, eqb-false _ _ q)
