-- The free symbols one by one, and an array that lists them. Assumes nothing.
use mathlib.Core.Path.{◌≡◌, refl, sym, ap, ◌∙◌}
use mathlib.Core.Bool.{Bool, true, false, cond}
use mathlib.Core.List.{List, [], ◌∷◌, ◌++◌, append-nil}
use Prim.Native.Nat.{ℕ, zero, suc, ◌+◌, ◌<◌}
use native.Mathlib.Omega.{arith}
use native.Mathlib.Numerals.{add-one}
use lib.Dec.{eqb}
use lib.ListN.{length, get_or, set, length-append, get_or-append}
use borrow.Author.Tests.{eqb-true, eqb-false}
use Rattle.base.specs.Pick.{pick, both}
use Rattle.marks.specs.Put.{Put, blank}
use Rattle.marks.proofs.PutLaws.{put_one, no_mark, a_mark}
use Rattle.entries.specs.Tiling.{listed}
use Rattle.entries.proofs.Tiling.{listed_length}
use Rattle.table_layout.specs.Layout.{symbols}
use Rattle.calculus.specs.Tables.{is_in, Sort, missing}
use Rattle.decoded.specs.Table.{sort_at, free_of}
use Rattle.free_symbols.specs.Free.{bound_in, free_to, if_free, Lists}

-- ── In order ──

-- a range with its last thing
pub listed_last : {A : Type 0} (f : ℕ → A) (i n m : ℕ) → m ≡ i + n → listed f i (suc n) ≡ listed f i n ++ (f m ∷ [])
unfolding listed
listed_last f i zero m e = let q : m ≡ i = omega arith in rw q
listed_last f i (suc n) m e = ap (λ l. f i ∷ l) (listed_last f (suc i) n m (omega arith))

-- one symbol more
missing_more : (i : ℕ) (so : List Sort) (t : Sort) (l : List ℕ) → missing i (so ++ (t ∷ [])) l ≡ missing i so l ++ if_free l (i + length so)
unfolding missing
missing_more i [] t l = let q : i + 0 ≡ i = omega arith in rw q
missing_more i (u ∷ so) t l =
    let q : suc i + length so ≡ i + suc (length so) = omega arith in
    rw (← q) (rw (missing_more (suc i) so t l) (go (is_in i l)))
  where
    go : (b : Bool) → cond b (missing (suc i) so l ++ if_free l (suc i + length so)) (i ∷ (missing (suc i) so l ++ if_free l (suc i + length so)))
        ≡ cond b (missing (suc i) so l) (i ∷ missing (suc i) so l) ++ if_free l (suc i + length so)
    go true = refl
    go false = refl

-- the free ones of no symbols, of one symbol more, and of all
pub free_none : (s : List ℕ) → free_to s 0 ≡ []
unfolding free_to listed missing
free_none s = refl

pub free_more : (s : List ℕ) (x : ℕ) → free_to s (x + 1) ≡ free_to s x ++ if_free (bound_in s) x
unfolding free_to
free_more s x =
    let n : 0 + length (listed (sort_at s) 0 x) ≡ x = omega (arith, listed_length (sort_at s) 0 x) in
    rw (add-one, listed_last (sort_at s) 0 x x (omega arith), missing_more 0 (listed (sort_at s) 0 x) (sort_at s x) (bound_in s), n)

pub free_all : (s : List ℕ) → free_to s (symbols s) ≡ free_of s
unfolding free_to bound_in
free_all s = refl

-- ── Listed in an array ──

-- the last of a list
pub last_at : {A : Type 0} (l : List A) (x d : A) → get_or (l ++ (x ∷ [])) (length l) d ≡ x
last_at [] x d = refl
last_at (y ∷ l) x d = last_at l x d

-- nothing is listed
pub lists_none : (z : List ℕ) → length z ≡ 256 → Lists [] z 0
lists_none z e = record { size = e; count = refl; at = λ i h. absurd (omega arith) }

-- one number more
lists_more : (ys z o : List ℕ) (x n : ℕ) → n < 256 → Lists ys z n → Put z o (λ i. both true (eqb n i)) x → Lists (ys ++ (x ∷ [])) o (n + 1)
lists_more ys z o x n l h p = record { size = p.size ∙ h.size; count = rw (length-append ys (x ∷ [])) (omega (arith, h.count)); at = λ i m. go i m (eqb n i) refl (p.at i (rw h.size (omega arith))) }
  where
    go : (i : ℕ) → i < n + 1 → (b : Bool) → eqb n i ≡ b → get_or o i 0 ≡ pick b x (get_or z i 0) → get_or o i 0 ≡ get_or (ys ++ (x ∷ [])) i 0
    go i m true q e = let k : i ≡ length ys = omega (arith, eqb-true n i q, h.count) in e ∙ rw k (sym (last_at ys x 0))
    go i m false q e =
        let u : ¬ (n ≡ i) = eqb-false n i q in
        let k : i < n = omega (arith, u) in
        e ∙ h.at i k ∙ sym (get_or-append ys (x ∷ []) 0 i (omega (arith, h.count)))

-- symbol x follows what is listed if it is not marked as bound, and else not
module _ (l ys : List ℕ) (n x : ℕ) (s : x < 256) {marks z : List ℕ} (p : Put blank marks (λ y. is_in y l) 1) where
  pub lists_free : get_or marks x 0 ≡ 0 → Lists ys z n → n < 256 → Lists (ys ++ if_free l x) (set z n x) (n + 1)
  lists_free e h m = rw (no_mark 1 x p s (λ q. omega arith) e) (lists_more ys z _ x n m h (put_one z true n x refl))

  pub lists_bound : ¬ (get_or marks x 0 ≡ 0) → Lists ys z n → Lists (ys ++ if_free l x) z n
  lists_bound e h = rw (a_mark 1 x p s e, append-nil ys) h
