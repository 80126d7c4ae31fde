-- Laws of `Put`: one place, no place, and one after another. Assumes nothing.
use mathlib.Core.Path.{◌≡◌, refl, sym, ◌∙◌}
use mathlib.Core.Bool.{Bool, true, false}
use mathlib.Core.List.{List}
use Prim.Native.Nat.{ℕ, ◌+◌, ◌<◌}
use lib.Dec.{eqb}
use lib.ListN.{length, get_or, set, length-set, length-replicate, get_or-replicate}
use lib.Seq.{get_or-set_same, get_or-set_other}
use borrow.Author.Tests.{eqb-true, eqb-false}
use Rattle.base.specs.Pick.{pick, both, either}
use Rattle.base.specs.Search.{some}
use Rattle.base.proofs.SomeLaws.{some_none, some_more}
use Rattle.marks.specs.Put.{Put, blank}

pub put_one : (z : List ℕ) (b : Bool) (a v : ℕ) → b ≡ true → Put z (set z a v) (λ i. both b (eqb a i)) v
put_one z b a v e = record { size = length-set z a v; at = λ i h. rw e (go i h (eqb a i) refl) }
  where
    go : (i : ℕ) → i < length z → (t : Bool) → eqb a i ≡ t → get_or (set z a v) i 0 ≡ pick t v (get_or z i 0)
    go i h true q = let p : a ≡ i = eqb-true a i q in rw p (get_or-set_same z i v 0 h)
    go i h false q = get_or-set_other z a i v 0 (λ p. eqb-false a i q (sym p))

pub put_none : (z : List ℕ) (b : Bool) (a v : ℕ) → b ≡ false → Put z z (λ i. both b (eqb a i)) v
put_none z b a v e = record { size = refl; at = λ i h. rw e }

pub put_both : {z m o : List ℕ} {f g : ℕ → Bool} {v : ℕ} → Put z m f v → Put m o g v → Put z o (λ i. either (f i) (g i)) v
put_both {z} {m} {o} {f} {g} {v} p q = record { size = q.size ∙ p.size; at = λ i h. go i h (f i) (g i) (p.at i h) (q.at i (rw p.size h)) }
  where
    go : (i : ℕ) → i < length z → (a b : Bool) → get_or m i 0 ≡ pick a v (get_or z i 0) → get_or o i 0 ≡ pick b v (get_or m i 0) → get_or o i 0 ≡ pick (either a b) v (get_or z i 0)
    go i h true true x y = y
    go i h true false x y = y ∙ x
    go i h false true x y = y
    go i h false false x y = y ∙ x

-- properties that agree
pub put_as : {z o : List ℕ} {f g : ℕ → Bool} {v : ℕ} → ((i : ℕ) → f i ≡ g i) → Put z o f v → Put z o g v
put_as e p = record { size = p.size; at = λ i h. rw (← e i) (p.at i h) }

-- a loop that puts for each number in turn: before the first, and one more
pub put_start : (z : List ℕ) (f : ℕ → ℕ → Bool) (v : ℕ) → Put z z (λ i. some (λ e. f e i) 0) v
put_start z f v = record { size = refl; at = λ i h. rw (some_none (λ e. f e i)) }

pub put_more : {z m o : List ℕ} {v : ℕ} (f : ℕ → ℕ → Bool) (n : ℕ) → Put z m (λ i. some (λ e. f e i) n) v → Put m o (f n) v
    → Put z o (λ i. some (λ e. f e i) (n + 1)) v
put_more f n p q = put_as (λ i. swap (some (λ e. f e i) n) (f n i) ∙ sym (some_more (λ e. f e i) n)) (put_both p q)
  where
    swap : (a b : Bool) → either a b ≡ either b a
    swap true true = refl
    swap true false = refl
    swap false true = refl
    swap false false = refl

-- an array that had no marks: a mark is there exactly if it was put
module _ {o : List ℕ} {f : ℕ → Bool} (v i : ℕ) (p : Put blank o f v) (h : i < 256) where
  here : get_or o i 0 ≡ pick (f i) v 0
  unfolding blank
  here = p.at i (rw (length-replicate {A = ℕ} 256 0) h) ∙ rw (get_or-replicate {A = ℕ} 256 i 0 0 h)

  -- for a mark that is not 0
  pub no_mark : (v ≡ 0 → ⊥) → get_or o i 0 ≡ 0 → f i ≡ false
  no_mark n e = go (f i) here
    where
      go : (b : Bool) → get_or o i 0 ≡ pick b v 0 → b ≡ false
      go true q = absurd (n (sym q ∙ e))
      go false q = refl

  pub a_mark : (get_or o i 0 ≡ 0 → ⊥) → f i ≡ true
  a_mark n = go (f i) here
    where
      go : (b : Bool) → get_or o i 0 ≡ pick b v 0 → b ≡ true
      go true q = refl
      go false q = absurd (n q)
