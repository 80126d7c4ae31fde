-- A walk over marks, which have a place for every byte, finds what a walk over what was marked finds. Assumes nothing.
use mathlib.Core.Path.{◌≡◌, refl}
use mathlib.Core.Bool.{Bool, true, false, not}
use mathlib.Core.List.{List}
use Prim.Native.Nat.{ℕ, ◌≤◌, ◌<◌}
use native.Mathlib.Omega.{arith}
use lib.Dec.{eqb}
use lib.ListN.{get_or}
use borrow.Author.Tests.{eqb-true, eqb-false}
use Rattle.base.specs.Search.{first}
use Rattle.base.proofs.Ranges.{first_same}
use Rattle.marks.specs.Put.{Put, blank}
use Rattle.marks.proofs.PutLaws.{no_mark, a_mark}

-- a mark is there exactly if it was put
marked : {o : List ℕ} {f : ℕ → Bool} → Put blank o f 1 → (i : ℕ) → i < 256 → not (eqb (get_or o i 0) 0) ≡ f i
marked {o} {f} p i h = go (eqb (get_or o i 0) 0) refl
  where
    go : (b : Bool) → eqb (get_or o i 0) 0 ≡ b → not b ≡ f i
    go true e = rw (no_mark 1 i p h (λ z. omega arith) (eqb-true _ _ e))
    go false e = rw (a_mark 1 i p h (eqb-false _ _ e))

pub marks_walked : {o : List ℕ} {f : ℕ → Bool} → Put blank o f 1 → (n : ℕ) → n ≤ 256 → first (λ i. not (eqb (get_or o i 0) 0)) 0 n ≡ first f 0 n
marks_walked p n h = first_same _ _ n (λ i l. marked p i (omega arith))
