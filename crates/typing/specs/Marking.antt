-- The terms that stand in a step, marked by one pass down the table. Assumes nothing: these are definitions.
use Rattle.std.specs.Prelude.{◌≡◌, Bool, List, ℕ, ◌<◌, eqb, length, get_or}
use Rattle.table_layout.specs.Layout.{terms, steps}
use Rattle.calculus.specs.Inference.{spread, down, standing}
use Rattle.calculus.specs.Version1.{signature1}
use Rattle.decoded.specs.Table.{step_at}
use Rattle.slots.specs.Terms.{entry, InRange}

-- an array of 256 marks says which indexes are marked
pub record Bits (l : List ℕ) (m : ℕ → Bool) : Type 0 where
  pub size : length l ≡ 256
  pub bit : (u : ℕ) → u < 256 → eqb (get_or l u 0) 1 ≡ m u

-- the parts of term u were marked, if it was
pub record PartsPut (s : List ℕ) (u : ℕ) (z o : List ℕ) : Type 0 where
  pub put : (m : ℕ → Bool) → InRange s → u < 256 → Bits z m → Bits o (spread signature1 (entry s u) (m u) m)

-- all that stands in a marked term was marked
pub record DownPut (s : List ℕ) (z o : List ℕ) : Type 0 where
  pub put : (m : ℕ → Bool) → InRange s → Bits z m → Bits o (down signature1 (entry s) (terms s) m)

-- just what stands in step k is marked
pub record StepMarked (s : List ℕ) (k : ℕ) (o : List ℕ) : Type 0 where
  pub marked : InRange s → k < steps s → Bits o (standing signature1 (entry s) (terms s) (step_at s k))
