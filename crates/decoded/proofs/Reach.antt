-- After 7 the steps reach every term: a term that no step uses is a part of a higher one, from the last term down. Assumes that 1 to 9 pass.
use mathlib.Core.Path.{◌≡◌}
use mathlib.Core.Logic.{inl, inr}
use mathlib.Core.List.{List}
use Prim.Native.Nat.{ℕ, zero, suc, ◌+◌, ◌≤◌, ◌<◌}
use native.Mathlib.Omega.{arith}
use Rattle.answers.specs.Ladder.{least}
use Rattle.table_layout.specs.Layout.{terms}
use Rattle.table.specs.Faults.{table_rungs}
use Rattle.decoded.specs.Meaning.{Named, Reached, used, part}
use Rattle.decoded.proofs.Naming.{named_means}
use Rattle.decoded.proofs.Passed.{Passed, table_passed}
use Rattle.decoded.proofs.Ranges.{parts_lower}
use Rattle.std.proofs.Common.{Ok}

-- of the last d terms
last_reached : (s : List ℕ) → Passed s → (d i : ℕ) → terms s ≤ i + d → i < terms s → Reached s i
last_reached s p zero i h l = absurd (omega arith)
last_reached s p (suc d) i h l = go ((named_means s i).0 (p.each_named i l)) (λ e u w. last_reached s p d e (omega arith) w)
  where
    go : Named s i → ((e : ℕ) → i < e → e < terms s → Reached s e) → Reached s i
    go (inl (e, u, q)) r = part e u q (r e (parts_lower s p.entered e i u q) u)
    go (inr (k, u, w)) r = used k u w

-- the steps reach every term
pub every_term_reached : (s : List ℕ) → least (table_rungs s) ≡ Ok tt → (i : ℕ) → i < terms s → Reached s i
every_term_reached s e i h = last_reached s (table_passed s e) (terms s) i (omega arith) h
