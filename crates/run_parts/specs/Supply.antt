-- The supply of a run: what is left of a trace's. Assumes nothing: these are definitions.
use Rattle.std.specs.Prelude.{◌≡◌, List, ℕ, ◌-◌, ◌≤◌}
use Rattle.entries.specs.Tiling.{listed}
use Rattle.trace.specs.Layout.{supplies, supply}

-- n supplies of a trace are used, and su is left
pub record Left (tr su : List ℕ) (n : ℕ) : Type 0 where
  pub among : n ≤ supplies tr
  pub rest : su ≡ listed (supply tr) n (supplies tr - n)
