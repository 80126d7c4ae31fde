-- How a service's answer is given. Assumes nothing.
use mathlib.Core.Path.{refl}
use mathlib.Core.List.{List}
use Prim.Native.Nat.{ℕ, ◌≤◌, ◌<◌}
use native.Mathlib.Omega.{arith}
use lib.ListN.{length}
use Rattle.machine.specs.declared.Ran.{Ran}
use Rattle.mirvashol.specs.Given.{EntriesGiven}
use Rattle.mirvashol.specs.Entries.{written_entries, run_entries}
use Rattle.mirvashol.specs.Served.{Served, RunServed}
use Rattle.answers.specs.declared.Refusal.{Refusal}
use Rattle.std.proofs.Common.{Result}

module _ (A : List ℕ → Result ℕ Refusal → Type 0) (z given : List ℕ) where
  pub not_served : length given < 8 → Served A z z given given 255
  not_served l = record { short = λ h. (refl, refl, refl); long = λ h. absurd (omega arith) }

  pub served : (o gives : List ℕ) (a : Result ℕ Refusal) (r : ℕ) → 8 ≤ length given → A o a → EntriesGiven given gives r (written_entries a) → Served A z o given gives r
  served o gives a r l p g = record { short = λ h. absurd (omega arith); long = λ h. (a, p, g) }

module _ (A : List ℕ → List ℕ → Result Ran Refusal → Type 0) (z y given : List ℕ) where
  pub run_not_served : length given < 8 → RunServed A z z y y given given 255
  run_not_served l = record { short = λ h. (refl, refl, refl, refl); long = λ h. absurd (omega arith) }

  pub run_served : (v o gives : List ℕ) (a : Result Ran Refusal) (r : ℕ) → 8 ≤ length given → A v o a → EntriesGiven given gives r (run_entries a) → RunServed A z v y o given gives r
  run_served v o gives a r l p g = record { short = λ h. absurd (omega arith); long = λ h. (a, p, g) }
