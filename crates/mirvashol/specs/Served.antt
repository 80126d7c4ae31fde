-- How an exported service answers. Assumes nothing: these are definitions.
use Rattle.std.specs.Prelude.{◌≡◌, List, ℕ, ◌≤◌, ◌<◌, length, Result}
use Rattle.machine.specs.declared.Ran.{Ran}
use Rattle.judge_service.specs.Judged.{Judged}
use Rattle.mirvashol.specs.Given.{EntriesGiven}
use Rattle.mirvashol.specs.Entries.{entries_of, written_entries, run_entries}
use Rattle.answers.specs.Ladder.{Check}
use Rattle.answers.specs.declared.Refusal.{Refusal}

-- A is the service's own promise, of what the buffer z has become, and of the refusal or the bytes written; the eight entries say
-- just that. An array of fewer than eight entries gets 255, and nothing is changed
pub record Served (A : List ℕ → Result ℕ Refusal → Type 0) (z o given gives : List ℕ) (r : ℕ) : Type 0 where
  pub short : length given < 8 → (r ≡ 255) × (o ≡ z) × (gives ≡ given)
  pub long : 8 ≤ length given → (a : Result ℕ Refusal) × A o a × EntriesGiven given gives r (written_entries a)

-- the judge: the eight entries say its refusal, or none
pub record JudgeServed (t l given gives : List ℕ) (r : ℕ) : Type 0 where
  pub verdict : Check
  pub is_judged : Judged t l verdict
  pub entries : EntriesGiven given gives r (entries_of verdict 0 0 0)

-- the run: A is the service's own promise, of what the buffers z and y have become, and of the refusal or how the run went
pub record RunServed (A : List ℕ → List ℕ → Result Ran Refusal → Type 0) (z v y o given gives : List ℕ) (r : ℕ) : Type 0 where
  pub short : length given < 8 → (r ≡ 255) × (v ≡ z) × (o ≡ y) × (gives ≡ given)
  pub long : 8 ≤ length given → (a : Result Ran Refusal) × A v o a × EntriesGiven given gives r (run_entries a)
