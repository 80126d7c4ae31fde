-- Number 6 in the meaning's words: which terms, or values, equal an earlier one. The files compare entries; a law says that the first
-- equal entry is the first equal term. Assumes nothing: these are definitions and a statement.
use Rattle.std.specs.Prelude.{◌≡◌, ◌↔◌, List, ℕ, ◌<◌, length}
use Rattle.calculus.specs.Signature.{Signature}
use Rattle.calculus.specs.Tables.{Entry, entry_at, denoted, Closed}

-- i has the property, and no lower number has it
pub record FirstWith (P : ℕ → Type 0) (i : ℕ) : Type 0 where
  pub has : P i
  pub none_lower : (k : ℕ) → k < i → ¬ P k

module _ (𝓢 : Signature) where
  -- entry i equals an earlier one: the same kind over the same indexes, or the same leaf
  abbrev pub EntryRepeated : {L : Type 0} → L → List (Entry 𝓢 L) → ℕ → Type 0
  EntryRepeated z es i = (j : ℕ) × (j < i) × (entry_at 𝓢 z es i ≡ entry_at 𝓢 z es j)

  -- the term, or value, that entry i stands for equals that of an earlier one
  abbrev pub TreeRepeated : {L : Type 0} → L → List (Entry 𝓢 L) → ℕ → Type 0
  TreeRepeated z es i = (j : ℕ) × (j < i) × (denoted 𝓢 z es i ≡ denoted 𝓢 z es j)

  -- ── Statement ──

  -- where parts are lower, the first entry equal to an earlier one is the first term equal to an earlier one
  abbrev pub FirstEntryFirstTree : {L : Type 0} → L → List (Entry 𝓢 L) → Type 0
  FirstEntryFirstTree z es = Closed 𝓢 z es → (i : ℕ) → i < length es → FirstWith (EntryRepeated z es) i ↔ FirstWith (TreeRepeated z es) i
