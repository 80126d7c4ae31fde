-- A role table with no fault 1 to 9, said of its bytes by document 01. Assumes nothing: these are definitions.
use Rattle.std.specs.Prelude.{◌≡◌, List, ℕ, ◌+◌, ◌*◌, ◌≤◌, ◌<◌, length}
use Rattle.base.specs.Bytes.{byte}
use Rattle.table_layout.specs.Layout.{symbols, terms, steps}
use Rattle.decoded.specs.Entries.{SymbolRight, TermRight, StepRight, SameTerm}
use Rattle.decoded.specs.Meaning.{Named, BindsNew, OutOfScope}

-- the header is there with mark and version, the counts are within their limits, and the length is what they say (1 to 4)
pub record FrameRight (s : List ℕ) : Type 0 where
  pub header_there : 8 ≤ length s
  pub mark_s : byte s 0 ≡ 0x53
  pub mark_p : byte s 1 ≡ 0x50
  pub mark_t : byte s 2 ≡ 0x54
  pub version_high : byte s 3 ≡ 0
  pub version_low : byte s 4 ≡ 1
  pub few_symbols : symbols s ≤ 96
  pub few_terms : terms s ≤ 128
  pub few_steps : steps s ≤ 64
  pub length_exact : length s ≡ 8 + symbols s + 3 * terms s + 5 * steps s

-- and every symbol, term and step is in order (5), no term is repeated (6) or idle (7), no symbol is bound again (8), and no step is
-- out of scope (9)
pub record TableRight (s : List ℕ) : Type 0 where
  pub frame : FrameRight s
  pub each_symbol : (i : ℕ) → i < symbols s → SymbolRight s i
  pub each_term : (i : ℕ) → i < terms s → TermRight s i
  pub each_step : (k : ℕ) → k < steps s → StepRight s k
  pub not_repeated : (i j : ℕ) → i < terms s → j < i → ¬ SameTerm s i j
  pub each_named : (i : ℕ) → i < terms s → Named s i
  pub each_new : (k : ℕ) → k < steps s → BindsNew s k
  pub each_in_scope : (k : ℕ) → k < steps s → ¬ OutOfScope s k
