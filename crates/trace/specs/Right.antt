-- A trace with no fault 1 to 6, said of its bytes by document 01. Assumes nothing: these are definitions.
use Rattle.std.specs.Prelude.{◌≡◌, true, List, ℕ, ◌+◌, ◌*◌, ◌≤◌, ◌<◌, length}
use Rattle.opening.specs.Opening.{marked, version}
use Rattle.trace.specs.Layout.{values, supplies, startings, supplies_at, starting, supply, tag, left, right}

-- the header is there with its mark, the version is 1, the counts are within their limits, and the length is what they say (1 to 4)
pub record Framed (s : List ℕ) : Type 0 where
  pub mark : marked 2 s ≡ true
  pub first_version : version s ≡ 1
  pub few_values : values s ≤ 1024
  pub few_supplies : supplies s ≤ 128
  pub few_startings : startings s ≤ 96
  pub whole_length : length s ≡ supplies_at s + 2 * supplies s

-- a value of a trace: an atom of a known kind and a 16-bit number, or a pair or ciphertext of lower values
pub data Value (s : List ℕ) (i : ℕ) : Type 0 where
  atom : tag s i ≡ 0 → left s i < 3 → right s i < 65536 → Value s i
  pair : tag s i ≡ 1 → left s i < i → right s i < i → Value s i
  ciphertext : tag s i ≡ 2 → left s i < i → right s i < i → Value s i

-- every value is in order, and every starting and supplied one is there (5)
pub record ValuesRight (s : List ℕ) : Type 0 where
  pub each_value : (i : ℕ) → i < values s → Value s i
  pub each_starting : (i : ℕ) → i < startings s → starting s i < values s
  pub each_supply : (i : ℕ) → i < supplies s → supply s i < values s

-- no two values are equal (6)
abbrev pub ValuesDiffer : List ℕ → Type 0
ValuesDiffer s =
    (i j : ℕ) → i < values s → j < values s → tag s i ≡ tag s j → left s i ≡ left s j → right s i ≡ right s j → i ≡ j

-- a trace with no fault
pub record TraceRight (s : List ℕ) : Type 0 where
  pub framed : Framed s
  pub values_right : ValuesRight s
  pub values_differ : ValuesDiffer s
