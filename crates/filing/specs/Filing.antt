-- How entries are filed by their keys, so that an equal one is found without comparing all. A slot holds 0, or an entry's index and 1;
-- below entry k are slots 2k and 2k + 1. Assumes nothing: these are definitions.
use Rattle.std.specs.Prelude.{◌≡◌, List, ℕ, zero, suc, ◌+◌, ◌*◌, ◌-◌, ◌/◌, ◌%◌, ◌<◌, ◌≤◌, leb, eqb, length, get_or}
use Rattle.base.specs.Pick.{pick}
use Rattle.entries.specs.Fields.{code, field}
use Rattle.filing.specs.declared.Way.{Way}
use Rattle.filing.specs.declared.Way.TheVariants.{Free, Twin, Lost}

-- an entry of two fields as one number: its code, then its fields
unfoldable pub key_of : List ℕ → ℕ → ℕ → ℕ → ℕ
key_of s kind base i = code s kind base i * 4294967296 + field s kind base i 0 * 65536 + field s kind base i 1

-- what a slot holds
abbrev pub held : List ℕ → ℕ → ℕ
held slots slot = get_or slots slot 0

-- the way of a key from a slot on, over so many slots; the key's lowest bit chooses the slot below an entry
unfoldable pub way_from : (ℕ → ℕ) → List ℕ → ℕ → ℕ → ℕ → ℕ → Way
way_from keys slots own zero key slot = Lost
way_from keys slots own (suc left) key slot =
    let at = held slots slot - 1 in
    let rest = way_from keys slots own left (key / 2) (2 * at + key % 2) in
    pick (leb (length slots) slot) Lost (pick (eqb (held slots slot) 0) (Free slot) (pick (eqb (keys at) own) Twin rest))

-- the root of a key
abbrev pub root : ℕ → ℕ
root own = 2048 + own % 1021

-- the way of a key from its root
unfoldable pub way_of : List ℕ → ℕ → ℕ → List ℕ → ℕ → Way
way_of s kind base slots own = way_from (key_of s kind base) slots own 41 own (root own)

-- no entry is filed
abbrev pub AllFree : List ℕ → Type 0
AllFree slots = (slot : ℕ) → held slots slot ≡ 0

-- the first n entries are filed, and no others
pub record Filed (s : List ℕ) (kind base : ℕ) (slots : List ℕ) (n : ℕ) : Type 0 where
  pub no_others : (slot : ℕ) → held slots slot ≤ n
  pub found_again : (i : ℕ) → i < n → way_of s kind base slots (key_of s kind base i) ≡ Twin
