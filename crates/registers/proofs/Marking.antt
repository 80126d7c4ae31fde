-- The registers at the start: those of the free symbols, by index. Assumes nothing.
use mathlib.Core.Path.{◌≡◌, refl}
use mathlib.Core.List.{List, [], ◌∷◌, ◌++◌, map}
use Prim.Native.Nat.{ℕ, ◌+◌, ◌<◌, ◌≤◌}
use native.Mathlib.Omega.{arith}
use native.Mathlib.Numerals.{add-one}
use lib.ListN.{length, get_or, take, length-map, length-take}
use lib.Seq.{take-suc, take_all}
use Rattle.marks.specs.Put.{blank}
use Rattle.calculus.proofs.Lists.{map_append}
use Rattle.rendering.specs.Judge.{Meaning, symbol, term}
use Rattle.decoded.specs.Table.{free_of}
use Rattle.registers.specs.Held.{HeldTerms, at_start}
use Rattle.registers.proofs.HeldLaws.{held_none, symbols_kept}

-- those of the first n free symbols
unfoldable pub free_to : List ℕ → ℕ → List Meaning
free_to s n = map symbol (take n (free_of s))

pub free_none : (s : List ℕ) → free_to s 0 ≡ []
unfolding free_to
free_none s = refl

pub free_more : (s : List ℕ) (i : ℕ) → i < length (free_of s) → free_to s (i + 1) ≡ free_to s i ++ (symbol (get_or (free_of s) i 0) ∷ [])
unfolding free_to
free_more s i h = rw (add-one, take-suc (free_of s) i 0 h, map_append)

pub free_length : (s : List ℕ) (i : ℕ) → i ≤ length (free_of s) → length (free_to s i) ≡ i
unfolding free_to
free_length s i h = omega (arith, length-map (take i (free_of s)) symbol, length-take i (free_of s))

pub free_all : (s : List ℕ) (i : ℕ) → i ≡ length (free_of s) → free_to s i ≡ at_start s
unfolding free_to at_start
free_all s i h = rw (take_all i (free_of s) (omega arith))

pub start_length : (s : List ℕ) → length (at_start s) ≡ length (free_of s)
unfolding at_start
start_length s = length-map (free_of s) symbol

-- no compound term has one yet
pub none_held : (s z : List ℕ) → z ≡ blank → HeldTerms (at_start s) z
unfolding at_start
none_held s z e = symbols_kept [] (free_of s) z (held_none term z e)
