-- A value table kept in a lent buffer, and what each function leaves of it. Assumes nothing: these are definitions.
use Rattle.std.specs.Prelude.{◌≡◌, Bool, not, Option, Some, None, List, ◌++◌, ℕ, ◌+◌, ◌*◌, ◌≤◌, ◌<◌, eqb, length, Ok}
use Rattle.base.specs.Pick.{both}
use Rattle.base.specs.Search.{Search, clean, wrong, first}
use Rattle.answers.specs.Ladder.{least}
use Rattle.buffers.specs.Over.{over}
use Rattle.entries.specs.Tiling.{joined}
use Rattle.trace.specs.Layout.{values}
use Rattle.trace.specs.Faults.{trace_rungs}
use Rattle.calculus.specs.Signature.{Two}
use Rattle.calculus.specs.Terms.{Atom, build2}
use Rattle.calculus.specs.Tables.{Entry}
use Rattle.calculus.specs.Version1.{Seal1, signature1}
use Rattle.running.specs.Lists.{made}
use Rattle.decoded.specs.Table.{two_code}
use Rattle.decoded.specs.Values.{values_of}
use Rattle.value_table.specs.Values.{tag_at, part_at, five_bytes, value_bytes}
use Rattle.value_table.specs.declared.Made.{Made}

-- the buffer z, now v, has the n values es at its start; bytes beyond keep their values
pub record Kept (z : List ℕ) (es : List (Entry signature1 Atom)) (v : List ℕ) (n : ℕ) : Type 0 where
  pub count : n ≡ length es
  pub bytes : v ≡ over (joined value_bytes es) z

-- five bytes were written after n others
pub record Appended (v : List ℕ) (n tag a b : ℕ) (o : List ℕ) : Type 0 where
  pub appended : (w z : List ℕ) → length w ≡ 5 * n → v ≡ over w z → 5 * (n + 1) ≤ length z → o ≡ over (w ++ five_bytes tag a b) z

-- the values of a checked trace were copied, if there was room for them
pub record Copied (tr z o : List ℕ) : Type 0 where
  pub copied : least (trace_rungs tr) ≡ Ok tt → 5 * values tr ≤ length z → Kept z (values_of tr) o (values tr)

-- value i of the first n has this tag and these numbers
unfoldable pub same_at : List ℕ → ℕ → ℕ → ℕ → ℕ → ℕ → Bool
same_at s n tag a b i = both (eqb (tag_at s n i) tag) (both (eqb (part_at s n i 0) a) (eqb (part_at s n i 1) b))

-- the place that a search found
abbrev pub found_place : Search → Option ℕ
found_place clean = None
found_place (wrong i) = Some i

-- the first of n values that is so
unfoldable pub place_in : List ℕ → ℕ → ℕ → ℕ → ℕ → Option ℕ
place_in s n tag a b = found_place (first (λ i. not (same_at s n tag a b i)) 0 n)

-- whatever values are kept, a made one is found among them or appended, if there is room for one more
pub record Makes (v : List ℕ) (n tag a b : ℕ) (o : List ℕ) (r : Made) : Type 0 where
  pub makes : (k : Two Seal1) (z : List ℕ) (es : List (Entry signature1 Atom)) → two_code k ≡ tag → Kept z es v n → 5 * (n + 1) ≤ length z → n < 65535
      → let m = made signature1 es (build2 k a b) in (r.index ≡ m.0) × Kept z m.1 o r.count
