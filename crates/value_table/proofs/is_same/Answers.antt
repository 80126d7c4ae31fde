-- `value_table::is_same` meets its contract. Assumes nothing.
use mathlib.Core.Path.{◌≡◌, ◌∙◌}
use mathlib.Core.Bool.{Bool, true, false}
use mathlib.Core.List.{List}
use Prim.Native.Nat.{ℕ, ◌<◌}
use native.Mathlib.Omega.{arith}
use lib.Dec.{eqb}
use Rattle.base.specs.Pick.{pick}
use Rattle.entries.specs.Fields.{code}
use Rattle.value_table.specs.Values.{known, tag_at}
use Rattle.value_table.specs.Kept.{same_at}
use borrow.Author.Tests.{ne_eqb, tests}
use Rattle.value_table.proofs.is_same.Goals as goal

-- a value whose first byte is another than a compound's tag has another tag
other_tag : (s : List ℕ) (n i tag : ℕ) → 0 < tag → (code s 3 0 i ≡ tag → ⊥) → eqb (tag_at s n i) tag ≡ false
unfolding tag_at
other_tag s n i tag h d = go (known s n i)
  where
    go : (k : Bool) → eqb (pick k (code s 3 0 i) 0) tag ≡ false
    go true = ne_eqb _ _ d
    go false = ne_eqb 0 tag (λ (e : 0 ≡ tag). absurd (omega arith))

pub returns-then-code_at-tag : goal.returns-then-code_at-tag
unfolding same_at
returns-then-code_at-tag c = rw (other_tag _ _ _ _ c.if-tag-gt0.true (λ e. c.if-code_at-tag.true (c.code_at.ensures ∙ e)))

pub returns-then-part_at-a : goal.returns-then-part_at-a
unfolding same_at
returns-then-part_at-a c = grind (arith, tests)

pub returns-else-part_at-a : goal.returns-else-part_at-a
unfolding same_at
returns-else-part_at-a c = grind (arith, tests)
