-- The part of a list that holds a symbol's type. Assumes nothing: these are definitions.
use Rattle.std.specs.Prelude.{Bool, true, false, ◌≡◌, List, [], ℕ, ◌<◌, ltb, Option, Some, None, Ok, Err}
use Rattle.base.specs.Pick.{pick, both}
use Rattle.answers.specs.Ladder.{least, Check}
use Rattle.answers.specs.Least.{Fault}
use Rattle.answers.specs.declared.Refusal.{Refusal}
use Rattle.list.specs.Layout.{symbols, body_at, body_range, type_at}
use Rattle.types.specs.Version1.{T, bytes}
use Rattle.list.specs.Faults.{frame_rungs, type_rungs}
use Rattle.std.specs.declared.ops.Range.{Range}

-- a layer of tests passes
abbrev pub passed : Check → Bool
passed (Ok tt) = true
passed (Err r) = false

-- the list has symbol x's type: no fault 1 to 4, no malformed type, and x is one of its symbols
unfoldable pub has_type : List ℕ → ℕ → Bool
has_type s x = both (passed (least (type_rungs s))) (ltb x (symbols s))

-- the bytes of symbol x's type, without the length byte; none where the list does not have it
unfoldable pub type_bytes : List ℕ → ℕ → List ℕ
type_bytes s x = pick (has_type s x) (body_at s (type_at s x)) []

-- where they start, and where they end
unfoldable pub part_of : List ℕ → ℕ → Option (Range ℕ)
part_of s x = pick (has_type s x) (Some (body_range s (type_at s x))) None

-- the list has a fault 1 to 4
abbrev pub FrameFault : List ℕ → Type 0
FrameFault s = (y : Refusal) × Fault y (frame_rungs s)

-- one of its types is malformed: the bytes after the length byte are those of no type
abbrev pub MalformedType : List ℕ → Type 0
MalformedType s = (i : ℕ) × (i < symbols s) × ((A : T) → body_at s (type_at s i) ≡ bytes A → ⊥)
