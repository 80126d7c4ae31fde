-- Where the type at a place ends. Assumes nothing: these are definitions.
use Rattle.std.specs.Prelude.{Some, None, ◌≡◌, List, ◌++◌, ℕ, ◌+◌, ◌-◌, ◌≤◌, length, drop}
use Rattle.std.proofs.Math.Option.{Option, none, some}
use Rattle.types.specs.Version1.{T, bytes}
use Rattle.type_bytes.specs.Lower.{End}

-- an end as the meaning layer says it
abbrev pub end_of : End → Option ℕ
end_of (Some e) = some e
end_of None = none

-- the type at p, if there is one, ends before r; and where p is in the list, r is a step on
pub record Past (s : List ℕ) (p r : ℕ) : Type 0 where
  pub on : length s - r ≤ length s - (p + 1)
  pub rest : (t : T) (x : List ℕ) → drop p s ≡ bytes t ++ x → drop r s ≡ x
