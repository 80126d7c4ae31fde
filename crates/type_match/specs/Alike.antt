-- Number 11, in the words of the meaning. Assumes nothing: these are definitions.
use Rattle.std.specs.Prelude.{◌≡◌, List, ℕ, ◌≤◌, length, Ok, Err}
use Rattle.std.proofs.Math.Option.{some}
use Rattle.answers.specs.Ladder.{refusal, least, Check}
use Rattle.list.specs.Layout.{body_at, past_type}
use Rattle.list.specs.Faults.{list_rungs}
use Rattle.types.specs.Version1.{T}
use Rattle.calculus.specs.Figure2.{Env}
use Rattle.calculus.specs.Version1.{signature1}
use Rattle.rendering.specs.Lists.{Differ}
use Rattle.decoded_list.specs.Decoded.{Decoded}
use Rattle.decoded_list.specs.Bytes.{types_to}
use Rattle.slots.specs.Slots.{Holds}

-- the list's types are the widest ones; or 11 at the first place at which they differ, or at which the shorter one ends
pub data Alike (As Bs : List T) : Check → Type 0 where
  alike : As ≡ Bs → Alike As Bs (Ok tt)
  unlike : {i : ℕ} → Differ As Bs (some i) → Alike As Bs (Err (refusal 11 1 i))

-- r is the body of the type at p, if it lies inside the list
pub record BodyIs (l : List ℕ) (p : ℕ) (r : List ℕ) : Type 0 where
  pub is : past_type l p ≤ length l → r ≡ body_at l p

-- the types of a list without faults 1 to 5 were compared with those of the first n slots
pub record Matched (l w : List ℕ) (n : ℕ) (r : Check) : Type 0 where
  pub matched : (Γ : Env signature1) (free : ℕ) → Holds w Γ → n ≤ 96 → least (list_rungs l free) ≡ Ok tt → (d : Decoded l) → Alike d.types (types_to Γ n) r
