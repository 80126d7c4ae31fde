-- What an order is, and the greatest element with a property, where there is one. Assumes nothing.
use Rattle.std.specs.Prelude.{◌≡◌}
use Rattle.std.proofs.Math.Option.{Option, none, some}

-- reflexive, transitive, antisymmetric
pub record IsOrder {T : Type 0} (le : T → T → Type 0) : Type 0 where
  pub reflexive : (a : T) → le a a
  pub transitive : {a b c : T} → le a b → le b c → le a c
  pub antisymmetric : {a b : T} → le a b → le b a → a ≡ b

-- an answer is the greatest element that has P; it is none exactly if no element has P
pub data Greatest {T : Type 0} (le : T → T → Type 0) (P : T → Type 0) : Option T → Type 0 where
  greatest : {c : T} → P c → ((d : T) → P d → le d c) → Greatest le P (some c)
  nothing : ((d : T) → P d → ⊥) → Greatest le P none
