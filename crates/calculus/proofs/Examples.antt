-- What inference answers on document 01's marked examples, on symbols that nothing uses, and on a term that unfolds to 2^40 nodes. All are computed.
-- Assumes nothing.
use mathlib.Core.Path.{◌≡◌, refl}
use mathlib.Core.Bool.{decide}
use mathlib.Core.Option.{Option-elim, bind}
use mathlib.Core.List.{List, [], ◌∷◌, map}
use Prim.Native.Nat.{ℕ}
use native.Mathlib.Decide.{ℕ_discrete}
use Rattle.types.specs.Forest.{within, under, lower_of}
use Rattle.types.specs.Prefix.{encoded}
use Rattle.types.specs.Types.{meet}
use Rattle.types.specs.Version1.{bytes, parent1, depth1, code1}
use Rattle.calculus.specs.Figure2.{pick, extend}
use Rattle.calculus.specs.Typing.{allowed, Answer, widest, untyped}
use Rattle.calculus.specs.Tables.{is_in}
use Rattle.calculus.specs.Inference.{infer, mark, wants, needs, spread, down, by_entry, push, push_all, needs_at, needs_of, at_step, typing, found, before, infer_by}
use Rattle.calculus.specs.Terms.{operands}
use Rattle.calculus.specs.Version1.{signature1}
use Rattle.calculus.specs.ExampleTables.{E1, E2, E5, E6, E7, E8, Unused, doubling, Shared}

-- what is shown of an answer: the bytes of the types of given symbols; or the place of number 10
pub data Shown : Type 0 where
  types : List (List ℕ) → Shown
  place : ℕ → Shown

unfoldable pub shown : List ℕ → Answer signature1 → Shown
shown xs (widest Γ) = types (map (λ x. bytes (Γ x)) xs)
shown xs (untyped i) = place i

pub record Examples : Type 0 where
  pub e1 : shown (0 ∷ 1 ∷ 2 ∷ 3 ∷ []) (infer signature1 E1) ≡ types ((2 ∷ []) ∷ (3 ∷ []) ∷ (5 ∷ 0 ∷ []) ∷ (0 ∷ []) ∷ [])
  pub e2 : shown [] (infer signature1 E2) ≡ types []
  pub e5 : shown (0 ∷ []) (infer signature1 E5) ≡ place 0
  pub e6 : shown (0 ∷ []) (infer signature1 E6) ≡ place 0
  pub e7 : shown (0 ∷ 1 ∷ 3 ∷ []) (infer signature1 E7) ≡ types ((4 ∷ 2 ∷ 0 ∷ []) ∷ (2 ∷ []) ∷ (0 ∷ []) ∷ [])
  pub e8 : shown (0 ∷ []) (infer signature1 E8) ≡ types ((1 ∷ []) ∷ [])
  pub unused : shown (0 ∷ 1 ∷ []) (infer signature1 Unused) ≡ types ((1 ∷ []) ∷ (0 ∷ []) ∷ [])
  pub shared : shown (0 ∷ 1 ∷ 2 ∷ []) (infer signature1 Shared) ≡ types ((2 ∷ []) ∷ (3 ∷ []) ∷ (0 ∷ []) ∷ [])

pub examples : Examples
unfolding ℕ_discrete decide Option-elim bind within under lower_of meet encoded parent1 depth1 code1 operands pick extend mark is_in allowed wants needs spread down by_entry push push_all needs_at needs_of at_step typing found before infer_by doubling shown
examples = record { e1 = refl; e2 = refl; e5 = refl; e6 = refl; e7 = refl; e8 = refl; unused = refl; shared = refl }
