-- Basic types as a forest: a table says which basic type lies directly above each one. Assumes nothing; `Falls` is the one law of a table.
use Rattle.std.specs.Prelude.{◌≡◌, Bool, true, false, cond, ◌||◌, ℕ, zero, suc, ◌<◌}
use Rattle.std.proofs.Math.Bool.{decide}
use Rattle.std.proofs.Math.Option.{Option, none, some, Option-elim}

-- the basic types, the one directly above each, and how many lie above it
pub record Forest : Type 1 where
  pub Base : Type 0
  pub same : Discrete Base
  pub parent : Base → Option Base
  pub depth : Base → ℕ

module _ (𝓕 : Forest) where
  open 𝓕 use {Base, same, parent, depth}

  -- the law of a table: a parent has less above it
  abbrev pub Falls : Type 0
  Falls = (a b : Base) → parent a ≡ some b → depth b < depth a

  -- at or below
  pub data Under : Base → Base → Type 0 where
    u_same : {a : Base} → Under a a
    u_step : {a b c : Base} → parent a ≡ some b → Under b c → Under a c

  -- is b met within n steps up from a?
  unfoldable pub within : ℕ → Base → Base → Bool
  within zero a b = decide (same a b)
  within (suc n) a b = decide (same a b) || Option-elim (parent a) false (λ t. within n t b)

  -- the decision of `Under`
  unfoldable pub under : Base → Base → Bool
  under a b = within (depth a) a b

  -- the lower of two basic types, if one lies under the other
  unfoldable pub lower_of : Base → Base → Option Base
  lower_of a b = cond (under a b) (some a) (cond (under b a) (some b) none)

  -- ── Statement ──

  -- `under` decides `Under`
  abbrev pub UnderDecided : Type 0
  UnderDecided = (a b : Base) → (under a b ≡ true → Under a b) × (Under a b → under a b ≡ true)
