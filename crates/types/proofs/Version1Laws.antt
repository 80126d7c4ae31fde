-- The laws of document 01's tables, and what its reader of bytes cites. Assumes nothing.
use mathlib.Core.Path.{◌≡◌, refl}
use mathlib.Core.Bool.{decide}
use mathlib.Core.Option.{none, some, Option-elim, some_inj, none-ne-some}
use Prim.Native.Nat.{ℕ, zero, suc, ◌≤◌, ◌<◌}
use native.Mathlib.Omega.{arith}
use Rattle.types.specs.Order.{Greatest, nothing}
use Rattle.types.specs.Forest.{Falls, within, under, lower_of}
use Rattle.types.specs.Types.{Basic, ◌<:◌ as Sub, meet, TypesAreOrdered, MeetIsGreatest}
use Rattle.types.specs.Prefix.{Node, n_message, n_basic, n_cipher, n_pair, CodeLaws, parts, follows, LengthIsNodes, StartsOnce, ReadingIsExact}
use Rattle.types.specs.Version1.{name, channel, shkey, shared, parent1, depth1, forest1, types1, T, code1, node_of1, codes1}
use Rattle.types.proofs.TypeLaws.{types_are_ordered, meet_is_greatest}
use Rattle.types.proofs.PrefixLaws.{length_is_nodes, starts_once, reading_is_exact}

pub falls1 : Falls forest1
unfolding parent1 depth1
falls1 name b e = absurd (none-ne-some b e)
falls1 channel b e = let h : name ≡ b = some_inj.0 e in rw (← h) (omega arith)
falls1 shkey b e = let h : name ≡ b = some_inj.0 e in rw (← h) (omega arith)

known1 : (h : Node types1) → node_of1 (code1 h) ≡ some h
unfolding code1 node_of1
known1 n_message = refl
known1 n_pair = refl
known1 (n_basic name) = refl
known1 (n_basic channel) = refl
known1 (n_basic shkey) = refl
known1 (n_cipher shared) = refl

only1 : (n : ℕ) (h : Node types1) → node_of1 n ≡ some h → n ≡ code1 h
unfolding code1 node_of1
only1 zero h e = let q : n_message ≡ h = some_inj.0 e in rw (← q)
only1 (suc zero) h e = let q : n_basic name ≡ h = some_inj.0 e in rw (← q)
only1 (suc (suc zero)) h e = let q : n_basic channel ≡ h = some_inj.0 e in rw (← q)
only1 (suc (suc (suc zero))) h e = let q : n_basic shkey ≡ h = some_inj.0 e in rw (← q)
only1 (suc (suc (suc (suc zero)))) h e = let q : n_pair ≡ h = some_inj.0 e in rw (← q)
only1 (suc (suc (suc (suc (suc zero))))) h e = let q : n_cipher shared ≡ h = some_inj.0 e in rw (← q)
only1 (suc (suc (suc (suc (suc (suc n)))))) h e = absurd (none-ne-some h e)

pub code_laws1 : CodeLaws codes1
code_laws1 = record { known = known1; only = only1 }

-- ── The statements at document 01's tables ──
pub ordered1 : TypesAreOrdered types1
ordered1 = types_are_ordered types1 falls1

pub meet1 : MeetIsGreatest types1
meet1 = meet_is_greatest types1 falls1

pub length1 : LengthIsNodes codes1
length1 = length_is_nodes codes1

pub once1 : StartsOnce codes1
once1 = starts_once codes1 code_laws1

pub exact1 : ReadingIsExact codes1
exact1 = reading_is_exact codes1 code_laws1

infix 4 ◌<:◌
abbrev ◌<:◌ : T → T → Type 0
A <: B = Sub types1 A B

-- no type lies below both Channel and ShKey
pub no_channel_key : (A : T) → A <: Basic channel → A <: Basic shkey → ⊥
unfolding meet lower_of under within parent1 depth1 decide Option-elim
no_channel_key A p q = none_below (meet1 (Basic channel) (Basic shkey))
  where
    none_below : Greatest (Sub types1) (λ B. (B <: Basic channel) × (B <: Basic shkey)) none → ⊥
    none_below (nothing n) = n A (p, q)

-- ── The class of each byte ──
pub byte_whole : (n : ℕ) → n < 4 → follows codes1 n ≡ some 0
unfolding follows parts node_of1
byte_whole zero h = refl
byte_whole (suc zero) h = refl
byte_whole (suc (suc zero)) h = refl
byte_whole (suc (suc (suc zero))) h = refl
byte_whole (suc (suc (suc (suc n)))) h = absurd (omega arith)

pub byte_pair : follows codes1 4 ≡ some 2
unfolding follows parts node_of1
byte_pair = refl

pub byte_cipher : follows codes1 5 ≡ some 1
unfolding follows parts node_of1
byte_cipher = refl

pub byte_unknown : (n : ℕ) → 6 ≤ n → follows codes1 n ≡ none
unfolding follows parts node_of1
byte_unknown zero h = absurd (omega arith)
byte_unknown (suc zero) h = absurd (omega arith)
byte_unknown (suc (suc zero)) h = absurd (omega arith)
byte_unknown (suc (suc (suc zero))) h = absurd (omega arith)
byte_unknown (suc (suc (suc (suc zero)))) h = absurd (omega arith)
byte_unknown (suc (suc (suc (suc (suc zero))))) h = absurd (omega arith)
byte_unknown (suc (suc (suc (suc (suc (suc n)))))) h = refl
