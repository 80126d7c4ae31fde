-- Types over a table: Message, the basic types, ciphertext types of one part, and pairs; their order and its greatest lower bounds.
-- Assumes nothing.
use Rattle.std.specs.Prelude.{cond}
use Rattle.std.proofs.Math.Bool.{decide}
use Rattle.std.proofs.Math.Option.{Option, none, some, map, bind}
use Rattle.types.specs.Order.{IsOrder, Greatest}
use Rattle.types.specs.Forest.{Forest, Under, lower_of}

-- the basic types, and the kinds of ciphertext types
pub record TypeTable : Type 1 where
  pub forest : Forest
  pub Former : Type 0
  pub same_former : Discrete Former

module _ (𝓣 : TypeTable) where
  open 𝓣 use {forest, Former, same_former}

  -- the types
  pub data Ty : Type 0 where
    Message : Ty
    Basic : forest.Base → Ty
    Cipher : Former → Ty → Ty
    Pair : Ty → Ty → Ty

  -- Message is on top; basic types as the table says; ciphertexts and pairs part by part
  infix 4 ◌<:◌
  pub data ◌<:◌ : Ty → Ty → Type 0 where
    top : {a : Ty} → a <: Message
    basic : {l m : forest.Base} → Under forest l m → Basic l <: Basic m
    cipher : {u : Former} {a b : Ty} → a <: b → Cipher u a <: Cipher u b
    pair : {a b c d : Ty} → a <: c → b <: d → Pair a b <: Pair c d

  -- the greatest lower bound, if there is one
  unfoldable pub meet : Ty → Ty → Option Ty
  meet Message b = some b
  meet (Basic l) Message = some (Basic l)
  meet (Basic l) (Basic m) = map Basic (lower_of forest l m)
  meet (Basic l) (Cipher v c) = none
  meet (Basic l) (Pair c d) = none
  meet (Cipher u a) Message = some (Cipher u a)
  meet (Cipher u a) (Basic m) = none
  meet (Cipher u a) (Cipher v c) = cond (decide (same_former u v)) (map (Cipher u) (meet a c)) none
  meet (Cipher u a) (Pair c d) = none
  meet (Pair a b) Message = some (Pair a b)
  meet (Pair a b) (Basic m) = none
  meet (Pair a b) (Cipher v c) = none
  meet (Pair a b) (Pair c d) = bind (meet a c) (λ x. map (Pair x) (meet b d))

  -- ── Statements ──

  -- subtyping is an order
  abbrev pub TypesAreOrdered : Type 0
  TypesAreOrdered = IsOrder ◌<:◌

  -- the greatest type below both; none exactly if nothing lies below both
  abbrev pub MeetIsGreatest : Type 0
  MeetIsGreatest = (a b : Ty) → Greatest ◌<:◌ (λ c. (c <: a) × (c <: b)) (meet a b)
