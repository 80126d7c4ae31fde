-- The weight of a type, its pairs and ciphertext types, and that a lower bound of two weighs at most what they weigh. Assumes nothing.
use mathlib.Core.Bool.{Bool, true, false, cond, decide}
use mathlib.Core.Option.{Option, none, some, map, bind}
use Prim.Native.Nat.{ℕ, suc, ◌+◌, ◌*◌, ◌≤◌, ◌<◌}
use native.Mathlib.Omega.{arith}
use Rattle.types.specs.Forest.{lower_of}
use Rattle.types.specs.Types.{TypeTable, Ty, Message, Basic, Cipher, Pair, meet}
use Rattle.types.specs.Prefix.{nodes}

-- an answer, if there is one, has a property
pub data Each {A : Type 0} (P : A → Type 0) : Option A → Type 0 where
  ea_none : Each P none
  ea_some : {a : A} → P a → Each P (some a)

module _ (𝓣 : TypeTable) where
  -- the pairs and ciphertext types in a type
  unfoldable pub inner : Ty 𝓣 → ℕ
  inner Message = 0
  inner (Basic l) = 0
  inner (Cipher u a) = suc (inner a)
  inner (Pair a b) = suc (inner a + inner b)

  pub nodes_inner : (a : Ty 𝓣) → nodes 𝓣 a ≤ 2 * inner a + 1
  unfolding nodes inner
  nodes_inner Message = omega arith
  nodes_inner (Basic l) = omega arith
  nodes_inner (Cipher u a) = let h = nodes_inner a in omega arith
  nodes_inner (Pair a b) = let h = nodes_inner a in let k = nodes_inner b in omega arith

  pub inner_nodes : (a : Ty 𝓣) → inner a < nodes 𝓣 a
  unfolding nodes inner
  inner_nodes Message = omega arith
  inner_nodes (Basic l) = omega arith
  inner_nodes (Cipher u a) = let h = inner_nodes a in omega arith
  inner_nodes (Pair a b) = let h = inner_nodes a in let k = inner_nodes b in omega arith

  -- ── A lower bound weighs at most what the two weigh ──
  basic_weight : (n : ℕ) (o : Option 𝓣.forest.Base) → Each (λ c. inner c ≤ n) (map Basic o)
  unfolding inner
  basic_weight n none = ea_none
  basic_weight n (some l) = ea_some {a = Basic l} (omega arith)

  cipher_weight : (u : 𝓣.Former) (n m : ℕ) (b : Bool) {o : Option (Ty 𝓣)} → suc n ≤ m → Each (λ c. inner c ≤ n) o → Each (λ c. inner c ≤ m) (cond b (map (Cipher u) o) none)
  unfolding inner
  cipher_weight u n m true k ea_none = ea_none
  cipher_weight u n m true k (ea_some {a = a} h) = ea_some {a = Cipher u a} (omega arith)
  cipher_weight u n m false k ea_none = ea_none
  cipher_weight u n m false k (ea_some h) = ea_none

  pair_weight : (m n k : ℕ) {o u : Option (Ty 𝓣)} → suc (m + n) ≤ k → Each (λ c. inner c ≤ m) o → Each (λ c. inner c ≤ n) u → Each (λ c. inner c ≤ k) (bind o (λ x. map (Pair x) u))
  unfolding bind inner
  pair_weight m n k h ea_none g = ea_none
  pair_weight m n k h (ea_some p) ea_none = ea_none
  pair_weight m n k h (ea_some {a = a} p) (ea_some {a = b} q) = ea_some {a = Pair a b} (omega arith)

  pub meet_weight : (a b : Ty 𝓣) → Each (λ c. inner c ≤ inner a + inner b) (meet 𝓣 a b)
  unfolding meet inner
  meet_weight Message b = ea_some {a = b} (omega arith)
  meet_weight (Basic l) Message = ea_some {a = Basic l} (omega arith)
  meet_weight (Basic l) (Basic m) = basic_weight (0 + 0) (lower_of 𝓣.forest l m)
  meet_weight (Basic l) (Cipher v c) = ea_none
  meet_weight (Basic l) (Pair c d) = ea_none
  meet_weight (Cipher u a) Message = ea_some {a = Cipher u a} (omega arith)
  meet_weight (Cipher u a) (Basic m) = ea_none
  meet_weight (Cipher u a) (Cipher v c) = cipher_weight u (inner a + inner c) (suc (inner a) + suc (inner c)) (decide (𝓣.same_former u v)) (omega arith) (meet_weight a c)
  meet_weight (Cipher u a) (Pair c d) = ea_none
  meet_weight (Pair a b) Message = ea_some {a = Pair a b} (omega arith)
  meet_weight (Pair a b) (Basic m) = ea_none
  meet_weight (Pair a b) (Cipher v c) = ea_none
  meet_weight (Pair a b) (Pair c d) = pair_weight (inner a + inner c) (inner b + inner d) (suc (inner a + inner b) + suc (inner c + inner d)) (omega arith) (meet_weight a c) (meet_weight b d)
