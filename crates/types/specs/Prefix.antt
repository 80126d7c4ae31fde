-- A type's bytes: its nodes in prefix order, each as one code. Written, read back, and that no list starts with two types.
-- Assumes nothing; `CodeLaws` are the laws of a table of codes.
use Rattle.std.specs.Prelude.{◌≡◌, List, [], ◌∷◌, ◌++◌, ℕ, suc, ◌+◌, length, drop}
use Rattle.std.proofs.Math.Option.{Option, none, some, map}
use Rattle.types.specs.Types.{TypeTable, Ty, Message, Basic, Cipher, Pair}

-- a node of a type without its parts
pub data Node (𝓣 : TypeTable) : Type 0 where
  n_message n_pair : Node 𝓣
  n_basic : 𝓣.forest.Base → Node 𝓣
  n_cipher : 𝓣.Former → Node 𝓣

-- the code of each node, and the node of each code
pub record Codes (𝓣 : TypeTable) : Type 0 where
  pub code : Node 𝓣 → ℕ
  pub node_of : ℕ → Option (Node 𝓣)

-- the two agree
pub record CodeLaws {𝓣 : TypeTable} (𝓒 : Codes 𝓣) : Type 0 where
  pub known : (h : Node 𝓣) → 𝓒.node_of (𝓒.code h) ≡ some h
  pub only : (n : ℕ) (h : Node 𝓣) → 𝓒.node_of n ≡ some h → n ≡ 𝓒.code h

module _ (𝓣 : TypeTable) where
  -- how many parts follow a node
  unfoldable pub parts : Node 𝓣 → ℕ
  parts n_message = 0
  parts (n_basic l) = 0
  parts (n_cipher u) = 1
  parts n_pair = 2

  -- the number of a type's nodes
  unfoldable pub nodes : Ty 𝓣 → ℕ
  nodes Message = 1
  nodes (Basic l) = 1
  nodes (Cipher u a) = suc (nodes a)
  nodes (Pair a b) = suc (nodes a + nodes b)

module _ {𝓣 : TypeTable} (𝓒 : Codes 𝓣) where
  open 𝓒 use {code, node_of}

  -- a type's bytes
  unfoldable pub encoded : Ty 𝓣 → List ℕ
  encoded Message = code n_message ∷ []
  encoded (Basic l) = code (n_basic l) ∷ []
  encoded (Cipher u a) = code (n_cipher u) ∷ encoded a
  encoded (Pair a b) = code n_pair ∷ (encoded a ++ encoded b)

  -- the class of a byte: unknown, or how many parts follow it
  unfoldable pub follows : ℕ → Option ℕ
  follows n = map (parts 𝓣) (node_of n)

  -- the list l starts with the type a, and r is the rest
  abbrev pub Starts : List ℕ → Ty 𝓣 → List ℕ → Type 0
  Starts l a r = l ≡ encoded a ++ r

  -- from byte p of s on: a type that ends before e; or no type
  abbrev pub EndIs : List ℕ → ℕ → Option ℕ → Type 0
  EndIs s p (some e) = (a : Ty 𝓣) × (e ≡ p + length (encoded a)) × Starts (drop p s) a (drop e s)
  EndIs s p none = (a : Ty 𝓣) (r : List ℕ) → Starts (drop p s) a r → ⊥

  -- ── Statements ──

  -- a type has as many bytes as nodes
  abbrev pub LengthIsNodes : Type 0
  LengthIsNodes = (a : Ty 𝓣) → length (encoded a) ≡ nodes 𝓣 a

  -- at most one type starts a list, and the rest is then one too
  abbrev pub StartsOnce : Type 0
  StartsOnce = (a b : Ty 𝓣) (r s : List ℕ) → encoded a ++ r ≡ encoded b ++ s → (a ≡ b) × (r ≡ s)

  -- reading is exact: it is decided whether a list starts with a type
  abbrev pub ReadingIsExact : Type 0
  ReadingIsExact = (l : List ℕ) → Dec ((a : Ty 𝓣) × (r : List ℕ) × Starts l a r)
