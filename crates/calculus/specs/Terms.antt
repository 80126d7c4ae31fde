-- Terms, values, steps and statements over a signature of kinds. Assumes nothing.
use Rattle.std.specs.Prelude.{List, [], ◌∷◌, ◌++◌, ℕ}
use Rattle.std.proofs.Math.Decide.{ℕ_discrete}
use Rattle.calculus.specs.Signature.{Signature, Two, same_two}

-- an atom of the trace: its kind, and its number
pub data Atom : Type 0 where
  atom : ℕ → ℕ → Atom
  deriving Discrete as same_atom

-- the two halves of a split
pub data Side : Type 0 where
  left right : Side
  deriving Discrete as same_side

module _ (𝓢 : Signature) where
  open 𝓢 use {One, same_one, Seal, same_seal}

  -- trees of the signature's kinds over leaves: symbols in terms, atoms in values
  pub data Tree (L : Type 0) : Type 0 where
    leaf : L → Tree L
    one : One → Tree L → Tree L
    two : Two Seal → Tree L → Tree L → Tree L
    deriving Discrete as same_tree

  -- a term: a symbol, or a kind with its parts
  abbrev pub Term : Type 0
  Term = Tree ℕ

  -- a value: an atom, or a kind with its parts
  abbrev pub Value : Type 0
  Value = Tree Atom

  -- equality of values is decided
  abbrev pub same_value : Discrete Value
  same_value = same_tree (same_atom ℕ_discrete) same_one (same_two same_seal)

  -- what is built of given parts, over any kind of operand
  pub data Build (A : Type 0) : Type 0 where
    build1 : One → A → Build A
    build2 : Two Seal → A → A → Build A
    deriving Discrete as same_build

  -- the same build of other operands
  unfoldable pub map_build : {A B : Type 0} → (A → B) → Build A → Build B
  map_build f (build1 k a) = build1 k (f a)
  map_build f (build2 k a b) = build2 k (f a) (f b)

  -- the tree that is built
  unfoldable pub built : {L : Type 0} → Build (Tree L) → Tree L
  built (build1 k M) = one k M
  built (build2 k M N) = two k M N

  -- what a step does, over any kind of operand: terms, indexes of terms, registers, values
  pub data Act (A : Type 0) : Type 0 where
    send : A → A → Act A
    receive : A → ℕ → Act A
    fresh : ℕ → Act A
    compare : A → A → Act A
    split : A → ℕ → ℕ → Act A
    decrypt : Seal → A → A → ℕ → Act A
    deriving Discrete as same_act

  -- the same act on other operands
  unfoldable pub map_act : {A B : Type 0} → (A → B) → Act A → Act B
  map_act f (send a b) = send (f a) (f b)
  map_act f (receive a x) = receive (f a) x
  map_act f (fresh x) = fresh x
  map_act f (compare a b) = compare (f a) (f b)
  map_act f (split a x y) = split (f a) x y
  map_act f (decrypt s a b x) = decrypt s (f a) (f b) x

  -- the operands, in the order in which they are built
  unfoldable pub operands : {A : Type 0} → Act A → List A
  operands (send a b) = a ∷ b ∷ []
  operands (receive a x) = a ∷ []
  operands (fresh x) = []
  operands (compare a b) = a ∷ b ∷ []
  operands (split a x y) = a ∷ []
  operands (decrypt s a b x) = a ∷ b ∷ []

  -- the symbols that it binds, in order
  unfoldable pub binders : {A : Type 0} → Act A → List ℕ
  binders (send a b) = []
  binders (receive a x) = x ∷ []
  binders (fresh x) = x ∷ []
  binders (compare a b) = []
  binders (split a x y) = x ∷ y ∷ []
  binders (decrypt s a b x) = x ∷ []

  -- all that a list of steps binds, in order
  unfoldable pub bound : {A : Type 0} → List (Act A) → List ℕ
  bound [] = []
  bound (s ∷ P) = binders s ++ bound P

  -- a step
  abbrev pub Step : Type 0
  Step = Act Term

  -- a process: its steps in order; the end is nil
  abbrev pub Process : Type 0
  Process = List Step

  -- a statement names registers: a step's act, half of a split, or a build
  pub data Statement : Type 0 where
    act : Act ℕ → Statement
    half : Side → ℕ → ℕ → Statement
    build : Build ℕ → Statement
    deriving Discrete as same_statement
