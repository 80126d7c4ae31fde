-- Shared trees as entries that name lower ones, what they stand for, and role tables. Assumes nothing.
use Rattle.std.specs.Prelude.{◌≡◌, Bool, true, false, cond, List, [], ◌∷◌, ◌++◌, map, ℕ, suc, ◌<◌, eqb, length, get_or, drop}
use Rattle.calculus.specs.Signature.{Signature, Two}
use Rattle.calculus.specs.Terms.{Tree, leaf, Build, build1, build2, map_build, built, Act, map_act, bound, Process}

-- is x in l?
unfoldable pub is_in : ℕ → List ℕ → Bool
is_in x [] = false
is_in x (y ∷ l) = cond (eqb x y) true (is_in x l)

module _ (𝓢 : Signature) where
  -- an entry of a table of terms (leaves: symbols) or of values (leaves: atoms): a leaf, or a kind over lower entries
  pub data Entry (L : Type 0) : Type 0 where
    leaf_entry : L → Entry L
    kind_entry : Build 𝓢 ℕ → Entry L
    deriving Discrete as same_entry

  -- what an entry stands for, given what lower ones stand for
  unfoldable pub entry_tree : {L : Type 0} → (ℕ → Tree 𝓢 L) → Entry L → Tree 𝓢 L
  entry_tree f (leaf_entry x) = leaf x
  entry_tree f (kind_entry b) = built 𝓢 (map_build 𝓢 f b)

  -- entry i; past the end it is the leaf z
  abbrev pub entry_at : {L : Type 0} → L → List (Entry L) → ℕ → Entry L
  entry_at z es i = get_or es i (leaf_entry z)

  -- tree i; past the end it is the leaf z
  abbrev pub tree_at : {L : Type 0} → L → List (Tree 𝓢 L) → ℕ → Tree 𝓢 L
  tree_at z ts i = get_or ts i (leaf z)

  -- the trees that entries stand for, those of lower entries being ts
  unfoldable pub trees_from : {L : Type 0} → L → List (Tree 𝓢 L) → List (Entry L) → List (Tree 𝓢 L)
  trees_from z ts [] = ts
  trees_from z ts (e ∷ es) = trees_from z (ts ++ (entry_tree (tree_at z ts) e ∷ [])) es

  -- the trees that a table of entries stands for
  abbrev pub trees : {L : Type 0} → L → List (Entry L) → List (Tree 𝓢 L)
  trees z es = trees_from z [] es

  -- the tree that entry i stands for
  abbrev pub denoted : {L : Type 0} → L → List (Entry L) → ℕ → Tree 𝓢 L
  denoted z es i = tree_at z (trees z es) i

  -- an entry names entries below i only
  pub data Lower {L : Type 0} (i : ℕ) : Entry L → Type 0 where
    low_leaf : {x : L} → Lower i (leaf_entry x)
    low_one : {k : 𝓢.One} {a : ℕ} → a < i → Lower i (kind_entry (build1 k a))
    low_two : {k : Two 𝓢.Seal} {a b : ℕ} → a < i → b < i → Lower i (kind_entry (build2 k a b))

  -- parts are lower than the entry's own index
  abbrev pub Closed : {L : Type 0} → L → List (Entry L) → Type 0
  Closed z es = (i : ℕ) → i < length es → Lower i (entry_at z es i)

  -- no entry equals an earlier one (no fault 6)
  abbrev pub Unrepeated : {L : Type 0} → L → List (Entry L) → Type 0
  Unrepeated z es = (i j : ℕ) → i < length es → j < length es → entry_at z es i ≡ entry_at z es j → i ≡ j

  -- ── Statements ──

  -- an entry's tree is made of the trees that it names
  abbrev pub DenotedByEntries : {L : Type 0} → L → List (Entry L) → Type 0
  DenotedByEntries z es = Closed z es → (i : ℕ) → denoted z es i ≡ entry_tree (denoted z es) (entry_at z es i)

  -- equal trees have equal indexes
  abbrev pub EqualTreesEqualIndexes : {L : Type 0} → L → List (Entry L) → Type 0
  EqualTreesEqualIndexes z es = Closed z es → Unrepeated z es → (i j : ℕ) → i < length es → j < length es → denoted z es i ≡ denoted z es j → i ≡ j

-- ── Role tables ──

-- a symbol is a name or a variable
pub data Sort : Type 0 where
  is_name is_variable : Sort
  deriving Discrete as same_sort

-- the sort of symbol x
abbrev pub sort_of : List Sort → ℕ → Sort
sort_of so x = get_or so x is_variable

-- the symbols from number i on that are not in l
unfoldable pub missing : ℕ → List Sort → List ℕ → List ℕ
missing i [] l = []
missing i (s ∷ so) l = cond (is_in i l) (missing (suc i) so l) (i ∷ missing (suc i) so l)

module _ (𝓢 : Signature) where
  -- the symbols' sorts, the terms as entries, the steps with their terms' indexes
  pub record Table : Type 0 where
    pub sorts : List Sort
    pub entries : List (Entry 𝓢 ℕ)
    pub steps : List (Act 𝓢 ℕ)

  -- the process that steps with indexes mean over entries
  abbrev pub meaning : List (Entry 𝓢 ℕ) → List (Act 𝓢 ℕ) → Process 𝓢
  meaning es ss = map (map_act 𝓢 (denoted 𝓢 0 es)) ss

  -- the process of a table
  abbrev pub process : Table → Process 𝓢
  process t = meaning t.entries t.steps

  -- the process of the steps from i on
  abbrev pub process_from : Table → ℕ → Process 𝓢
  process_from t i = meaning t.entries (drop i t.steps)

  -- the free symbols, by index: those that no step binds
  abbrev pub free : Table → List ℕ
  free t = missing 0 t.sorts (bound 𝓢 t.steps)
