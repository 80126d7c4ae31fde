-- What a run sees of a value: its shape, visible types, freshness, and what a key opens. Values are trees, or indexes of a value table: the
-- definitions are over a `View` of either. Assumes nothing.
use Rattle.std.specs.Prelude.{◌≡◌, Bool, true, false, cond, not, ◌&&◌, ◌||◌, List, [], ◌∷◌, ◌++◌, ℕ, eqb, length, get_or}
use Rattle.std.proofs.Math.Bool.{decide}
use Rattle.std.proofs.Math.Option.{Option, none, some}
use Rattle.types.specs.Forest.{under}
use Rattle.types.specs.Types.{Ty, Message, Basic, Cipher, Pair}
use Rattle.calculus.specs.Signature.{Signature, pairing, seal, Fit, itself, twins}
use Rattle.calculus.specs.Terms.{Atom, atom, leaf, one, two, Value, same_value, Build, build1, build2}
use Rattle.calculus.specs.Tables.{Entry, leaf_entry, kind_entry, entry_at}
use Rattle.calculus.specs.Scope.{In, All}

module _ (𝓢 : Signature) where
  open 𝓢 use {types, One, same_one, result, Seal, same_seal, former, fit, atom_type}

  -- a value at first sight: an atom, or what it is built of
  pub data Shape (W : Type 0) : Type 0 where
    atomic : Atom → Shape W
    compound : Build 𝓢 W → Shape W

  -- all that a run asks of its values
  pub record View (W : Type 0) : Type 0 where
    pub shape : W → Shape W
    pub same : W → W → Bool
    -- does v occur in w?
    pub occurs : W → W → Bool
    -- what a register that is not given would hold
    pub blank : W

  -- ── Visible types ──

  -- a basic type: an atom whose kind's type lies at or below it, or a value of a one-part kind whose result does
  unfoldable pub basic_shape : {W : Type 0} → types.forest.Base → Shape W → Bool
  basic_shape l (atomic (atom k n)) = under types.forest (atom_type k) l
  basic_shape l (compound (build1 k v)) = under types.forest (result k) l
  basic_shape l (compound (build2 k v w)) = false

  -- a pair type: both parts visibly have theirs
  unfoldable pub pair_shape : {W : Type 0} → (W → Bool) → (W → Bool) → Shape W → Bool
  pair_shape p q (atomic a) = false
  pair_shape p q (compound (build1 k v)) = false
  pair_shape p q (compound (build2 pairing v w)) = p v && q w
  pair_shape p q (compound (build2 (seal s) v w)) = false

  -- a ciphertext type: the inside is unseen
  unfoldable pub cipher_shape : {W : Type 0} → types.Former → Shape W → Bool
  cipher_shape u (atomic a) = false
  cipher_shape u (compound (build1 k v)) = false
  cipher_shape u (compound (build2 pairing v w)) = false
  cipher_shape u (compound (build2 (seal s) v w)) = decide (types.same_former (former s) u)

  -- a value visibly has a type
  unfoldable pub visible : {W : Type 0} → View W → Ty types → W → Bool
  visible A Message v = true
  visible A (Basic l) v = basic_shape l (A.shape v)
  visible A (Pair a b) v = pair_shape (λ x. visible A a x) (λ y. visible A b y) (A.shape v)
  visible A (Cipher u a) v = cipher_shape u (A.shape v)

  -- ── Freshness ──

  -- the shape of a tree
  unfoldable pub tree_shape : Value 𝓢 → Shape (Value 𝓢)
  tree_shape (leaf a) = atomic a
  tree_shape (one k v) = compound (build1 k v)
  tree_shape (two k v w) = compound (build2 k v w)

  -- the parts of a value, whatever its kind
  unfoldable pub parts_of : {W : Type 0} → Shape W → List W
  parts_of (atomic a) = []
  parts_of (compound (build1 k v)) = v ∷ []
  parts_of (compound (build2 k v w)) = v ∷ w ∷ []

  -- v occurs in w: it is w, or it occurs in a part of w
  pub data Occurs (v : Value 𝓢) : Value 𝓢 → Type 0 where
    occurs_itself : Occurs v v
    occurs_inside : {u w : Value 𝓢} → In u (parts_of (tree_shape w)) → Occurs v u → Occurs v w

  -- fresh: it occurs in no value held for a symbol (document 02 c); list and process both use this
  abbrev pub Fresh : List (Value 𝓢) → Value 𝓢 → Type 0
  Fresh held v = All (λ w. ¬ Occurs v w) held

  -- its decider
  unfoldable pub is_fresh : {W : Type 0} → View W → List W → W → Bool
  is_fresh A [] v = true
  is_fresh A (w ∷ held) v = not (A.occurs v w) && is_fresh A held v

  -- is it an atom?
  unfoldable pub is_atom : {W : Type 0} → Shape W → Bool
  is_atom (atomic a) = true
  is_atom (compound b) = false

  -- ── Splitting and opening ──

  -- the parts of a pair
  unfoldable pub pair_parts : {W : Type 0} → Shape W → Option (W × W)
  pair_parts (atomic a) = none
  pair_parts (compound (build1 k v)) = none
  pair_parts (compound (build2 pairing v w)) = some (v, w)
  pair_parts (compound (build2 (seal s) v w)) = none

  -- the part of a value of the one-part kind c
  unfoldable pub part_of : {W : Type 0} → One → Shape W → Option W
  part_of c (atomic a) = none
  part_of c (compound (build1 k v)) = cond (decide (same_one c k)) (some v) none
  part_of c (compound (build2 k v w)) = none

  -- are both there, and the same?
  unfoldable pub same_parts : {W : Type 0} → View W → Option W → Option W → Bool
  same_parts A none o = false
  same_parts A (some v) none = false
  same_parts A (some v) (some w) = A.same v w

  -- does the key at hand fit the key that a value was sealed with?
  unfoldable pub turns : {W : Type 0} → View W → Fit One → W → W → Bool
  turns A itself k key = A.same k key
  turns A (twins c d) k key = same_parts A (part_of c (A.shape k)) (part_of d (A.shape key))

  -- what a key finds: the inside of a ciphertext; another key's ciphertext; no ciphertext of this kind
  pub data Opening (W : Type 0) : Type 0 where
    inside : W → Opening W
    locked unsealed : Opening W

  -- a key tried on a value
  unfoldable pub open_shape : {W : Type 0} → View W → Seal → W → Shape W → Opening W
  open_shape A s key (atomic a) = unsealed
  open_shape A s key (compound (build1 k v)) = unsealed
  open_shape A s key (compound (build2 pairing v w)) = unsealed
  open_shape A s key (compound (build2 (seal t) v k)) = cond (decide (same_seal s t)) (cond (turns A (fit s) k key) (inside v) locked) unsealed

  -- ── Values as trees ──

  -- does v occur in a tree?
  unfoldable pub occurs_in : Value 𝓢 → Value 𝓢 → Bool
  occurs_in v (leaf a) = decide (same_value 𝓢 v (leaf a))
  occurs_in v (one k u) = decide (same_value 𝓢 v (one k u)) || occurs_in v u
  occurs_in v (two k u w) = decide (same_value 𝓢 v (two k u w)) || (occurs_in v u || occurs_in v w)

  -- values that are trees
  abbrev pub tree : View (Value 𝓢)
  tree = record { shape = tree_shape; same = λ v w. decide (same_value 𝓢 v w); occurs = occurs_in; blank = leaf (atom 0 0) }

  -- the decider of freshness decides it
  abbrev pub FreshDecided : Type 0
  FreshDecided = (held : List (Value 𝓢)) (v : Value 𝓢) → (is_fresh tree held v ≡ true → Fresh held v) × (Fresh held v → is_fresh tree held v ≡ true)

  -- ── Values as indexes of a value table: equal values have equal indexes ──

  -- the shape of an entry
  unfoldable pub entry_shape : Entry 𝓢 Atom → Shape ℕ
  entry_shape (leaf_entry a) = atomic a
  entry_shape (kind_entry b) = compound b

  -- some one of them has the property
  unfoldable pub any_of : {W : Type 0} → (W → Bool) → List W → Bool
  any_of f [] = false
  any_of f (x ∷ l) = f x || any_of f l

  -- one mark a value, those of lower ones being ms: it is value v, or a part of it is marked
  unfoldable pub marks_from : ℕ → List Bool → List (Entry 𝓢 Atom) → List Bool
  marks_from v ms [] = ms
  marks_from v ms (e ∷ es) = marks_from v (ms ++ ((eqb v (length ms) || any_of (λ i. get_or ms i false) (parts_of (entry_shape e))) ∷ [])) es

  -- does value v of a table occur in value w of it?
  unfoldable pub occurs_at : List (Entry 𝓢 Atom) → ℕ → ℕ → Bool
  occurs_at es v w = get_or (marks_from v [] es) w false

  -- values that are indexes of a table
  abbrev pub index : List (Entry 𝓢 Atom) → View ℕ
  index es = record { shape = λ i. entry_shape (entry_at 𝓢 (atom 0 0) es i); same = eqb; occurs = occurs_at es; blank = 0 }
