-- What is seen of an index of a sound value table is what is seen of the value that it stands for; so an act does the same over both.
-- Assumes nothing.
use mathlib.Core.Path.{◌≡◌, refl, sym, ap, ◌∙◌, subst}
use mathlib.Core.Bool.{Bool, true, false, cond, ◌&&◌, ◌||◌, decide}
use mathlib.Core.Option
use mathlib.Core.Option.{Option, none, some}
use mathlib.Core.List.{List, [], ◌∷◌, map}
use Prim.Native.Nat.{ℕ, zero, suc, ◌<◌}
use native.Mathlib.Omega.{arith}
use lib.Dec.{ltb, eqb}
use lib.ListN.{length}
use borrow.Author.Tests.{lt-ltb, eq-eqb, ne_eqb}
use Rattle.types.specs.Types.{Ty, Message, Basic, Cipher, Pair}
use Rattle.calculus.specs.Signature.{Signature, pairing, seal, Fit, itself, twins}
use Rattle.calculus.specs.Terms.{Atom, atom, Value, same_value, build1, build2, map_build, built, Act, send, receive, fresh, compare, split, decrypt, map_act, operands}
use Rattle.calculus.specs.Tables.{Entry, leaf_entry, kind_entry, entry_tree, entry_at, Closed, Unrepeated, Lower, low_leaf, low_one, low_two}
use Rattle.calculus.specs.Scope.{All, all_nil, all_cons}
use Rattle.calculus.proofs.TableLaws.{denoted_by_entries, equal_trees_equal_indexes}
use Rattle.rendering.proofs.Base.{decides, denies}
use Rattle.running.proofs.Occurrence.{any_same, any_map, occurs_by_parts, occurs_at_lem}
use Rattle.running.specs.Values.{View, Shape, atomic, compound, basic_shape, pair_shape, cipher_shape, visible, is_fresh, is_atom, pair_parts, part_of, same_parts, turns, Opening, inside, locked, unsealed, open_shape, tree_shape, parts_of, occurs_in, tree, entry_shape, occurs_at, index}
use Rattle.running.specs.Acts.{Both, both, not_equal, received_lacks, opened_lacks, not_fresh, fresh_lacks, logged, on_logged, Out, goes, stops, Tests, typed, untyped, passes, binding, splitting, opening, perform}
use Rattle.running.specs.Demand3.{value_of}

module _ (𝓢 : Signature) where
  abbrev Val : Type 0
  Val = Value 𝓢

  -- ── under a map of values ──

  unfoldable pub map_shape : {W X : Type 0} → (W → X) → Shape 𝓢 W → Shape 𝓢 X
  map_shape f (atomic a) = atomic a
  map_shape f (compound b) = compound (map_build 𝓢 f b)

  abbrev pub on_pair : {W X : Type 0} → (W → X) → W × W → X × X
  on_pair f h = (f h.0, f h.1)

  abbrev pub on_binding : {W X : Type 0} → (W → X) → ℕ × W → ℕ × X
  on_binding f b = (b.0, f b.1)

  unfoldable on_opening : {W X : Type 0} → (W → X) → Opening 𝓢 W → Opening 𝓢 X
  on_opening f (inside v) = inside (f v)
  on_opening f locked = locked
  on_opening f unsealed = unsealed

  abbrev pub on_out : {W X : Type 0} → (W → X) → Out W (ℕ × W) → Out X (ℕ × X)
  on_out f (goes ms bs su) = goes (map (on_logged f) ms) (map (on_binding f) bs) (map f su)
  on_out f (stops e ms su) = stops e (map (on_logged f) ms) (map f su)

  -- ── all values are in the table ──

  unfoldable pub ShapeOk : {W : Type 0} → (W → Type 0) → Shape 𝓢 W → Type 0
  ShapeOk Ok (atomic a) = Unit {0}
  ShapeOk Ok (compound (build1 k v)) = Ok v
  ShapeOk Ok (compound (build2 k v w)) = Ok v × Ok w

  unfoldable OpeningOk : {W : Type 0} → (W → Type 0) → Opening 𝓢 W → Type 0
  OpeningOk Ok (inside v) = Ok v
  OpeningOk Ok locked = Unit {0}
  OpeningOk Ok unsealed = Unit {0}

  unfoldable pub OutOk : {W : Type 0} → (W → Type 0) → Out W (ℕ × W) → Type 0
  OutOk Ok (goes ms bs su) = All (Both Ok) ms × All (λ b. Ok b.1) bs × All Ok su
  OutOk Ok (stops e ms su) = All (Both Ok) ms × All Ok su

  module _ (es : List (Entry 𝓢 Atom)) (low : Closed 𝓢 (atom 0 0) es) (once : Unrepeated 𝓢 (atom 0 0) es) where
    abbrev D : ℕ → Val
    D = value_of 𝓢 es

    abbrev A : View 𝓢 ℕ
    A = index 𝓢 es

    abbrev Ok : ℕ → Type 0
    Ok i = i < length es

    entry_shape_lem : (e : Entry 𝓢 Atom) → tree_shape 𝓢 (entry_tree 𝓢 D e) ≡ map_shape D (entry_shape 𝓢 e)
    unfolding tree_shape entry_tree map_shape entry_shape map_build built
    entry_shape_lem (leaf_entry a) = refl
    entry_shape_lem (kind_entry (build1 k a)) = refl
    entry_shape_lem (kind_entry (build2 k a b)) = refl

    pub shape_seen : (i : ℕ) → tree_shape 𝓢 (D i) ≡ map_shape D (A.shape i)
    shape_seen i = ap (tree_shape 𝓢) (denoted_by_entries 𝓢 (atom 0 0) es low i) ∙ entry_shape_lem (entry_at 𝓢 (atom 0 0) es i)

    entry_ok_lem : (i : ℕ) → Ok i → {e : Entry 𝓢 Atom} → Lower 𝓢 i e → ShapeOk Ok (entry_shape 𝓢 e)
    unfolding ShapeOk entry_shape
    entry_ok_lem i h low_leaf = tt
    entry_ok_lem i h (low_one p) = omega arith
    entry_ok_lem i h (low_two p q) = (omega arith, omega arith)

    pub shape_ok : (i : ℕ) → Ok i → ShapeOk Ok (A.shape i)
    shape_ok i h = entry_ok_lem i h (low i h)

    pub same_seen : (i j : ℕ) → Ok i → Ok j → decide (same_value 𝓢 (D i) (D j)) ≡ eqb i j
    same_seen i j p q = go (same_value 𝓢 (D i) (D j))
      where
        go : (d : Dec (D i ≡ D j)) → decide d ≡ eqb i j
        go (yes e) = decides (yes e) e ∙ sym (eq-eqb i j (equal_trees_equal_indexes 𝓢 (atom 0 0) es low once i j p q e))
        go (no n) = denies (no n) n ∙ sym (ne_eqb i j (λ e. n (ap D e)))

    -- the parts of an entry's value
    parts_map : (s : Shape 𝓢 ℕ) → parts_of 𝓢 (map_shape D s) ≡ map D (parts_of 𝓢 s)
    unfolding parts_of map_shape map_build
    parts_map (atomic a) = refl
    parts_map (compound (build1 k v)) = refl
    parts_map (compound (build2 k v w)) = refl

    -- they are lower
    parts_low : {i : ℕ} {e : Entry 𝓢 Atom} → Lower 𝓢 i e → All (λ p. p < i) (parts_of 𝓢 (entry_shape 𝓢 e))
    unfolding parts_of entry_shape
    parts_low low_leaf = all_nil
    parts_low (low_one p) = all_cons p all_nil
    parts_low (low_two p q) = all_cons p (all_cons q all_nil)

    -- one value occurs in another as its index does
    abbrev Occurring : ℕ → ℕ → Type 0
    Occurring v i = occurs_in 𝓢 (D v) (D i) ≡ occurs_at 𝓢 es v i

    all_lower : (v i : ℕ) → ((p : ℕ) → p < i → Occurring v p) → {l : List ℕ} → All (λ p. p < i) l → All (λ p. occurs_in 𝓢 (D v) (D p) ≡ (ltb p i && occurs_at 𝓢 es v p)) l
    all_lower v i f all_nil = all_nil
    all_lower v i f (all_cons {x = p} q qs) = all_cons {x = p} (rw (lt-ltb p i q) (f p q)) (all_lower v i f qs)

    occurs_below : (v : ℕ) → Ok v → (n i : ℕ) → i < n → Ok i → Occurring v i
    occurs_below v k zero i l h = absurd (omega arith)
    occurs_below v k (suc n) i l h =
        rw (occurs_by_parts 𝓢 (D v) (D i), same_seen v i k h, shape_seen i, parts_map (A.shape i), any_map 𝓢 D (occurs_in 𝓢 (D v)) (parts_of 𝓢 (A.shape i)), occurs_at_lem 𝓢 v es i h)
        (ap (λ (b : Bool). eqb v i || b)
        (any_same 𝓢 (λ p. occurs_in 𝓢 (D v) (D p)) (λ p. ltb p i && occurs_at 𝓢 es v p) (all_lower v i (λ p q. occurs_below v k n p (omega arith) (omega arith)) (parts_low (low i h)))))

    pub occurs_seen : (v i : ℕ) → Ok v → Ok i → occurs_in 𝓢 (D v) (D i) ≡ occurs_at 𝓢 es v i
    occurs_seen v i k h = occurs_below v k (suc i) i (omega arith) h

    -- ── visible types ──

    basic_seen : (l : 𝓢.types.forest.Base) (s : Shape 𝓢 ℕ) → basic_shape 𝓢 l (map_shape D s) ≡ basic_shape 𝓢 l s
    unfolding basic_shape map_shape map_build
    basic_seen l (atomic (atom k n)) = refl
    basic_seen l (compound (build1 k v)) = refl
    basic_seen l (compound (build2 k v w)) = refl

    cipher_seen : (u : 𝓢.types.Former) (s : Shape 𝓢 ℕ) → cipher_shape 𝓢 u (map_shape D s) ≡ cipher_shape 𝓢 u s
    unfolding cipher_shape map_shape map_build
    cipher_seen u (atomic a) = refl
    cipher_seen u (compound (build1 k v)) = refl
    cipher_seen u (compound (build2 pairing v w)) = refl
    cipher_seen u (compound (build2 (seal s) v w)) = refl

    pair_seen : (p q : Val → Bool) (p' q' : ℕ → Bool) → ((i : ℕ) → Ok i → p (D i) ≡ p' i) → ((i : ℕ) → Ok i → q (D i) ≡ q' i) → (s : Shape 𝓢 ℕ) → ShapeOk Ok s
        → pair_shape 𝓢 p q (map_shape D s) ≡ pair_shape 𝓢 p' q' s
    unfolding pair_shape map_shape map_build ShapeOk
    pair_seen p q p' q' f g (atomic a) h = refl
    pair_seen p q p' q' f g (compound (build1 k v)) h = refl
    pair_seen p q p' q' f g (compound (build2 pairing v w)) h = rw (f v h.0, g w h.1)
    pair_seen p q p' q' f g (compound (build2 (seal s) v w)) h = refl

    pub visible_seen : (a : Ty 𝓢.types) (i : ℕ) → Ok i → visible 𝓢 (tree 𝓢) a (D i) ≡ visible 𝓢 A a i
    unfolding visible
    visible_seen Message i h = refl
    visible_seen (Basic l) i h = rw (shape_seen i) (basic_seen l (A.shape i))
    visible_seen (Cipher u a) i h = rw (shape_seen i) (cipher_seen u (A.shape i))
    visible_seen (Pair a b) i h = rw (shape_seen i) (pair_seen (λ x. visible 𝓢 (tree 𝓢) a x) (λ y. visible 𝓢 (tree 𝓢) b y) (λ x. visible 𝓢 A a x) (λ y. visible 𝓢 A b y) (visible_seen a) (visible_seen b) (A.shape i) (shape_ok i h))

    passes_seen : (ts : Tests 𝓢) (x i : ℕ) → Ok i → passes 𝓢 ts (tree 𝓢) x (D i) ≡ passes 𝓢 ts A x i
    unfolding passes
    passes_seen (typed Γ) x i h = visible_seen (Γ x) i h
    passes_seen untyped x i h = refl

    -- ── atoms, freshness, parts, keys ──

    atom_seen : (s : Shape 𝓢 ℕ) → is_atom 𝓢 (map_shape D s) ≡ is_atom 𝓢 s
    unfolding is_atom map_shape
    atom_seen (atomic a) = refl
    atom_seen (compound b) = refl

    pub fresh_seen : {hs : List ℕ} → All Ok hs → (i : ℕ) → Ok i → is_fresh 𝓢 (tree 𝓢) (map D hs) (D i) ≡ is_fresh 𝓢 A hs i
    unfolding is_fresh
    fresh_seen all_nil i h = refl
    fresh_seen (all_cons {x = w} p ps) i h = rw (occurs_seen i w h p, fresh_seen ps i h)

    parts_seen : (s : Shape 𝓢 ℕ) → pair_parts 𝓢 (map_shape D s) ≡ Option.map (on_pair D) (pair_parts 𝓢 s)
    unfolding pair_parts map_shape map_build
    parts_seen (atomic a) = refl
    parts_seen (compound (build1 k v)) = refl
    parts_seen (compound (build2 pairing v w)) = refl
    parts_seen (compound (build2 (seal s) v w)) = refl

    pub parts_ok : (s : Shape 𝓢 ℕ) → ShapeOk Ok s → (h : ℕ × ℕ) → pair_parts 𝓢 s ≡ some h → Ok h.0 × Ok h.1
    unfolding pair_parts ShapeOk
    parts_ok (atomic a) o h e = absurd (let z : ◌≡◌ {A = ℕ} 0 1 = cc in omega arith)
    parts_ok (compound (build1 k v)) o h e = absurd (let z : ◌≡◌ {A = ℕ} 0 1 = cc in omega arith)
    parts_ok (compound (build2 pairing v w)) o h e = let q : (v, w) ≡ h = cc in subst (λ (g : ℕ × ℕ). Ok g.0 × Ok g.1) q o
    parts_ok (compound (build2 (seal s) v w)) o h e = absurd (let z : ◌≡◌ {A = ℕ} 0 1 = cc in omega arith)

    pub split_seen : (i : ℕ) → pair_parts 𝓢 (tree_shape 𝓢 (D i)) ≡ Option.map (on_pair D) (pair_parts 𝓢 (A.shape i))
    split_seen i = rw (shape_seen i) (parts_seen (A.shape i))

    -- the part of a one-part value, and where it is
    data PartSeen : Option Val → Option ℕ → Type 0 where
      part_none : PartSeen none none
      part_some : {v : ℕ} → Ok v → PartSeen (some (D v)) (some v)

    part_if : (t : Bool) (v : ℕ) → Ok v → PartSeen (cond t (some (D v)) none) (cond t (some v) none)
    part_if true v h = part_some h
    part_if false v h = part_none

    part_seen : (c : 𝓢.One) (s : Shape 𝓢 ℕ) → ShapeOk Ok s → PartSeen (part_of 𝓢 c (map_shape D s)) (part_of 𝓢 c s)
    unfolding part_of map_shape map_build ShapeOk
    part_seen c (atomic a) h = part_none
    part_seen c (compound (build1 k v)) h = part_if (decide (𝓢.same_one c k)) v h
    part_seen c (compound (build2 k v w)) h = part_none

    same_parts_seen : {o p : Option Val} {q r : Option ℕ} → PartSeen o q → PartSeen p r → same_parts 𝓢 (tree 𝓢) o p ≡ same_parts 𝓢 A q r
    unfolding same_parts
    same_parts_seen part_none x = refl
    same_parts_seen (part_some h) part_none = refl
    same_parts_seen (part_some {v = v} h) (part_some {v = w} k) = same_seen v w h k

    turns_seen : (f : Fit 𝓢.One) (k key : ℕ) → Ok k → Ok key → turns 𝓢 (tree 𝓢) f (D k) (D key) ≡ turns 𝓢 A f k key
    unfolding turns
    turns_seen itself k key p q = same_seen k key p q
    turns_seen (twins c d) k key p q = rw (shape_seen k, shape_seen key) (same_parts_seen (part_seen c (A.shape k) (shape_ok k p)) (part_seen d (A.shape key) (shape_ok key q)))

    open_if : (a b : Bool) (v : ℕ) → cond a (cond b (inside (D v)) locked) unsealed ≡ on_opening D (cond a (cond b (inside v) locked) unsealed)
    unfolding on_opening
    open_if true true v = refl
    open_if true false v = refl
    open_if false b v = refl

    open_ok_if : (a b : Bool) (v : ℕ) → Ok v → OpeningOk Ok (cond a (cond b (inside v) locked) unsealed)
    unfolding OpeningOk
    open_ok_if true true v h = h
    open_ok_if true false v h = tt
    open_ok_if false b v h = tt

    open_seen : (s : 𝓢.Seal) (key : ℕ) → Ok key → (sh : Shape 𝓢 ℕ) → ShapeOk Ok sh → open_shape 𝓢 (tree 𝓢) s (D key) (map_shape D sh) ≡ on_opening D (open_shape 𝓢 A s key sh)
    unfolding open_shape map_shape map_build on_opening ShapeOk
    open_seen s key h (atomic a) o = refl
    open_seen s key h (compound (build1 k v)) o = refl
    open_seen s key h (compound (build2 pairing v w)) o = refl
    open_seen s key h (compound (build2 (seal t) v k)) o = rw (turns_seen (𝓢.fit s) k key o.1 h) (open_if (decide (𝓢.same_seal s t)) (turns 𝓢 A (𝓢.fit s) k key) v)

    open_ok : (s : 𝓢.Seal) (key : ℕ) (sh : Shape 𝓢 ℕ) → ShapeOk Ok sh → OpeningOk Ok (open_shape 𝓢 A s key sh)
    unfolding open_shape ShapeOk OpeningOk
    open_ok s key (atomic a) o = tt
    open_ok s key (compound (build1 k v)) o = tt
    open_ok s key (compound (build2 pairing v w)) o = tt
    open_ok s key (compound (build2 (seal t) v k)) o = open_ok_if (decide (𝓢.same_seal s t)) (turns 𝓢 A (𝓢.fit s) k key) v o.0

    -- ── an act ──

    out_if : (t : Bool) (a b : Out ℕ (ℕ × ℕ)) → cond t (on_out D a) (on_out D b) ≡ on_out D (cond t a b)
    out_if true a b = refl
    out_if false a b = refl

    out_ok_if : (t : Bool) (a b : Out ℕ (ℕ × ℕ)) → OutOk Ok a → OutOk Ok b → OutOk Ok (cond t a b)
    out_ok_if true a b p q = p
    out_ok_if false a b p q = q

    splitting_seen : (x y : ℕ) (su : List ℕ) (o : Option (ℕ × ℕ)) → splitting 𝓢 x y (map D su) (Option.map (on_pair D) o) ≡ on_out D (splitting 𝓢 x y su o)
    unfolding splitting
    splitting_seen x y su none = refl
    splitting_seen x y su (some h) = refl

    splitting_ok : (x y : ℕ) {su : List ℕ} → All Ok su → (o : Option (ℕ × ℕ)) → ((h : ℕ × ℕ) → o ≡ some h → Ok h.0 × Ok h.1) → OutOk Ok (splitting 𝓢 x y su o)
    unfolding splitting OutOk
    splitting_ok x y s none g = (all_nil, s)
    splitting_ok x y s (some h) g = let r = g h refl in (all_nil, all_cons r.0 (all_cons r.1 all_nil), s)

    opening_seen : (p : Val → Bool) (q : ℕ → Bool) → ((i : ℕ) → Ok i → p (D i) ≡ q i) → (x : ℕ) (su : List ℕ) (o : Opening 𝓢 ℕ) → OpeningOk Ok o
        → opening 𝓢 p x (map D su) (on_opening D o) ≡ on_out D (opening 𝓢 q x su o)
    unfolding opening on_opening OpeningOk
    opening_seen p q f x su (inside v) h = rw (f v h) (out_if (q v) (goes [] ((x, v) ∷ []) su) (stops opened_lacks [] su))
    opening_seen p q f x su locked h = refl
    opening_seen p q f x su unsealed h = refl

    opening_ok : (q : ℕ → Bool) (x : ℕ) {su : List ℕ} → All Ok su → (o : Opening 𝓢 ℕ) → OpeningOk Ok o → OutOk Ok (opening 𝓢 q x su o)
    unfolding opening OpeningOk OutOk
    opening_ok q x {su} s (inside v) h = out_ok_if (q v) (goes [] ((x, v) ∷ []) su) (stops opened_lacks [] su) (all_nil, all_cons h all_nil, s) (all_nil, s)
    opening_ok q x s locked h = (all_nil, s)
    opening_ok q x s unsealed h = (all_nil, s)

    module _ (ts : Tests 𝓢) where
      pub perform_seen : {hs su : List ℕ} → All Ok hs → All Ok su → (a : Act 𝓢 ℕ) → All Ok (operands 𝓢 a)
          → perform 𝓢 (tree 𝓢) ts (map D hs) (map D su) (map_act 𝓢 D a) ≡ on_out D (perform 𝓢 A ts hs su a)
      unfolding perform map_act operands on_logged
      perform_seen hs s (send c v) o = refl
      perform_seen hs all_nil (receive c x) o = refl
      perform_seen hs (all_cons {x = v} {l = su} p s) (receive c x) o = rw (passes_seen ts x v p) (out_if (passes 𝓢 ts A x v) (goes (logged _ c v ∷ []) ((x, v) ∷ []) su) (stops received_lacks (logged _ c v ∷ []) su))
      perform_seen hs all_nil (fresh x) o = refl
      perform_seen {hs} k (all_cons {x = v} {l = su} p s) (fresh x) o =
          rw (passes_seen ts x v p, shape_seen v, atom_seen (A.shape v), fresh_seen k v p, out_if (passes 𝓢 ts A x v) (goes [] ((x, v) ∷ []) su) (stops fresh_lacks [] su))
          (out_if (is_atom 𝓢 (A.shape v) && is_fresh 𝓢 A hs v) (binding 𝓢 (passes 𝓢 ts A x v) fresh_lacks [] x v su) (stops not_fresh [] su))
      perform_seen {su = su} hs s (compare v w) (all_cons p (all_cons q n)) = rw (same_seen v w p q) (out_if (eqb v w) (goes [] [] su) (stops not_equal [] su))
      perform_seen {su = su} hs s (split v x y) o = rw (shape_seen v, parts_seen (A.shape v)) (splitting_seen x y su (pair_parts 𝓢 (A.shape v)))
      perform_seen {su = su} hs s (decrypt c v k x) (all_cons p (all_cons q n)) =
          rw (shape_seen v, open_seen c k q (A.shape v) (shape_ok v p))
          (opening_seen (λ w. passes 𝓢 ts (tree 𝓢) x w) (λ w. passes 𝓢 ts A x w) (passes_seen ts x) x su (open_shape 𝓢 A c k (A.shape v)) (open_ok c k (A.shape v) (shape_ok v p)))

      pub perform_ok : (hs : List ℕ) {su : List ℕ} → All Ok su → (a : Act 𝓢 ℕ) → All Ok (operands 𝓢 a) → OutOk Ok (perform 𝓢 A ts hs su a)
      unfolding perform operands OutOk
      perform_ok hs s (send c v) (all_cons p (all_cons q n)) = (all_cons (both p q) all_nil, all_nil, s)
      perform_ok hs all_nil (receive c x) o = (all_nil, all_nil)
      perform_ok hs (all_cons {x = v} {l = su} p s) (receive c x) (all_cons q n) =
          out_ok_if (passes 𝓢 ts A x v) (goes (logged _ c v ∷ []) ((x, v) ∷ []) su) (stops received_lacks (logged _ c v ∷ []) su) (all_cons (both q p) all_nil, all_cons p all_nil, s) (all_cons (both q p) all_nil, s)
      perform_ok hs all_nil (fresh x) o = (all_nil, all_nil)
      perform_ok hs (all_cons {x = v} {l = su} p s) (fresh x) o =
          out_ok_if (is_atom 𝓢 (A.shape v) && is_fresh 𝓢 A hs v) (binding 𝓢 (passes 𝓢 ts A x v) fresh_lacks [] x v su) (stops not_fresh [] su)
          (out_ok_if (passes 𝓢 ts A x v) (goes [] ((x, v) ∷ []) su) (stops fresh_lacks [] su) (all_nil, all_cons p all_nil, s) (all_nil, s)) (all_nil, s)
      perform_ok hs {su} s (compare v w) o = out_ok_if (eqb v w) (goes [] [] su) (stops not_equal [] su) (all_nil, all_nil, s) (all_nil, s)
      perform_ok hs s (split v x y) (all_cons p n) = splitting_ok x y s (pair_parts 𝓢 (A.shape v)) (parts_ok (A.shape v) (shape_ok v p))
      perform_ok hs s (decrypt c v k x) (all_cons p (all_cons q n)) = opening_ok (λ w. passes 𝓢 ts A x w) x s (open_shape 𝓢 A c k (A.shape v)) (open_ok c k (A.shape v) (shape_ok v p))
