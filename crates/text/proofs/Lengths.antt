-- The length of the text that a table is written as, computed by one pass over the entries. Assumes nothing.
use mathlib.Core.Path.{◌≡◌, refl, sym, ap, ◌∙◌}
use mathlib.Core.Bool.{Bool, true, false, cond}
use mathlib.Core.List.{List, [], ◌∷◌, ◌++◌, map}
use Prim.Native.Nat.{ℕ, ◌+◌, ◌/◌, ◌%◌, min}
use native.Mathlib.Omega.{arith}
use lib.Dec.{ltb}
use lib.ListN.{length, get_or, get_or-map}
use Rattle.calculus.specs.Signature.{pairing, seal}
use Rattle.calculus.specs.Terms.{Tree, leaf, one, two, build1, build2, map_build, built, Act, send, receive, fresh, compare, split, decrypt, map_act}
use Rattle.calculus.specs.Tables.{Entry, leaf_entry, kind_entry, entry_tree, tree_at, trees_from, denoted, free}
use Rattle.calculus.specs.Version1.{signature1}
use Rattle.calculus.proofs.Lists.{map_append}
use Rattle.text.specs.Writing.{decimal, symbol_name, written_term, written_step, names_among, variables_among, source_of, name_length, entry_length, lengths_from, step_length, steps_length, behind_length, line_length, text_length}
use Rattle.text.specs.Statements.{LengthIsExact, SaturatesOnce}
use Rattle.text.proofs.Bytewise.{term_b, step_b, steps_b, rest_b, line_b, source_b, text_bytes}

abbrev T : Type 0
T = Tree signature1 ℕ

-- ── Terms ──

name_length_lem : (x : ℕ) (k : List ℕ) → length (symbol_name x ++ k) ≡ name_length x + length k
unfolding symbol_name decimal name_length
name_length_lem x k = go (ltb x 10)
  where
    go : (t : Bool) → length ((0x73 ∷ cond t ((0x30 + x) ∷ []) ((0x30 + x / 10) ∷ (0x30 + x % 10) ∷ [])) ++ k) ≡ cond t 2 3 + length k
    go true = omega arith
    go false = omega arith

-- the length of a term's text
unfoldable pub tree_length : T → ℕ
tree_length (leaf x) = name_length x
tree_length (one k M) = 0
tree_length (two pairing M N) = 4 + tree_length M + tree_length N
tree_length (two (seal c) M N) = 2 + tree_length M + tree_length N

term_length : (M : T) (k : List ℕ) → length (term_b (written_term M) k) ≡ tree_length M + length k
unfolding term_b written_term tree_length
term_length (leaf x) k = name_length_lem x k
term_length (one c M) k = elim c [ ]
term_length (two pairing M N) k =
    let m = term_length M (0x2C ∷ 0x20 ∷ term_b (written_term N) (0x29 ∷ k)) in
    let n = term_length N (0x29 ∷ k) in
    omega arith
term_length (two (seal c) M N) k =
    let m = term_length M (0x7D ∷ term_b (written_term N) k) in
    let n = term_length N k in
    omega arith

-- ── The pass over the entries ──

entry_length_lem : (ts : List T) (e : Entry signature1 ℕ) → entry_length (λ a. get_or (map tree_length ts) a 2) e ≡ tree_length (entry_tree signature1 (tree_at signature1 0 ts) e)
unfolding entry_length tree_length entry_tree map_build built name_length
entry_length_lem ts (leaf_entry x) = refl
entry_length_lem ts (kind_entry (build1 k a)) = elim k [ ]
entry_length_lem ts (kind_entry (build2 pairing a b)) = rw (get_or-map tree_length ts a (leaf 0), get_or-map tree_length ts b (leaf 0))
entry_length_lem ts (kind_entry (build2 (seal c) a b)) = rw (get_or-map tree_length ts a (leaf 0), get_or-map tree_length ts b (leaf 0))

lengths_are : (ts : List T) (es : List (Entry signature1 ℕ)) → lengths_from (map tree_length ts) es ≡ map tree_length (trees_from signature1 0 ts es)
unfolding lengths_from trees_from
lengths_are ts [] = refl
lengths_are ts (e ∷ es) =
    let t : T = entry_tree signature1 (tree_at signature1 0 ts) e in
    let h : map tree_length ts ++ (entry_length (λ a. get_or (map tree_length ts) a 2) e ∷ []) ≡ map tree_length (ts ++ (entry_tree signature1 (tree_at signature1 0 ts) e ∷ [])) =
    rw (entry_length_lem ts e) (sym (map_append tree_length ts (t ∷ []))) in
    rw h (lengths_are (ts ++ (entry_tree signature1 (tree_at signature1 0 ts) e ∷ [])) es)

-- the length of term a
pub length_at : (es : List (Entry signature1 ℕ)) (a : ℕ) → get_or (lengths_from [] es) a 2 ≡ tree_length (denoted signature1 0 es a)
unfolding tree_length name_length
length_at es a = rw (lengths_are [] es) (get_or-map tree_length (trees_from signature1 0 [] es) a (leaf 0))

-- ── Steps and lines ──

step_length_lem : (f : ℕ → ℕ) (g : ℕ → T) → ((a : ℕ) → f a ≡ tree_length (g a)) → (s : Act signature1 ℕ) (k : List ℕ)
    → length (step_b (written_step (map_act signature1 g s)) k) ≡ step_length f s + length k
unfolding step_b written_step map_act step_length
step_length_lem f g h (send a b) k =
    let m = term_length (g a) (0x20 ∷ term_b (written_term (g b)) (0x0A ∷ k)) in
    let n = term_length (g b) (0x0A ∷ k) in
    rw (h a, h b) (omega arith)
step_length_lem f g h (receive a x) k =
    let m = term_length (g a) (0x20 ∷ (symbol_name x ++ (0x0A ∷ k))) in
    let n = name_length_lem x (0x0A ∷ k) in
    rw (h a) (omega arith)
step_length_lem f g h (fresh x) k = let n = name_length_lem x (0x0A ∷ k) in omega arith
step_length_lem f g h (compare a b) k =
    let m = term_length (g a) (0x20 ∷ term_b (written_term (g b)) (0x0A ∷ k)) in
    let n = term_length (g b) (0x0A ∷ k) in
    rw (h a, h b) (omega arith)
step_length_lem f g h (split a x y) k =
    let m = term_length (g a) (0x20 ∷ (symbol_name x ++ (0x20 ∷ (symbol_name y ++ (0x0A ∷ k))))) in
    let n = name_length_lem x (0x20 ∷ (symbol_name y ++ (0x0A ∷ k))) in
    let o = name_length_lem y (0x0A ∷ k) in
    rw (h a) (omega arith)
step_length_lem f g h (decrypt c a b x) k =
    let m = term_length (g a) (0x20 ∷ term_b (written_term (g b)) (0x20 ∷ (symbol_name x ++ (0x0A ∷ k)))) in
    let n = term_length (g b) (0x20 ∷ (symbol_name x ++ (0x0A ∷ k))) in
    let o = name_length_lem x (0x0A ∷ k) in
    rw (h a, h b) (omega arith)

steps_length_lem : (f : ℕ → ℕ) (g : ℕ → T) → ((a : ℕ) → f a ≡ tree_length (g a)) → (ss : List (Act signature1 ℕ))
    → length (steps_b (map written_step (map (map_act signature1 g) ss)) []) ≡ steps_length f ss
unfolding steps_b steps_length
steps_length_lem f g h [] = refl
steps_length_lem f g h (s ∷ ss) =
    let m = step_length_lem f g h s (steps_b (map written_step (map (map_act signature1 g) ss)) []) in
    let n = steps_length_lem f g h ss in
    omega arith

rest_length : (xs : List ℕ) (k : List ℕ) → length (rest_b (map symbol_name xs) k) ≡ 1 + behind_length xs + length k
unfolding rest_b behind_length
rest_length [] k = omega arith
rest_length (x ∷ xs) k =
    let m = name_length_lem x (rest_b (map symbol_name xs) k) in
    let n = rest_length xs k in
    omega arith

line_length_lem : (xs : List ℕ) (k : List ℕ) → length (line_b (map symbol_name xs) k) ≡ line_length xs + length k
unfolding line_b line_length behind_length
line_length_lem [] k = omega arith
line_length_lem (x ∷ xs) k =
    let m = name_length_lem x (rest_b (map symbol_name xs) k) in
    let n = rest_length xs k in
    omega arith

pub length_is_exact : LengthIsExact
unfolding text_length source_b
length_is_exact t =
    let xs : List ℕ = names_among t.sorts (free signature1 t) in
    let ys : List ℕ = variables_among t.sorts (free signature1 t) in
    let n = steps_length_lem (λ a. get_or (lengths_from [] t.entries) a 2) (denoted signature1 0 t.entries) (length_at t.entries) t.steps in
    let b = line_length_lem ys (steps_b (source_of t).steps []) in
    let a = line_length_lem xs (line_b (map symbol_name ys) (steps_b (source_of t).steps [])) in
    ap length (text_bytes (source_of t)) ∙ omega arith

-- ── Saturation ──

least_once : (m c a b : ℕ) → min (c + min a m + min b m) m ≡ min (c + a + b) m
least_once m c a b = omega arith

pub saturates_once : SaturatesOnce
saturates_once c a b = least_once 0xFFFF_FFFF_FFFF_FFFF c a b
