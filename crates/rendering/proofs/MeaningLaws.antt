-- Registers' meanings by index agree with terms as trees. Assumes nothing.
use mathlib.Core.Path.{◌≡◌, refl, sym, ap, ◌∙◌}
use mathlib.Core.Option
use mathlib.Core.Option.{some, some_inj}
use mathlib.Core.List.{List, [], ◌∷◌, map}
use Prim.Native.Nat.{ℕ, zero, suc, ◌<◌}
use native.Mathlib.Omega.{arith}
use lib.ListN.{length, get_elem?}
use Rattle.calculus.specs.Signature.{Signature}
use Rattle.calculus.specs.Terms.{leaf, Term, Build, build1, build2, map_build, built, Act, send, receive, fresh, compare, split, decrypt, map_act, Statement}
use Rattle.calculus.specs.Tables.{Entry, leaf_entry, kind_entry, entry_tree, entry_at, denoted, Closed, Unrepeated}
use Rattle.calculus.specs.Scope.{All, all_nil, all_cons}
use Rattle.calculus.proofs.TableLaws.{denoted_by_entries, denoted_leaf, equal_trees_equal_indexes}
use Rattle.calculus.proofs.Lists.{map_append, get_map}
use Rattle.calculus.proofs.TableLaws.{binders_map}
use Rattle.rendering.specs.Rendering.{Splitting, halves, merged, Due, whole, part, binds, dues_of, dues, Says, says_act, says_half}
use Rattle.rendering.specs.Judge.{Meaning, symbol, term, meant_by, meant, term_meant}

module _ (𝓢 : Signature) where
  pub map_build_lem : {X Y Z : Type 0} (f : X → Y) (g : Y → Z) (b : Build 𝓢 X) → map_build 𝓢 g (map_build 𝓢 f b) ≡ map_build 𝓢 (λ x. g (f x)) b
  unfolding map_build
  map_build_lem f g (build1 k a) = refl
  map_build_lem f g (build2 k a b) = refl

  pub build_same : {X Y : Type 0} (f g : X → Y) → ((x : X) → f x ≡ g x) → (b : Build 𝓢 X) → map_build 𝓢 f b ≡ map_build 𝓢 g b
  unfolding map_build
  build_same f g h (build1 k a) = rw (h a)
  build_same f g h (build2 k a b) = rw (h a, h b)

  pub map_act_lem : {X Y Z : Type 0} (f : X → Y) (g : Y → Z) (a : Act 𝓢 X) → map_act 𝓢 g (map_act 𝓢 f a) ≡ map_act 𝓢 (λ x. g (f x)) a
  unfolding map_act
  map_act_lem f g (send a b) = refl
  map_act_lem f g (receive a x) = refl
  map_act_lem f g (fresh x) = refl
  map_act_lem f g (compare a b) = refl
  map_act_lem f g (split a x y) = refl
  map_act_lem f g (decrypt s a b x) = refl

  pub act_same : {X Y : Type 0} (f g : X → Y) → ((x : X) → f x ≡ g x) → (a : Act 𝓢 X) → map_act 𝓢 f a ≡ map_act 𝓢 g a
  unfolding map_act
  act_same f g h (send a b) = rw (h a, h b)
  act_same f g h (receive a x) = rw (h a)
  act_same f g h (fresh x) = refl
  act_same f g h (compare a b) = rw (h a, h b)
  act_same f g h (split a x y) = rw (h a)
  act_same f g h (decrypt s a b x) = rw (h a, h b)

  -- what is due, under a map
  unfoldable pub map_due : {X Y : Type 0} → (X → Y) → Due 𝓢 X → Due 𝓢 Y
  map_due f (whole a) = whole (map_act 𝓢 f a)
  map_due f (part d a x) = part d (f a) x

  pub binds_map : {X Y : Type 0} (f : X → Y) (w : Due 𝓢 X) → binds 𝓢 (map_due f w) ≡ binds 𝓢 w
  unfolding binds map_due
  binds_map f (whole a) = binders_map 𝓢 f a
  binds_map f (part d a x) = refl

  -- a numbered due under a map
  abbrev pub on_due : {X Y : Type 0} → (X → Y) → ℕ × Due 𝓢 X → ℕ × Due 𝓢 Y
  on_due f w = (w.0, map_due f w.1)

  dues_of_map : {X Y : Type 0} (f : X → Y) (v : Splitting) (n : ℕ) (a : Act 𝓢 X) → map (λ w. (n, w)) (dues_of 𝓢 v (map_act 𝓢 f a)) ≡ map (on_due f) (map (λ w. (n, w)) (dues_of 𝓢 v a))
  unfolding dues_of map_act map_due
  dues_of_map f v n (send a b) = refl
  dues_of_map f v n (receive a x) = refl
  dues_of_map f v n (fresh x) = refl
  dues_of_map f v n (compare a b) = refl
  dues_of_map f halves n (split a x y) = refl
  dues_of_map f merged n (split a x y) = refl
  dues_of_map f v n (decrypt s a b x) = refl

  pub dues_map : {X Y : Type 0} (f : X → Y) (v : Splitting) (n : ℕ) (P : List (Act 𝓢 X)) → dues 𝓢 v n (map (map_act 𝓢 f) P) ≡ map (on_due f) (dues 𝓢 v n P)
  unfolding dues
  dues_map f v n [] = refl
  dues_map f v n (s ∷ P) = rw (dues_map f v (suc n) P, dues_of_map f v n s) (sym (map_append (on_due f) (map (λ w. (n, w)) (dues_of 𝓢 v s)) (dues 𝓢 v (suc n) P)))

  -- ── Meanings ──

  module _ (es : List (Entry 𝓢 ℕ)) where
    -- a symbol, or a compound term of the table
    pub data Proper : Meaning → Type 0 where
      proper_symbol : {x : ℕ} → Proper (symbol x)
      proper_term : {i : ℕ} {b : Build 𝓢 ℕ} → i < length es → entry_at 𝓢 0 es i ≡ kind_entry b → Proper (term i)

    proper_by : (i : ℕ) → i < length es → (e : Entry 𝓢 ℕ) → entry_at 𝓢 0 es i ≡ e → Proper (meant_by 𝓢 i e)
    unfolding meant_by
    proper_by i h (leaf_entry x) q = proper_symbol
    proper_by i h (kind_entry b) q = proper_term h q

    pub proper_meant : (i : ℕ) → i < length es → Proper (meant 𝓢 es i)
    proper_meant i h = proper_by i h (entry_at 𝓢 0 es i) refl

    module _ (low : Closed 𝓢 0 es) where
      abbrev T : Meaning → Term 𝓢
      T = term_meant 𝓢 es

      meant_by_lem : (i : ℕ) (e : Entry 𝓢 ℕ) → entry_at 𝓢 0 es i ≡ e → T (meant_by 𝓢 i e) ≡ denoted 𝓢 0 es i
      unfolding meant_by term_meant
      meant_by_lem i (leaf_entry x) q = sym (denoted_leaf 𝓢 0 es low i q)
      meant_by_lem i (kind_entry b) q = refl

      -- what entry i means is the term that it stands for
      pub meant_term : (i : ℕ) → T (meant 𝓢 es i) ≡ denoted 𝓢 0 es i
      meant_term i = meant_by_lem i (entry_at 𝓢 0 es i) refl

      -- the term of a kind's entry
      pub entry_built : (i : ℕ) (c : Build 𝓢 ℕ) → entry_at 𝓢 0 es i ≡ kind_entry c → denoted 𝓢 0 es i ≡ built 𝓢 (map_build 𝓢 (denoted 𝓢 0 es) c)
      unfolding entry_tree
      entry_built i c q = denoted_by_entries 𝓢 0 es low i ∙ ap (entry_tree 𝓢 (denoted 𝓢 0 es)) q

      pub no_leaf_built : (B : Build 𝓢 (Term 𝓢)) (x : ℕ) → built 𝓢 B ≡ leaf x → ⊥
      unfolding built
      no_leaf_built (build1 k M) x h = let z : ◌≡◌ {A = ℕ} 0 1 = cc in omega arith
      no_leaf_built (build2 k M N) x h = let z : ◌≡◌ {A = ℕ} 0 1 = cc in omega arith

      pub built_once : (B C : Build 𝓢 (Term 𝓢)) → built 𝓢 B ≡ built 𝓢 C → B ≡ C
      unfolding built
      built_once (build1 k M) (build1 l N) h = cc
      built_once (build1 k M) (build2 l N O) h = cc
      built_once (build2 k M P) (build1 l N) h = cc
      built_once (build2 k M P) (build2 l N O) h = cc

      module _ (once : Unrepeated 𝓢 0 es) where
        -- a term is meant in one way
        pub meant_once : {m n : Meaning} → Proper m → Proper n → T m ≡ T n → m ≡ n
        unfolding term_meant
        meant_once (proper_symbol {x = x}) (proper_symbol {x = y}) e = let q : x ≡ y = cc in rw q
        meant_once (proper_symbol {x = x}) (proper_term {i = j} {b = b} h q) e = absurd (no_leaf_built (map_build 𝓢 (denoted 𝓢 0 es) b) x (sym (entry_built j b q) ∙ sym e))
        meant_once (proper_term {i = i} {b = b} h q) (proper_symbol {x = x}) e = absurd (no_leaf_built (map_build 𝓢 (denoted 𝓢 0 es) b) x (sym (entry_built i b q) ∙ e))
        meant_once (proper_term {i = i} h q) (proper_term {i = j} k r) e = rw (equal_trees_equal_indexes 𝓢 0 es low once i j h k e)

      -- ── registers, as meanings and as terms ──

      named_term : (ms : List Meaning) (p : ℕ) {m : Meaning} → get_elem? ms p ≡ some m → get_elem? (map T ms) p ≡ some (T m)
      named_term ms p e = get_map T ms p ∙ ap (Option.map T) e

      pub act_terms : (ms : List Meaning) (a : Act 𝓢 ℕ) (d : Act 𝓢 Meaning) → map_act 𝓢 (get_elem? ms) a ≡ map_act 𝓢 some d → map_act 𝓢 (get_elem? (map T ms)) a ≡ map_act 𝓢 some (map_act 𝓢 T d)
      act_terms ms a d e =
          act_same (get_elem? (map T ms)) (λ p. Option.map T (get_elem? ms p)) (get_map T ms) a ∙ sym (map_act_lem (get_elem? ms) (Option.map T) a)
          ∙ ap (map_act 𝓢 (Option.map T)) e ∙ map_act_lem some (Option.map T) d ∙ sym (map_act_lem T some d)

      pub build_terms : (ms : List Meaning) (b : Build 𝓢 ℕ) (B : Build 𝓢 Meaning) → map_build 𝓢 (get_elem? ms) b ≡ map_build 𝓢 some B
          → map_build 𝓢 (get_elem? (map T ms)) b ≡ map_build 𝓢 some (map_build 𝓢 T B)
      build_terms ms b B e =
          build_same (get_elem? (map T ms)) (λ p. Option.map T (get_elem? ms p)) (get_map T ms) b ∙ sym (map_build_lem (get_elem? ms) (Option.map T) b)
          ∙ ap (map_build 𝓢 (Option.map T)) e ∙ map_build_lem some (Option.map T) B ∙ sym (map_build_lem T some B)

      pub says_terms : {ms : List Meaning} {s : Statement 𝓢} {w : Due 𝓢 Meaning} → Says 𝓢 ms s w → Says 𝓢 (map T ms) s (map_due T w)
      unfolding map_due
      says_terms {ms} (says_act {a = a} {d = d} e) = says_act (act_terms ms a d e)
      says_terms {ms} (says_half {p = p} e) = says_half (named_term ms p e)

      module _ (once : Unrepeated 𝓢 0 es) where
        pub named_index : {ms : List Meaning} → All Proper ms → (p : ℕ) {m : Meaning} → Proper m → get_elem? (map T ms) p ≡ some (T m) → get_elem? ms p ≡ some m
        named_index all_nil p q e = absurd (let z : ◌≡◌ {A = ℕ} 0 1 = cc in omega arith)
        named_index (all_cons {x = n} h hs) zero q e = ap some (meant_once once h q (some_inj.0 e))
        named_index (all_cons h hs) (suc p) q e = named_index hs p q e
