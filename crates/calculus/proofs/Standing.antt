-- The entries that stand in a step: one pass down the entries marks exactly those inside the step's terms, and a term's inner needs are met
-- exactly if those of the entries inside it are. Assumes nothing.
use mathlib.Core.Path.{◌≡◌, refl, sym, ◌∙◌}
use mathlib.Core.Bool.{Bool, true, false, ◌||◌}
use mathlib.Core.List.{List}
use mathlib.Core.Logic.{◌⊎◌, inl, inr}
use Prim.Native.Nat.{ℕ, zero, suc, ◌≤◌, ◌<◌}
use native.Mathlib.Omega.{arith}
use lib.Dec.{eqb}
use borrow.Author.Tests.{eq-eqb, ne_eqb, eqb-true, eqb-false}
use Rattle.calculus.specs.Signature.{Signature, Two}
use Rattle.calculus.specs.Terms.{build1, build2}
use Rattle.calculus.specs.Tables.{is_in, Entry, leaf_entry, kind_entry, entry_at, Lower, low_one, low_two, Closed}
use Rattle.calculus.specs.Scope.{In}
use Rattle.calculus.specs.Inference.{mark, spread, down}
use Rattle.calculus.proofs.Lists.{in_true, in_is_in}
use Rattle.calculus.proofs.TableLaws.{lower_all}

-- ── Marks ──
mark_keeps : (i : ℕ) (m : ℕ → Bool) (u : ℕ) → m u ≡ true → mark i m u ≡ true
unfolding mark
mark_keeps i m u e = go (eqb u i)
  where
    go : (b : Bool) → (b || m u) ≡ true
    go true = refl
    go false = e

mark_self : (i : ℕ) (m : ℕ → Bool) → mark i m i ≡ true
unfolding mark
mark_self i m = rw (eq-eqb i i refl)

mark_sound : (i : ℕ) (m : ℕ → Bool) (u : ℕ) → mark i m u ≡ true → (u ≡ i) ⊎ (m u ≡ true)
unfolding mark
mark_sound i m u e = go (eqb u i) refl e
  where
    go : (b : Bool) → eqb u i ≡ b → (b || m u) ≡ true → (u ≡ i) ⊎ (m u ≡ true)
    go true q e = inl (eqb-true u i q)
    go false q e = inr e

mark_other : (i : ℕ) (m : ℕ → Bool) (u : ℕ) → i < u → mark i m u ≡ m u
unfolding mark
mark_other i m u h = rw (ne_eqb u i (omega arith))

module _ (𝓢 : Signature) where
  abbrev E : Type 0
  E = Entry 𝓢 ℕ

  -- an entry names i
  pub data Names (i : ℕ) : E → Type 0 where
    na_one : {k : 𝓢.One} → Names i (kind_entry (build1 k i))
    na_left : {k : Two 𝓢.Seal} {j : ℕ} → Names i (kind_entry (build2 k i j))
    na_right : {k : Two 𝓢.Seal} {j : ℕ} → Names i (kind_entry (build2 k j i))

  pub names_lower : {i t : ℕ} {e : E} → Names i e → Lower 𝓢 t e → i < t
  names_lower na_one (low_one p) = p
  names_lower na_left (low_two p q) = p
  names_lower na_right (low_two p q) = q

  module _ (es : List E) (closed : Closed 𝓢 0 es) where
    abbrev entry : ℕ → E
    entry = entry_at 𝓢 0 es

    abbrev spread1 : E → Bool → (ℕ → Bool) → ℕ → Bool
    spread1 = spread 𝓢

    abbrev down1 : ℕ → (ℕ → Bool) → ℕ → Bool
    down1 = down 𝓢 entry

    -- entry u stands in entry t, at any depth
    pub data Inside : ℕ → ℕ → Type 0 where
      in_self : {t : ℕ} → Inside t t
      in_part : {t i u : ℕ} → Names i (entry t) → Inside i u → Inside t u

    inside_part : {t u i : ℕ} → Inside t u → Names i (entry u) → Inside t i
    inside_part in_self q = in_part q in_self
    inside_part (in_part p r) q = in_part p (inside_part r q)

    -- entry u stands in one of the entries of a list
    abbrev pub Stands : List ℕ → ℕ → Type 0
    Stands l u = (t : ℕ) × In t l × Inside t u

    -- what is marked has any property that the roots have and that passes to parts
    module _ (P : ℕ → Type 0) (part : (u i : ℕ) → P u → Names i (entry u) → P i) where
      spread_sound : (n : ℕ) (e : E) → entry n ≡ e → (b : Bool) (m : ℕ → Bool) → m n ≡ b → ((u : ℕ) → m u ≡ true → P u) → (u : ℕ) → spread1 e b m u ≡ true → P u
      unfolding spread
      spread_sound n (leaf_entry x) q false m d h = h
      spread_sound n (leaf_entry x) q true m d h = h
      spread_sound n (kind_entry (build1 k i)) q false m d h = h
      spread_sound n (kind_entry (build1 k i)) q true m d h = λ u e. go u (mark_sound i m u e)
        where
          go : (u : ℕ) → (u ≡ i) ⊎ (m u ≡ true) → P u
          go u (inl g) = rw g (part n i (h n d) (rw q na_one))
          go u (inr g) = h u g
      spread_sound n (kind_entry (build2 k i j)) q false m d h = h
      spread_sound n (kind_entry (build2 k i j)) q true m d h = λ u e. first u (mark_sound i (mark j m) u e)
        where
          second : (u : ℕ) → (u ≡ j) ⊎ (m u ≡ true) → P u
          second u (inl g) = rw g (part n j (h n d) (rw q na_right))
          second u (inr g) = h u g

          first : (u : ℕ) → (u ≡ i) ⊎ (mark j m u ≡ true) → P u
          first u (inl g) = rw g (part n i (h n d) (rw q na_left))
          first u (inr g) = second u (mark_sound j m u g)

      down_sound : (n : ℕ) (m : ℕ → Bool) → ((u : ℕ) → m u ≡ true → P u) → (u : ℕ) → down1 n m u ≡ true → P u
      unfolding down
      down_sound zero m h = h
      down_sound (suc n) m h = down_sound n (spread1 (entry n) (m n) m) (spread_sound n (entry n) refl (m n) m refl h)

    spread_keeps : (e : E) (b : Bool) (m : ℕ → Bool) (u : ℕ) → m u ≡ true → spread1 e b m u ≡ true
    unfolding spread
    spread_keeps (leaf_entry x) false m u h = h
    spread_keeps (leaf_entry x) true m u h = h
    spread_keeps (kind_entry (build1 k i)) false m u h = h
    spread_keeps (kind_entry (build1 k i)) true m u h = mark_keeps i m u h
    spread_keeps (kind_entry (build2 k i j)) false m u h = h
    spread_keeps (kind_entry (build2 k i j)) true m u h = mark_keeps i (mark j m) u (mark_keeps j m u h)

    down_keeps : (n : ℕ) (m : ℕ → Bool) (u : ℕ) → m u ≡ true → down1 n m u ≡ true
    unfolding down
    down_keeps zero m u h = h
    down_keeps (suc n) m u h = down_keeps n (spread1 (entry n) (m n) m) u (spread_keeps (entry n) (m n) m u h)

    -- a pass over lower entries leaves higher marks
    spread_high : {n : ℕ} (e : E) → Lower 𝓢 n e → (b : Bool) (m : ℕ → Bool) (v : ℕ) → n ≤ v → spread1 e b m v ≡ m v
    unfolding spread
    spread_high (leaf_entry x) l false m v h = refl
    spread_high (leaf_entry x) l true m v h = refl
    spread_high (kind_entry (build1 k i)) l false m v h = refl
    spread_high (kind_entry (build1 k i)) l true m v h = let a = names_lower na_one l in mark_other i m v (omega arith)
    spread_high (kind_entry (build2 k i j)) l false m v h = refl
    spread_high (kind_entry (build2 k i j)) l true m v h =
        let a = names_lower na_left l in let b = names_lower na_right l in
        mark_other i (mark j m) v (omega arith) ∙ mark_other j m v (omega arith)

    down_high : (n : ℕ) (m : ℕ → Bool) (v : ℕ) → n ≤ v → down1 n m v ≡ m v
    unfolding down
    down_high zero m v h = refl
    down_high (suc n) m v h = down_high n (spread1 (entry n) (m n) m) v (omega arith) ∙ spread_high (entry n) (lower_all 𝓢 0 es closed n) (m n) m v (omega arith)

    spread_parts : {i : ℕ} {e : E} (b : Bool) (m : ℕ → Bool) → Names i e → b ≡ true → spread1 e b m i ≡ true
    unfolding spread
    spread_parts {i} false m q d = absurd (let z : ◌≡◌ {A = ℕ} 0 1 = cc in omega arith)
    spread_parts {i} true m na_one d = mark_self i m
    spread_parts {i} true m (na_left {j = j}) d = mark_self i (mark j m)
    spread_parts {i} true m (na_right {j = j}) d = mark_keeps j (mark i m) i (mark_self i m)

    down_closed : (n : ℕ) (m : ℕ → Bool) (v i : ℕ) → v < n → Names i (entry v) → down1 n m v ≡ true → down1 n m i ≡ true
    unfolding down
    down_closed zero m v i h q e = absurd (omega arith)
    down_closed (suc n) m v i h q e = go (eqb v n) refl (λ l. down_closed n (spread1 (entry n) (m n) m) v i l q e)
      where
        go : (b : Bool) → eqb v n ≡ b → (v < n → down1 n (spread1 (entry n) (m n) m) i ≡ true) → down1 n (spread1 (entry n) (m n) m) i ≡ true
        go false d r = r (omega (arith, eqb-false v n d))
        go true d r =
            let g : v ≡ n = eqb-true v n d in
            let a : m n ≡ true = sym (spread_high (entry n) (lower_all 𝓢 0 es closed n) (m n) m n (omega arith)) ∙ (sym (down_high n (spread1 (entry n) (m n) m) n (omega arith)) ∙ (rw g at e)) in
            down_keeps n (spread1 (entry n) (m n) m) i (spread_parts (m n) m (rw g at q) a)

    -- ── The marks of a list of entries below n ──
    module _ (n : ℕ) (l : List ℕ) where
      abbrev roots : ℕ → Bool
      roots u = is_in u l

      stands_part : (u i : ℕ) → Stands l u → Names i (entry u) → Stands l i
      stands_part u i (t, p, r) q = (t, p, inside_part r q)

      roots_stand : (u : ℕ) → roots u ≡ true → Stands l u
      roots_stand u e = (u, in_true u l e, in_self)

      pub marked_stands : (u : ℕ) → down1 n roots u ≡ true → Stands l u
      marked_stands u e = down_sound (Stands l) stands_part n roots roots_stand u e

      inside_marked : {t u : ℕ} → Inside t u → t < n → down1 n roots t ≡ true → (u < n) × (down1 n roots u ≡ true)
      inside_marked in_self h e = (h, e)
      inside_marked (in_part {t = t} {i = i} q r) h e = let a = names_lower q (lower_all 𝓢 0 es closed t) in inside_marked r (omega arith) (down_closed n roots t i h q e)

      pub stands_marked : ((t : ℕ) → In t l → t < n) → (u : ℕ) → Stands l u → (u < n) × (down1 n roots u ≡ true)
      stands_marked small u (t, p, r) = inside_marked r (small t p) (down_keeps n roots t (in_is_in t l p))
