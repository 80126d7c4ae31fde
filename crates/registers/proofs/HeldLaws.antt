-- What the arrays hold, one meaning more, and what a term's register is by them. Assumes nothing.
use mathlib.Core.Path.{◌≡◌, refl, sym, ap, ◌∙◌}
use mathlib.Core.Bool.{Bool, true, false, cond, decide, ◌||◌}
use mathlib.Core.List.{List, [], ◌∷◌, ◌++◌, map, append-nil, append_assoc}
use Prim.Native.Nat.{ℕ, suc, ◌+◌, ◌-◌, ◌<◌}
use native.Mathlib.Omega.{arith}
use native.Mathlib.Numerals.{add-one}
use lib.Dec.{eqb}
use lib.ListN.{length, get_or, length-append, length-replicate, get_or-replicate}
use borrow.Author.Tests.{ne_eqb, eqb-true, eqb-false}
use Rattle.base.specs.Pick.{pick, both}
use Rattle.marks.specs.Put.{blank}
use Rattle.rendering.specs.Judge.{Meaning, symbol, term, same_meant}
use Rattle.rendering.specs.Translation.{register_of, is_built}
use Rattle.rendering.proofs.Base.{decides, denies}
use Rattle.registers.specs.Held.{held, HeldBy, HeldSymbols, HeldTerms, Held, Noted}

suc_not : (n : ℕ) → eqb (suc n) 0 ≡ false
suc_not n = ne_eqb (suc n) 0 (λ e. absurd (omega arith))

-- ── One meaning more ──

-- registers that are given keep what they mean; the new one is the next, if it is the first that means it
pub held_more : (ms : List Meaning) (n m : Meaning) → held (ms ++ (n ∷ [])) m ≡ pick (both (eqb (held ms m) 0) (decide (same_meant m n))) (suc (length ms)) (held ms m)
unfolding held is_built register_of
held_more [] n m = go (decide (same_meant m n))
  where
    go : (b : Bool) → cond (b || false) (suc (cond b 0 1)) 0 ≡ pick (both (eqb 0 0) b) 1 0
    go true = refl
    go false = refl
held_more (k ∷ ms) n m = go (decide (same_meant m k)) (is_built (ms ++ (n ∷ [])) m) (is_built ms m) (held_more ms n m)
  where
    go : (b p q : Bool) → cond p (suc (register_of (ms ++ (n ∷ [])) m)) 0 ≡ pick (both (eqb (cond q (suc (register_of ms m)) 0) 0) (decide (same_meant m n))) (suc (length ms)) (cond q (suc (register_of ms m)) 0)
        → cond (b || p) (suc (cond b 0 (suc (register_of (ms ++ (n ∷ [])) m)))) 0
        ≡ pick (both (eqb (cond (b || q) (suc (cond b 0 (suc (register_of ms m)))) 0) 0) (decide (same_meant m n))) (suc (suc (length ms))) (cond (b || q) (suc (cond b 0 (suc (register_of ms m)))) 0)
    go true p q e = refl
    go false true true e = rw (suc_not (suc (register_of ms m))) (ap suc (rw (suc_not (register_of ms m)) at e))
    go false true false e = more (decide (same_meant m n)) e
      where
        more : (t : Bool) → suc (register_of (ms ++ (n ∷ [])) m) ≡ pick t (suc (length ms)) 0 → suc (suc (register_of (ms ++ (n ∷ [])) m)) ≡ pick t (suc (suc (length ms))) 0
        more true e = ap suc e
        more false e = absurd (omega arith)
    go false false true e = let z : 0 ≡ suc (register_of ms m) = rw (suc_not (register_of ms m)) at e in absurd (omega arith)
    go false false false e = more (decide (same_meant m n)) e
      where
        more : (t : Bool) → 0 ≡ pick t (suc (length ms)) 0 → 0 ≡ pick t (suc (suc (length ms))) 0
        more true e = absurd (omega arith)
        more false e = refl

-- ── The arrays ──

both_false : (a : Bool) → both a false ≡ false
both_false true = refl
both_false false = refl

-- what is noted of its own sort
pub noted_same : (sort : ℕ → Meaning) → ((x y : ℕ) → sort x ≡ sort y → x ≡ y) → (ms : List Meaning) (z o : List ℕ) (x mark : ℕ) → x < 256 → mark ≡ length ms + 1
    → HeldBy sort ms z → Noted z o x mark → HeldBy sort (ms ++ (sort x ∷ [])) o
noted_same sort inj ms z o x mark lt n h p = record { size = p.size ∙ h.size; at = λ y l. p.at y (rw h.size l) ∙ go y l (eqb x y) refl ∙ sym (held_more ms (sort x) (sort y)) }
  where
    go : (y : ℕ) → y < 256 → (b : Bool) → eqb x y ≡ b
        → pick (both (eqb (get_or z x 0) 0) b) mark (get_or z y 0) ≡ pick (both (eqb (held ms (sort y)) 0) (decide (same_meant (sort y) (sort x)))) (suc (length ms)) (held ms (sort y))
    go y l true q =
        let e : x ≡ y = eqb-true x y q in
        rw (n, add-one, decides (same_meant (sort y) (sort x)) (ap sort (sym e)), h.at x lt, h.at y l, e)
    go y l false q = rw (denies (same_meant (sort y) (sort x)) (λ e. eqb-false x y q (sym (inj y x e))), both_false (eqb (get_or z x 0) 0), both_false (eqb (held ms (sort y)) 0), h.at y l)

-- and of another sort
pub noted_other : (sort : ℕ → Meaning) (n : Meaning) → ((x : ℕ) → sort x ≡ n → ⊥) → (ms : List Meaning) (z : List ℕ) → HeldBy sort ms z → HeldBy sort (ms ++ (n ∷ [])) z
noted_other sort n ne ms z h = record { size = h.size; at = λ y l. h.at y l ∙ sym (held_more ms n (sort y) ∙ rw (denies (same_meant (sort y) n) (ne y), both_false (eqb (held ms (sort y)) 0))) }

symbol_one : (x y : ℕ) → symbol x ≡ symbol y → x ≡ y
symbol_one x y e = cc

term_one : (x y : ℕ) → term x ≡ term y → x ≡ y
term_one x y e = cc

symbol_term : (x i : ℕ) → symbol x ≡ term i → ⊥
symbol_term x i e = let z : ◌≡◌ {A = ℕ} 0 1 = cc in omega arith

pub noted_symbol : (ms : List Meaning) (z o : List ℕ) (x mark : ℕ) → x < 256 → mark ≡ length ms + 1 → HeldSymbols ms z → Noted z o x mark → HeldSymbols (ms ++ (symbol x ∷ [])) o
noted_symbol = noted_same symbol symbol_one

-- symbols are no compound terms
symbol_kept : (ms : List Meaning) (x : ℕ) (z : List ℕ) → HeldTerms ms z → HeldTerms (ms ++ (symbol x ∷ [])) z
symbol_kept ms x z h = noted_other term (symbol x) (λ i e. symbol_term x i (sym e)) ms z h

pub symbols_kept : (ms : List Meaning) (xs z : List ℕ) → HeldTerms ms z → HeldTerms (ms ++ map symbol xs) z
symbols_kept ms [] z h = rw (append-nil ms) h
symbols_kept ms (x ∷ xs) z h = rw (← append_assoc ms (symbol x ∷ []) (map symbol xs)) (symbols_kept (ms ++ (symbol x ∷ [])) xs z (symbol_kept ms x z h))

-- one register more
pub snoc_count : (ms : List Meaning) (m : Meaning) (registers : ℕ) → registers ≡ length ms → registers + 1 ≡ length (ms ++ (m ∷ []))
snoc_count ms m registers e = rw (length-append ms (m ∷ [])) (omega arith)

-- a compound term is noted
pub noted_term : (ms : List Meaning) (symbols z o : List ℕ) (i registers : ℕ) → i < 256 → Held ms symbols z registers → Noted z o i (registers + 1) → Held (ms ++ (term i ∷ [])) symbols o (registers + 1)
noted_term ms symbols z o i registers l h p = record {
  of_symbols = noted_other symbol (term i) (λ x e. symbol_term x i e) ms symbols h.of_symbols;
  of_terms = noted_same term term_one ms z o i (registers + 1) l (omega (arith, h.count)) h.of_terms p;
  count = snoc_count ms (term i) registers h.count;
}

-- nothing is held yet
pub held_none : (sort : ℕ → Meaning) (z : List ℕ) → z ≡ blank → HeldBy sort [] z
unfolding held is_built blank
held_none sort z e = rw e (record { size = length-replicate {A = ℕ} 256 0; at = λ x h. get_or-replicate {A = ℕ} 256 x 0 0 h })

-- ── The register of a meaning ──

register_none : (ms : List Meaning) (m : Meaning) → is_built ms m ≡ false → register_of ms m ≡ length ms
unfolding is_built register_of
register_none [] m e = refl
register_none (n ∷ ms) m e = go (decide (same_meant m n)) e (register_none ms m)
  where
    go : (b : Bool) → b || is_built ms m ≡ false → (is_built ms m ≡ false → register_of ms m ≡ length ms) → cond b 0 (suc (register_of ms m)) ≡ suc (length ms)
    go true e f = let z : ◌≡◌ {A = ℕ} 0 1 = cc in absurd (omega arith)
    go false e f = ap suc (f e)

pub register_held : (ms : List Meaning) (m : Meaning) (v registers : ℕ) → v ≡ held ms m → registers ≡ length ms → pick (eqb v 0) registers (v - 1) ≡ register_of ms m
unfolding held
register_held ms m v registers e n = rw (e, n) (go (is_built ms m) refl)
  where
    go : (b : Bool) → is_built ms m ≡ b → pick (eqb (cond b (suc (register_of ms m)) 0) 0) (length ms) (cond b (suc (register_of ms m)) 0 - 1) ≡ register_of ms m
    go true q = rw (suc_not (register_of ms m)) (omega arith)
    go false q = sym (register_none ms m q)

-- a thing is built exactly if something is held
pub held_built : (ms : List Meaning) (m : Meaning) → eqb (held ms m) 0 ≡ false → is_built ms m ≡ true
unfolding held
held_built ms m = go (is_built ms m)
  where
    go : (b : Bool) → eqb (cond b (suc (register_of ms m)) 0) 0 ≡ false → b ≡ true
    go true e = refl
    go false e = sym e

pub held_unbuilt : (ms : List Meaning) (m : Meaning) → eqb (held ms m) 0 ≡ true → is_built ms m ≡ false
unfolding held
held_unbuilt ms m = go (is_built ms m)
  where
    go : (b : Bool) → eqb (cond b (suc (register_of ms m)) 0) 0 ≡ true → b ≡ false
    go true e = sym e ∙ suc_not (register_of ms m)
    go false e = refl
