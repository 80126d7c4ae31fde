-- Fixed bytes and names: what their readers answer. Assumes nothing.
use mathlib.Core.Path.{◌≡◌, refl, sym, ap}
use mathlib.Core.Bool.{Bool, true, false, cond}
use mathlib.Core.List.{List, [], ◌∷◌, ◌++◌}
use Prim.Native.Nat.{ℕ, zero, suc, ◌≤◌, zero-le, suc-le-suc}
use lib.Dec.{T, eqb}
use lib.ListN.{length, drop}
use borrow.Author.Tests.{eq-eqb, eqb-true}
use Rattle.calculus.specs.Scope.{All, all_nil, all_cons}
use Rattle.text.specs.Source.{Name, named}
use Rattle.text.specs.Grammar.{is_letter, is_name_byte, GoodName, good_name, TermFits, fits_name}
use Rattle.text.specs.Reader.{Read, done, stuck, expect, expect_for, name_bytes, some_name, read_name, read_named}
use Rattle.text.proofs.Views.{SameStart, both_go, View, view_done, view_stuck, view_end, view_then}
use Rattle.text.proofs.Bytewise.{term_b}

pub truth : {b : Bool} → b ≡ true → T b
truth {b} e = rw e tt

-- ── Fixed bytes ──

abbrev pub AnyUnit : Unit {0} → Type 0
AnyUnit u = Unit {0}

pub view_expect : (w s : List ℕ) → View (λ u k. w ++ k) AnyUnit (λ k. k) (expect w) s (expect w s)
unfolding expect
view_expect [] s = view_done [] refl (λ k. refl) tt (λ r' h. refl)
view_expect (b ∷ w) [] = view_stuck [] (b ∷ w) refl (λ k. refl) tt end
  where
    end : (r' : List ℕ) → SameStart [] r' → expect (b ∷ w) r' ≡ stuck tt r'
    end [] h = refl
    end (c ∷ r) h = elim h [ ]
view_expect (b ∷ w) (c ∷ s) = go (eqb b c) refl (expect w s) (view_expect w s)
  where
    other : eqb b c ≡ false → (r' : List ℕ) → SameStart (c ∷ s) r' → expect (b ∷ w) r' ≡ stuck tt r'
    other e [] h = elim h [ ]
    other e (c ∷ r) both_go = rw e

    go : (t : Bool) → eqb b c ≡ t → (a : Read (Unit {0})) → View (λ u k. w ++ k) AnyUnit (λ k. k) (expect w) s a
        → View (λ u k. (b ∷ w) ++ k) AnyUnit (λ k. k) (expect (b ∷ w)) (c ∷ s) (cond t a (stuck tt (c ∷ s)))
    go true e (done x r) (view_done u p q f l) =
        view_done {c = x} {r = r} (b ∷ u) (rw (eqb-true b c e, p)) (λ k. ap (λ (x : List ℕ). b ∷ x) (q k)) f (λ r' h. rw (eq-eqb b b refl) (l r' h))
    go true e (stuck x r) (view_stuck u t p q f l) =
        view_stuck {c = x} {r = r} (b ∷ u) t (rw (eqb-true b c e, p)) (λ k. ap (λ (x : List ℕ). b ∷ x) (q k)) f (λ r' h. rw (eq-eqb b b refl) (l r' h))
    go false e a v = view_stuck [] (b ∷ w) refl (λ k. refl) tt (other e)

pub view_expect_for : {C : Type 0} {B : C → List ℕ → List ℕ} {Fits : C → Type 0} {q : List ℕ → List ℕ} (c : C) (w s : List ℕ)
    → ((k : List ℕ) → B c k ≡ q (w ++ k)) → Fits c → View B Fits q (expect_for c w) s (expect_for c w s)
unfolding expect_for
view_expect_for c w s e f = view_then (expect w) (λ u. c) (λ u r. done c r) s (view_expect w s) (λ u x. ([], e, f)) (λ u r p x. view_end c r e f)

-- ── Names ──

pub name_bytes_rest : (n : ℕ) (s : List ℕ) → name_bytes n s ++ drop (length (name_bytes n s)) s ≡ s
unfolding name_bytes
name_bytes_rest zero s = refl
name_bytes_rest (suc n) [] = refl
name_bytes_rest (suc n) (b ∷ s) = go (is_name_byte b) (name_bytes_rest n s)
  where
    go : (t : Bool) → name_bytes n s ++ drop (length (name_bytes n s)) s ≡ s
        → cond t (b ∷ name_bytes n s) [] ++ drop (length (cond t (b ∷ name_bytes n s) [])) (b ∷ s) ≡ b ∷ s
    go true h = rw h
    go false h = refl

pub name_bytes_good : (n : ℕ) (s : List ℕ) → All (λ c. T (is_name_byte c)) (name_bytes n s) × (length (name_bytes n s) ≤ n)
unfolding name_bytes
name_bytes_good zero s = (all_nil, zero-le)
name_bytes_good (suc n) [] = (all_nil, zero-le)
name_bytes_good (suc n) (b ∷ s) = go (is_name_byte b) refl (name_bytes_good n s)
  where
    go : (t : Bool) → is_name_byte b ≡ t → All (λ c. T (is_name_byte c)) (name_bytes n s) × (length (name_bytes n s) ≤ n)
        → All (λ c. T (is_name_byte c)) (cond t (b ∷ name_bytes n s) []) × (length (cond t (b ∷ name_bytes n s) []) ≤ suc n)
    go true e (g, l) = (all_cons (truth e) g, suc-le-suc l)
    go false e (g, l) = (all_nil, zero-le)

-- as many as there are, whatever follows the byte that ends them
pub name_bytes_local : (n : ℕ) (s r' : List ℕ) → SameStart (drop (length (name_bytes n s)) s) r' → name_bytes n (name_bytes n s ++ r') ≡ name_bytes n s
unfolding name_bytes
name_bytes_local zero s r' h = refl
name_bytes_local (suc n) [] [] h = refl
name_bytes_local (suc n) [] (b ∷ r') h = elim h [ ]
name_bytes_local (suc n) (b ∷ s) r' h = go (is_name_byte b) refl h (name_bytes_local n s r')
  where
    ends : is_name_byte b ≡ false → (r' : List ℕ) → SameStart (b ∷ s) r' → name_bytes (suc n) r' ≡ []
    ends e [] h = elim h [ ]
    ends e (b ∷ r) both_go = rw e

    go : (t : Bool) → is_name_byte b ≡ t → SameStart (drop (length (cond t (b ∷ name_bytes n s) [])) (b ∷ s)) r'
        → (SameStart (drop (length (name_bytes n s)) s) r' → name_bytes n (name_bytes n s ++ r') ≡ name_bytes n s)
        → name_bytes (suc n) (cond t (b ∷ name_bytes n s) [] ++ r') ≡ cond t (b ∷ name_bytes n s) []
    go true e h ih = rw (e, ih h)
    go false e h ih = ends e r' h

pub name_bytes_length : (u r : List ℕ) → drop (length u) (u ++ r) ≡ r
name_bytes_length [] r = refl
name_bytes_length (b ∷ u) r = name_bytes_length u r

pub some_name_good : GoodName some_name
some_name_good = good_name tt all_nil zero-le

-- the bytes of a name, then others
abbrev pub name_b : Name → List ℕ → List ℕ
name_b x k = x ++ k

pub view_name : (s : List ℕ) → View name_b GoodName (λ k. k) read_name s (read_name s)
unfolding read_name
view_name [] = view_stuck [] some_name refl (λ k. refl) some_name_good end
  where
    end : (r' : List ℕ) → SameStart [] r' → read_name r' ≡ stuck some_name r'
    end [] h = refl
    end (c ∷ r) h = elim h [ ]
view_name (b ∷ s) = go (is_letter b) refl
  where
    n : List ℕ
    n = name_bytes 15 s

    other : is_letter b ≡ false → (r' : List ℕ) → SameStart (b ∷ s) r' → read_name r' ≡ stuck some_name r'
    other e [] h = elim h [ ]
    other e (b ∷ r) both_go = rw e

    go : (t : Bool) → is_letter b ≡ t
        → View name_b GoodName (λ k. k) read_name (b ∷ s) (cond t (done (b ∷ name_bytes 15 s) (drop (length (name_bytes 15 s)) s)) (stuck some_name (b ∷ s)))
    go true e =
        let (g, l) = name_bytes_good 15 s in
        view_done (b ∷ name_bytes 15 s) (ap (λ (x : List ℕ). b ∷ x) (sym (name_bytes_rest 15 s))) (λ k. refl) (good_name (truth e) g l)
        (λ r' h. rw (e, name_bytes_local 15 s r' h, name_bytes_length (name_bytes 15 s) r'))
    go false e = view_stuck [] some_name refl (λ k. refl) some_name_good (other e)

pub view_named : {n : ℕ} (s : List ℕ) → View term_b (TermFits n) (λ k. k) read_named s (read_named s)
unfolding read_named term_b
view_named s = view_then read_name named (λ x r. done (named x) r) s (view_name s) (λ x g. ([], (λ k. refl), fits_name g)) (λ x r p g. view_end (named x) r (λ k. refl) (fits_name g))
