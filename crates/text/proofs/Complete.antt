-- The text of a source is read as that source. Assumes nothing.
use mathlib.Core.Path.{◌≡◌, refl}
use mathlib.Core.Bool.{Bool, true, false, ◌&&◌}
use mathlib.Core.List.{List, [], ◌∷◌, ◌++◌}
use Prim.Native.Nat.{ℕ, zero, suc, ◌≤◌, ◌<◌}
use native.Mathlib.Nat.{le_of_suc-le-suc}
use native.Mathlib.Omega.{arith}
use lib.Dec.{T, eqb, leb, leb→le}
use lib.ListN.{length}
use borrow.Author.Tests.{ne_eqb}
use Rattle.calculus.specs.Scope.{All, all_cons}
use Rattle.text.specs.Source.{Name, Term, named, paired, sealed, Further, no_more, also}
use Rattle.text.specs.Grammar.{comma, round_shut, brace_shut, is_letter, is_name_byte, GoodName, good_name, TermFits, fits_name, fits_pair, fits_sealed, FurtherFits, fits_no_more, fits_also}
use Rattle.text.specs.Reader.{Read, done, and_then, first, expect, expect_for, name_bytes, read_name, read_named, pair_by, sealed_by, also_by, read_term, read_further}
use Rattle.text.proofs.Bytewise.{term_b, further_b}
use Rattle.text.proofs.NameViews.{name_bytes_length}

-- no name goes on with what comes next
abbrev pub Ends : List ℕ → Type 0
Ends r = is_name_byte (first r) ≡ false

-- ── Names ──

pub true_of : (b : Bool) → T b → b ≡ true
true_of true h = refl
true_of false h = elim h [ ]

both : (a b : Bool) → T (a && b) → T a × T b
both true b h = (tt, h)
both false b h = elim h [ ]

-- a letter is none of the marks
letter_not : (b c : ℕ) → T (is_letter b) → (c < 0x61) → eqb b c ≡ false
letter_not b c h l = let (p, q) = both (leb 0x61 b) (leb b 0x7A) h in let k = leb→le 0x61 b p in ne_eqb b c (λ (e : b ≡ c). omega arith)

letter_not_above : (b c : ℕ) → T (is_letter b) → (0x7A < c) → eqb b c ≡ false
letter_not_above b c h l = let (p, q) = both (leb 0x61 b) (leb b 0x7A) h in let k = leb→le b 0x7A q in ne_eqb b c (λ (e : b ≡ c). omega arith)

all_bytes : (n : ℕ) (x r : List ℕ) → All (λ c. T (is_name_byte c)) x → length x ≤ n → Ends r → name_bytes n (x ++ r) ≡ x
unfolding name_bytes
all_bytes zero [] r a l e = refl
all_bytes zero (b ∷ x) r a l e = absurd (omega arith)
all_bytes (suc n) [] [] a l e = refl
all_bytes (suc n) [] (c ∷ r) a l e = rw e
all_bytes (suc n) (b ∷ x) r (all_cons h a) l e = rw (true_of (is_name_byte b) h, all_bytes n x r a (le_of_suc-le-suc l) e)

pub reads_name : {x : Name} (r : List ℕ) → GoodName x → Ends r → read_name (x ++ r) ≡ done x r
unfolding read_name
reads_name r (good_name {b = b} {bs = bs} h a l) e = rw (true_of (is_letter b) h, all_bytes 15 bs r a l e, name_bytes_length bs r)

pub reads_named : {x : Name} (r : List ℕ) → GoodName x → Ends r → read_named (x ++ r) ≡ done (named x) r
unfolding read_named and_then
reads_named r g e = rw (reads_name r g e)

pub name_not_round : {x : Name} (r : List ℕ) → GoodName x → eqb (first (x ++ r)) 0x28 ≡ false
name_not_round r (good_name {b = b} h a l) = letter_not b 0x28 h (omega arith)

pub name_not_brace : {x : Name} (r : List ℕ) → GoodName x → eqb (first (x ++ r)) 0x7B ≡ false
name_not_brace r (good_name {b = b} h a l) = letter_not_above b 0x7B h (omega arith)

pub name_not_feed : {x : Name} (r : List ℕ) → GoodName x → eqb (first (x ++ r)) 0x0A ≡ false
name_not_feed r (good_name {b = b} h a l) = letter_not b 0x0A h (omega arith)

-- ── Terms ──

-- what stands behind a plaintext ends its last name
further_ends : (Ms : Further) (r : List ℕ) → Ends (further_b Ms (brace_shut ++ r))
unfolding further_b
further_ends no_more r = refl
further_ends (also M Ms) r = refl

module _ (P : List ℕ → Read Term) (F : List ℕ → Read Further) where
  reads_pair : (M N : Term) (r : List ℕ) → P (term_b M (comma ++ term_b N (round_shut ++ r))) ≡ done M (comma ++ term_b N (round_shut ++ r))
      → P (term_b N (round_shut ++ r)) ≡ done N (round_shut ++ r) → pair_by P (term_b M (comma ++ term_b N (round_shut ++ r))) ≡ done (paired M N) r
  unfolding pair_by and_then expect expect_for
  reads_pair M N r e f = rw (e, f)

  reads_sealed : (M K : Term) (Ms : Further) (r : List ℕ)
      → P (term_b M (further_b Ms (brace_shut ++ term_b K r))) ≡ done M (further_b Ms (brace_shut ++ term_b K r))
      → F (further_b Ms (brace_shut ++ term_b K r)) ≡ done Ms (brace_shut ++ term_b K r)
      → P (term_b K r) ≡ done K r → sealed_by P F (term_b M (further_b Ms (brace_shut ++ term_b K r))) ≡ done (sealed M Ms K) r
  unfolding sealed_by and_then expect
  reads_sealed M K Ms r e f g = rw (e, f, g)

  reads_also : (M : Term) (Ms : Further) (r : List ℕ) → P (term_b M (further_b Ms (brace_shut ++ r))) ≡ done M (further_b Ms (brace_shut ++ r))
      → F (further_b Ms (brace_shut ++ r)) ≡ done Ms (brace_shut ++ r) → also_by P F (comma ++ term_b M (further_b Ms (brace_shut ++ r))) ≡ done (also M Ms) (brace_shut ++ r)
  unfolding also_by and_then expect
  reads_also M Ms r e f = rw (e, f)

name_at : (left : ℕ) {x : Name} (r : List ℕ) → GoodName x → Ends r → read_term left (x ++ r) ≡ done (named x) r
unfolding read_term
name_at zero r g e = reads_named r g e
name_at (suc left) r g e = rw (name_not_round r g, name_not_brace r g) (reads_named r g e)

mutual
  unfolding read_term term_b

  pub reads_term : {left : ℕ} {M : Term} → TermFits left M → (r : List ℕ) → Ends r → read_term left (term_b M r) ≡ done M r
  reads_term (fits_name {left = left} g) r e = name_at left r g e
  reads_term (fits_pair {left = left} {M = M} {N = N} f g) r e =
      reads_pair (read_term left) (read_further left) M N r (reads_term f (comma ++ term_b N (round_shut ++ r)) refl) (reads_term g (round_shut ++ r) refl)
  reads_term (fits_sealed {left = left} {M = M} {K = K} {Ms = Ms} f g h) r e =
      reads_sealed (read_term left) (read_further left) M K Ms r (reads_term f (further_b Ms (brace_shut ++ term_b K r)) (further_ends Ms (term_b K r)))
      (reads_further g (term_b K r)) (reads_term h r e)

  pub reads_further : {left : ℕ} {Ms : Further} → FurtherFits left Ms → (r : List ℕ) → read_further left (further_b Ms (brace_shut ++ r)) ≡ done Ms (brace_shut ++ r)
  reads_further (fits_no_more {left = left}) r = none left
    where
      none : (left : ℕ) → read_further left (brace_shut ++ r) ≡ done no_more (brace_shut ++ r)
      none zero = refl
      none (suc n) = refl
  reads_further (fits_also {left = left} {M = M} {Ms = Ms} f g) r =
      reads_also (read_term left) (read_further left) M Ms r (reads_term f (further_b Ms (brace_shut ++ r)) (further_ends Ms r)) (reads_further g r)
