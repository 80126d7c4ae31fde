-- Which names count depends only on the text up to where it stops: two sources whose texts begin alike have the same names there. Assumes nothing.
use mathlib.Core.Path.{◌≡◌, refl, sym, ap, ◌∙◌}
use mathlib.Core.Logic.{◌⊎◌, inl, inr}
use mathlib.Core.Bool.{false, false≢true}
use mathlib.Core.List.{List, [], ◌∷◌, ◌++◌, append_assoc}
use Prim.Native.Nat.{ℕ, ◌+◌, ◌≤◌}
use native.Mathlib.Omega.{arith}
use lib.Dec.{T}
use lib.ListN.{length, length-append}
use borrow.Author.Tests.{le-ltb}
use Rattle.calculus.specs.Scope.{All, all_cons}
use Rattle.text.specs.Source.{Name}
use Rattle.text.specs.Grammar.{Piece, fixed, given, used, piece_bytes, bytes, is_letter, is_name_byte, GoodName, good_name}
use Rattle.text.specs.Places.{occurrences_from, counted}
use Rattle.text.specs.Reader.{first}
use Rattle.text.proofs.Complete.{Ends, true_of}

-- ── Beginnings ──

-- what w begins with is the beginning of w, or goes beyond it
beyond : (w a u v : List ℕ) → w ++ a ≡ u ++ v → ((u' : List ℕ) × (u ≡ w ++ u') × (a ≡ u' ++ v)) ⊎ (length u ≤ length w)
beyond [] a u v e = inl (u, refl, e)
beyond (b ∷ w) a [] v e = inr (omega arith)
beyond (b ∷ w) a (c ∷ u) v e = go (beyond w a u v cc)
  where
    go : ((u' : List ℕ) × (u ≡ w ++ u') × (a ≡ u' ++ v)) ⊎ (length u ≤ length w) → ((u' : List ℕ) × (c ∷ u ≡ (b ∷ w) ++ u') × (a ≡ u' ++ v)) ⊎ (length (c ∷ u) ≤ length (b ∷ w))
    go (inl (u', p, q)) = let h : b ≡ c = cc in inl (u', rw (h, p), q)
    go (inr l) = inr (omega arith)

-- by at least a byte
abbrev Beyond : List ℕ → List ℕ → List ℕ → List ℕ → Type 0
Beyond w a u v = ((c : ℕ) × (u' : List ℕ) × (u ≡ w ++ (c ∷ u')) × (a ≡ c ∷ (u' ++ v))) ⊎ (length u ≤ length w)

strictly : (w a u v : List ℕ) → w ++ a ≡ u ++ v → Beyond w a u v
strictly w a u v e = go (beyond w a u v e)
  where
    go : ((u' : List ℕ) × (u ≡ w ++ u') × (a ≡ u' ++ v)) ⊎ (length u ≤ length w) → Beyond w a u v
    go (inl ([], p, q)) = inr (rw (p, length-append w []) (omega arith))
    go (inl (c ∷ u', p, q)) = inl (c, u', p, q)
    go (inr l) = inr l

cancel : (w a b : List ℕ) → w ++ a ≡ w ++ b → a ≡ b
cancel [] a b e = e
cancel (c ∷ w) a b e = cancel w a b cc

-- ── Names that don't count ──

-- nothing that starts at n or behind counts before n
none_counted : (ps : List Piece) (at n : ℕ) → n ≤ at → counted n (occurrences_from at ps) ≡ []
unfolding occurrences_from counted
none_counted [] at n h = refl
none_counted (fixed w ∷ ps) at n h = none_counted ps (at + length w) n (omega arith)
none_counted (given x ∷ ps) at n h = rw (le-ltb (at + length x) n (omega arith)) (none_counted ps (at + length x) n (omega arith))
none_counted (used x ∷ ps) at n h = rw (le-ltb (at + length x) n (omega arith)) (none_counted ps (at + length x) n (omega arith))

-- nor does a name that ends at n or behind, and what follows it
none_behind : (p : Piece) (ps : List Piece) (at n : ℕ) → n ≤ at + length (piece_bytes p) → counted n (occurrences_from at (p ∷ ps)) ≡ []
unfolding occurrences_from counted piece_bytes
none_behind (fixed w) ps at n h = none_counted ps (at + length w) n h
none_behind (given x) ps at n h = rw (le-ltb (at + length x) n h) (none_counted ps (at + length x) n h)
none_behind (used x) ps at n h = rw (le-ltb (at + length x) n h) (none_counted ps (at + length x) n h)

-- ── Pieces that begin alike ──

-- where their bytes agree, the same names count
pub record Alike (ps qs : List Piece) : Type 0 where
  pub agree : (u v w : List ℕ) → bytes ps ≡ u ++ v → bytes qs ≡ u ++ w → (at : ℕ)
      → counted (at + length u) (occurrences_from at ps) ≡ counted (at + length u) (occurrences_from at qs)

-- one piece more, the same
again : (p : Piece) (ps qs : List Piece) (at n : ℕ)
    → counted n (occurrences_from (at + length (piece_bytes p)) ps) ≡ counted n (occurrences_from (at + length (piece_bytes p)) qs)
    → counted n (occurrences_from at (p ∷ ps)) ≡ counted n (occurrences_from at (p ∷ qs))
unfolding occurrences_from counted piece_bytes
again (fixed w) ps qs at n h = h
again (given x) ps qs at n h = rw h
again (used x) ps qs at n h = rw h

pub alike_same : (p : Piece) {ps qs : List Piece} → Alike ps qs → Alike (p ∷ ps) (p ∷ qs)
unfolding bytes
alike_same p {ps} {qs} a = record { agree = λ u v w e f at. go u v w e f at (beyond (piece_bytes p) (bytes ps) u v e) }
  where
    go : (u v w : List ℕ) → piece_bytes p ++ bytes ps ≡ u ++ v → piece_bytes p ++ bytes qs ≡ u ++ w → (at : ℕ)
        → ((u' : List ℕ) × (u ≡ piece_bytes p ++ u') × (bytes ps ≡ u' ++ v)) ⊎ (length u ≤ length (piece_bytes p))
        → counted (at + length u) (occurrences_from at (p ∷ ps)) ≡ counted (at + length u) (occurrences_from at (p ∷ qs))
    go u v w e f at (inl (u', i, j)) =
        let k : bytes qs ≡ u' ++ w = cancel (piece_bytes p) (bytes qs) (u' ++ w) (f ∙ ap (λ (x : List ℕ). x ++ w) i ∙ append_assoc (piece_bytes p) u' w) in
        let n : at + length u ≡ at + length (piece_bytes p) + length u' = rw (i, length-append (piece_bytes p) u') (omega arith) in
        rw n (again p ps qs at (at + length (piece_bytes p) + length u') (a.agree u' v w j k (at + length (piece_bytes p))))
    go u v w e f at (inr l) = none_behind p ps at (at + length u) (omega arith) ∙ sym (none_behind p qs at (at + length u) (omega arith))

-- they differ at the first byte
pub alike_differ : {ps qs : List Piece} → ¬ (first (bytes ps) ≡ first (bytes qs)) → Alike ps qs
alike_differ {ps} {qs} n = record { agree = go }
  where
    go : (u v w : List ℕ) → bytes ps ≡ u ++ v → bytes qs ≡ u ++ w → (at : ℕ)
        → counted (at + length u) (occurrences_from at ps) ≡ counted (at + length u) (occurrences_from at qs)
    go [] v w e f at = none_counted ps at (at + 0) (omega arith) ∙ sym (none_counted qs at (at + 0) (omega arith))
    go (c ∷ u) v w e f at = absurd (n (ap first e ∙ sym (ap first f)))

-- nothing is there
pub alike_end : (ps : List Piece) → Alike [] ps
unfolding bytes
alike_end ps = record { agree = go }
  where
    go : (u v w : List ℕ) → [] ≡ u ++ v → bytes ps ≡ u ++ w → (at : ℕ) → counted (at + length u) (occurrences_from at []) ≡ counted (at + length u) (occurrences_from at ps)
    go [] v w e f at = none_counted [] at (at + 0) (omega arith) ∙ sym (none_counted ps at (at + 0) (omega arith))
    go (c ∷ u) v w e f at = absurd (let z : ◌≡◌ {A = ℕ} 0 1 = cc in omega arith)

pub alike_sym : {ps qs : List Piece} → Alike ps qs → Alike qs ps
alike_sym a = record { agree = λ u v w e f at. sym (a.agree u w v f e at) }

-- ── Names ──

letter_is_byte : (b : ℕ) → T (is_letter b) → T (is_name_byte b)
letter_is_byte b h = rw (true_of (is_letter b) h) tt

good_bytes : {x : Name} → GoodName x → All (λ c. T (is_name_byte c)) x
good_bytes (good_name {b = b} h a l) = all_cons (letter_is_byte b h) a

-- two names with the same bytes before something that no name has are one
one_name : (x y k q : List ℕ) (c : ℕ) → All (λ c. T (is_name_byte c)) x → All (λ c. T (is_name_byte c)) y → is_name_byte c ≡ false → Ends q → y ++ q ≡ x ++ (c ∷ k) → x ≡ y
one_name [] [] k q c a b n m e = refl
one_name [] (d ∷ y) k q c a (all_cons h b) n m e = let i : d ≡ c = cc in absurd (false≢true (sym n ∙ true_of (is_name_byte c) (rw i at h)))
one_name (d ∷ x) [] k q c (all_cons h a) b n m e = let i : first q ≡ d = ap first e in absurd (false≢true (sym (rw i at m) ∙ true_of (is_name_byte d) h))
one_name (d ∷ x) (f ∷ y) k q c (all_cons h a) (all_cons i b) n m e =
    let j : d ≡ f = cc in
    rw (j, one_name x y k q c a b n m cc)

-- names where they are given, or used: a constructor f of pieces
pub alike_name : (f : Name → Piece) → ((x : Name) → piece_bytes (f x) ≡ x) → {x y : Name} {ps qs : List Piece} → GoodName x → GoodName y → Ends (bytes ps) → Ends (bytes qs)
    → Alike ps qs → Alike (f x ∷ ps) (f y ∷ qs)
unfolding bytes
alike_name f z {x} {y} {ps} {qs} g h m n a =
    record { agree = λ u v w e i at. go u v w e i at (strictly x (bytes ps) u v (rw (z x) at e)) (strictly y (bytes qs) u w (rw (z y) at i)) }
  where
    same : (u v w : List ℕ) → piece_bytes (f x) ++ bytes ps ≡ u ++ v → piece_bytes (f y) ++ bytes qs ≡ u ++ w → (at : ℕ) → x ≡ y
        → counted (at + length u) (occurrences_from at (f x ∷ ps)) ≡ counted (at + length u) (occurrences_from at (f y ∷ qs))
    same u v w e i at p =
        let s : Alike (f x ∷ ps) (f x ∷ qs) = alike_same (f x) a in
        s.agree u v w e (rw (sym p) at i) at ∙ ap (λ (k : Name). counted (at + length u) (occurrences_from at (f k ∷ qs))) p

    go : (u v w : List ℕ) → piece_bytes (f x) ++ bytes ps ≡ u ++ v → piece_bytes (f y) ++ bytes qs ≡ u ++ w → (at : ℕ)
        → Beyond x (bytes ps) u v → Beyond y (bytes qs) u w
        → counted (at + length u) (occurrences_from at (f x ∷ ps)) ≡ counted (at + length u) (occurrences_from at (f y ∷ qs))
    go u v w e i at (inl (c, u', p, q)) b =
        let j : is_name_byte c ≡ false = rw q at m in
        let k : y ++ bytes qs ≡ u ++ w = rw (z y) at i in
        same u v w e i at (one_name x y (u' ++ w) (bytes qs) c (good_bytes g) (good_bytes h) j n (k ∙ ap (λ (k : List ℕ). k ++ w) p ∙ append_assoc x (c ∷ u') w))
    go u v w e i at (inr l) (inl (c, u', p, q)) =
        let j : is_name_byte c ≡ false = rw q at n in
        let k : x ++ bytes ps ≡ u ++ v = rw (z x) at e in
        same u v w e i at (sym (one_name y x (u' ++ v) (bytes ps) c (good_bytes h) (good_bytes g) j m (k ∙ ap (λ (k : List ℕ). k ++ v) p ∙ append_assoc y (c ∷ u') v)))
    go u v w e i at (inr k) (inr l) =
        none_behind (f x) ps at (at + length u) (rw (z x) (omega arith)) ∙ sym (none_behind (f y) qs at (at + length u) (rw (z y) (omega arith)))
