-- What a reader in one pass needs: names, numbers and terms that are known so far stay as they are when more is read. Assumes nothing.
use mathlib.Core.Path.{◌≡◌, refl, sym, ap, ◌∙◌}
use mathlib.Core.Bool.{Bool, true, false, cond, ◌||◌, false≢true}
use mathlib.Core.List.{List, [], ◌∷◌, ◌++◌, append_assoc, append-nil}
use Prim.Native.Nat.{ℕ, suc, ◌+◌, ◌≤◌, ◌<◌}
use native.Mathlib.Omega.{arith}
use lib.Dec.{ltb}
use lib.ListN.{length, length-append}
use borrow.Author.Tests.{lt-ltb}
use Rattle.calculus.specs.Terms.{Act}
use Rattle.calculus.specs.Tables.{leaf_entry}
use Rattle.calculus.specs.Scope.{All, all_nil, all_cons}
use Rattle.calculus.specs.Version1.{signature1}
use Rattle.calculus.proofs.Lists.{all_map}
use Rattle.text.specs.Source.{Name, Term, named, paired, sealed, Further, no_more, also, Step, output, input, restriction, matching, splitting, decryption}
use Rattle.text.specs.Grammar.{Piece, fixed, given, used, piece_bytes, bytes, space, feed, comma, round_open, round_shut, brace_open, brace_shut, out_word, in_word, match_word, split_word, decrypt_word, term_then, further_then, step_then}
use Rattle.text.specs.Places.{Occurrence, behind, occurrences_from, counted, same_name}
use Rattle.text.specs.Numbering.{is_named, with_name, names_from, number_of, TermEntry, Placed, pair_entry, cipher_entry, completed, joined, place_term, place_further, place_two, place_one, place_step}
use Rattle.text.proofs.Placing.{TermNames, in_name, in_pair, in_sealed, FurtherNames, in_none, in_also}
use Rattle.text.proofs.PlacingSteps.{StepNames, names_output, names_input, names_restriction, names_matching, names_splitting, names_decryption}

-- ── Pieces, one part after the other ──

mutual
  unfolding term_then

  pub term_then_lem : (M : Term) (r k : List Piece) → term_then M (r ++ k) ≡ term_then M r ++ k
  term_then_lem (named x) r k = refl
  term_then_lem (paired M N) r k =
      ap (λ (l : List Piece). fixed round_open ∷ l)
      (ap (λ (l : List Piece). term_then M (fixed comma ∷ l)) (term_then_lem N (fixed round_shut ∷ r) k) ∙ term_then_lem M (fixed comma ∷ term_then N (fixed round_shut ∷ r)) k)
  term_then_lem (sealed M Ms K) r k =
      ap (λ (l : List Piece). fixed brace_open ∷ l)
      (ap (λ (l : List Piece). term_then M l)
      (ap (λ (l : List Piece). further_then Ms (fixed brace_shut ∷ l)) (term_then_lem K r k) ∙ further_then_lem Ms (fixed brace_shut ∷ term_then K r) k)
      ∙ term_then_lem M (further_then Ms (fixed brace_shut ∷ term_then K r)) k)

  pub further_then_lem : (Ms : Further) (r k : List Piece) → further_then Ms (r ++ k) ≡ further_then Ms r ++ k
  further_then_lem no_more r k = refl
  further_then_lem (also M Ms) r k =
      ap (λ (l : List Piece). fixed comma ∷ l) (ap (λ (l : List Piece). term_then M l) (further_then_lem Ms r k) ∙ term_then_lem M (further_then Ms r) k)

pub step_then_lem : (t : Step) (r k : List Piece) → step_then t (r ++ k) ≡ step_then t r ++ k
unfolding step_then
step_then_lem (output M N) r k =
    ap (λ (l : List Piece). fixed out_word ∷ l)
    (ap (λ (l : List Piece). term_then M (fixed space ∷ l)) (term_then_lem N (fixed feed ∷ r) k) ∙ term_then_lem M (fixed space ∷ term_then N (fixed feed ∷ r)) k)
step_then_lem (input M x) r k = ap (λ (l : List Piece). fixed in_word ∷ l) (term_then_lem M (fixed space ∷ given x ∷ fixed feed ∷ r) k)
step_then_lem (restriction x) r k = refl
step_then_lem (matching M N) r k =
    ap (λ (l : List Piece). fixed match_word ∷ l)
    (ap (λ (l : List Piece). term_then M (fixed space ∷ l)) (term_then_lem N (fixed feed ∷ r) k) ∙ term_then_lem M (fixed space ∷ term_then N (fixed feed ∷ r)) k)
step_then_lem (splitting M x y) r k = ap (λ (l : List Piece). fixed split_word ∷ l) (term_then_lem M (fixed space ∷ given x ∷ fixed space ∷ given y ∷ fixed feed ∷ r) k)
step_then_lem (decryption M K x) r k =
    ap (λ (l : List Piece). fixed decrypt_word ∷ l)
    (ap (λ (l : List Piece). term_then M (fixed space ∷ l)) (term_then_lem K (fixed space ∷ given x ∷ fixed feed ∷ r) k)
    ∙ term_then_lem M (fixed space ∷ term_then K (fixed space ∷ given x ∷ fixed feed ∷ r)) k)

-- ── Bytes, names and their places, one part after the other ──

pub bytes_append : (ps qs : List Piece) → bytes (ps ++ qs) ≡ bytes ps ++ bytes qs
unfolding bytes
bytes_append [] qs = refl
bytes_append (p ∷ ps) qs = ap (λ (l : List ℕ). piece_bytes p ++ l) (bytes_append ps qs) ∙ sym (append_assoc (piece_bytes p) (bytes ps) (bytes qs))

pub occurrences_append : (at : ℕ) (ps qs : List Piece) → occurrences_from at (ps ++ qs) ≡ occurrences_from at ps ++ occurrences_from (at + length (bytes ps)) qs
unfolding occurrences_from bytes piece_bytes
occurrences_append at [] qs = let z : at + 0 ≡ at = omega arith in rw z
occurrences_append at (fixed w ∷ ps) qs =
    let z : at + length w + length (bytes ps) ≡ at + length (w ++ bytes ps) = rw (length-append w (bytes ps)) (omega arith) in
    rw (← z) (occurrences_append (at + length w) ps qs)
occurrences_append at (given x ∷ ps) qs =
    let z : at + length x + length (bytes ps) ≡ at + length (x ++ bytes ps) = rw (length-append x (bytes ps)) (omega arith) in
    rw (← z) (ap (λ (l : List Occurrence). record { at = at; name = x; gives = true } ∷ l) (occurrences_append (at + length x) ps qs))
occurrences_append at (used x ∷ ps) qs =
    let z : at + length x + length (bytes ps) ≡ at + length (x ++ bytes ps) = rw (length-append x (bytes ps)) (omega arith) in
    rw (← z) (ap (λ (l : List Occurrence). record { at = at; name = x; gives = false } ∷ l) (occurrences_append (at + length x) ps qs))

-- names end inside their pieces
pub names_inside : (at : ℕ) (ps : List Piece) → All (λ o. behind o ≤ at + length (bytes ps)) (occurrences_from at ps)
unfolding occurrences_from bytes piece_bytes
names_inside at [] = all_nil
names_inside at (fixed w ∷ ps) = all_map (λ o h. further o h) (names_inside (at + length w) ps)
  where
    further : (o : Occurrence) → behind o ≤ at + length w + length (bytes ps) → behind o ≤ at + length (w ++ bytes ps)
    further o h = rw (length-append w (bytes ps)) (omega arith)
names_inside at (given x ∷ ps) =
    let h : at + length x ≤ at + length (x ++ bytes ps) = rw (length-append x (bytes ps)) (omega arith) in
    all_cons h (all_map (λ o h. further o h) (names_inside (at + length x) ps))
  where
    further : (o : Occurrence) → behind o ≤ at + length x + length (bytes ps) → behind o ≤ at + length (x ++ bytes ps)
    further o h = rw (length-append x (bytes ps)) (omega arith)
names_inside at (used x ∷ ps) =
    let h : at + length x ≤ at + length (x ++ bytes ps) = rw (length-append x (bytes ps)) (omega arith) in
    all_cons h (all_map (λ o h. further o h) (names_inside (at + length x) ps))
  where
    further : (o : Occurrence) → behind o ≤ at + length x + length (bytes ps) → behind o ≤ at + length (x ++ bytes ps)
    further o h = rw (length-append x (bytes ps)) (omega arith)

pub counted_append : (g : ℕ) (os ps : List Occurrence) → counted g (os ++ ps) ≡ counted g os ++ counted g ps
unfolding counted
counted_append g [] ps = refl
counted_append g (o ∷ os) ps = go (ltb (behind o) g) (counted_append g os ps)
  where
    go : (t : Bool) → counted g (os ++ ps) ≡ counted g os ++ counted g ps
        → cond t (o ∷ counted g (os ++ ps)) (counted g (os ++ ps)) ≡ cond t (o ∷ counted g os) (counted g os) ++ counted g ps
    go true e = ap (λ (l : List Occurrence). o ∷ l) e
    go false e = e

-- names that end before g all count
pub counted_all : (g : ℕ) (os : List Occurrence) → All (λ o. behind o < g) os → counted g os ≡ os
unfolding counted
counted_all g [] all_nil = refl
counted_all g (o ∷ os) (all_cons h a) = rw (lt-ltb (behind o) g h, counted_all g os a)

-- ── Numbers that are given stay ──

pub names_append : (xs : List Name) (ps qs : List Piece) → names_from xs (ps ++ qs) ≡ names_from (names_from xs ps) qs
unfolding names_from
names_append xs [] qs = refl
names_append xs (fixed w ∷ ps) qs = names_append xs ps qs
names_append xs (given x ∷ ps) qs = names_append (with_name xs x) ps qs
names_append xs (used x ∷ ps) qs = names_append (with_name xs x) ps qs

with_front : (xs : List Name) (x : Name) → (w : List Name) × (with_name xs x ≡ xs ++ w)
unfolding with_name
with_front xs x = go (is_named x xs)
  where
    go : (t : Bool) → (w : List Name) × (cond t xs (xs ++ (x ∷ [])) ≡ xs ++ w)
    go true = ([], sym (append-nil xs))
    go false = (x ∷ [], refl)

pub names_front : (ps : List Piece) (xs : List Name) → (w : List Name) × (names_from xs ps ≡ xs ++ w)
unfolding names_from
names_front [] xs = ([], sym (append-nil xs))
names_front (fixed w ∷ ps) xs = names_front ps xs
names_front (given x ∷ ps) xs =
    let (v, e) = with_front xs x in
    let (w, f) = names_front ps (with_name xs x) in
    (v ++ w, f ∙ ap (λ (l : List Name). l ++ w) e ∙ append_assoc xs v w)
names_front (used x ∷ ps) xs =
    let (v, e) = with_front xs x in
    let (w, f) = names_front ps (with_name xs x) in
    (v ++ w, f ∙ ap (λ (l : List Name). l ++ w) e ∙ append_assoc xs v w)

pub number_stays : (x : Name) (xs w : List Name) → is_named x xs ≡ true → number_of x (xs ++ w) ≡ number_of x xs
unfolding is_named number_of
number_stays x [] w e = absurd (false≢true e)
number_stays x (y ∷ xs) w e = go (same_name x y) e (number_stays x xs w)
  where
    go : (t : Bool) → (t || is_named x xs) ≡ true → (is_named x xs ≡ true → number_of x (xs ++ w) ≡ number_of x xs) → cond t 0 (suc (number_of x (xs ++ w))) ≡ cond t 0 (suc (number_of x xs))
    go true e f = refl
    go false e f = ap suc (f e)

-- ── Terms are placed as they will be ──

module _ (xs ys : List Name) where
  -- the same number in both
  abbrev pub SameNumber : Name → Type 0
  SameNumber x = number_of x ys ≡ number_of x xs

  mutual
    unfolding place_term

    pub term_stays : {M : Term} → TermNames SameNumber M → (es : List TermEntry) → place_term ys M es ≡ place_term xs M es
    term_stays (in_name p) es = ap (λ (n : ℕ). completed (leaf_entry n) es) p
    term_stays (in_pair {M = M} {N = N} a b) es =
        ap (λ (m : Placed). joined pair_entry m.index (place_term ys N m.entries)) (term_stays a es)
        ∙ ap (λ (n : Placed). joined pair_entry (place_term xs M es).index n) (term_stays b (place_term xs M es).entries)
    term_stays (in_sealed {M = M} {K = K} {Ms = Ms} a b c) es =
        let e : place_further ys Ms (place_term ys M es) ≡ place_further xs Ms (place_term xs M es) = ap (place_further ys Ms) (term_stays a es) ∙ further_stays b (place_term xs M es) in
        ap (λ (m : Placed). joined cipher_entry m.index (place_term ys K m.entries)) e
        ∙ ap (λ (n : Placed). joined cipher_entry (place_further xs Ms (place_term xs M es)).index n) (term_stays c (place_further xs Ms (place_term xs M es)).entries)

    pub further_stays : {Ms : Further} → FurtherNames SameNumber Ms → (m : Placed) → place_further ys Ms m ≡ place_further xs Ms m
    further_stays in_none m = refl
    further_stays (in_also {M = M} {Ms = Ms} a b) m =
        ap (λ (n : Placed). joined pair_entry m.index n) (ap (place_further ys Ms) (term_stays a m.entries) ∙ further_stays b (place_term xs M m.entries))

  two_stays : {M N : Term} → TermNames SameNumber M → TermNames SameNumber N → (f : ℕ → ℕ → Act signature1 ℕ) (es : List TermEntry) → place_two ys M N f es ≡ place_two xs M N f es
  unfolding place_two
  two_stays {M} {N} a b f es = rw (term_stays a es, term_stays b (place_term xs M es).entries)

  one_stays : {M : Term} → TermNames SameNumber M → (f : ℕ → Act signature1 ℕ) (es : List TermEntry) → place_one ys M f es ≡ place_one xs M f es
  unfolding place_one
  one_stays a f es = rw (term_stays a es)

  pub step_stays : {t : Step} → StepNames SameNumber t → (es : List TermEntry) → place_step ys t es ≡ place_step xs t es
  unfolding place_step
  step_stays (names_output a b) es = two_stays a b _ es
  step_stays (names_input a p) es = rw p (one_stays a _ es)
  step_stays (names_restriction p) es = rw p
  step_stays (names_matching a b) es = two_stays a b _ es
  step_stays (names_splitting a p q) es = rw (p, q) (one_stays a _ es)
  step_stays (names_decryption a b p) es = rw p (two_stays a b _ es)
