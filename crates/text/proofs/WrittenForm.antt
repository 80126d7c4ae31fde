-- The source that a table in form is written as keeps the rules: its names are good, and its terms are not too deep. Assumes nothing.
use mathlib.Core.Path.{◌≡◌, refl}
use mathlib.Core.Bool.{or-true, Bool, true, false, cond}
use mathlib.Core.List.{List, [], ◌∷◌, map}
use Prim.Native.Nat.{ℕ, zero, suc, ◌+◌, ◌/◌, ◌%◌, ◌≤◌, ◌<◌}
use native.Mathlib.Omega.{arith}
use lib.Dec.{T, ltb}
use lib.ListN.{length}
use borrow.Author.Tests.{le-leb, ltb-true}
use Rattle.calculus.specs.Signature.{Two, pairing, seal}
use Rattle.calculus.specs.Terms.{Tree, leaf, two, build1, build2, Act, send, receive, fresh, compare, split, decrypt, map_act, operands, binders}
use Rattle.calculus.specs.Tables.{is_in, Sort, sort_of, leaf_entry, kind_entry, Lower, low_two, missing, Table, free}
use Rattle.calculus.specs.Scope.{In, here, there, All, all_nil, all_cons}
use Rattle.calculus.specs.Version1.{signature1}
use Rattle.calculus.proofs.Lists.{all_map}
use Rattle.calculus.proofs.TableLaws.{denoted_leaf, denoted_two}
use Rattle.text.specs.Source.{Name, Step}
use Rattle.text.specs.Grammar.{is_letter, is_name_byte, GoodName, good_name, TermFits, fits_name, fits_pair, fits_sealed, fits_no_more, StepFits, fits_output, fits_input, fits_restriction, fits_matching, fits_splitting, fits_decryption, WellFormed}
use Rattle.text.specs.Numbering.{TermEntry}
use Rattle.text.specs.Writing.{decimal, symbol_name, written_term, written_step, is_name_sort, names_among, variables_among, source_of}
use Rattle.text.specs.Right.{Right}
use Rattle.text.proofs.EntryLaws.{entry, tree}
use Rattle.text.proofs.Placing.{TermNames, in_name, in_pair, in_sealed, in_none}
use Rattle.text.proofs.PlacingSteps.{StepNames, names_output, names_input, names_restriction, names_matching, names_splitting, names_decryption}

abbrev Tr : Type 0
Tr = Tree signature1 ℕ

-- ── Names ──

digit_is_byte : (k : ℕ) → k < 10 → T (is_name_byte (0x30 + k))
digit_is_byte k h = rw (le-leb 0x30 (0x30 + k) (omega arith), le-leb (0x30 + k) 0x39 (omega arith), or-true (is_letter (0x30 + k))) tt

pub symbol_good : (i : ℕ) → i < 100 → GoodName (symbol_name i)
unfolding symbol_name decimal
symbol_good i h = go (ltb i 10) refl
  where
    one : 1 ≤ 15
    one = omega arith

    few : 2 ≤ 15
    few = omega arith

    high : i / 10 < 10
    high = omega arith

    low : i % 10 < 10
    low = omega arith

    go : (t : Bool) → ltb i 10 ≡ t → GoodName (0x73 ∷ cond t ((0x30 + i) ∷ []) ((0x30 + i / 10) ∷ (0x30 + i % 10) ∷ []))
    go true e = good_name tt (all_cons (digit_is_byte i (ltb-true i 10 e)) all_nil) one
    go false e = good_name tt (all_cons (digit_is_byte (i / 10) high) (all_cons (digit_is_byte (i % 10) low) all_nil)) few

-- ── Terms ──

-- a tree whose leaves are below n and that is at most so deep
pub data Shaped (n : ℕ) : ℕ → Tr → Type 0 where
  shaped_leaf : {left x : ℕ} → x < n → Shaped n left (leaf x)
  shaped_two : {left : ℕ} {k : Two signature1.Seal} {M N : Tr} → Shaped n left M → Shaped n left N → Shaped n (suc left) (two k M N)

deeper : {n l m : ℕ} {M : Tr} → Shaped n l M → l ≤ m → Shaped n m M
deeper (shaped_leaf h) e = shaped_leaf h
deeper {m = zero} (shaped_two a b) e = absurd (omega arith)
deeper {m = suc m} (shaped_two {left = l} a b) e = let h : l ≤ m = omega arith in shaped_two (deeper a h) (deeper b h)

pub shaped_fits : {n l : ℕ} {M : Tr} → n ≤ 100 → Shaped n l M → TermFits l (written_term M)
unfolding written_term
shaped_fits e (shaped_leaf {x = x} h) = fits_name (symbol_good x (omega arith))
shaped_fits e (shaped_two {k = pairing} a b) = fits_pair (shaped_fits e a) (shaped_fits e b)
shaped_fits e (shaped_two {k = seal c} a b) = fits_sealed (shaped_fits e a) fits_no_more (shaped_fits e b)

pub shaped_names : {n l : ℕ} {M : Tr} {P : Name → Type 0} → ((i : ℕ) → i < n → P (symbol_name i)) → Shaped n l M → TermNames P (written_term M)
unfolding written_term
shaped_names f (shaped_leaf {x = x} h) = in_name (f x h)
shaped_names f (shaped_two {k = pairing} a b) = in_pair (shaped_names f a) (shaped_names f b)
shaped_names f (shaped_two {k = seal c} a b) = in_sealed (shaped_names f a) in_none (shaped_names f b)

module _ (t : Table signature1) (r : Right t) where
  abbrev es : List TermEntry
  es = t.entries

  abbrev S : ℕ
  S = length t.sorts

  lower_two : {k : Two signature1.Seal} {a b i : ℕ} → Lower signature1 {L = ℕ} i (kind_entry (build2 k a b)) → (a < i) × (b < i)
  lower_two (low_two p q) = (p, q)

  -- term i is at most i deep
  shaped_upto : (n i : ℕ) → i < n → i < length es → Shaped S i (tree es i)
  shaped_upto zero i h l = absurd (omega arith)
  shaped_upto (suc n) i h l = go (entry es i) refl (r.parts_lower i l) (λ j a b. shaped_upto n j a b)
    where
      go : (e : TermEntry) → entry es i ≡ e → Lower signature1 i (entry es i) → ((j : ℕ) → j < n → j < length es → Shaped S j (tree es j)) → Shaped S i (tree es i)
      go (leaf_entry x) q low f = rw (denoted_leaf signature1 0 es r.parts_lower i q) (shaped_leaf (r.symbols_there i x l q))
      go (kind_entry (build1 k a)) q low f = elim k [ ]
      go (kind_entry (build2 k a b)) q low f = two_of (lower_two (rw q at low))
        where
          at : (i : ℕ) → a < i → b < i → i < suc n → i < length es → Shaped S i (two k (tree es a) (tree es b))
          at zero p q u v = absurd (omega arith)
          at (suc j) p q u v =
              let x : a ≤ j = omega arith in
              let y : b ≤ j = omega arith in
              shaped_two (deeper (f a (omega arith) (omega arith)) x) (deeper (f b (omega arith) (omega arith)) y)

          two_of : (a < i) × (b < i) → Shaped S i (tree es i)
          two_of (p, u) = rw (denoted_two signature1 0 es r.parts_lower i q) (at i p u h l)

  pub shaped_at : (i : ℕ) → i < length es → Shaped S i (tree es i)
  shaped_at i h = shaped_upto (suc i) i (omega arith) h

  -- ── Steps ──

  module _ (few : length es ≤ 128) where
    abbrev Term127 : ℕ → Type 0
    Term127 i = Shaped S 127 (tree es i)

    operand_shaped : (s : Act signature1 ℕ) → In s t.steps → All Term127 (operands signature1 s)
    operand_shaped s a = each (operands signature1 s) (λ i b. r.operands_there s i a b)
      where
        each : (l : List ℕ) → ((i : ℕ) → In i l → i < length es) → All Term127 l
        each [] f = all_nil
        each (i ∷ l) f = all_cons (let h = f i here in deeper (shaped_at i h) (omega arith)) (each l (λ j b. f j (there b)))

    binder_below : (s : Act signature1 ℕ) → In s t.steps → All (λ x. x < S) (binders signature1 s)
    binder_below s a = each (binders signature1 s) (λ x b. r.binders_there s x a b)
      where
        each : (l : List ℕ) → ((x : ℕ) → In x l → x < S) → All (λ x. x < S) l
        each [] f = all_nil
        each (x ∷ l) f = all_cons (f x here) (each l (λ j b. f j (there b)))

    abbrev acted : Act signature1 ℕ → Step
    acted s = written_step (map_act signature1 (tree es) s)

    step_fits : S ≤ 96 → (s : Act signature1 ℕ) → All Term127 (operands signature1 s) → All (λ x. x < S) (binders signature1 s) → StepFits (acted s)
    unfolding written_step map_act operands binders
    step_fits e (send a b) (all_cons p (all_cons q all_nil)) all_nil = fits_output (shaped_fits (omega arith) p) (shaped_fits (omega arith) q)
    step_fits e (receive a x) (all_cons p all_nil) (all_cons h all_nil) = fits_input (shaped_fits (omega arith) p) (symbol_good x (omega arith))
    step_fits e (fresh x) all_nil (all_cons h all_nil) = fits_restriction (symbol_good x (omega arith))
    step_fits e (compare a b) (all_cons p (all_cons q all_nil)) all_nil = fits_matching (shaped_fits (omega arith) p) (shaped_fits (omega arith) q)
    step_fits e (split a x y) (all_cons p all_nil) (all_cons h (all_cons k all_nil)) =
        fits_splitting (shaped_fits (omega arith) p) (symbol_good x (omega arith)) (symbol_good y (omega arith))
    step_fits e (decrypt c a b x) (all_cons p (all_cons q all_nil)) (all_cons h all_nil) =
        fits_decryption (shaped_fits (omega arith) p) (shaped_fits (omega arith) q) (symbol_good x (omega arith))

    step_has : {P : Name → Type 0} → ((i : ℕ) → i < S → P (symbol_name i)) → (s : Act signature1 ℕ) → All Term127 (operands signature1 s) → All (λ x. x < S) (binders signature1 s)
        → StepNames P (acted s)
    unfolding written_step map_act operands binders
    step_has f (send a b) (all_cons p (all_cons q all_nil)) all_nil = names_output (shaped_names f p) (shaped_names f q)
    step_has f (receive a x) (all_cons p all_nil) (all_cons h all_nil) = names_input (shaped_names f p) (f x h)
    step_has f (fresh x) all_nil (all_cons h all_nil) = names_restriction (f x h)
    step_has f (compare a b) (all_cons p (all_cons q all_nil)) all_nil = names_matching (shaped_names f p) (shaped_names f q)
    step_has f (split a x y) (all_cons p all_nil) (all_cons h (all_cons k all_nil)) = names_splitting (shaped_names f p) (f x h) (f y k)
    step_has f (decrypt c a b x) (all_cons p (all_cons q all_nil)) (all_cons h all_nil) = names_decryption (shaped_names f p) (shaped_names f q) (f x h)

    each_step : {Q : Step → Type 0} → ((s : Act signature1 ℕ) → In s t.steps → Q (acted s)) → All Q (source_of t).steps
    each_step {Q} f = go t.steps f
      where
        go : (ss : List (Act signature1 ℕ)) → ((s : Act signature1 ℕ) → In s ss → Q (acted s)) → All Q (map written_step (map (map_act signature1 (tree es)) ss))
        go [] f = all_nil
        go (s ∷ ss) f = all_cons (f s here) (go ss (λ u i. f u (there i)))

    -- ── Lines ──

    missing_below : (i : ℕ) (so : List Sort) (l : List ℕ) → All (λ x. x < i + length so) (missing i so l)
    unfolding missing
    missing_below i [] l = all_nil
    missing_below i (s ∷ so) l = go (is_in i l) (all_map (λ x h. same x h) (missing_below (suc i) so l))
      where
        same : (x : ℕ) → x < suc i + length so → x < i + suc (length so)
        same x h = omega arith

        go : (b : Bool) → All (λ x. x < i + suc (length so)) (missing (suc i) so l) → All (λ x. x < i + suc (length so)) (cond b (missing (suc i) so l) (i ∷ missing (suc i) so l))
        go true a = a
        go false a = let h : i < i + suc (length so) = omega arith in all_cons h a

    pub free_below : All (λ x. x < S) (free signature1 t)
    free_below = all_map (λ x h. same x h) (missing_below 0 t.sorts _)
      where
        same : (x : ℕ) → x < 0 + S → x < S
        same x h = omega arith

    pub among_names : {P : ℕ → Type 0} (so : List Sort) (l : List ℕ) → All P l → All P (names_among so l)
    unfolding names_among
    among_names so [] a = all_nil
    among_names {P} so (x ∷ l) (all_cons p a) = go (is_name_sort (sort_of so x)) (among_names so l a)
      where
        go : (b : Bool) → All P (names_among so l) → All P (cond b (x ∷ names_among so l) (names_among so l))
        go true q = all_cons p q
        go false q = q

    pub among_variables : {P : ℕ → Type 0} (so : List Sort) (l : List ℕ) → All P l → All P (variables_among so l)
    unfolding variables_among
    among_variables so [] a = all_nil
    among_variables {P} so (x ∷ l) (all_cons p a) = go (is_name_sort (sort_of so x)) (among_variables so l a)
      where
        go : (b : Bool) → All P (variables_among so l) → All P (cond b (variables_among so l) (x ∷ variables_among so l))
        go true q = q
        go false q = all_cons p q

    mapped : {P : Name → Type 0} → ((i : ℕ) → i < S → P (symbol_name i)) → {l : List ℕ} → All (λ x. x < S) l → All P (map symbol_name l)
    mapped f all_nil = all_nil
    mapped f (all_cons {x = x} h a) = all_cons (f x h) (mapped f a)

    -- a property of the names of all symbols is one of all names of the source
    pub written_names : {P : Name → Type 0} → ((i : ℕ) → i < S → P (symbol_name i)) → All P (source_of t).names × All P (source_of t).variables × All (StepNames P) (source_of t).steps
    written_names f = (
      mapped f (among_names t.sorts (free signature1 t) free_below),
      mapped f (among_variables t.sorts (free signature1 t) free_below),
      each_step (λ s i. step_has f s (operand_shaped s i) (binder_below s i)),
    )

    -- the source keeps the rules
    pub written_well : S ≤ 96 → WellFormed (source_of t)
    written_well e =
        let n = written_names {P = GoodName} (λ i h. symbol_good i (omega arith)) in
        record { good_names = n.0; good_variables = n.1; steps_fit = each_step (λ s i. step_fits e s (operand_shaped s i) (binder_below s i)) }
