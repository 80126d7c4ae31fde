-- A made value: found by its tag and numbers, or appended. Assumes nothing.
use mathlib.Core.Path.{◌≡◌, refl, sym, ap, ◌∙◌}
use mathlib.Core.Bool.{Bool, true, false, cond, not, decide}
use mathlib.Core.Option.{Option, none, some}
use mathlib.Core.List.{List, [], ◌∷◌, ◌++◌}
use Prim.Native.Nat.{ℕ, zero, suc, ◌+◌, ◌-◌, ◌<◌}
use native.Mathlib.Omega.{arith}
use lib.Dec.{eqb}
use lib.ListN.{length}
use borrow.Author.Tests.{eqb-true, eq-eqb}
use Rattle.base.specs.Pick.{pick, both}
use Rattle.base.specs.Search.{Search, clean, wrong, walk, first}
use Rattle.base.proofs.BothLaws.{both_parts}
use Rattle.std.proofs.Common.{Some, None}
use Rattle.calculus.specs.Signature.{Two, pairing, seal}
use Rattle.calculus.specs.Terms.{Atom, build2}
use Rattle.calculus.specs.Tables.{Entry, kind_entry, entry_at}
use Rattle.calculus.specs.Version1.{Seal1, encryption, signature1}
use Rattle.rendering.proofs.Base.{decides, denies}
use Rattle.running.specs.Lists.{same_value_entry, place_from, placed, made}
use Rattle.decoded.specs.Table.{two_code}
use Rattle.decoded.specs.Values.{value_of}
use Rattle.decoded.proofs.ValueLaws.{no_atom}
use Rattle.value_table.specs.Values.{tag_at, part_at, value_bytes}
use Rattle.value_table.specs.Kept.{Kept, Appended, same_at, found_place, place_in, Makes}
use Rattle.value_table.specs.declared.Made.{Made}
use Rattle.value_table.proofs.Reading.{entry_read, tag_small, tag_of, first_of, second_of}
use Rattle.value_table.proofs.Keeping.{kept_table, kept_more}

-- ── Equal by tag and numbers ──

-- a value of a known tag by its numbers
tag_back : (t x y : ℕ) → t < 3 → tag_of (value_of t x y) ≡ t
unfolding value_of tag_of two_code
tag_back zero x y h = refl
tag_back (suc zero) x y h = refl
tag_back (suc (suc zero)) x y h = refl
tag_back (suc (suc (suc t))) x y h = absurd (omega arith)

first_back : (t x y : ℕ) → t < 3 → first_of (value_of t x y) ≡ x
unfolding value_of first_of
first_back zero x y h = refl
first_back (suc zero) x y h = refl
first_back (suc (suc zero)) x y h = refl
first_back (suc (suc (suc t))) x y h = absurd (omega arith)

second_back : (t x y : ℕ) → t < 3 → second_of (value_of t x y) ≡ y
unfolding value_of second_of
second_back zero x y h = refl
second_back (suc zero) x y h = refl
second_back (suc (suc zero)) x y h = refl
second_back (suc (suc (suc t))) x y h = absurd (omega arith)

of_two : (k : Two Seal1) (a b : ℕ) → value_of (two_code k) a b ≡ kind_entry (build2 k a b)
unfolding value_of two_code
of_two pairing a b = refl
of_two (seal encryption) a b = refl

-- tags and numbers are equal exactly if the values are
same_numbers : (k : Two Seal1) (a b t x y : ℕ) → t < 3
    → both (eqb t (two_code k)) (both (eqb x a) (eqb y b)) ≡ decide (same_value_entry signature1 (kind_entry (build2 k a b)) (value_of t x y))
unfolding tag_of first_of second_of
same_numbers k a b t x y h = go (both (eqb t (two_code k)) (both (eqb x a) (eqb y b))) refl
  where
    e : Entry signature1 Atom
    e = kind_entry (build2 k a b)

    go : (d : Bool) → both (eqb t (two_code k)) (both (eqb x a) (eqb y b)) ≡ d → d ≡ decide (same_value_entry signature1 e (value_of t x y))
    go true q =
        let (p, r) = both_parts (eqb t (two_code k)) _ q in
        let (u, v) = both_parts (eqb x a) _ r in
        let i : t ≡ two_code k = eqb-true _ _ p in
        let j : x ≡ a = eqb-true _ _ u in
        let l : y ≡ b = eqb-true _ _ v in
        sym (decides (same_value_entry signature1 e (value_of t x y)) (rw (i, j, l) (sym (of_two k a b))))
    go false q =
        sym (denies (same_value_entry signature1 e (value_of t x y)) λ (f : e ≡ value_of t x y).
        let i : two_code k ≡ t = ap tag_of f ∙ tag_back t x y h in
        let j : a ≡ x = ap first_of f ∙ first_back t x y h in
        let l : b ≡ y = ap second_of f ∙ second_back t x y h in
        let m : both (eqb t (two_code k)) (both (eqb x a) (eqb y b)) ≡ true = rw (eq-eqb t (two_code k) (sym i), eq-eqb x a (sym j), eq-eqb y b (sym l)) in
        let z : ◌≡◌ {A = ℕ} 0 1 = cc in omega arith)

-- ── The place of an entry ──

-- what a search found, as an option
abbrev option_of : Search → Option ℕ
option_of clean = none
option_of (wrong i) = some i

place_walk : (e : Entry signature1 Atom) (ok : ℕ → Bool) (es : List (Entry signature1 Atom)) (i : ℕ)
    → ((j : ℕ) → j < length es → ok (i + j) ≡ not (decide (same_value_entry signature1 e (entry_at signature1 no_atom es j))))
    → place_from signature1 i e es ≡ option_of (walk ok i (length es))
unfolding place_from walk
place_walk e ok [] i h = refl
place_walk e ok (f ∷ es) i h =
    go (decide (same_value_entry signature1 e f)) (ok i) (at_zero (h 0 (omega arith))) (place_walk e ok es (suc i) λ j l. at_suc j (h (suc j) (omega arith)))
  where
    at_zero : ok (i + 0) ≡ not (decide (same_value_entry signature1 e f)) → ok i ≡ not (decide (same_value_entry signature1 e f))
    at_zero q = let z : i + 0 ≡ i = omega arith in rw z at q

    at_suc : (j : ℕ) → ok (i + suc j) ≡ not (decide (same_value_entry signature1 e (entry_at signature1 no_atom es j)))
        → ok (suc i + j) ≡ not (decide (same_value_entry signature1 e (entry_at signature1 no_atom es j)))
    at_suc j q = let z : i + suc j ≡ suc i + j = omega arith in rw z at q

    go : (d o : Bool) → o ≡ not d → place_from signature1 (suc i) e es ≡ option_of (walk ok (suc i) (length es))
        → cond d (some i) (place_from signature1 (suc i) e es) ≡ option_of (pick o (walk ok (suc i) (length es)) (wrong i))
    go true true q r = absurd (let z : ◌≡◌ {A = ℕ} 0 1 = cc in omega arith)
    go true false q r = refl
    go false true q r = r
    go false false q r = absurd (let z : ◌≡◌ {A = ℕ} 0 1 = cc in omega arith)

-- ── Made ──

module _ {z v : List ℕ} {es : List (Entry signature1 Atom)} {n : ℕ} (k : Two Seal1) (a b t : ℕ) (c : two_code k ≡ t) (p : Kept z es v n) where
  abbrev search : Search
  search = first (λ j. not (same_at v n t a b j)) 0 n

  same_entry_lem : (j : ℕ) → same_at v n t a b j ≡ decide (same_value_entry signature1 (kind_entry (build2 k a b)) (entry_at signature1 no_atom es j))
  unfolding same_at
  same_entry_lem j =
      let e : entry_at signature1 no_atom es j ≡ value_of (tag_at v n j) (part_at v n j 0) (part_at v n j 1) = rw (kept_table p) at (entry_read v n j) in
      rw (← c, e) (same_numbers k a b (tag_at v n j) (part_at v n j 0) (part_at v n j 1) (tag_small v n j))

  place_found : place_from signature1 0 (kind_entry (build2 k a b)) es ≡ option_of search
  unfolding first
  place_found =
      let d : n ≡ length es = p.count in
      let y : n - 0 ≡ length es = omega arith in
      rw y (place_walk (kind_entry (build2 k a b)) (λ j. not (same_at v n t a b j)) es 0 λ j l. at j (ap not (same_entry_lem j)))
    where
      at : (j : ℕ) → not (same_at v n t a b j) ≡ not (decide (same_value_entry signature1 (kind_entry (build2 k a b)) (entry_at signature1 no_atom es j)))
          → not (same_at v n t a b (0 + j)) ≡ not (decide (same_value_entry signature1 (kind_entry (build2 k a b)) (entry_at signature1 no_atom es j)))
      at j q = let y : 0 + j ≡ j = omega arith in rw y q

  -- by what the search found
  made_by : (s : Search) → search ≡ s → made signature1 es (build2 k a b) ≡ placed signature1 es (kind_entry (build2 k a b)) (option_of s)
  unfolding made
  made_by s q = rw (place_found, q)

  -- it is there
  pub made_there : (i : ℕ) → Some i ≡ place_in v n t a b → made signature1 es (build2 k a b) ≡ (i, es)
  unfolding place_in placed
  made_there i e = go search refl e
    where
      go : (s : Search) → search ≡ s → Some i ≡ found_place s → made signature1 es (build2 k a b) ≡ (i, es)
      go clean q e = cc
      go (wrong j) q e = let d : i ≡ j = cc in rw (made_by (wrong j) q, d)

  -- it is not
  pub made_new : None ≡ place_in v n t a b → made signature1 es (build2 k a b) ≡ (n, es ++ (kind_entry (build2 k a b) ∷ []))
  unfolding place_in placed
  made_new e = go search refl e
    where
      go : (s : Search) → search ≡ s → None ≡ found_place s → made signature1 es (build2 k a b) ≡ (n, es ++ (kind_entry (build2 k a b) ∷ []))
      go clean q e = rw (made_by clean q, p.count)
      go (wrong j) q e = cc

-- ── What `make` leaves ──

module _ (v : List ℕ) (n t a b : ℕ) where
  pub makes_there : (i : ℕ) → Some i ≡ place_in v n t a b → Makes v n t a b v (record { index = i; count = n })
  makes_there i e = record { makes = λ k z es c p r l. rw (made_there k a b t c p i e) (refl, p) }

  pub makes_full : (o : List ℕ) (r : Made) → n ≡ 65535 → Makes v n t a b o r
  makes_full o r q = record { makes = λ k z es c p x l. absurd (omega arith) }

  pub makes_new : (o : List ℕ) → None ≡ place_in v n t a b → Appended v n t a b o → Makes v n t a b o (record { index = n; count = n + 1 })
  unfolding value_bytes
  makes_new o e d = record {
    makes = λ k z es c p r l. rw (made_new k a b t c p e) (refl, kept_more (kind_entry (build2 k a b)) p r (rw c) d);
  }
