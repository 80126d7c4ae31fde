-- Proofs of the statements of specs/Translation.antt: the translation is faithful, builds each term once, and fits. Assumes nothing.
use mathlib.Core.Path.{◌≡◌, refl, ap, ◌∙◌}
use mathlib.Core.Logic.{inl, inr, ⊎_elim}
use mathlib.Core.List.{List, [], ◌∷◌, ◌++◌, map}
use Prim.Native.Nat.{ℕ, zero, suc, ◌+◌, ◌*◌, ◌<◌, ◌≤◌, suc-le-suc}
use native.Mathlib.Omega.{arith}
use lib.ListN.{length, length-append, length-map}
use Rattle.calculus.specs.Signature.{Signature}
use Rattle.calculus.specs.Terms.{Term, Build, Act, send, receive, fresh, compare, split, decrypt, map_act, bound}
use Rattle.calculus.specs.Tables.{Entry, leaf_entry, kind_entry, entry_at, denoted, Unrepeated, Table, process, free}
use Rattle.calculus.specs.Scope.{In, here, there, All, all_nil, all_cons, Distinct, di_nil, di_cons}
use Rattle.calculus.specs.Typing.{Checked}
use Rattle.calculus.proofs.Lists.{all_append, all_map, all_of, all_in, in_map, in_unmap}
use Rattle.calculus.proofs.TableLaws.{bound_map}
use Rattle.rendering.specs.Rendering.{Splitting, halves, merged, Due, dues_of, dues, Beginning}
use Rattle.rendering.specs.Judge.{Meaning, symbol, term, term_meant}
use Rattle.rendering.specs.Translation.{translated, translation, InRange, NoneIdle, TranslationIsFaithful, compounds, LengthIsKnown, TranslationFits}
use Rattle.rendering.proofs.MeaningLaws.{Proper, proper_term, meant_once}
use Rattle.rendering.proofs.FreeLaws.{free_and_bound, free_or_bound, missing_below}
use Rattle.rendering.proofs.Counting.{no_longer, at_most}
use Rattle.rendering.proofs.MadeLaws.{every_term_is_made}
use Rattle.rendering.proofs.BuildLaws.{terms_of, symbols_none, term_in, in_term, named_more}
use Rattle.rendering.proofs.StepLaws.{symbols_terms, Whole, symbols_proper, translates, ranged}

module _ (𝓢 : Signature) where
  -- ── The compound entries ──

  abbrev Entries : Type 0
  Entries = List (Entry 𝓢 ℕ)

  unfoldable compounds_from : ℕ → Entries → List ℕ
  compounds_from i [] = []
  compounds_from i (leaf_entry x ∷ es) = compounds_from (suc i) es
  compounds_from i (kind_entry b ∷ es) = i ∷ compounds_from (suc i) es

  compounds_length : (i : ℕ) (es : Entries) → length (compounds_from i es) ≡ compounds 𝓢 es
  unfolding compounds_from compounds
  compounds_length i [] = refl
  compounds_length i (leaf_entry x ∷ es) = compounds_length (suc i) es
  compounds_length i (kind_entry b ∷ es) = ap suc (compounds_length (suc i) es)

  compounds_above : (i : ℕ) (es : Entries) → All (λ k. i ≤ k) (compounds_from i es)
  unfolding compounds_from
  compounds_above i [] = all_nil
  compounds_above i (leaf_entry x ∷ es) = all_map (λ k (p : suc i ≤ k). let q : i ≤ k = omega arith in q) (compounds_above (suc i) es)
  compounds_above i (kind_entry b ∷ es) = let r : i ≤ i = omega arith in all_cons r (all_map (λ k (p : suc i ≤ k). let q : i ≤ k = omega arith in q) (compounds_above (suc i) es))

  compounds_distinct : (i : ℕ) (es : Entries) → Distinct (compounds_from i es)
  unfolding compounds_from
  compounds_distinct i [] = di_nil
  compounds_distinct i (leaf_entry x ∷ es) = compounds_distinct (suc i) es
  compounds_distinct i (kind_entry b ∷ es) = di_cons (all_map (λ k (p : suc i ≤ k) (e : i ≡ k). omega arith) (compounds_above (suc i) es)) (compounds_distinct (suc i) es)

  in_compounds : (i : ℕ) (es : Entries) (j : ℕ) {b : Build 𝓢 ℕ} → j < length es → entry_at 𝓢 0 es j ≡ kind_entry b → In (i + j) (compounds_from i es)
  unfolding compounds_from
  in_compounds i [] j h e = absurd (omega arith)
  in_compounds i (leaf_entry x ∷ es) zero h e = absurd (let z : ◌≡◌ {A = ℕ} 0 1 = cc in omega arith)
  in_compounds i (leaf_entry x ∷ es) (suc j) h e = let q : i + suc j ≡ suc i + j = omega arith in rw q (in_compounds (suc i) es j (omega arith) e)
  in_compounds i (kind_entry b ∷ es) zero h e = let q : i + 0 ≡ i = omega arith in rw q here
  in_compounds i (kind_entry b ∷ es) (suc j) h e = let q : i + suc j ≡ suc i + j = omega arith in rw q (there (in_compounds (suc i) es j (omega arith) e))

  record CompoundAt (i : ℕ) (es : Entries) (k : ℕ) : Type 0 where
    at : ℕ
    place : k ≡ i + at
    inside : at < length es
    entry : Build 𝓢 ℕ
    is_there : entry_at 𝓢 0 es at ≡ kind_entry entry

  next_at : {i : ℕ} (e : Entry 𝓢 ℕ) {es : Entries} {k : ℕ} → CompoundAt (suc i) es k → CompoundAt i (e ∷ es) k
  next_at {i} e r = record { at = suc r.at; place = r.place ∙ omega arith; inside = suc-le-suc r.inside; entry = r.entry; is_there = r.is_there }

  compounds_are : (i : ℕ) (es : Entries) {k : ℕ} → In k (compounds_from i es) → CompoundAt i es k
  unfolding compounds_from
  compounds_are i [] p = elim p [ ]
  compounds_are i (leaf_entry x ∷ es) p = next_at (leaf_entry x) (compounds_are (suc i) es p)
  compounds_are i (kind_entry b ∷ es) here = record { at = 0; place = omega arith; inside = omega arith; entry = b; is_there = refl }
  compounds_are i (kind_entry b ∷ es) (there p) = next_at (kind_entry b) (compounds_are (suc i) es p)

  -- ── The statements ──

  module _ (v : Splitting) (t : Table 𝓢) (c : Checked 𝓢 t) (ir : InRange 𝓢 t) where
    abbrev Es : List (Entry 𝓢 ℕ)
    Es = t.entries

    abbrev M0 : List Meaning
    M0 = map symbol (free 𝓢 t)

    all_translated : Whole 𝓢 Es c.closed v 0 t.steps M0 (translated 𝓢 v t)
    all_translated =
        translates 𝓢 Es c.closed (length t.sorts) (λ i l. ranged 𝓢 Es c.closed (length Es) (length t.sorts) ir.leaves i l l) v 0 t.steps M0 c.in_range c.scoped
        (λ x l. ⊎_elim (λ (k : In x (free 𝓢 t)). inl (in_map symbol k)) (λ (k : In x (bound 𝓢 t.steps)). inr k) (free_or_bound 𝓢 t x l))

    begins : Beginning 𝓢 v t (translation 𝓢 v t) (map (term_meant 𝓢 Es) (translated 𝓢 v t).1) []
    begins = rw (symbols_terms 𝓢 Es c.closed [] (free 𝓢 t)) at all_translated.renders_all

    no_terms : length (terms_of M0) ≡ 0
    no_terms = ap length (symbols_none (free 𝓢 t))

    once_all : Distinct (terms_of (translated 𝓢 v t).1)
    once_all = all_translated.once (rw (symbols_none (free 𝓢 t)) di_nil)

    proper_all : All (Proper 𝓢 Es) (translated 𝓢 v t).1
    proper_all = all_translated.proper (symbols_proper 𝓢 Es c.closed (free 𝓢 t))

    terms_below : All (λ i. i < length Es) (terms_of (translated 𝓢 v t).1)
    terms_below = all_of (terms_of (translated 𝓢 v t).1) (λ i p. inside (all_in proper_all (term i) (term_in (translated 𝓢 v t).1 p)))
      where
        inside : {i : ℕ} → Proper 𝓢 Es (term i) → i < length Es
        inside (proper_term l e) = l

    term_count : length (terms_of (translated 𝓢 v t).1) ≤ length Es
    term_count = at_most (length Es) once_all terms_below

    symbol_count : length (free 𝓢 t) + length (bound 𝓢 t.steps) ≤ length t.sorts
    symbol_count =
        let e = bound_map 𝓢 (denoted 𝓢 0 Es) t.steps in
        let d : Distinct (free 𝓢 t ++ bound 𝓢 t.steps) = rw e at (free_and_bound 𝓢 t c.once) in
        let f : All (λ x. x < length t.sorts) (free 𝓢 t) = all_map (λ x (l : x < 0 + length t.sorts). let r : x < length t.sorts = omega arith in r) (missing_below 0 t.sorts (bound 𝓢 t.steps)) in
        let h : length (free 𝓢 t ++ bound 𝓢 t.steps) ≤ length t.sorts = at_most (length t.sorts) d (all_append f ir.binders) in
        let l = length-append (free 𝓢 t) (bound 𝓢 t.steps) in
        omega arith

    register_count : length (translated 𝓢 v t).1 ≤ length t.sorts + length Es
    register_count =
        let a = all_translated.size in
        let b = no_terms in
        let d = term_count in
        let e = symbol_count in
        let f = length-map (free 𝓢 t) symbol in
        omega arith

    two_at_most : (v : Splitting) (s : Act 𝓢 (Term 𝓢)) → length (dues_of 𝓢 v s) ≤ 2
    unfolding dues_of
    two_at_most v (send a b) = omega arith
    two_at_most v (receive a x) = omega arith
    two_at_most v (fresh x) = omega arith
    two_at_most v (compare a b) = omega arith
    two_at_most halves (split a x y) = omega arith
    two_at_most merged (split a x y) = omega arith
    two_at_most v (decrypt s a b x) = omega arith

    dues_short : (n : ℕ) (P : List (Act 𝓢 (Term 𝓢))) → length (dues 𝓢 v n P) ≤ 2 * length P
    unfolding dues
    dues_short n [] = omega arith
    dues_short n (s ∷ P) =
        let a = dues_short (suc n) P in
        let b = length-append {A = ℕ × Due 𝓢 (Term 𝓢)} (map (λ w. (n, w)) (dues_of 𝓢 v s)) (dues 𝓢 v (suc n) P) in
        let d = length-map {B = ℕ × Due 𝓢 (Term 𝓢)} (dues_of 𝓢 v s) (λ w. (n, w)) in
        let e = two_at_most v s in
        omega arith

  pub translation_is_faithful : TranslationIsFaithful 𝓢
  translation_is_faithful v t c ir = (map (term_meant 𝓢 t.entries) (translated 𝓢 v t).1, begins v t c ir)

  module _ (v : Splitting) (t : Table 𝓢) (c : Checked 𝓢 t) (ir : InRange 𝓢 t) (u : Unrepeated 𝓢 0 t.entries) (used : NoneIdle 𝓢 t) where
    -- among the registers of the translation each compound term is meant
    each_built : (i : ℕ) → In i (compounds_from 0 t.entries) → In i (terms_of (translated 𝓢 v t).1)
    unfolding term_meant
    each_built i p =
        let r = compounds_are 0 t.entries p in
        let q : i ≡ r.at = omega (arith, r.place) in
        let l : i < length t.entries = omega (arith, r.inside) in
        let e : entry_at 𝓢 0 t.entries i ≡ kind_entry r.entry = ap (λ (k : ℕ). entry_at 𝓢 0 t.entries k) q ∙ r.is_there in
        let f = in_unmap (term_meant 𝓢 t.entries) (translated 𝓢 v t).1 (every_term_is_made 𝓢 v t (translation 𝓢 v t) _ c used (begins v t c ir) i l) in
        in_term f.1 i (meant_once 𝓢 t.entries c.closed u (all_in (proper_all v t c ir) f.0 f.1) (proper_term l e) f.2)

    only_compounds : (i : ℕ) → In i (terms_of (translated 𝓢 v t).1) → In i (compounds_from 0 t.entries)
    only_compounds i p = go (all_in (proper_all v t c ir) (term i) (term_in (translated 𝓢 v t).1 p))
      where
        go : {i : ℕ} → Proper 𝓢 t.entries (term i) → In i (compounds_from 0 t.entries)
        go {i} (proper_term l e) = let q : 0 + i ≡ i = omega arith in rw q at (in_compounds 0 t.entries i l e)

    as_many : length (terms_of (translated 𝓢 v t).1) ≡ compounds 𝓢 t.entries
    as_many =
        let a = no_longer (once_all v t c ir) only_compounds in
        let b = no_longer (compounds_distinct 0 t.entries) each_built in
        let d = compounds_length 0 t.entries in
        omega arith

  pub length_is_known : LengthIsKnown 𝓢
  length_is_known v t c u ir used =
      let a = (all_translated v t c ir).count in
      let b = no_terms v t c ir in
      let d = as_many v t c ir u used in
      omega arith

  pub translation_fits : TranslationFits 𝓢
  translation_fits v t c ir s96 t128 p64 =
      let a = (all_translated v t c ir).count in
      let b = no_terms v t c ir in
      let d = term_count v t c ir in
      let e = dues_short v t c ir 0 (process 𝓢 t) in
      let f = length-map t.steps (map_act 𝓢 (denoted 𝓢 0 t.entries)) in
      let g = register_count v t c ir in
      (omega arith, omega arith, named_more 𝓢 t.entries c.closed (omega arith) (all_translated v t c ir).named)
