-- Builds: the first term of the table that fits is the one that the judge finds. Assumes that 1 to 9 pass, where it says so.
use mathlib.Core.Path.{◌≡◌, refl, sym, ap, ◌∙◌}
use mathlib.Core.Bool.{Bool, true, false, cond, not}
use mathlib.Core.Option.{Option, none, some, map}
use mathlib.Core.List.{List, [], ◌∷◌}
use Prim.Native.Nat.{ℕ, zero, suc, ◌+◌, ◌-◌, ◌<◌, ◌≤◌}
use native.Mathlib.Omega.{arith}
use lib.Dec.{eqb}
use lib.ListN.{get_elem?}
use borrow.Author.Tests.{eq-eqb, ne_eqb, eqb-true}
use Rattle.base.specs.Bytes.{byte}
use Rattle.base.specs.Pick.{pick, both}
use Rattle.base.specs.Search.{Search, clean, wrong, walk, first}
use Rattle.base.proofs.BothLaws.{both_parts, both_true}
use Rattle.base.proofs.Searched.{Found, first_bad, found}
use Rattle.answers.specs.Ladder.{least}
use Rattle.codes.specs.Rows.{cell}
use Rattle.entries.specs.Fields.{code}
use Rattle.entries.specs.Tiling.{listed}
use Rattle.table_layout.specs.Layout.{terms, terms_at, term_field}
use Rattle.table.specs.Faults.{table_rungs}
use Rattle.calculus.specs.Signature.{Two, pairing, seal}
use Rattle.calculus.specs.Terms.{Build, build2, map_build, build}
use Rattle.calculus.specs.Tables.{kind_entry}
use Rattle.calculus.specs.Version1.{Seal1, encryption, signature1}
use Rattle.rendering.specs.Judge.{Meaning, term, meant, fits, find_from, turn}
use Rattle.decoded.specs.Table.{entry_of, two_code, term_at}
use Rattle.decoded.proofs.Passed.{table_passed}
use Rattle.decoded.proofs.Ranges.{term_code_lem}
use Rattle.decoded.specs.Indexes.{entries_of, meaning_of}
use Rattle.decoded.proofs.Tabled.{counts_small, term_as, a_compound}
use Rattle.judging.specs.declared.Registers.{Registers}
use Rattle.judging.specs.declared.State.{State}
use Rattle.judging.specs.Meanings.{coded, Small, Meant, Known, Gives, meant_at}
use Rattle.judging.specs.Due.{due_from, fits_at}
use Rattle.judging.specs.Turns.{Answer, HalfDone, WentOn}
use Rattle.judging.proofs.TableMeanings.{register_means}
use Rattle.judging.proofs.SayLaws.{as_test, Tells}
use Rattle.std.proofs.Common.{Ok}

-- ── Kinds ──

-- equal codes are equal kinds, and none is that of a symbol
two_once : (k K : Two Seal1) → two_code K ≡ two_code k → k ≡ K
unfolding two_code
two_once pairing pairing e = refl
two_once pairing (seal encryption) e = absurd (omega arith)
two_once (seal encryption) pairing e = absurd (omega arith)
two_once (seal encryption) (seal encryption) e = refl

two_not_zero : (k : Two Seal1) → ¬ (0 ≡ two_code k)
unfolding two_code
two_not_zero pairing e = absurd (omega arith)
two_not_zero (seal encryption) e = absurd (omega arith)

-- a build gives a register
two_gives : (k : Two Seal1) → 1 ≡ cell 2 (two_code k + 6) 4
unfolding two_code cell byte
two_gives pairing = refl
two_gives (seal encryption) = refl

-- what a search finds
abbrev found_in : Search → Option ℕ
found_in clean = none
found_in (wrong i) = some i

-- ── Terms ──

module _ (t : List ℕ) (ms : List Meaning) (u v : ℕ) (k : Two Seal1) where
  -- what the judge compares a term with
  abbrev wanted : Build signature1 (Option Meaning)
  wanted = build2 k (get_elem? ms u) (get_elem? ms v)

  -- a compound term fits if its kind is the same, and its parts mean what the registers mean
  fits_two : (K : Two Seal1) (i j : ℕ) (b c : Bool) → Tells ms u (meaning_of t i) b → Tells ms v (meaning_of t j) c
      → fits signature1 (meant signature1 (entries_of t)) wanted (kind_entry (build2 K i j)) ≡ both (eqb (two_code K) (two_code k)) (both b c)
  unfolding fits map_build meaning_of
  fits_two K i j b c f g =
      as_test _ (both (eqb (two_code K) (two_code k)) (both b c)) (λ h. to (both_parts _ _ h))
      (λ h. both_true _ _ (eq-eqb (two_code K) (two_code k) (ap two_code (kinds h))) (both_true b c (f.1 cc) (g.1 cc)))
    where
      kinds : ◌≡◌ {A = Build signature1 (Option Meaning)} wanted (build2 K (some (meant signature1 (entries_of t) i)) (some (meant signature1 (entries_of t) j))) → K ≡ k
      kinds h = cc

      to : (eqb (two_code K) (two_code k) ≡ true) × (both b c ≡ true) → ◌≡◌ {A = Build signature1 (Option Meaning)} wanted (build2 K (some (meant signature1 (entries_of t) i)) (some (meant signature1 (entries_of t) j)))
      to (p, r) =
          let (q, z) = both_parts b c r in
          rw (two_once k K (eqb-true _ _ p), f.0 q, g.0 z)

  module _ (e : least (table_rungs t) ≡ Ok tt) (p q : ℕ) (kind : ℕ) (n : kind ≡ two_code k) (l : Meant ms u p) (r : Meant ms v q) where
    -- any term
    fits_at_lem : (i : ℕ) → i < terms t → fits signature1 (meant signature1 (entries_of t)) wanted (term_at t i) ≡ fits_at t kind p q i
    unfolding fits fits_at entry_of
    fits_at_lem i h = go (code t 0 (terms_at t) i) refl (term_code_lem t (table_passed t e).entered i h)
      where
        two : (K : Two Seal1) (op : ℕ) → code t 0 (terms_at t) i ≡ op → two_code K ≡ op → ¬ (op ≡ 0)
            → fits signature1 (meant signature1 (entries_of t)) wanted (kind_entry (build2 K (term_field t i 0) (term_field t i 1)))
            ≡ both (eqb op kind) (both (eqb (meant_at t (term_field t i 0)) p) (eqb (meant_at t (term_field t i 1)) q))
        two K op c z w =
            let d = a_compound t e i h (λ y. w (sym c ∙ y)) in
            rw (n, ← z) (fits_two K (term_field t i 0) (term_field t i 1) _ _ (register_means t e (term_field t i 0) (omega (arith, d.left_lower)) l) (register_means t e (term_field t i 1) (omega (arith, d.right_lower)) r))

        go : (op : ℕ) → code t 0 (terms_at t) i ≡ op → op < 3
            → fits signature1 (meant signature1 (entries_of t)) wanted (term_at t i) ≡ both (eqb (code t 0 (terms_at t) i) kind) (both (eqb (meant_at t (term_field t i 0)) p) (eqb (meant_at t (term_field t i 1)) q))
        go zero c m = rw (term_as t i 0 c, c, n, ne_eqb 0 (two_code k) (two_not_zero k))
        go (suc zero) c m = rw (term_as t i 1 c, c) (two pairing 1 c (unfold two_code in refl) (λ y. absurd (omega arith)))
        go (suc (suc zero)) c m = rw (term_as t i 2 c, c) (two (seal encryption) 2 c (unfold two_code in refl) (λ y. absurd (omega arith)))
        go (suc (suc (suc op))) c m = absurd (omega arith)

    -- ── The first that fits ──

    abbrev misses : ℕ → Bool
    misses i = not (fits_at t kind p q i)

    find_walk : (m i : ℕ) → i + m ≤ terms t → find_from signature1 (meant signature1 (entries_of t)) wanted i (listed (term_at t) i m) ≡ found_in (walk misses i m)
    unfolding find_from listed walk
    find_walk zero i h = refl
    find_walk (suc m) i h = rw (fits_at_lem i (omega arith), find_walk m (suc i) (omega arith)) (go (fits_at t kind p q i))
      where
        go : (b : Bool) → cond b (some i) (found_in (walk misses (suc i) m)) ≡ found_in (pick (not b) (walk misses (suc i) m) (wrong i))
        go true = refl
        go false = refl

    find_first : find_from signature1 (meant signature1 (entries_of t)) wanted 0 (entries_of t) ≡ found_in (first misses 0 (terms t))
    unfolding entries_of first
    find_first = let z : terms t - 0 ≡ terms t = omega arith in rw z (find_walk (terms t) 0 (omega arith))

    module _ (a : State) where
      -- the judge's answer
      abbrev answer : Answer
      answer = turn signature1 (entries_of t) ms (due_from t a.step a.half) (build (build2 k u v))

      turn_found : (s : Search) → s ≡ first misses 0 (terms t) → answer ≡ map (λ i. (term i ∷ [], due_from t a.step a.half)) (found_in s)
      unfolding turn map_build
      turn_found s z = rw (find_first, z)

      -- no term fits
      pub built_none : clean ≡ first misses 0 (terms t) → answer ≡ none
      built_none z = turn_found clean z

      -- term i is the first that fits
      pub built_on : (i : ℕ) (z z' : Registers) → wrong i ≡ first misses 0 (terms t) → HalfDone t a → Known ms z → Gives (255 - i) z z' → WentOn t ms z' (kind + 6) answer a
      unfolding coded Small
      built_on i z z' w half_done known g =
          record {
            new = term i ∷ [];
            turned = turn_found (wrong i) w;
            count = rw n (two_gives k);
            known = g ms (term i) (inside (rw (← w) at (found misses 0 (terms t) (omega arith)))) refl known;
            done = half_done;
          }
        where
          inside : Found misses 0 (terms t) (wrong i) → i < 128
          inside (first_bad h j x f) = let y = counts_small t e in omega arith
