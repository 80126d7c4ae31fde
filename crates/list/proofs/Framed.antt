-- What it says of a list that 1 to 4 pass, and that 1 to 5 do; and what its length test says. Assumes nothing.
use mathlib.Core.Path.{◌≡◌, refl, sym, ◌∙◌}
use mathlib.Core.Bool.{true}
use mathlib.Core.Logic.{◌↔◌}
use mathlib.Core.List.{List, [], ◌∷◌}
use Prim.Native.Nat.{ℕ, zero, suc, ◌+◌, ◌*◌, ◌≤◌, ◌<◌}
use native.Mathlib.Omega.{arith}
use lib.Dec.{leb}
use lib.ListN.{length, length-drop}
use borrow.Author.Tests.{leb-true, eqb-true, le-leb, eq-eqb}
use Rattle.answers.specs.Ladder.{least}
use Rattle.answers.proofs.Ladder.{least_none, after_pass}
use Rattle.opening.proofs.Frames.{frame_passed, frame_right}
use Rattle.list.specs.Layout.{symbols, statements, past_type, type_at, statements_at, counts_ok, length_ok, type_ok, statement_ok}
use Rattle.list.specs.Right.{Framed, Walked}
use Rattle.list.specs.Faults.{frame_rungs, type_rung, type_rungs, statement_rung, list_rungs}
use Rattle.list.proofs.Walks.{type_at_next, type_at_rises}
use Rattle.answers.proofs.Passes.{layers_passed, first_passed, rung_passes}
use Rattle.base.proofs.BothLaws.{both_parts}
use Rattle.std.proofs.Common.{Ok}

-- 1 to 4 pass exactly if the frame is right
pub frame_passes : (s : List ℕ) → (least (frame_rungs s) ≡ Ok tt) ↔ Framed s
unfolding counts_ok length_ok
frame_passes s = (λ e. to e, λ f. from f)
  where
    to : least (frame_rungs s) ≡ Ok tt → Framed s
    to e =
        let f = (frame_passed 1 s (counts_ok s) (length_ok s) [] e).0 in
        let (a, b) = both_parts (leb (symbols s) 96) (leb (statements s) 512) f.counts_right in
        record { mark_right = f.mark_right; version_one = f.version_one; few_symbols = leb-true (symbols s) 96 a; few_statements = leb-true (statements s) 512 b; length_exact = eqb-true (length s) (statements_at s + 4 * statements s) f.size_right }

    from : Framed s → least (frame_rungs s) ≡ Ok tt
    from f =
        frame_right 1 s (counts_ok s) (length_ok s) [] record {
          mark_right = f.mark_right;
          version_one = f.version_one;
          counts_right = rw (le-leb (symbols s) 96 f.few_symbols) (le-leb (statements s) 512 f.few_statements);
          size_right = eq-eqb (length s) (statements_at s + 4 * statements s) f.length_exact;
        }
        ∙ least_none

-- where the length is exact, each type ends before the statements begin, and so inside the list
pub type_inside : (s : List ℕ) (i : ℕ) → length s ≡ statements_at s + 4 * statements s → i < symbols s → past_type s (type_at s i) ≤ length s
type_inside s i e h = omega (arith, type_at_next s i, type_at_rises s (i + 1) (symbols s) (omega arith))

-- what the length test says of a list with a whole header
pub length_ok_walked : (s : List ℕ) → 8 ≤ length s → (length_ok s ≡ true) ↔ Walked s
unfolding length_ok type_at
length_ok_walked s h = (λ e. to (eqb-true (length s) (statements_at s + 4 * statements s) e), λ w. eq-eqb (length s) (statements_at s + 4 * statements s) (from w))
  where
    to : length s ≡ statements_at s + 4 * statements s → Walked s
    to e = (λ i l. let q = type_inside s i e l in (omega arith, q), rw length-drop (omega arith))

    end : (n : ℕ) → n ≡ symbols s → Walked s → type_at s n ≤ length s
    end zero q w = h
    end (suc n) q w = (w.0 n (omega arith)).1

    from : Walked s → length s ≡ statements_at s + 4 * statements s
    from w = omega (arith, end (symbols s) refl w, sym (length-drop (statements_at s) s) ∙ w.1)

-- what it says of a list that 1 to 5 pass: the frame is right, and so is each type and each statement
pub record Listed (s : List ℕ) (free : ℕ) : Type 0 where
  pub framed : Framed s
  pub types_right : (i : ℕ) → i < symbols s → type_ok s i ≡ true
  pub statements_right : (i : ℕ) → i < statements s → statement_ok s free i ≡ true

-- 1 to 5 pass exactly if that holds
pub list_passes : (s : List ℕ) (free : ℕ) → (least (list_rungs s free) ≡ Ok tt) ↔ Listed s free
list_passes s free = (λ e. to (layers_passed (type_rungs s) (statement_rung s free ∷ []) e), λ l. from l)
  where
    to : (least (type_rungs s) ≡ Ok tt) × (least (statement_rung s free ∷ []) ≡ Ok tt) → Listed s free
    to (t, p) =
        let (f, q) = layers_passed (frame_rungs s) (type_rung s ∷ []) t in
        record { framed = (frame_passes s).0 f; types_right = first_passed (type_rung s) [] q; statements_right = first_passed (statement_rung s free) [] p }

    from : Listed s free → least (list_rungs s free) ≡ Ok tt
    from l =
        after_pass (type_rungs s) (statement_rung s free ∷ [])
        (after_pass (frame_rungs s) (type_rung s ∷ []) ((frame_passes s).1 l.framed) ∙ rung_passes (type_rung s) l.types_right)
        ∙ rung_passes (statement_rung s free) l.statements_right
