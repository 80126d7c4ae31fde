-- A role table passes 1 to 9 exactly if it has no fault by document 01: nothing else is ruled out. Assumes nothing.
use mathlib.Core.Path.{◌≡◌, refl, ◌∙◌}
use mathlib.Core.Bool.{Bool, true, false}
use mathlib.Core.Logic.{◌↔◌}
use mathlib.Core.List.{List}
use Prim.Native.Nat.{ℕ, ◌+◌, ◌*◌, ◌<◌}
use native.Mathlib.Omega.{arith}
use lib.Dec.{leb}
use borrow.Author.Tests.{leb-true, le-leb, eqb-true, eq-eqb}
use Rattle.base.specs.Bytes.{byte, word}
use Rattle.base.proofs.BothLaws.{clash, both_true, both_parts}
use Rattle.codes.specs.Marks.{mark, header}
use Rattle.answers.specs.Ladder.{least}
use Rattle.answers.proofs.Ladder.{least_none}
use Rattle.answers.proofs.Passes.{rung_right}
use Rattle.entries.specs.Faults.{twin_rung}
use Rattle.opening.proofs.Frames.{Framed, frame_right, marked_means, version_bytes}
use Rattle.table_layout.specs.Layout.{symbols, terms, steps, terms_at, counts_ok, length_ok}
use Rattle.table_layout.specs.Faults.{symbol_rung, term_rung, step_rung}
use Rattle.table_naming.specs.Naming.{idle_rung}
use Rattle.table_binding.specs.Binding.{in_scope, bind_rung, scope_rung}
use Rattle.table.specs.Faults.{table_rungs}
use Rattle.decoded.specs.Right.{FrameRight, TableRight}
use Rattle.decoded.proofs.Naming.{named_means}
use Rattle.decoded.proofs.Binding.{binds_new_means}
use Rattle.decoded.proofs.Scoping.{in_scope_means}
use Rattle.decoded.proofs.EntryTests.{symbol_ok_means, term_ok_means, step_ok_means, alone_means}
use Rattle.decoded.proofs.Passed.{Entered, Passed, table_passed}
use Rattle.decoded.proofs.Ranges.{parts_lower, terms_there}
use Rattle.std.proofs.Common.{Ok}

module _ (s : List ℕ) where
  -- 1 to 4, both ways
  frame_to : Framed 0 s (counts_ok s) (length_ok s) → FrameRight s
  unfolding mark header byte counts_ok length_ok
  frame_to f =
      let m = (marked_means 0 s).0 f.mark_right in
      let (v, w) = version_bytes s f.version_one in
      let (x, c) = both_parts (leb (symbols s) 96) _ f.counts_right in
      let (y, z) = both_parts (leb (terms s) 128) _ c in
      record {
        header_there = m.header_there;
        mark_s = m.first;
        mark_p = m.second;
        mark_t = m.third;
        version_high = v;
        version_low = w;
        few_symbols = leb-true _ _ x;
        few_terms = leb-true _ _ y;
        few_steps = leb-true _ _ z;
        length_exact = eqb-true _ _ f.size_right;
      }

  frame_from : FrameRight s → Framed 0 s (counts_ok s) (length_ok s)
  unfolding mark header byte word counts_ok length_ok
  frame_from f =
      let v : byte s 3 * 256 + byte s 4 ≡ 1 = omega arith in
      record {
        mark_right = (marked_means 0 s).1 (record { header_there = f.header_there; first = f.mark_s; second = f.mark_p; third = f.mark_t });
        version_one = v;
        counts_right =
            both_true (leb (symbols s) 96) _ (le-leb _ _ f.few_symbols)
            (both_true (leb (terms s) 128) (leb (steps s) 64) (le-leb _ _ f.few_terms) (le-leb _ _ f.few_steps));
        size_right = eq-eqb _ _ f.length_exact;
      }

  -- 1 to 9, both ways
  to : Passed s → TableRight s
  to p =
      let n = p.entered in
      let v = n.frame.version_one in
      record {
        frame = frame_to n.frame;
        each_symbol = λ i h. (symbol_ok_means s i).0 (n.symbols_right i h);
        each_term = λ i h. (term_ok_means s i v).0 (n.terms_right i h);
        each_step = λ k h. (step_ok_means s k v).0 (n.steps_right k h);
        not_repeated = λ i j h. (alone_means s i).0 (p.each_alone i h) j;
        each_named = λ i h. (named_means s i).0 (p.each_named i h);
        each_new = λ k h. (binds_new_means s k).0 (p.each_new k h);
        each_in_scope = λ k h o. clash (p.each_scoped k h) ((in_scope_means s k (parts_lower s n) (terms_there s n k h)).1 o);
      }

  entered_from : TableRight s → Entered s
  entered_from r =
      let f = frame_from r.frame in
      let v = f.version_one in
      record {
        frame = f;
        symbols_right = λ i h. (symbol_ok_means s i).1 (r.each_symbol i h);
        terms_right = λ i h. (term_ok_means s i v).1 (r.each_term i h);
        steps_right = λ k h. (step_ok_means s k v).1 (r.each_step k h);
      }

  from : TableRight s → Passed s
  from r =
      let n = entered_from r in
      record {
        entered = n;
        each_alone = λ i h. (alone_means s i).1 (λ j l. r.not_repeated i j h l);
        each_named = λ i h. (named_means s i).1 (r.each_named i h);
        each_new = λ k h. (binds_new_means s k).1 (r.each_new k h);
        each_scoped = λ k h. scoped k h (in_scope s k) refl;
      }
    where
      scoped : (k : ℕ) → k < steps s → (b : Bool) → in_scope s k ≡ b → in_scope s k ≡ true
      scoped k h true e = e
      scoped k h false e =
          let n = entered_from r in
          absurd (r.each_in_scope k h ((in_scope_means s k (parts_lower s n) (terms_there s n k h)).0 e))

  -- a table whose things are all in order passes
  passes : Passed s → least (table_rungs s) ≡ Ok tt
  passes p =
      let n = p.entered in
      frame_right 0 s (counts_ok s) (length_ok s) _ n.frame
      ∙ rung_right (symbol_rung s) _ n.symbols_right
      ∙ rung_right (term_rung s) _ n.terms_right
      ∙ rung_right (step_rung s) _ n.steps_right
      ∙ rung_right (twin_rung s 0 0 (terms_at s) (terms s)) _ p.each_alone
      ∙ rung_right (idle_rung s) _ p.each_named
      ∙ rung_right (bind_rung s) _ p.each_new
      ∙ rung_right (scope_rung s) _ p.each_scoped
      ∙ least_none

  -- 1 to 9 pass exactly if the table has no fault
  pub table_passes : (least (table_rungs s) ≡ Ok tt) ↔ TableRight s
  table_passes = (λ e. to (table_passed s e), λ r. passes (from r))
