-- A trace passes 1 to 6 exactly if it has no fault by document 01: nothing else is ruled out. Assumes nothing.
use mathlib.Core.Path.{◌≡◌, ◌∙◌}
use mathlib.Core.Logic.{◌↔◌}
use mathlib.Core.List.{List}
use Prim.Native.Nat.{ℕ}
use lib.Dec.{leb}
use borrow.Author.Tests.{leb-true, le-leb, eqb-true, eq-eqb}
use Rattle.base.proofs.BothLaws.{both_true, both_parts}
use Rattle.answers.specs.Ladder.{least}
use Rattle.answers.proofs.Ladder.{least_none}
use Rattle.answers.proofs.Passes.{rung_right}
use Rattle.opening.proofs.Frames.{frame_right, Framed as Opened}
use Rattle.trace.specs.Layout.{values, supplies, startings, starts_at, supplies_at, counts_ok, length_ok}
use Rattle.trace.specs.Faults.{value_rung, start_rung, supply_rung, equal_rung, trace_rungs}
use Rattle.trace.specs.Right.{Framed, TraceRight}
use Rattle.trace.proofs.Passed.{Passed, trace_passed}
use Rattle.trace.proofs.EntryTests.{value_ok_means, values_alone_means, index_ok_means}
use Rattle.std.proofs.Common.{Ok}

module _ (s : List ℕ) where
  -- 1 to 4, both ways
  frame_to : Opened 2 s (counts_ok s) (length_ok s) → Framed s
  unfolding counts_ok length_ok
  frame_to f =
      let (v, c) = both_parts (leb (values s) 1024) _ f.counts_right in
      let (k, n) = both_parts (leb (supplies s) 128) _ c in
      record {
        mark = f.mark_right;
        first_version = f.version_one;
        few_values = leb-true _ _ v;
        few_supplies = leb-true _ _ k;
        few_startings = leb-true _ _ n;
        whole_length = eqb-true _ _ f.size_right;
      }

  frame_from : Framed s → Opened 2 s (counts_ok s) (length_ok s)
  unfolding counts_ok length_ok
  frame_from f =
      record {
        mark_right = f.mark;
        version_one = f.first_version;
        counts_right =
            both_true (leb (values s) 1024) _ (le-leb _ _ f.few_values)
            (both_true (leb (supplies s) 128) (leb (startings s) 96) (le-leb _ _ f.few_supplies) (le-leb _ _ f.few_startings));
        size_right = eq-eqb _ _ f.whole_length;
      }

  -- 1 to 6, both ways
  to : Passed s → TraceRight s
  to p =
      let n = p.entered in
      record {
        framed = frame_to n.frame;
        values_right =
            record {
              each_value = λ i h. (value_ok_means s i n.frame.version_one).0 (n.each_right i h);
              each_starting = λ i h. (index_ok_means s (starts_at s) (values s) i).0 (n.starts_there i h);
              each_supply = λ i h. (index_ok_means s (supplies_at s) (values s) i).0 (n.supplies_there i h);
            };
        values_differ = (values_alone_means s).0 p.each_alone;
      }

  from : TraceRight s → Passed s
  from r =
      let f = frame_from r.framed in
      let v = r.values_right in
      record {
        entered =
            record {
              frame = f;
              each_right = λ i h. (value_ok_means s i f.version_one).1 (v.each_value i h);
              starts_there = λ i h. (index_ok_means s (starts_at s) (values s) i).1 (v.each_starting i h);
              supplies_there = λ i h. (index_ok_means s (supplies_at s) (values s) i).1 (v.each_supply i h);
            };
        each_alone = (values_alone_means s).1 r.values_differ;
      }

  -- a trace whose things are all in order passes
  passes : Passed s → least (trace_rungs s) ≡ Ok tt
  passes p =
      let n = p.entered in
      frame_right 2 s (counts_ok s) (length_ok s) _ n.frame
      ∙ rung_right (value_rung s) _ n.each_right
      ∙ rung_right (start_rung s) _ n.starts_there
      ∙ rung_right (supply_rung s) _ n.supplies_there
      ∙ rung_right (equal_rung s) _ p.each_alone
      ∙ least_none

  -- 1 to 6 pass exactly if the trace has no fault
  pub trace_passes : (least (trace_rungs s) ≡ Ok tt) ↔ TraceRight s
  trace_passes = (λ e. to (trace_passed s e), λ r. passes (from r))
