-- The values of a trace, copied to the start of a buffer. Assumes nothing.
use mathlib.Core.Path.{◌≡◌, refl, sym, ap, ◌∙◌}
use mathlib.Core.List.{List}
use Prim.Native.Nat.{ℕ, zero, suc, ◌+◌, ◌*◌, ◌-◌, ◌<◌, ◌≤◌}
use native.Mathlib.Omega.{arith}
use lib.ListN.{length, take, drop, length-drop}
use lib.Seq.{length-take-le}
use Rattle.base.specs.Bytes.{byte}
use Rattle.codes.specs.Rows.{fields, field_bytes, width}
use Rattle.answers.specs.Ladder.{least}
use Rattle.buffers.specs.Over.{over_if}
use Rattle.buffers.proofs.OverLaws.{over_fits}
use Rattle.entries.specs.Fields.{place_of, code, field}
use Rattle.entries.specs.Tiling.{listed, joined, stretch, number_bytes, entry_of, entry_bytes}
use Rattle.entries.specs.Words.{Bytes}
use Rattle.entries.proofs.Tiling.{stretch_part, joined_all, entry_bytes_lem}
use Rattle.trace.specs.Layout.{values}
use Rattle.trace.specs.Faults.{trace_rungs}
use Rattle.trace.proofs.EntryTests.{tag_known}
use Rattle.trace.proofs.Passes.{trace_passes}
use Rattle.decoded.specs.Table.{two_code}
use Rattle.decoded.specs.Values.{value_of, value_at, values_of}
use Rattle.decoded.proofs.ValueLaws.{values_length}
use Rattle.value_table.specs.Values.{five_bytes, value_bytes}
use Rattle.value_table.specs.Kept.{Copied}
use Rattle.std.proofs.Common.{Ok}

-- a value of a known tag, written
known_written : (t a b : ℕ) → t < 3 → value_bytes (value_of t a b) ≡ five_bytes t a b
unfolding value_bytes value_of two_code
known_written zero a b h = refl
known_written (suc zero) a b h = refl
known_written (suc (suc zero)) a b h = refl
known_written (suc (suc (suc t))) a b h = absurd (omega arith)

entry_written : (s : List ℕ) (i : ℕ) → five_bytes (code s 3 10 i) (field s 3 10 i 0) (field s 3 10 i 1) ≡ entry_bytes 3 (entry_of s 3 10 i)
unfolding five_bytes listed joined number_bytes fields field_bytes byte
entry_written s i = refl

value_stretch : (s : List ℕ) → Bytes s → (i : ℕ) → code s 3 10 i < 3 → value_bytes (value_at s i) ≡ stretch s (10 + i * 5) 5
unfolding value_at
value_stretch s h i l = known_written (code s 3 10 i) _ _ l ∙ entry_written s i ∙ at (entry_bytes_lem s h 3 10 (omega arith) i)
  where
    at : entry_bytes 3 (entry_of s 3 10 i) ≡ stretch s (place_of 3 10 i) (width 3) → entry_bytes 3 (entry_of s 3 10 i) ≡ stretch s (10 + i * 5) 5
    at e = unfold place_of width byte in e

-- the bytes of a checked trace's values
values_bytes : (tr : List ℕ) → Bytes tr → least (trace_rungs tr) ≡ Ok tt → joined value_bytes (values_of tr) ≡ take (5 * values tr) (drop 10 tr)
values_bytes tr b e =
    let c = (trace_passes tr).0 e in
    let z : values tr * 5 ≡ 5 * values tr = omega arith in
    joined_all value_bytes (value_at tr) tr 10 5 (values tr) (λ i h. value_stretch tr b i (tag_known (c.values_right.each_value i h)))
    ∙ ap (stretch tr 10) z ∙ stretch_part tr 10 (5 * values tr) (let l = c.framed.whole_length in omega arith)

pub copied_not : (tr z o : List ℕ) → length tr < 10 + 5 * values tr → Copied tr z o
copied_not tr z o h = record { copied = λ e r. let l = ((trace_passes tr).0 e).framed.whole_length in absurd (omega arith) }

pub copied_all : (tr z o : List ℕ) (end : ℕ) → Bytes tr → end ≡ 10 + 5 * values tr → end ≤ length tr → o ≡ over_if (take (end - 10) (drop 10 tr)) z → Copied tr z o
copied_all tr z o end b p h q = record {
  copied = λ e r.
      let n : end - 10 ≡ 5 * values tr = omega arith in
      let d : o ≡ over_if (take (5 * values tr) (drop 10 tr)) z = rw n at q in
      let l : length (take (5 * values tr) (drop 10 tr)) ≤ length z = rw (length-take-le (5 * values tr) (drop 10 tr) (rw length-drop (omega arith))) r in
      record {
        count = sym (values_length tr);
        bytes = rw (values_bytes tr b e) (d ∙ over_fits (take (5 * values tr) (drop 10 tr)) z l);
      };
}
