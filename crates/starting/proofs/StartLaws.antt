-- Starting values tested one after the other. Assumes nothing.
use mathlib.Core.Path.{◌≡◌, sym, ◌∙◌}
use mathlib.Core.Bool.{Bool, true, false}
use mathlib.Core.List.{List, [], ◌∷◌}
use Prim.Native.Nat.{ℕ, suc, ◌+◌, ◌≤◌, ◌<◌, min}
use native.Mathlib.Nat.{eq-or-lt_of_le}
use mathlib.Core.Logic.{◌⊎◌, inl, inr}
use native.Mathlib.Omega.{arith}
use lib.ListN.{length, take, drop, get_or, length-drop}
use lib.Seq.{take_all}
use Rattle.base.specs.Bytes.{byte}
use Rattle.answers.specs.Ladder.{refusal, least, Check}
use Rattle.entries.specs.Tiling.{listed}
use Rattle.entries.specs.Words.{Bytes}
use Rattle.entries.proofs.Tiling.{listed_length}
use Rattle.table_layout.specs.Layout as TableLayout
use Rattle.table.specs.Faults.{table_rungs}
use Rattle.list.specs.Layout.{symbols, type_at}
use Rattle.trace.specs.Layout.{values, startings, starting}
use Rattle.trace.specs.Faults.{trace_rungs}
use Rattle.trace.proofs.Passes.{trace_passes}
use Rattle.types.specs.Types.{Ty}
use Rattle.calculus.specs.Terms.{Atom, bound}
use Rattle.calculus.specs.Tables.{Entry}
use Rattle.calculus.specs.Version1.{signature1}
use Rattle.calculus.proofs.Lists.{all_at}
use Rattle.rendering.proofs.FreeLaws.{missing_below}
use Rattle.running.specs.Values.{visible, index}
use Rattle.running.specs.Demand3.{Starts, starts_nil, starts_cons, types_of}
use Rattle.decoded.specs.Table.{sort_at, table_of, free_of, free_count}
use Rattle.decoded.specs.Values.{values_of}
use Rattle.decoded.proofs.Listed.{listed_all_at}
use Rattle.decoded_list.specs.Decoded.{Decoded}
use Rattle.decoded_list.proofs.Once.{decoded_body}
use Rattle.value_table.proofs.Reading.{part_table}
use Rattle.visible.specs.Seen.{Seen}
use Rattle.visible.proofs.WalkLaws.{seen_part}
use Rattle.free_symbols.specs.Free.{Lists}
use Rattle.starting.specs.Fourteen.{start_fits, starts, wrong_number, lacks, StartsChecked, StartSeen}
use Rattle.std.proofs.Common.{Ok, Err}

-- ── One starting value ──

-- a checked trace has a whole header
pub header_whole : (tr : List ℕ) → least (trace_rungs tr) ≡ Ok tt → 10 ≤ length tr
header_whole tr e = let l = ((trace_passes tr).0 e).framed.whole_length in omega arith

pub seen_short : (l tr : List ℕ) (x i : ℕ) (r : Bool) → length tr < 10 → StartSeen l tr x i r
seen_short l tr x i r h = record { seen = λ e d g. absurd (omega (arith, header_whole tr e)) }

-- the part of the trace from its values on is what the test reads; the type of symbol x stands in the list after its length byte
pub seen_there : (l tr : List ℕ) (x i at n v m : ℕ) (r : Bool) → Bytes l → Seen l at (take m (drop 10 tr)) n v r → length tr ≤ 10 + m → at ≡ type_at l x + 1 → n ≡ values tr → v ≡ starting tr i
    → StartSeen l tr x i r
seen_there l tr x i at n v m r z s k p a b = record {
  seen = λ e d h.
      let w : take m (drop 10 tr) ≡ drop 10 tr = take_all m (drop 10 tr) (rw length-drop (omega arith)) in
      let y : Seen l (type_at l x + 1) (drop 10 tr) (values tr) (starting tr i) r = rw (w, p, a, b) at s in
      rw (part_table tr) at (seen_part y (byte l (type_at l x)) (omega (arith, z (type_at l x))) (types_of signature1 d.types x) (decoded_body l d x h));
}

-- ── All of them ──

-- one by one
pub starts_from : (Γ : ℕ → Ty signature1.types) (es : List (Entry signature1 Atom)) (xs is : List ℕ) → length is ≡ length xs
    → ((j : ℕ) → j < length xs → visible signature1 (index signature1 es) (Γ (get_or xs j 0)) (get_or is j 0) ≡ true) → Starts signature1 Γ es xs is
starts_from Γ es [] [] n h = starts_nil
starts_from Γ es [] (i ∷ is) n h = absurd (omega arith)
starts_from Γ es (x ∷ xs) [] n h = absurd (omega arith)
starts_from Γ es (x ∷ xs) (i ∷ is) n h = starts_cons (h 0 (omega arith)) (starts_from Γ es xs is (omega arith) (λ j l. h (suc j) (omega arith)))

-- free symbols are symbols of the table
pub free_below : (t : List ℕ) (i : ℕ) → i < free_count t → get_or (free_of t) i 0 < TableLayout.symbols t
free_below t i h =
    let b : get_or (free_of t) i 0 < 0 + length (table_of t).sorts = all_at (missing_below 0 (table_of t).sorts (bound signature1 (table_of t).steps)) i h 0 in
    omega (arith, listed_length (sort_at t) 0 (TableLayout.symbols t))

-- the first i starting values have their types
pub record SoFar (t l tr : List ℕ) (i : ℕ) : Type 0 where
  pub fit : least (table_rungs t) ≡ Ok tt → least (trace_rungs tr) ≡ Ok tt → (d : Decoded l) → symbols l ≡ TableLayout.symbols t
      → (j : ℕ) → j < i → start_fits d.types tr (get_or (free_of t) j 0) j ≡ true

pub none_yet : (t l tr : List ℕ) → SoFar t l tr 0
none_yet t l tr = record { fit = λ e f d q j h. absurd (omega arith) }

-- the array begins with the free symbols
abbrev pub FreeIn : List ℕ → List ℕ → ℕ → Type 0
FreeIn t array n = least (table_rungs t) ≡ Ok tt → Lists (free_of t) array n

module _ (t l tr array : List ℕ) (n : ℕ) (f : FreeIn t array n) where
  -- the numbers differ
  pub wrong_starts : ¬ (startings tr ≡ n) → (r : Check) → r ≡ Err (refusal 14 2 (min (startings tr) n)) → StartsChecked t l tr r
  wrong_starts h r q = record { checked = λ e free g k d m. let c = (f e).count in rw (q, c) (wrong_number (λ y. h (y ∙ sym c))) }

  module _ (same : startings tr ≡ n) (i : ℕ) (p : SoFar t l tr i) where
    -- all have their types
    pub all_start : startings tr ≤ i → StartsChecked t l tr (Ok tt)
    all_start h = record {
      checked = λ e free g k d m.
          let c = (f e).count in
          starts (same ∙ c) (starts_from (types_of signature1 d.types) (values_of tr) (free_of t) (listed (starting tr) 0 (startings tr)) (listed_length (starting tr) 0 (startings tr) ∙ same ∙ c) λ j y.
          rw (listed_all_at (starting tr) 0 (startings tr) j (omega arith)) (p.fit e k d m j (omega arith)));
    }

    module _ (x : ℕ) (y : x ≡ get_or array i 0) (b : Bool) (s : StartSeen l tr x i b) (h : i < startings tr) where
      -- what is tested
      tested : least (table_rungs t) ≡ Ok tt → least (trace_rungs tr) ≡ Ok tt → (d : Decoded l) → symbols l ≡ TableLayout.symbols t → start_fits d.types tr (get_or (free_of t) i 0) i ≡ b
      tested e k d m =
          let z : x ≡ get_or (free_of t) i 0 = y ∙ (f e).at i (omega arith) in
          let c = (f e).count in
          let u : StartSeen l tr (get_or (free_of t) i 0) i b = rw z at s in
          sym (u.seen k d (omega (arith, free_below t i (omega arith))))

      -- it has its type
      pub one_more : b ≡ true → SoFar t l tr (i + 1)
      one_more g = record { fit = λ e k d m j w. go e k d m j (eq-or-lt_of_le (let v : j ≤ i = omega arith in v)) }
        where
          go : least (table_rungs t) ≡ Ok tt → least (trace_rungs tr) ≡ Ok tt → (d : Decoded l) → symbols l ≡ TableLayout.symbols t → (j : ℕ) → (j ≡ i) ⊎ (j < i) → start_fits d.types tr (get_or (free_of t) j 0) j ≡ true
          go e k d m j (inl v) = rw v (tested e k d m ∙ g)
          go e k d m j (inr v) = p.fit e k d m j v

      -- it lacks its type
      pub one_lacks : b ≡ false → (r : Check) → r ≡ Err (refusal 14 2 i) → StartsChecked t l tr r
      one_lacks g r q = record { checked = λ e free z k d m. rw q (lacks (same ∙ (f e).count) h (tested e k d m ∙ g) (p.fit e k d m)) }
