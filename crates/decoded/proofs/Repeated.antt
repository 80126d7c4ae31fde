-- Number 6 is about terms and values: a table, or a trace, gets 6 with place i exactly if it passes 1 to 5 and i is the first index whose term,
-- or value, equals that of an earlier one. Assumes nothing.
use mathlib.Core.Path.{◌≡◌, refl, sym, ap, ◌∙◌}
use mathlib.Core.Bool.{Bool, true, false}
use mathlib.Core.Logic.{◌↔◌}
use mathlib.Core.List.{List, [], ◌∷◌, ◌++◌}
use Prim.Native.Nat.{ℕ, ◌<◌}
use native.Mathlib.Omega.{arith}
use lib.ListN.{length}
use Rattle.base.proofs.BothLaws.{clash}
use Rattle.answers.specs.Ladder.{Rung, refusal, least}
use Rattle.answers.specs.declared.Refusal.{Refusal}
use Rattle.answers.proofs.Refused.{FirstBroken, refused_at, at_refused}
use Rattle.entries.specs.Fields.{code, field, same_entry}
use Rattle.entries.specs.Faults.{node_ok, alone, twin_rung}
use Rattle.entries.proofs.Unlike.{parts_same, same_parts_lem, alone_apart, apart_alone, twin_there}
use Rattle.opening.specs.Opening.{version}
use Rattle.table_layout.specs.Layout.{terms, terms_at, term_field}
use Rattle.table_layout.specs.Faults.{frame_rungs, entry_rungs}
use Rattle.table_naming.specs.Naming.{idle_rung}
use Rattle.table_binding.specs.Binding.{bind_rungs}
use Rattle.table.specs.Faults.{table_rungs}
use Rattle.trace.specs.Layout.{values}
use Rattle.trace.specs.Faults.{equal_rung, trace_rungs, frame_rungs as trace_frame, entry_rungs as trace_entries}
use Rattle.trace.proofs.Passed.{entries_passed as trace_entered}
use Rattle.calculus.specs.Tables.{Entry, entry_at, Closed}
use Rattle.calculus.specs.Repeats.{FirstWith, EntryRepeated, TreeRepeated}
use Rattle.calculus.specs.Version1.{signature1}
use Rattle.calculus.proofs.RepeatLaws.{first_entry_first_tree}
use Rattle.decoded.specs.Entries.{term_code}
use Rattle.decoded.specs.Table.{term_at, table_of}
use Rattle.decoded.specs.Values.{value_at, values_of, value_numbers}
use Rattle.decoded.proofs.Passed.{Entered, entered}
use Rattle.decoded.proofs.Shapes.{three_same, term_same}
use Rattle.decoded.proofs.Holding.{entry_at_lem, entries_length, table_closed}
use Rattle.decoded.proofs.ValueLaws.{no_atom, value_at_lem, values_length, value_numbers_lem, values_closed}
use Rattle.std.proofs.Common.{Ok, Err}

-- ── Entries of either kind ──

module _ {L : Type 0} (z : L) (es : List (Entry signature1 L)) (s : List ℕ) (kind file base n : ℕ) where
  -- the bytes of two of the n entries are the same exactly if the entries are
  abbrev Told : Type 0
  Told = (i j : ℕ) → i < n → j < n → (same_entry s kind base i j ≡ true) ↔ (entry_at signature1 z es i ≡ entry_at signature1 z es j)

  -- the refusal at index i
  abbrev six : ℕ → Refusal
  six i = refusal 6 file i

  -- the first that number 6 finds is the first equal to an earlier one
  broken_first : Told → (i : ℕ) → FirstBroken (twin_rung s kind file base n) (six i) → (i < n) × FirstWith (EntryRepeated signature1 z es) i
  broken_first f i b = at b.thing (ap (λ (x : Refusal). x.place) b.named) b.among b.broken b.right_before
    where
      at : (k : ℕ) → i ≡ k → k < n → alone s kind base k ≡ false → ((j : ℕ) → j < k → alone s kind base j ≡ true) → (i < n) × FirstWith (EntryRepeated signature1 z es) i
      at k q h e r =
          let l : i < n = rw q h in
          let (j, u, d) = twin_there s kind base i (rw q e) in (
            l,
            record {
              has = (j, u, (f i j l (omega arith)).0 d);
              none_lower = λ m v (j, w, c). clash ((f m j (omega arith) (omega arith)).1 c) (alone_apart s kind base m j (r m (omega arith)) w);
            },
          )

  first_broken : Told → (i : ℕ) → i < n → FirstWith (EntryRepeated signature1 z es) i → FirstBroken (twin_rung s kind file base n) (six i)
  first_broken f i h w =
      record {
        thing = i;
        among = h;
        broken = not_alone (alone s kind base i) refl;
        right_before = λ k u. apart_alone s kind base k λ j l e. w.none_lower k u (j, l, (f k j (omega arith) (omega arith)).0 e);
        named = refl;
      }
    where
      not_alone : (b : Bool) → alone s kind base i ≡ b → alone s kind base i ≡ false
      not_alone false e = e
      not_alone true e = let (j, l, q) = w.has in clash ((f i j h (omega arith)).1 q) (alone_apart s kind base i j e l)

  -- and so the first whose term, or value, equals that of an earlier one
  six_means : Told → Closed signature1 z es → length es ≡ n → (i : ℕ) → FirstBroken (twin_rung s kind file base n) (six i) ↔ ((i < n) × FirstWith (TreeRepeated signature1 z es) i)
  six_means f low q i = (λ b. to (broken_first f i b), λ (h, w). first_broken f i h ((first_entry_first_tree signature1 z es low i (rw q h)).1 w))
    where
      to : (i < n) × FirstWith (EntryRepeated signature1 z es) i → (i < n) × FirstWith (TreeRepeated signature1 z es) i
      to (h, w) = (h, (first_entry_first_tree signature1 z es low i (rw q h)).0 w)

-- ── Terms ──

terms_told : (s : List ℕ) → Entered s → Told 0 (table_of s).entries s 0 0 (terms_at s) (terms s)
terms_told s n i j h l = (
  λ e. entry_at_lem s i h ∙ as_bytes (same_parts_lem s 0 (terms_at s) i j e) ∙ sym (entry_at_lem s j l),
  λ q. (let (a, b, c) = term_same s n i j h l (sym (entry_at_lem s i h) ∙ q ∙ entry_at_lem s j l) in parts_same s 0 (terms_at s) i j a b c),
)
  where
    as_bytes : (term_code s i ≡ term_code s j) × (term_field s i 0 ≡ term_field s j 0) × (term_field s i 1 ≡ term_field s j 1) → term_at s i ≡ term_at s j
    as_bytes (a, b, c) = unfold term_at in rw (a, b, c)

-- 6 with place i: 1 to 5 pass, and term i is the first that equals an earlier one
pub six_means_term : (s : List ℕ) (i : ℕ) → (least (table_rungs s) ≡ Err (refusal 6 0 i))
    ↔ ((least (frame_rungs s ++ entry_rungs s) ≡ Ok tt) × (i < terms s) × FirstWith (TreeRepeated signature1 0 (table_of s).entries) i)
six_means_term s i = (λ e. to (refused_at before twin after (refusal 6 0 i) tt refl e), λ (p, h, w). from p h w)
  where
    before : List Rung
    before = frame_rungs s ++ entry_rungs s

    twin : Rung
    twin = twin_rung s 0 0 (terms_at s) (terms s)

    after : List Rung
    after = idle_rung s ∷ bind_rungs s

    means : least before ≡ Ok tt → FirstBroken twin (refusal 6 0 i) ↔ ((i < terms s) × FirstWith (TreeRepeated signature1 0 (table_of s).entries) i)
    means p = let n = entered s p in six_means 0 (table_of s).entries s 0 0 (terms_at s) (terms s) (terms_told s n) (table_closed s n) (entries_length s) i

    to : (least before ≡ Ok tt) × FirstBroken twin (refusal 6 0 i) → (least before ≡ Ok tt) × (i < terms s) × FirstWith (TreeRepeated signature1 0 (table_of s).entries) i
    to (p, b) = let (h, w) = (means p).0 b in (p, h, w)

    from : least before ≡ Ok tt → i < terms s → FirstWith (TreeRepeated signature1 0 (table_of s).entries) i → least (table_rungs s) ≡ Err (refusal 6 0 i)
    from p h w = at_refused before twin after (refusal 6 0 i) p ((means p).1 (h, w))

-- ── Values ──

values_told : (s : List ℕ) → ((i : ℕ) → i < values s → node_ok s 3 (version s) 10 0 i ≡ true) → Told no_atom (values_of s) s 3 2 10 (values s)
values_told s right i j h l = (
  λ e. value_at_lem s i h ∙ as_numbers (same_parts_lem s 3 10 i j e) ∙ sym (value_at_lem s j l),
  λ q. told (sym (value_at_lem s i h) ∙ q ∙ value_at_lem s j l),
)
  where
    as_numbers : (code s 3 10 i ≡ code s 3 10 j) × (field s 3 10 i 0 ≡ field s 3 10 j 0) × (field s 3 10 i 1 ≡ field s 3 10 j 1) → value_at s i ≡ value_at s j
    as_numbers (a, b, c) = unfold value_at in rw (a, b, c)

    told : value_at s i ≡ value_at s j → same_entry s 3 10 i j ≡ true
    told e =
        let (a, b, c) = three_same (sym (value_numbers_lem s (version s) right j l) ∙ sym (ap value_numbers e) ∙ value_numbers_lem s (version s) right i h) in
        parts_same s 3 10 i j a b c

-- 6 with place i: 1 to 5 pass, and value i is the first that equals an earlier one
pub six_means_value : (s : List ℕ) (i : ℕ) → (least (trace_rungs s) ≡ Err (refusal 6 2 i))
    ↔ ((least (trace_frame s ++ trace_entries s) ≡ Ok tt) × (i < values s) × FirstWith (TreeRepeated signature1 no_atom (values_of s)) i)
six_means_value s i = (λ e. to (refused_at before (equal_rung s) [] (refusal 6 2 i) tt refl e), λ (p, h, w). from p h w)
  where
    before : List Rung
    before = trace_frame s ++ trace_entries s

    means : least before ≡ Ok tt → FirstBroken (equal_rung s) (refusal 6 2 i) ↔ ((i < values s) × FirstWith (TreeRepeated signature1 no_atom (values_of s)) i)
    means p =
        let right = (trace_entered s [] p).0.each_right in
        six_means no_atom (values_of s) s 3 2 10 (values s) (values_told s right) (values_closed s (version s) right) (values_length s) i

    to : (least before ≡ Ok tt) × FirstBroken (equal_rung s) (refusal 6 2 i) → (least before ≡ Ok tt) × (i < values s) × FirstWith (TreeRepeated signature1 no_atom (values_of s)) i
    to (p, b) = let (h, w) = (means p).0 b in (p, h, w)

    from : least before ≡ Ok tt → i < values s → FirstWith (TreeRepeated signature1 no_atom (values_of s)) i → least (trace_rungs s) ≡ Err (refusal 6 2 i)
    from p h w = at_refused before (equal_rung s) [] (refusal 6 2 i) p ((means p).1 (h, w))
