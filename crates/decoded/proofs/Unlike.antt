-- After 6 no term is repeated, so equal terms have equal indexes: decoding of terms is injective. Assumes that 1 to 9 pass.
use mathlib.Core.Path.{◌≡◌, sym, ◌∙◌}
use mathlib.Core.List.{List}
use Prim.Native.Nat.{ℕ, ◌<◌}
use Rattle.answers.specs.Ladder.{least}
use Rattle.entries.proofs.Unlike.{entries_unlike}
use Rattle.table_layout.specs.Layout.{terms, terms_at}
use Rattle.table.specs.Faults.{table_rungs}
use Rattle.calculus.specs.Tables.{Unrepeated}
use Rattle.calculus.specs.Version1.{signature1}
use Rattle.calculus.proofs.TableLaws.{equal_trees_equal_indexes}
use Rattle.decoded.specs.Table.{table_of}
use Rattle.decoded.proofs.Passed.{table_passed}
use Rattle.decoded.proofs.Shapes.{term_same}
use Rattle.decoded.proofs.Holding.{term_of, entry_at_lem, entries_length, table_closed}
use Rattle.std.proofs.Common.{Ok}

-- no entry of the table equals an earlier one
pub terms_unrepeated : (s : List ℕ) → least (table_rungs s) ≡ Ok tt → Unrepeated signature1 0 (table_of s).entries
terms_unrepeated s e i j h l q =
    let p = table_passed s e in
    let n = p.entered in
    let a : i < terms s = rw (entries_length s) at h in
    let b : j < terms s = rw (entries_length s) at l in
    let (c, f, g) = term_same s n i j a b (sym (entry_at_lem s i a) ∙ q ∙ entry_at_lem s j b) in
    entries_unlike s 0 (terms_at s) (terms s) p.each_alone i j a b c f g

-- equal terms have equal indexes
pub equal_terms_equal_indexes : (s : List ℕ) → least (table_rungs s) ≡ Ok tt → (i j : ℕ) → i < terms s → j < terms s
    → term_of s i ≡ term_of s j → i ≡ j
equal_terms_equal_indexes s e i j h l q =
    let n = (table_passed s e).entered in
    equal_trees_equal_indexes signature1 0 (table_of s).entries (table_closed s n) (terms_unrepeated s e) i j (rw (entries_length s) h) (rw (entries_length s) l) q
