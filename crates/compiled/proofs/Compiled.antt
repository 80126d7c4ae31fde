-- The list that compiling gives is in form: so its file passes 1 to 5, and what is read of it is the translation and the types.
-- Assumes that the table passes 1 to 9, and that there is a type of at most 255 bytes for each symbol.
use mathlib.Core.Path.{◌≡◌}
use mathlib.Core.List.{List}
use Prim.Native.Nat.{ℕ, ◌<◌, ◌≤◌}
use native.Mathlib.Omega.{arith}
use lib.ListN.{length, get_or, length-map}
use Rattle.answers.specs.Ladder.{least}
use Rattle.entries.proofs.Tiling.{listed_length}
use Rattle.table_layout.specs.Layout.{symbols}
use Rattle.table.specs.Faults.{table_rungs}
use Rattle.list.specs.Faults.{list_rungs}
use Rattle.list.specs.TypeOf.{type_bytes}
use Rattle.types.specs.Types.{Message}
use Rattle.types.specs.Version1.{T, bytes}
use Rattle.calculus.specs.Terms.{leaf, Term, bound}
use Rattle.calculus.specs.Tables.{denoted, process, free}
use Rattle.calculus.specs.Scope.{All}
use Rattle.calculus.specs.Version1.{signature1}
use Rattle.calculus.proofs.TableLaws.{bound_map}
use Rattle.rendering.specs.Rendering.{halves}
use Rattle.rendering.specs.Translation.{translation}
use Rattle.rendering.proofs.Version1Laws.{translation_is_faithful1, translation_fits1}
use Rattle.decoded.specs.Table.{sort_at, step_at, table_of, free_count}
use Rattle.decoded.proofs.Checked.{table_checked}
use Rattle.decoded.proofs.Holding.{entries_length}
use Rattle.decoded_list.specs.Bytes.{list_bytes}
use Rattle.decoded_list.specs.Statements.{statements_of}
use Rattle.decoded_list.specs.Form.{StatementsFit, InForm}
use Rattle.decoded_list.proofs.Passing.{file_passes, file_statements, file_type}
use Rattle.decoded.proofs.Tabled.{counts_small}
use Rattle.statement_counts.proofs.Ranged.{in_range}
use Rattle.compiled.specs.Compiled.{compiled}
use Rattle.compiled.proofs.Rendered.{Nameable, dues_fit, follows_fit}
use Rattle.std.proofs.Common.{Ok}

module _ (s : List ℕ) (e : least (table_rungs s) ≡ Ok tt) where
  -- N is at most 256, and each register that is named is below 256
  sizes : (length (translation signature1 halves (table_of s)) ≤ 256) × All Nameable (translation signature1 halves (table_of s))
  sizes =
      let k = counts_small s e in
      let f = translation_fits1 halves (table_of s) (table_checked s e) (in_range s e) (rw (listed_length (sort_at s)) k.0) (rw (entries_length s) k.1) (rw (listed_length (step_at s)) k.2) in
      (f.0, f.2)

  -- the statements name registers that are given, and symbols of the table
  pub translation_fits : StatementsFit (symbols s) (free_count s) (translation signature1 halves (table_of s))
  translation_fits =
      let t = table_of s in
      let (ns, r) = translation_is_faithful1 halves t (table_checked s e) (in_range s e) in
      let b : All (λ x. x < symbols s) (bound signature1 (process signature1 t)) = rw (bound_map signature1 (denoted signature1 0 t.entries) t.steps) (rw (listed_length (sort_at s)) at (in_range s e).binders) in
      rw (length-map {B = Term signature1} (free signature1 t) leaf) at (follows_fit (symbols s) r (dues_fit (symbols s) 0 (process signature1 t) b) sizes.1)

  module _ (As : List T) (n : length As ≡ symbols s) (h : All (λ A. length (bytes A) ≤ 255) As) where
    -- the list is in form
    pub translation_in_form : InForm (compiled s As) (free_count s)
    translation_in_form = record {
      few_types = rw n (counts_small s e).0;
      few_statements = omega (arith, sizes.0);
      short_types = h;
      statements_fit = rw n translation_fits;
    }

    -- its file passes 1 to 5
    pub compiled_passes : least (list_rungs (list_bytes (compiled s As)) (free_count s)) ≡ Ok tt
    compiled_passes = file_passes (compiled s As) (free_count s) translation_in_form

    -- and what is read of it is the translation, and the types
    pub compiled_statements : statements_of (list_bytes (compiled s As)) ≡ translation signature1 halves (table_of s)
    compiled_statements = file_statements (compiled s As) (free_count s) translation_in_form

    pub compiled_type : (x : ℕ) → x < symbols s → type_bytes (list_bytes (compiled s As)) x ≡ bytes (get_or As x Message)
    compiled_type x l = file_type (compiled s As) (free_count s) translation_in_form x (rw n l)
