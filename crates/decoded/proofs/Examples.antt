-- E1's bytes and those of a table with every code pass 1 to 9, and stand for the tables that document 01 says; so the laws here say
-- something of them. All is computed. Assumes nothing.
use mathlib.Core.Path.{◌≡◌, refl}
use mathlib.Core.List.{List, [], ◌∷◌}
use Prim.Native.Nat.{ℕ}
use Rattle.base.specs.Bytes.{byte, word}
use Rattle.base.specs.Search.{walk, first, some}
use Rattle.codes.specs.Marks.{mark, header}
use Rattle.codes.specs.Rows.{rows, cell, fields, field_bytes, width, known, atom_kinds}
use Rattle.answers.specs.Ladder.{answered, least}
use Rattle.entries.specs.Fields.{number, place_of, code, field, role, field_ok, fields_ok, entry_ok, same_entry}
use Rattle.entries.specs.Faults.{node_ok, alone}
use Rattle.opening.specs.Opening.{marked}
use Rattle.table_layout.specs.Layout.{counts_ok, length_ok, symbol_ok, sort_ok, step_in_range, step_ok}
use Rattle.table_naming.specs.Naming.{part_at, has_part, use_at, uses_term, named}
use Rattle.table_binding.specs.Binding.{is_binder, binds, binder, again, twice, binds_new, field_latest, latest, field_in_scope, in_scope}
use Rattle.table.specs.Faults.{table_rungs}
use Rattle.calculus.specs.Signature.{pairing, seal}
use Rattle.calculus.specs.Terms.{build2, send, receive, fresh, compare, split, decrypt}
use Rattle.calculus.specs.Tables.{is_name, is_variable, leaf_entry, kind_entry, Table}
use Rattle.calculus.specs.Version1.{encryption, signature1}
use Rattle.calculus.specs.ExampleTables.{E1}
use Rattle.entries.specs.Tiling.{listed}
use Rattle.decoded.specs.Table.{sort_of, entry_of, act_of, sort_at, term_at, step_at, table_of}
use Rattle.std.proofs.Common.{Ok}

-- E1: c(x), decrypt x with k as y, send y on c; header, symbols, terms, steps
abbrev pub e1_bytes : List ℕ
e1_bytes =
    0x53 ∷ 0x50 ∷ 0x54 ∷ 0 ∷ 1 ∷ 4 ∷ 4 ∷ 3 ∷
    0 ∷ 0 ∷ 1 ∷ 1 ∷
    0 ∷ 0 ∷ 0 ∷ 0 ∷ 1 ∷ 0 ∷ 0 ∷ 2 ∷ 0 ∷ 0 ∷ 3 ∷ 0 ∷
    1 ∷ 0 ∷ 0 ∷ 2 ∷ 0 ∷ 5 ∷ 2 ∷ 1 ∷ 3 ∷ 0 ∷ 0 ∷ 0 ∷ 3 ∷ 0 ∷ 0 ∷ []

-- restriction of n, input of x on c, x split as a and b, b decrypted with n as y, a matched with (y, n), and that encrypted under n
-- sent on c; symbols c n x a b y
abbrev pub every_code_bytes : List ℕ
every_code_bytes =
    0x53 ∷ 0x50 ∷ 0x54 ∷ 0 ∷ 1 ∷ 6 ∷ 8 ∷ 6 ∷
    0 ∷ 0 ∷ 1 ∷ 1 ∷ 1 ∷ 1 ∷
    0 ∷ 0 ∷ 0 ∷ 0 ∷ 1 ∷ 0 ∷ 0 ∷ 2 ∷ 0 ∷ 0 ∷ 3 ∷ 0 ∷ 0 ∷ 4 ∷ 0 ∷ 0 ∷ 5 ∷ 0 ∷ 1 ∷ 5 ∷ 1 ∷ 2 ∷ 6 ∷ 1 ∷
    2 ∷ 0 ∷ 0 ∷ 1 ∷ 0 ∷ 1 ∷ 0 ∷ 0 ∷ 2 ∷ 0 ∷ 4 ∷ 2 ∷ 0 ∷ 3 ∷ 4 ∷ 5 ∷ 4 ∷ 1 ∷ 5 ∷ 0 ∷ 3 ∷ 3 ∷ 6 ∷ 0 ∷ 0 ∷ 0 ∷ 0 ∷ 7 ∷ 0 ∷ 0 ∷ []

abbrev pub every_code_table : Table signature1
every_code_table =
    record {
      sorts = is_name ∷ is_name ∷ is_variable ∷ is_variable ∷ is_variable ∷ is_variable ∷ [];
      entries =
          leaf_entry 0 ∷ leaf_entry 1 ∷ leaf_entry 2 ∷ leaf_entry 3 ∷ leaf_entry 4 ∷ leaf_entry 5 ∷ kind_entry (build2 pairing 5 1) ∷
          kind_entry (build2 (seal encryption) 6 1) ∷ [];
      steps = fresh 1 ∷ receive 0 2 ∷ split 2 3 4 ∷ decrypt encryption 4 1 5 ∷ compare 3 6 ∷ send 0 7 ∷ [];
    }

pub e1_passes : least (table_rungs e1_bytes) ≡ Ok tt
unfolding byte word walk first some mark header rows cell fields field_bytes width known atom_kinds answered least number place_of code field role field_ok fields_ok entry_ok same_entry node_ok alone marked counts_ok length_ok symbol_ok sort_ok step_in_range step_ok part_at has_part use_at uses_term named is_binder binds binder again twice binds_new field_latest latest field_in_scope in_scope
e1_passes = refl

pub every_code_passes : least (table_rungs every_code_bytes) ≡ Ok tt
unfolding byte word walk first some mark header rows cell fields field_bytes width known atom_kinds answered least number place_of code field role field_ok fields_ok entry_ok same_entry node_ok alone marked counts_ok length_ok symbol_ok sort_ok step_in_range step_ok part_at has_part use_at uses_term named is_binder binds binder again twice binds_new field_latest latest field_in_scope in_scope
every_code_passes = refl

pub e1_decoded : table_of e1_bytes ≡ E1
unfolding byte field_bytes width number place_of code field listed sort_of entry_of act_of sort_at term_at step_at
e1_decoded = refl

pub every_code_decoded : table_of every_code_bytes ≡ every_code_table
unfolding byte field_bytes width number place_of code field listed sort_of entry_of act_of sort_at term_at step_at
every_code_decoded = refl
