-- What texts are read as, computed: E1, a brace with three plaintexts, each sort of refusal with number 16; and what the writer makes of E1's table.
-- Assumes nothing.
use mathlib.Core.Path.{◌≡◌, refl}
use mathlib.Core.Bool.{decide}
use mathlib.Core.List.{List, [], ◌∷◌, ◌++◌}
use Prim.Native.Nat.{ℕ, zero, suc}
use native.Mathlib.Decide.{ℕ_discrete}
use lib.ListN.{length}
use Rattle.calculus.specs.Terms.{map_build, built, map_act, binders, bound, send, receive, fresh, decrypt}
use Rattle.calculus.specs.Tables.{is_in, entry_tree, trees_from, missing, is_name, is_variable, leaf_entry, Table}
use Rattle.calculus.specs.Version1.{signature1, encryption}
use Rattle.calculus.specs.ExampleTables.{E1}
use Rattle.text.specs.Ascii.{ascii}
use Rattle.text.specs.Grammar.{piece_bytes, bytes, term_then, step_then, steps_then, rest_then, line_then, pieces, text_of}
use Rattle.text.specs.Places.{occurrences_from, occurrences, counted, same_name, givings, first_wrong, wrong_name, or_else}
use Rattle.text.specs.Numbering.{is_named, with_name, names_from, symbols_of, number_of, restricted, sort_in, pair_entry, cipher_entry, index_of, completed, joined, place_term, place_two, place_one, place_step, placed_entries, placed_steps, stands_for}
use Rattle.text.specs.Writing.{decimal, symbol_name, no_term, written_term, written_step, is_name_sort, names_among, variables_among, source_of, name_length, entry_length, lengths_from, step_length, steps_length, behind_length, line_length, text_length}
use Rattle.text.specs.Reader.{and_then, expect, expect_for, name_bytes, read_name, read_named, pair_by, sealed_by, also_by, read_term, read_outermost, read_two, read_input, read_restriction, read_splitting, read_decryption, read_word, read_step, read_steps, read_rest, read_line, read_text, Outcome, reads, refused16, whole, outcome, answer_of}

-- the table of a text, or the place of number 16
pub data Shown : Type 0 where
  table : Table signature1 → Shown
  place : ℕ → Shown

unfoldable pub shown : Outcome → Shown
shown (reads d) = table (stands_for d)
shown (refused16 p) = place p

-- `c k`, an empty line, `in c x`, `decrypt x k y`, `out c y`: document 01's E1
abbrev e1_text : List ℕ
e1_text = ascii "c k\n\nin c x\ndecrypt x k y\nout c y\n"

-- `c k`, an empty line, `new n`, `out c {n, c, (n, n)}k`: a brace with three plaintexts
abbrev three_text : List ℕ
three_text = ascii "c k\n\nnew n\nout c {n, c, (n, n)}k\n"

-- the same with the plaintexts as one pair: `out c {(n, (c, (n, n)))}k`
abbrev pair_text : List ℕ
pair_text = ascii "c k\n\nnew n\nout c {(n, (c, (n, n)))}k\n"

-- `c c` on line 1
abbrev listed_twice : List ℕ
listed_twice = ascii "c c\n\nin c x\n"

-- `out c m`, where nothing lists or binds m
abbrev unknown_name : List ℕ
unknown_name = ascii "c\n\nout c m\n"

-- `in c c`: the first place where c stands is on line 1
abbrev bound_and_listed : List ℕ
bound_and_listed = ascii "c\n\nin c c\n"

-- `out c x`, then `in c x`: x is bound once, so this is not number 16
abbrev used_early : List ℕ
used_early = ascii "c\n\nout c x\nin c x\n"

-- a space too many at offset 9
abbrev two_spaces : List ℕ
two_spaces = ascii "c\n\nout c  c\n"

-- a name of 17 bytes: its last byte is at offset 16
abbrev long_name : List ℕ
long_name = ascii "abcdefghijklmnopq\n\n"

-- the last line feed is missing: the text ends too early, and x does not count
abbrev short_text : List ℕ
short_text = ascii "c\n\nin c x"

-- `X`, a byte that no name has, behind a name that nothing gives, at offset 7
abbrev wrong_before : List ℕ
wrong_before = ascii "c\n\nout m X\n"

-- `out c m` and a comma: m does not count, since no byte behind it stands before the comma
abbrev not_behind : List ℕ
not_behind = ascii "c\n\nout c m,\n"

-- two empty lines: document 01's E2
abbrev e2_text : List ℕ
e2_text = ascii "\n\n"

-- some bytes, n times
unfoldable pub times : ℕ → List ℕ → List ℕ
times zero w = []
times (suc n) w = w ++ times n w

-- `c`, an empty line, `out c` and a space
abbrev sending : List ℕ
sending = ascii "c\n\nout c "

-- `out c ((..(c, c), c).., c)` with n brackets: the innermost term is at level n + 1
unfoldable pub bracketed : ℕ → List ℕ
bracketed n = sending ++ (times n (ascii "(") ++ (ascii "c" ++ (times n (ascii ", c)") ++ ascii "\n")))

-- `out c {c, c, .., c}c` with n + 1 plaintexts: the last one is at level n + 2
unfoldable pub braced : ℕ → List ℕ
braced n = sending ++ (ascii "{c" ++ (times n (ascii ", c") ++ ascii "}c\n"))

-- how many terms a table has
unfoldable pub terms_shown : Shown → ℕ
terms_shown (table t) = length t.entries
terms_shown (place p) = 0

-- E1's table with its terms in the order in which they are completed: c, x, k, y
abbrev e1_read : Table signature1
e1_read = record {
  sorts = is_name ∷ is_name ∷ is_variable ∷ is_variable ∷ [];
  entries = leaf_entry 0 ∷ leaf_entry 2 ∷ leaf_entry 1 ∷ leaf_entry 3 ∷ [];
  steps = receive 0 2 ∷ decrypt encryption 1 2 3 ∷ send 0 3 ∷ [];
}

-- c, n, (n, n), (c, (n, n)), (n, (c, (n, n))), k, and the ciphertext
abbrev three_read : Table signature1
three_read = record {
  sorts = is_name ∷ is_name ∷ is_name ∷ [];
  entries = leaf_entry 0 ∷ leaf_entry 2 ∷ pair_entry 1 1 ∷ pair_entry 0 2 ∷ pair_entry 1 3 ∷ leaf_entry 1 ∷ cipher_entry 4 5 ∷ [];
  steps = fresh 2 ∷ send 0 6 ∷ [];
}

-- x is sent before it is received: the table's number 9
abbrev early_read : Table signature1
early_read = record {
  sorts = is_name ∷ is_variable ∷ [];
  entries = leaf_entry 0 ∷ leaf_entry 1 ∷ [];
  steps = send 0 1 ∷ receive 0 1 ∷ [];
}

-- E1 as the writer writes it: `s0 s1`, an empty line, `in s0 s2`, `decrypt s2 s1 s3`, `out s0 s3`
abbrev e1_written : List ℕ
e1_written = ascii "s0 s1\n\nin s0 s2\ndecrypt s2 s1 s3\nout s0 s3\n"

pub record Examples : Type 0 where
  pub e1 : shown (answer_of e1_text) ≡ table e1_read
  pub three : shown (answer_of three_text) ≡ table three_read
  pub three_as_pairs : shown (answer_of pair_text) ≡ table three_read
  pub early : shown (answer_of used_early) ≡ table early_read
  pub twice : shown (answer_of listed_twice) ≡ place 0
  pub unknown : shown (answer_of unknown_name) ≡ place 9
  pub bound_listed : shown (answer_of bound_and_listed) ≡ place 0
  pub spaces : shown (answer_of two_spaces) ≡ place 9
  pub seventeen : shown (answer_of long_name) ≡ place 16
  pub ends_early : shown (answer_of short_text) ≡ place 9
  pub upper : shown (answer_of wrong_before) ≡ place 7
  pub before_comma : shown (answer_of not_behind) ≡ place 10
  pub empty : shown (answer_of e2_text) ≡ table (record { sorts = []; entries = []; steps = [] })
  pub nothing : shown (answer_of []) ≡ place 0
  pub level_128 : terms_shown (shown (answer_of (bracketed 127))) ≡ 128
  pub level_129 : shown (answer_of (bracketed 128)) ≡ place 136
  pub plaintexts_127 : terms_shown (shown (answer_of (braced 126))) ≡ 128
  pub plaintexts_128 : shown (answer_of (braced 127)) ≡ place 389
  pub written : text_of (source_of E1) ≡ e1_written
  pub written_length : text_length E1 ≡ length e1_written

pub examples : Examples
unfolding ℕ_discrete decide map_build built map_act binders bound is_in entry_tree trees_from missing piece_bytes bytes term_then step_then steps_then rest_then line_then pieces text_of occurrences_from occurrences counted same_name givings first_wrong wrong_name or_else is_named with_name names_from symbols_of number_of restricted sort_in index_of completed joined place_term place_two place_one place_step placed_entries placed_steps decimal symbol_name no_term written_term written_step is_name_sort names_among variables_among name_length entry_length lengths_from step_length steps_length behind_length line_length text_length and_then expect expect_for name_bytes read_name read_named pair_by sealed_by also_by read_term read_outermost read_two read_input read_restriction read_splitting read_decryption read_word read_step read_steps read_rest read_line read_text whole outcome answer_of shown times bracketed braced terms_shown
examples = record { e1 = refl; three = refl; three_as_pairs = refl; early = refl; twice = refl; unknown = refl; bound_listed = refl; spaces = refl; seventeen = refl; ends_early = refl; upper = refl; before_comma = refl; empty = refl; nothing = refl; level_128 = refl; level_129 = refl; plaintexts_127 = refl; plaintexts_128 = refl; written = refl; written_length = refl }
