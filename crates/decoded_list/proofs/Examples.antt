-- E1's list and a list with every code: their files are the bytes that document 01 says, pass 1 to 5, and give the statements back; so the
-- laws here say something of them. All is computed. Assumes nothing.
use mathlib.Core.Path.{◌≡◌, refl}
use mathlib.Core.List.{List, [], ◌∷◌}
use Prim.Native.Nat.{ℕ}
use Rattle.base.specs.Bytes.{byte, word}
use Rattle.base.specs.Search.{walk, first}
use Rattle.codes.specs.Marks.{mark, header}
use Rattle.codes.specs.Rows.{rows, cell, fields, field_bytes, width, known}
use Rattle.codes.specs.Types.{type_parts, type_known}
use Rattle.answers.specs.Ladder.{answered, least}
use Rattle.entries.specs.Fields.{number, place_of, code, field, role, field_ok, fields_ok, entry_ok}
use Rattle.entries.specs.Tiling.{listed, joined}
use Rattle.opening.specs.Opening.{marked}
use Rattle.types.specs.Types.{Message, Basic, Cipher, Pair}
use Rattle.types.specs.Prefix.{encoded}
use Rattle.types.specs.Version1.{name, channel, shkey, shared, code1}
use Rattle.calculus.specs.Signature.{pairing, seal}
use Rattle.calculus.specs.Terms.{build2, send, receive, fresh, compare, decrypt, left, right, act, half, build}
use Rattle.calculus.specs.Version1.{encryption, signature1}
use Rattle.rendering.specs.Examples.{list1}
use Rattle.rendering.specs.Lists.{StatementList}
use Rattle.list.specs.Layout.{type_at, counts_ok, length_ok, wants, type_ok_at, type_ok, gives, given, statement_ok_at, statement_ok}
use Rattle.list.specs.Faults.{list_rungs}
use Rattle.decoded_list.specs.Bytes.{two_op, half_op, statement_bytes, type_with_length, header_bytes, list_bytes}
use Rattle.decoded_list.specs.Statements.{statement_of, statement_at, statements_of}
use Rattle.std.proofs.Common.{Ok}

-- E1's list: header, types of c, k, x, y, then receive, decrypt, send
abbrev e1_bytes : List ℕ
e1_bytes =
    0x53 ∷ 0x50 ∷ 0x4C ∷ 0 ∷ 1 ∷ 4 ∷ 0 ∷ 3 ∷
    1 ∷ 2 ∷ 1 ∷ 3 ∷ 2 ∷ 5 ∷ 0 ∷ 1 ∷ 0 ∷
    1 ∷ 0 ∷ 0 ∷ 2 ∷ 6 ∷ 2 ∷ 1 ∷ 3 ∷ 0 ∷ 0 ∷ 3 ∷ 0 ∷ []

abbrev e1_list : StatementList signature1
e1_list = record { types = Basic channel ∷ Basic shkey ∷ Cipher shared Message ∷ Message ∷ []; statements = list1 }

-- every code, over registers 0 for c and 1 for k: receive x, its halves y and z, z decrypted as x, a fresh y, the pair of the left half and
-- what was decrypted, that under k, a comparison, and the sending
abbrev every_code_bytes : List ℕ
every_code_bytes =
    0x53 ∷ 0x50 ∷ 0x4C ∷ 0 ∷ 1 ∷ 3 ∷ 0 ∷ 9 ∷
    1 ∷ 0 ∷ 4 ∷ 4 ∷ 0 ∷ 5 ∷ 0 ∷ 1 ∷ 1 ∷
    1 ∷ 0 ∷ 0 ∷ 0 ∷ 4 ∷ 2 ∷ 0 ∷ 1 ∷ 5 ∷ 2 ∷ 0 ∷ 2 ∷ 6 ∷ 4 ∷ 1 ∷ 0 ∷ 2 ∷ 0 ∷ 0 ∷ 1 ∷ 7 ∷ 3 ∷ 5 ∷ 0 ∷ 8 ∷ 7 ∷ 1 ∷ 0 ∷ 3 ∷ 3 ∷ 6 ∷ 0 ∷ 0 ∷ 0 ∷ 8 ∷ 0 ∷ []

abbrev every_code_list : StatementList signature1
every_code_list = record {
  types = Message ∷ Pair Message (Cipher shared Message) ∷ Basic name ∷ [];
  statements = act (receive 0 0) ∷ half left 2 1 ∷ half right 2 2 ∷ act (decrypt encryption 4 1 0) ∷ act (fresh 1) ∷ build (build2 pairing 3 5) ∷ build (build2 (seal encryption) 7 1) ∷ act (compare 3 6) ∷ act (send 0 8) ∷ [];
}

-- the bytes are the list's file, pass 1 to 5 with that many free symbols, and give the statements back
abbrev Works : List ℕ → StatementList signature1 → ℕ → Type 0
Works s l free = (list_bytes l ≡ s) × (least (list_rungs s free) ≡ Ok tt) × (statements_of s ≡ l.statements)

pub examples_work : Works e1_bytes e1_list 2 × Works every_code_bytes every_code_list 2
unfolding byte word walk first mark header rows cell fields field_bytes width known type_parts type_known answered least number place_of code field role field_ok fields_ok entry_ok listed joined marked encoded code1 type_at counts_ok length_ok wants type_ok_at type_ok gives given statement_ok_at statement_ok two_op half_op statement_bytes type_with_length header_bytes list_bytes statement_of statement_at
examples_work = ((refl, refl, refl), (refl, refl, refl))
