-- The file of a list in form passes 1 to 5, and what is read of it is the list. Assumes nothing.
use mathlib.Core.Path.{◌≡◌, refl}
use mathlib.Core.Bool.{true}
use mathlib.Core.Logic.{⊎_elim}
use mathlib.Core.List.{List, [], ◌∷◌}
use Prim.Native.Nat.{ℕ, suc, ◌+◌, ◌*◌, ◌≤◌, ◌<◌}
use native.Mathlib.Nat.{eq-or-lt_of_le}
use native.Mathlib.Omega.{arith}
use lib.ListN.{length, get_or, drop}
use borrow.Author.Tests.{lt-ltb, le-leb}
use Rattle.base.specs.Bytes.{byte, word}
use Rattle.codes.specs.Marks.{mark, header}
use Rattle.codes.specs.Rows.{limits_of}
use Rattle.answers.specs.Ladder.{least}
use Rattle.answers.proofs.Passes.{layers_passed}
use Rattle.entries.specs.Fields.{entry_ok}
use Rattle.entries.specs.Tiling.{listed, joined}
use Rattle.opening.specs.Opening.{marked, version}
use Rattle.types.specs.Types.{Message}
use Rattle.types.specs.Version1.{bytes}
use Rattle.calculus.specs.Terms.{Statement}
use Rattle.calculus.specs.Version1.{signature1}
use Rattle.rendering.specs.Lists.{StatementList}
use Rattle.list.specs.Layout.{symbols, statements_at, gives, given, statement_ok_at, statement_ok}
use Rattle.list.specs.Faults.{type_rungs, statement_rung, list_rungs}
use Rattle.list.specs.TypeOf.{has_type, type_bytes}
use Rattle.list.specs.Right.{Framed}
use Rattle.list.proofs.Framed.{list_passes}
use Rattle.list.proofs.SymbolTypes.{type_ok_exact}
use Rattle.decoded_list.specs.Bytes.{statements_bytes, header_bytes, list_bytes}
use Rattle.decoded_list.specs.Statements.{statement_at, statements_of}
use Rattle.decoded_list.specs.Form.{registers_given, StatementsFit, fit_one, InForm}
use Rattle.decoded_list.proofs.FileLayout.{StatementThere, statement_there, file_symbols, file_count, file_body, file_statements_there, file_length}
use Rattle.decoded_list.proofs.Codes.{read_back, statement_in_order}
use Rattle.std.proofs.Common.{Ok}

-- ── The statements ──

-- the statements from number i on are ss
abbrev From : List ℕ → ℕ → List (Statement signature1) → Type 0
From s i ss = drop (statements_at s + i * 4) s ≡ statements_bytes ss

-- the first of them
first_there : (s : List ℕ) (i : ℕ) (st : Statement signature1) (ss : List (Statement signature1)) → From s i (st ∷ ss) → StatementThere s (statements_at s) i st (statements_bytes ss)
unfolding joined
first_there s i st ss e = statement_there s (statements_at s) i st (statements_bytes ss) e

module _ (s : List ℕ) where
  -- they are read back
  all_back : (i n : ℕ) (ss : List (Statement signature1)) → StatementsFit (symbols s) n ss → From s i ss → listed (statement_at s) i (length ss) ≡ ss
  unfolding listed statement_at
  all_back i n [] w e = refl
  all_back i n (st ∷ ss) (fit_one f w) e =
      let t = first_there s i st ss e in
      rw (t.op, t.operand 0 (omega arith), t.operand 1 (omega arith), t.operand 2 (omega arith), (read_back st f.not_whole).same, all_back (suc i) (n + registers_given st) ss w t.then)

  -- and each is in order
  in_order : (free : ℕ) → version s ≡ 1 → (i n : ℕ) (ss : List (Statement signature1)) → StatementsFit (symbols s) n ss → given s free i ≡ n → From s i ss
      → (k : ℕ) → i ≤ k → k < i + length ss → statement_ok s free k ≡ true
  unfolding given gives statement_ok statement_ok_at
  in_order free v i n [] w g e k h m = absurd (omega arith)
  in_order free v i n (st ∷ ss) (fit_one f w) g e k h m =
      let t = first_there s i st ss e in
      let here : entry_ok s 2 1 (statements_at s) i (limits_of 0 (symbols s) 0 0 n) ≡ true = statement_in_order s (statements_at s) i (symbols s) n st (statements_bytes ss) f t in
      let more : given s free (suc i) ≡ n + registers_given st = rw (g, t.op, (read_back st f.not_whole).column) in
      ⊎_elim (λ q. rw (← q, v, g) here) (λ q. in_order free v (suc i) (n + registers_given st) ss w more t.then k q (omega arith)) (eq-or-lt_of_le h)

-- ── The file ──

module _ (l : StatementList signature1) where
  -- its version and its mark
  file_version : version (list_bytes l) ≡ 1
  unfolding list_bytes header_bytes word byte
  file_version = refl

  file_marked : marked 1 (list_bytes l) ≡ true
  unfolding list_bytes header_bytes marked mark header byte
  file_marked = rw (le-leb 8 (length (list_bytes l)) (omega arith))

  module _ (free : ℕ) (f : InForm l free) where
    -- 1 to 4 pass
    file_framed : Framed (list_bytes l)
    file_framed = record {
      mark_right = file_marked;
      version_one = file_version;
      few_symbols = rw (file_symbols l) f.few_types;
      few_statements = rw (file_count l) f.few_statements;
      length_exact = file_length l;
    }

    -- its statements, from the first on
    fitting : StatementsFit (symbols (list_bytes l)) free l.statements
    fitting = rw (file_symbols l) f.statements_fit

    from_first : From (list_bytes l) 0 l.statements
    from_first = let z : statements_at (list_bytes l) + 0 * 4 ≡ statements_at (list_bytes l) = omega arith in rw z (file_statements_there l)

    -- the file of a list in form passes 1 to 5
    pub file_passes : least (list_rungs (list_bytes l) free) ≡ Ok tt
    unfolding given
    file_passes = (list_passes (list_bytes l) free).1 record {
      framed = file_framed;
      types_right = λ i h. (type_ok_exact (list_bytes l) i file_framed h).1 (get_or l.types i Message, file_body l i (rw (file_symbols l) at h));
      statements_right = λ i h. in_order (list_bytes l) free file_version 0 free l.statements fitting refl from_first i (omega arith) (let k : i < length l.statements = rw (file_count l) at h in omega arith);
    }

    -- its statements are the list's
    pub file_statements : statements_of (list_bytes l) ≡ l.statements
    file_statements = rw (file_count l) (all_back (list_bytes l) 0 free l.statements fitting from_first)

    -- and what is handed out as a symbol's type is the bytes of that type
    pub file_type : (x : ℕ) → x < length l.types → type_bytes (list_bytes l) x ≡ bytes (get_or l.types x Message)
    unfolding type_bytes has_type
    file_type x h =
        let p = (layers_passed (type_rungs (list_bytes l)) (statement_rung (list_bytes l) free ∷ []) file_passes).0 in
        rw (p, lt-ltb x (symbols (list_bytes l)) (rw (file_symbols l) h)) (file_body l x h)
