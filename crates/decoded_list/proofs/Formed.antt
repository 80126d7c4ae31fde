-- A list passes 1 to 5 exactly if it is the file of a list in form. Assumes nothing.
use mathlib.Core.Path.{◌≡◌, refl}
use mathlib.Core.Logic.{◌↔◌}
use mathlib.Core.List.{List, [], ◌∷◌}
use Prim.Native.Nat.{ℕ, zero, suc, ◌+◌, ◌*◌, ◌<◌, ◌≤◌}
use native.Mathlib.Omega.{arith}
use lib.ListN.{length, get_or}
use Rattle.base.specs.Bytes.{byte}
use Rattle.codes.specs.Rows.{cell, field_bytes}
use Rattle.answers.specs.Ladder.{least}
use Rattle.entries.specs.Fields.{number, place_of, field}
use Rattle.entries.specs.Words.{Bytes}
use Rattle.entries.specs.Tiling.{listed}
use Rattle.entries.proofs.Tiling.{listed_length}
use Rattle.opening.specs.Opening.{version}
use Rattle.types.specs.Types.{Message}
use Rattle.types.specs.Version1.{T, bytes}
use Rattle.calculus.specs.Terms.{split, operands, binders, Statement, act}
use Rattle.calculus.specs.Scope.{All, all_nil, all_cons}
use Rattle.calculus.specs.Version1.{signature1}
use Rattle.rendering.specs.Lists.{StatementList}
use Rattle.rendering.specs.Translation.{parts, registers}
use Rattle.list.specs.Layout.{symbols, statements, type_at, statements_at, gives, given, statement_ok_at, statement_ok}
use Rattle.list.specs.Statements.{op_at, operand_at}
use Rattle.list.specs.Faults.{list_rungs}
use Rattle.list.proofs.Framed.{Listed, list_passes}
use Rattle.decoded_list.specs.Bytes.{statement_bytes, list_bytes}
use Rattle.decoded_list.specs.Statements.{statement_of, statement_at, statements_of}
use Rattle.decoded_list.specs.Decoded.{Decoded}
use Rattle.decoded_list.specs.Form.{symbols_named, registers_given, StatementFits, StatementsFit, fit_none, fit_one, InForm}
use Rattle.decoded_list.proofs.FileLayout.{file_type_there}
use Rattle.decoded_list.proofs.Codes.{Below, entry_in_order, entry_written}
use Rattle.decoded_list.proofs.Reading.{list_decoded}
use Rattle.decoded_list.proofs.Passing.{file_passes}
use Rattle.decoded_list.proofs.FileBytes.{file_bytes}
use Rattle.decoded_list.proofs.Once.{decoded_symbols}
use Rattle.std.proofs.Common.{Ok}

-- ── Types ──

-- the length byte of a type counts its bytes
counted : (s : List ℕ) (l : StatementList signature1) → s ≡ list_bytes l → (x : ℕ) → x < length l.types → byte s (type_at s x) ≡ length (bytes (get_or l.types x Message))
counted s l e x h = rw e (file_type_there l x h).counted

-- what each type has, all have
all_each : {P : T → Type 0} (l : List T) → ((x : ℕ) → x < length l → P (get_or l x Message)) → All P l
all_each [] f = all_nil
all_each (A ∷ l) f = all_cons (f 0 (omega arith)) (all_each l (λ x h. f (suc x) (omega arith)))

-- ── Statements ──

-- what a statement names is there, and the last column of its row says how many registers it gives
record Names (S n op : ℕ) (st : Statement signature1) : Type 0 where
  by_register : All (λ p. (p < n) × (p < 256)) (registers signature1 st)
  by_symbol : All (λ x. x < S) (symbols_named st)
  column : cell 2 op 4 ≡ registers_given st

-- that holds of a known op and fields in range
read_names : (S n op p q x : ℕ) → op < 9 → Below S n op 1 p → Below S n op 2 q → Below S n op 3 x → p < 256 → q < 256 → Names S n op (statement_of op p q x)
unfolding statement_of cell byte registers registers_given operands parts symbols_named binders
read_names S n zero p q x h a b c u v = record { by_register = all_cons (a, u) (all_cons (b, v) all_nil); by_symbol = all_nil; column = refl }
read_names S n (suc zero) p q x h a b c u v = record { by_register = all_cons (a, u) all_nil; by_symbol = all_cons c all_nil; column = refl }
read_names S n (suc (suc zero)) p q x h a b c u v = record { by_register = all_nil; by_symbol = all_cons c all_nil; column = refl }
read_names S n (suc (suc (suc zero))) p q x h a b c u v = record { by_register = all_cons (a, u) (all_cons (b, v) all_nil); by_symbol = all_nil; column = refl }
read_names S n (suc (suc (suc (suc zero)))) p q x h a b c u v = record { by_register = all_cons (a, u) all_nil; by_symbol = all_cons c all_nil; column = refl }
read_names S n (suc (suc (suc (suc (suc zero))))) p q x h a b c u v = record { by_register = all_cons (a, u) all_nil; by_symbol = all_cons c all_nil; column = refl }
read_names S n (suc (suc (suc (suc (suc (suc zero)))))) p q x h a b c u v = record { by_register = all_cons (a, u) (all_cons (b, v) all_nil); by_symbol = all_cons c all_nil; column = refl }
read_names S n (suc (suc (suc (suc (suc (suc (suc zero))))))) p q x h a b c u v = record { by_register = all_cons (a, u) (all_cons (b, v) all_nil); by_symbol = all_nil; column = refl }
read_names S n (suc (suc (suc (suc (suc (suc (suc (suc zero)))))))) p q x h a b c u v = record { by_register = all_cons (a, u) (all_cons (b, v) all_nil); by_symbol = all_nil; column = refl }
read_names S n (suc (suc (suc (suc (suc (suc (suc (suc (suc op))))))))) p q x h a b c u v = absurd (omega arith)

-- no such op is that of a split in one statement
no_split : {op p x y a u v : ℕ} {st : Statement signature1} → op < 9 → statement_bytes st ≡ op ∷ a ∷ u ∷ v ∷ [] → st ≡ act (split p x y) → ⊥
unfolding statement_bytes
no_split {op} {p} {x} {y} {a} {u} {v} h w q =
    let z : 16 ∷ p ∷ x ∷ y ∷ [] ≡ op ∷ a ∷ u ∷ v ∷ [] = rw q at w in
    let e : op ≡ 16 = cc in
    omega arith

-- a field of a statement is a byte
operand_byte : (s : List ℕ) → Bytes s → (i j : ℕ) → operand_at s i j < 256
unfolding field number field_bytes byte
operand_byte s b i j = b (place_of 2 (statements_at s) i + 1 + j * field_bytes 2)

module _ (s : List ℕ) (free : ℕ) (l : Listed s free) (b : Bytes s) where
  -- statement i is in form, and gives what its row says
  statement_fits : (i : ℕ) → i < statements s → StatementFits (symbols s) (given s free i) (statement_at s i) × (gives s (statements_at s) i ≡ registers_given (statement_at s i))
  unfolding statement_at statement_ok statement_ok_at gives
  statement_fits i h =
      let n = given s free i in
      let base = statements_at s in
      let o = entry_in_order s (version s) base i (symbols s) n (l.statements_right i h) in
      let r = read_names (symbols s) n (op_at s i) (operand_at s i 0) (operand_at s i 1) (operand_at s i 2) o.op_known (o.below 0 (omega arith)) (o.below 1 (omega arith)) (o.below 2 (omega arith)) (operand_byte s b i 0) (operand_byte s b i 1) in
      let w = entry_written s base i (symbols s) n o in
      (record { given_registers = r.by_register; symbols_there = r.by_symbol; not_whole = λ p x y q. no_split o.op_known w q }, r.column)

  -- so are all, one after the other
  statements_fit : (i m : ℕ) → i + m ≤ statements s → StatementsFit (symbols s) (given s free i) (listed (statement_at s) i m)
  unfolding listed given
  statements_fit i zero h = fit_none
  statements_fit i (suc m) h =
      let (f, g) = statement_fits i (omega arith) in
      fit_one f (rw g at (statements_fit (suc i) m (omega arith)))

  -- ── The list ──

  -- a type that was read has at most 255 bytes
  type_short : (d : Decoded s) (x : ℕ) → x < length d.types → length (bytes (get_or d.types x Message)) ≤ 255
  type_short d x h =
      let c = counted s (record { types = d.types; statements = statements_of s }) d.is_file x h in
      omega (arith, b (type_at s x))

  -- the list that was read is in form
  in_form : (d : Decoded s) → InForm (record { types = d.types; statements = statements_of s }) free
  in_form d = record {
    few_types = rw (decoded_symbols s d) l.framed.few_symbols;
    few_statements = rw (listed_length (statement_at s)) l.framed.few_statements;
    short_types = all_each d.types (type_short d);
    statements_fit = rw (decoded_symbols s d) (unfold given in statements_fit 0 (statements s) (omega arith));
  }

-- a list that passes 1 to 5 is the file of a list in form
pub list_in_form : (s : List ℕ) (free : ℕ) → Bytes s → least (list_rungs s free) ≡ Ok tt → (d : Decoded s) → InForm (record { types = d.types; statements = statements_of s }) free
list_in_form s free b e d = in_form s free ((list_passes s free).0 e) b d

-- a string of bytes passes 1 to 5 exactly if it is the file of a list in form
pub list_exact : (s : List ℕ) (free : ℕ) → (Bytes s × (least (list_rungs s free) ≡ Ok tt)) ↔ ((l : StatementList signature1) × (s ≡ list_bytes l) × InForm l free)
list_exact s free = (λ w. to w.0 w.1, λ w. from w.0 w.1 w.2)
  where
    to : Bytes s → least (list_rungs s free) ≡ Ok tt → (l : StatementList signature1) × (s ≡ list_bytes l) × InForm l free
    to b e = let d = list_decoded s free b e in (record { types = d.types; statements = statements_of s }, d.is_file, list_in_form s free b e d)

    from : (l : StatementList signature1) → s ≡ list_bytes l → InForm l free → Bytes s × (least (list_rungs s free) ≡ Ok tt)
    from l e f = rw e (file_bytes l free f, file_passes l free f)
