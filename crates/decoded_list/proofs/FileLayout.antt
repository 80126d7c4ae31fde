-- Where the types and the statements of a list stand in its file. Assumes nothing.
use mathlib.Core.Path.{◌≡◌, refl, sym, ap, ◌∙◌}
use mathlib.Core.List.{List, [], ◌∷◌, ◌++◌, append_assoc}
use Prim.Native.Nat.{ℕ, zero, suc, ◌+◌, ◌*◌, ◌/◌, ◌%◌, ◌-◌, ◌≤◌, ◌<◌}
use native.Mathlib.Omega.{arith}
use lib.ListN.{length, get_or, drop, length-drop, length-append, get_or-append}
use lib.Seq.{drop-cons, drop-drop, drop-length, get_or-drop, take-append_seam, drop-append_seam, drop_at}
use Rattle.base.specs.Bytes.{byte, word}
use Rattle.codes.specs.Rows.{field_bytes, width}
use Rattle.entries.specs.Fields.{number, place_of, code, field}
use Rattle.entries.specs.Tiling.{joined}
use Rattle.types.specs.Types.{Message}
use Rattle.types.specs.Version1.{T, bytes}
use Rattle.calculus.specs.Terms.{build1, build2, send, receive, fresh, compare, split, decrypt, Statement, act, half, build}
use Rattle.calculus.specs.Version1.{signature1}
use Rattle.rendering.specs.Lists.{StatementList}
use Rattle.list.specs.Layout.{symbols, statements, body_at, past_type, type_at, statements_at}
use Rattle.decoded_list.specs.Bytes.{statement_bytes, statements_bytes, type_with_length, types_bytes, header_bytes, list_bytes}

-- ── Types, wherever they stand ──

-- a byte of a file, seen from an earlier place on
pub byte_from : (s : List ℕ) (p k : ℕ) {r : List ℕ} → drop p s ≡ r → byte s (p + k) ≡ byte r k
unfolding byte
byte_from s p k e = sym (get_or-drop p s k 0) ∙ ap (λ (t : List ℕ). get_or t k 0) e

-- a type stands at p: its length byte, its bytes, what comes after it, and all inside the file
pub record TypeThere (s : List ℕ) (p : ℕ) (A : T) (r : List ℕ) : Type 0 where
  pub counted : byte s p ≡ length (bytes A)
  pub body : body_at s p ≡ bytes A
  pub then : drop (past_type s p) s ≡ r
  pub inside : past_type s p ≤ length s

pub type_there : (s : List ℕ) (p : ℕ) (A : T) (r : List ℕ) → drop p s ≡ type_with_length A ++ r → TypeThere s p A r
unfolding type_with_length byte
type_there s p A r e = record { counted = c; body = rw (c, d) (take-append_seam (bytes A) r); then = t; inside = i }
  where
    z : p + 0 ≡ p
    z = omega arith

    c : byte s p ≡ length (bytes A)
    c = rw z at (byte_from s p 0 e)

    d : drop (p + 1) s ≡ bytes A ++ r
    d = sym (drop-drop 1 p s) ∙ ap (λ (l : List ℕ). drop 1 l) e

    t : drop (p + 1 + byte s p) s ≡ r
    t = sym (drop-drop (byte s p) (p + 1) s) ∙ rw (c, d) (drop-append_seam (bytes A) r)

    i : p + 1 + byte s p ≤ length s
    i =
        let q : length s - p ≡ suc (length (bytes A) + length r) = sym (length-drop p s) ∙ ap (λ (l : List ℕ). length l) e ∙ ap suc (length-append (bytes A) r) in
        omega (arith, c)

-- the next of some types
next_type : (s : List ℕ) (As : List T) (r : List ℕ) (p i : ℕ) → i < length As → drop p s ≡ types_bytes (drop i As) ++ r
    → TypeThere s p (get_or As i Message) (types_bytes (drop (suc i) As) ++ r)
next_type s As r p i h e =
    type_there s p (get_or As i Message) (types_bytes (drop (suc i) As) ++ r)
    (e ∙ rw (drop-cons As i Message h) (unfold joined in append_assoc (type_with_length (get_or As i Message)) (types_bytes (drop (suc i) As)) r))

-- the types after a header, from number i on
types_from : (s : List ℕ) (As : List T) (r : List ℕ) → drop 8 s ≡ types_bytes As ++ r → (i : ℕ) → i ≤ length As → drop (type_at s i) s ≡ types_bytes (drop i As) ++ r
unfolding type_at
types_from s As r e zero h = e
types_from s As r e (suc i) h = (next_type s As r (type_at s i) i h (types_from s As r e i (omega arith))).then

-- no type starts past the file's end
types_inside : (s : List ℕ) (As : List T) (r : List ℕ) → 8 ≤ length s → drop 8 s ≡ types_bytes As ++ r → (i : ℕ) → i ≤ length As → type_at s i ≤ length s
unfolding type_at
types_inside s As r l e zero h = l
types_inside s As r l e (suc i) h = (next_type s As r (type_at s i) i h (types_from s As r e i (omega arith))).inside

-- ── Statements, wherever they stand ──

-- a statement has four bytes
pub statement_four : (st : Statement signature1) → length (statement_bytes st) ≡ 4
unfolding statement_bytes
statement_four (act (send p q)) = refl
statement_four (act (receive p x)) = refl
statement_four (act (fresh x)) = refl
statement_four (act (compare p q)) = refl
statement_four (act (split p x y)) = refl
statement_four (act (decrypt e p q x)) = refl
statement_four (half d p x) = refl
statement_four (build (build1 k p)) = refl
statement_four (build (build2 k p q)) = refl

-- and so statements have four bytes each
pub bytes_length : (ss : List (Statement signature1)) → length (statements_bytes ss) ≡ 4 * length ss
unfolding joined
bytes_length [] = refl
bytes_length (st ∷ ss) = length-append (statement_bytes st) (statements_bytes ss) ∙ omega (arith, statement_four st, bytes_length ss)

-- statement i stands after base: its op, its fields p, q and s, and what comes after it
pub record StatementThere (s : List ℕ) (base i : ℕ) (st : Statement signature1) (r : List ℕ) : Type 0 where
  pub op : code s 2 base i ≡ byte (statement_bytes st) 0
  pub operand : (j : ℕ) → j < 3 → field s 2 base i j ≡ byte (statement_bytes st) (1 + j)
  pub then : drop (base + suc i * 4) s ≡ r

pub statement_there : (s : List ℕ) (base i : ℕ) (st : Statement signature1) (r : List ℕ) → drop (base + i * 4) s ≡ statement_bytes st ++ r → StatementThere s base i st r
unfolding code field place_of number width field_bytes byte
statement_there s base i st r e =
    record {
      op = let z : base + i * 4 + 0 ≡ base + i * 4 = omega arith in rw z at (one 0 (omega arith));
      operand = λ j h. let z : base + i * 4 + (1 + j) ≡ base + i * 4 + 1 + j * 1 = omega arith in rw z at (one (1 + j) (omega arith));
      then = t;
    }
  where
    one : (k : ℕ) → k < 4 → byte s (base + i * 4 + k) ≡ byte (statement_bytes st) k
    one k h = byte_from s (base + i * 4) k e ∙ get_or-append (statement_bytes st) r 0 k (rw (statement_four st) h)

    t : drop (base + suc i * 4) s ≡ r
    t =
        let z : base + suc i * 4 ≡ base + i * 4 + 4 = omega arith in
        rw z (sym (drop-drop 4 (base + i * 4) s) ∙ rw e (drop_at (statement_bytes st) r 4 (statement_four st)))

-- ── The file of a list ──

module _ (l : StatementList signature1) where
  -- the counts in its header
  pub file_symbols : symbols (list_bytes l) ≡ length l.types
  unfolding list_bytes header_bytes byte
  file_symbols = refl

  pub file_count : statements (list_bytes l) ≡ length l.statements
  unfolding list_bytes header_bytes word byte
  file_count = let n = length l.statements in let q : n / 256 * 256 + n % 256 ≡ n = omega arith in q

  -- what comes after the header
  pub after_header : drop 8 (list_bytes l) ≡ types_bytes l.types ++ statements_bytes l.statements
  unfolding list_bytes header_bytes
  after_header = refl

  -- the header is whole
  header_fits : 8 ≤ length (list_bytes l)
  unfolding list_bytes header_bytes
  header_fits = omega arith

  -- type x: its length byte, and its bytes
  pub file_type_there : (x : ℕ) → x < length l.types
      → TypeThere (list_bytes l) (type_at (list_bytes l) x) (get_or l.types x Message) (types_bytes (drop (suc x) l.types) ++ statements_bytes l.statements)
  file_type_there x h =
      let r = statements_bytes l.statements in
      next_type (list_bytes l) l.types r (type_at (list_bytes l) x) x h (types_from (list_bytes l) l.types r after_header x (omega arith))

  pub file_body : (x : ℕ) → x < length l.types → body_at (list_bytes l) (type_at (list_bytes l) x) ≡ bytes (get_or l.types x Message)
  file_body x h = (file_type_there x h).body

  -- the statements are all that is left after the types
  pub file_statements_there : drop (statements_at (list_bytes l)) (list_bytes l) ≡ statements_bytes l.statements
  file_statements_there =
      let r = statements_bytes l.statements in
      rw file_symbols (types_from (list_bytes l) l.types r after_header (length l.types) (omega arith) ∙ rw (drop-length l.types) (unfold joined in refl))

  -- and they end where the file ends
  pub file_length : length (list_bytes l) ≡ statements_at (list_bytes l) + 4 * statements (list_bytes l)
  file_length =
      let s = list_bytes l in
      let n : type_at s (length l.types) ≤ length s = types_inside s l.types (statements_bytes l.statements) header_fits after_header (length l.types) (omega arith) in
      let m : statements_at s ≤ length s = rw file_symbols n in
      let q : length s - statements_at s ≡ 4 * length l.statements = sym (length-drop (statements_at s) s) ∙ ap (λ (t : List ℕ). length t) file_statements_there ∙ bytes_length l.statements in
      rw file_count (omega arith)
