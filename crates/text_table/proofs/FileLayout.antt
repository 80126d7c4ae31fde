-- Where the symbols, terms and steps of a table stand in its file; so the file stands for the table. Assumes nothing.
use mathlib.Core.Path.{◌≡◌, refl, sym, ap, ◌∙◌}
use mathlib.Core.List.{List, [], ◌∷◌, ◌++◌, append_assoc}
use Prim.Native.Nat.{ℕ, zero, suc, ◌+◌, ◌*◌, ◌≤◌, ◌<◌}
use native.Mathlib.Omega.{arith}
use native.Mathlib.Nat.{suc-mul, zero-mul}
use lib.ListN.{length, get_or, drop, length-append, get_or-append}
use lib.Seq.{drop-cons, drop-drop, drop-length, get_or-drop, drop_at}
use Rattle.base.specs.Bytes.{byte}
use Rattle.codes.specs.Rows.{width}
use Rattle.entries.specs.Fields.{place_of, code}
use Rattle.entries.specs.Tiling.{listed, joined}
use Rattle.table_layout.specs.Layout.{symbols, terms, steps, terms_at, steps_at, sort, term_field, step_field}
use Rattle.table_layout.proofs.FieldLaws.{term_field_byte, step_field_byte}
use Rattle.calculus.specs.Signature.{pairing, seal}
use Rattle.calculus.specs.Terms.{build1, build2, Act, send, receive, fresh, compare, split, decrypt}
use Rattle.calculus.specs.Tables.{Sort, is_name, is_variable, Entry, leaf_entry, kind_entry, Table}
use Rattle.calculus.specs.Version1.{encryption, signature1}
use Rattle.decoded.specs.Table.{sort_of, entry_of, act_of, sort_at, term_at, step_at, sort_bytes, two_code, entry_bytes, step_bytes, header_bytes, table_bytes}
use Rattle.decoded.proofs.Shapes.{three_bytes, five_bytes, three_same, five_same}
use Rattle.text_table.specs.Statements.{FileStandsForTable}

-- ── Things of one width, written one after the other ──

module _ {A : Type 0} (g : A → List ℕ) (w : ℕ) (wide : (x : A) → length (g x) ≡ w) where
  joined_drop : (l : List A) (k : ℕ) (r : List ℕ) → k ≤ length l → drop (k * w) (joined g l ++ r) ≡ joined g (drop k l) ++ r
  unfolding joined
  joined_drop l zero r h = rw (zero-mul w)
  joined_drop [] (suc k) r h = absurd (omega arith)
  joined_drop (x ∷ l) (suc k) r h =
      let z : suc k * w ≡ w + k * w = omega (arith, suc-mul k w) in
      rw (z, append_assoc (g x) (joined g l) r) (sym (drop-drop (k * w) w (g x ++ (joined g l ++ r))) ∙ rw (drop_at (g x) (joined g l ++ r) w (wide x)) (joined_drop l k r (omega arith)))

  pub joined_length : (l : List A) → length (joined g l) ≡ length l * w
  unfolding joined
  joined_length [] = sym (zero-mul w)
  joined_length (x ∷ l) = length-append (g x) (joined g l) ∙ omega (arith, wide x, joined_length l, suc-mul (length l) w)

  -- byte j of thing k
  pub joined_byte : (s : List ℕ) (base : ℕ) (l : List A) (r : List ℕ) (z : A) → drop base s ≡ joined g l ++ r → (k j : ℕ) → k < length l → j < w
      → byte s (base + k * w + j) ≡ byte (g (get_or l k z)) j
  unfolding byte joined
  joined_byte s base l r z e k j h u =
      let a : drop (base + k * w) s ≡ joined g (drop k l) ++ r = sym (drop-drop (k * w) base s) ∙ ap (drop (k * w)) e ∙ joined_drop l k r (omega arith) in
      let b : joined g (drop k l) ++ r ≡ g (get_or l k z) ++ (joined g (drop (suc k) l) ++ r) =
      ap (λ (m : List A). joined g m ++ r) (drop-cons l k z h) ∙ append_assoc (g (get_or l k z)) (joined g (drop (suc k) l)) r in
      let v : j < length (g (get_or l k z)) = rw (wide (get_or l k z)) u in
      sym (get_or-drop (base + k * w) s j 0) ∙ ap (λ (m : List ℕ). get_or m j 0) (a ∙ b) ∙ get_or-append (g (get_or l k z)) (joined g (drop (suc k) l) ++ r) 0 j v

  -- what comes behind all of them
  pub joined_behind : (s : List ℕ) (base : ℕ) (l : List A) (r : List ℕ) → drop base s ≡ joined g l ++ r → drop (base + length l * w) s ≡ r
  unfolding joined
  joined_behind s base l r e =
      sym (drop-drop (length l * w) base s) ∙ ap (drop (length l * w)) e ∙ joined_drop l (length l) r (omega arith) ∙ rw (drop-length l)

sort_wide : (x : Sort) → length (sort_bytes x) ≡ 1
unfolding sort_bytes
sort_wide is_name = refl
sort_wide is_variable = refl

entry_wide : (e : Entry signature1 ℕ) → length (entry_bytes e) ≡ 3
unfolding entry_bytes
entry_wide (leaf_entry x) = refl
entry_wide (kind_entry (build1 k a)) = refl
entry_wide (kind_entry (build2 k a b)) = refl

step_wide : (s : Act signature1 ℕ) → length (step_bytes s) ≡ 5
unfolding step_bytes
step_wide (send a b) = refl
step_wide (receive a x) = refl
step_wide (fresh x) = refl
step_wide (compare a b) = refl
step_wide (split a x y) = refl
step_wide (decrypt c a b x) = refl

-- lists of three and of five, byte by byte
three_of : (l : List ℕ) → length l ≡ 3 → l ≡ byte l 0 ∷ byte l 1 ∷ byte l 2 ∷ []
unfolding byte
three_of [] h = absurd (omega arith)
three_of (a ∷ []) h = absurd (omega arith)
three_of (a ∷ b ∷ []) h = absurd (omega arith)
three_of (a ∷ b ∷ c ∷ []) h = refl
three_of (a ∷ b ∷ c ∷ d ∷ l) h = absurd (omega arith)

five_of : (l : List ℕ) → length l ≡ 5 → l ≡ byte l 0 ∷ byte l 1 ∷ byte l 2 ∷ byte l 3 ∷ byte l 4 ∷ []
unfolding byte
five_of [] h = absurd (omega arith)
five_of (a ∷ []) h = absurd (omega arith)
five_of (a ∷ b ∷ []) h = absurd (omega arith)
five_of (a ∷ b ∷ c ∷ []) h = absurd (omega arith)
five_of (a ∷ b ∷ c ∷ d ∷ []) h = absurd (omega arith)
five_of (a ∷ b ∷ c ∷ d ∷ e ∷ []) h = refl
five_of (a ∷ b ∷ c ∷ d ∷ e ∷ f ∷ l) h = absurd (omega arith)

-- ── The file of a table ──

module _ (t : Table signature1) where
  abbrev pub file : List ℕ
  file = table_bytes t

  abbrev S : ℕ
  S = length t.sorts

  abbrev T : ℕ
  T = length t.entries

  pub file_symbols : symbols file ≡ S
  unfolding table_bytes header_bytes byte
  file_symbols = refl

  pub file_terms : terms file ≡ T
  unfolding table_bytes header_bytes byte
  file_terms = refl

  pub file_steps : steps file ≡ length t.steps
  unfolding table_bytes header_bytes byte
  file_steps = refl

  from_symbols : drop 8 file ≡ joined sort_bytes t.sorts ++ (joined entry_bytes t.entries ++ joined step_bytes t.steps)
  unfolding table_bytes header_bytes
  from_symbols = refl

  from_terms : drop (8 + S * 1) file ≡ joined entry_bytes t.entries ++ joined step_bytes t.steps
  from_terms = joined_behind sort_bytes 1 sort_wide file 8 t.sorts (joined entry_bytes t.entries ++ joined step_bytes t.steps) from_symbols

  nothing : (l : List ℕ) → l ≡ l ++ []
  nothing [] = refl
  nothing (x ∷ l) = ap (λ (m : List ℕ). x ∷ m) (nothing l)

  from_steps : drop (8 + S * 1 + T * 3) file ≡ joined step_bytes t.steps ++ []
  from_steps = joined_behind entry_bytes 3 entry_wide file (8 + S * 1) t.entries (joined step_bytes t.steps) from_terms ∙ nothing (joined step_bytes t.steps)

  pub file_length : length file ≡ 8 + S + 3 * T + 5 * length t.steps
  unfolding table_bytes header_bytes
  file_length =
      let a = joined_length sort_bytes 1 sort_wide t.sorts in
      let b = joined_length entry_bytes 3 entry_wide t.entries in
      let c = joined_length step_bytes 5 step_wide t.steps in
      let d = length-append (joined sort_bytes t.sorts) (joined entry_bytes t.entries ++ joined step_bytes t.steps) in
      let e = length-append (joined entry_bytes t.entries) (joined step_bytes t.steps) in
      omega arith

  -- symbol x, term i and step k, byte by byte
  pub sort_byte_lem : (x : ℕ) → x < S → sort file x ≡ byte (sort_bytes (get_or t.sorts x is_variable)) 0
  sort_byte_lem x h =
      let z : 8 + x * 1 + 0 ≡ 8 + x = omega arith in
      rw z at (joined_byte sort_bytes 1 sort_wide file 8 t.sorts _ is_variable from_symbols x 0 h (omega arith))

  pub term_bytes : (i : ℕ) → i < T → three_bytes file i ≡ entry_bytes (get_or t.entries i (leaf_entry 0))
  unfolding code place_of width byte
  term_bytes i h = go (at 0 (omega arith)) (at 1 (omega arith)) (at 2 (omega arith)) ∙ sym (three_of (entry_bytes (get_or t.entries i (leaf_entry 0))) (entry_wide (get_or t.entries i (leaf_entry 0))))
    where
      at : (j : ℕ) → j < 3 → byte file (8 + S * 1 + i * 3 + j) ≡ byte (entry_bytes (get_or t.entries i (leaf_entry 0))) j
      at j u = joined_byte entry_bytes 3 entry_wide file (8 + S * 1) t.entries _ (leaf_entry 0) from_terms i j h u

      go : {a b c : ℕ} → byte file (8 + S * 1 + i * 3 + 0) ≡ a → byte file (8 + S * 1 + i * 3 + 1) ≡ b → byte file (8 + S * 1 + i * 3 + 2) ≡ c → three_bytes file i ≡ a ∷ b ∷ c ∷ []
      go {a} {b} {c} p q r =
          let m = file_symbols in
          let x : terms_at file + i * 3 ≡ 8 + S * 1 + i * 3 + 0 = omega arith in
          let y : terms_at file + i * 3 + 1 + 0 ≡ 8 + S * 1 + i * 3 + 1 = omega arith in
          let z : terms_at file + i * 3 + 1 + 1 ≡ 8 + S * 1 + i * 3 + 2 = omega arith in
          three (ap (byte file) x ∙ p) (term_field_byte file (terms_at file) i 0 ∙ ap (byte file) y ∙ q) (term_field_byte file (terms_at file) i 1 ∙ ap (byte file) z ∙ r)
        where
          three : {a b c d e f : ℕ} → a ≡ d → b ≡ e → c ≡ f → ◌≡◌ {A = List ℕ} (a ∷ b ∷ c ∷ []) (d ∷ e ∷ f ∷ [])
          three p q r = rw (p, q, r)

  pub step_bytes_lem : (k : ℕ) → k < length t.steps → five_bytes file k ≡ step_bytes (get_or t.steps k (fresh 0))
  unfolding code place_of width byte
  step_bytes_lem k h =
      go (at 0 (omega arith)) (at 1 (omega arith)) (at 2 (omega arith)) (at 3 (omega arith)) (at 4 (omega arith))
      ∙ sym (five_of (step_bytes (get_or t.steps k (fresh 0))) (step_wide (get_or t.steps k (fresh 0))))
    where
      at : (j : ℕ) → j < 5 → byte file (8 + S * 1 + T * 3 + k * 5 + j) ≡ byte (step_bytes (get_or t.steps k (fresh 0))) j
      at j u = joined_byte step_bytes 5 step_wide file (8 + S * 1 + T * 3) t.steps [] (fresh 0) from_steps k j h u

      go : {a b c d e : ℕ} → byte file (8 + S * 1 + T * 3 + k * 5 + 0) ≡ a → byte file (8 + S * 1 + T * 3 + k * 5 + 1) ≡ b → byte file (8 + S * 1 + T * 3 + k * 5 + 2) ≡ c
          → byte file (8 + S * 1 + T * 3 + k * 5 + 3) ≡ d → byte file (8 + S * 1 + T * 3 + k * 5 + 4) ≡ e → five_bytes file k ≡ a ∷ b ∷ c ∷ d ∷ e ∷ []
      go p q r v w =
          let m = file_symbols in
          let n = file_terms in
          let x : steps_at file + k * 5 ≡ 8 + S * 1 + T * 3 + k * 5 + 0 = omega arith in
          let y : (j : ℕ) → steps_at file + k * 5 + 1 + j ≡ 8 + S * 1 + T * 3 + k * 5 + (1 + j) = λ j. omega arith in
          five (ap (byte file) x ∙ p) (step_field_byte file (steps_at file) k 0 ∙ ap (byte file) (y 0) ∙ q) (step_field_byte file (steps_at file) k 1 ∙ ap (byte file) (y 1) ∙ r)
          (step_field_byte file (steps_at file) k 2 ∙ ap (byte file) (y 2) ∙ v) (step_field_byte file (steps_at file) k 3 ∙ ap (byte file) (y 3) ∙ w)
        where
          five : {a b c d e f g h i j : ℕ} → a ≡ f → b ≡ g → c ≡ h → d ≡ i → e ≡ j → ◌≡◌ {A = List ℕ} (a ∷ b ∷ c ∷ d ∷ e ∷ []) (f ∷ g ∷ h ∷ i ∷ j ∷ [])
          five p q r v w = rw (p, q, r, v, w)

  -- ── What is read of it ──

  entry_read : (c a b : ℕ) (e : Entry signature1 ℕ) → entry_bytes e ≡ c ∷ a ∷ b ∷ [] → entry_of c a b ≡ e
  unfolding entry_bytes entry_of two_code
  entry_read c a b (leaf_entry x) q = let (p, u, v) = three_same q in rw (p, u)
  entry_read c a b (kind_entry (build1 k i)) q = elim k [ ]
  entry_read c a b (kind_entry (build2 pairing i j)) q = let (p, u, v) = three_same q in rw (p, u, v)
  entry_read c a b (kind_entry (build2 (seal encryption) i j)) q = let (p, u, v) = three_same q in rw (p, u, v)

  step_read : (c a b x y : ℕ) (s : Act signature1 ℕ) → step_bytes s ≡ c ∷ a ∷ b ∷ x ∷ y ∷ [] → act_of c a b x y ≡ s
  unfolding step_bytes act_of
  step_read c a b x y (send i j) q = let (p, u, v, w, z) = five_same q in rw (p, u, v)
  step_read c a b x y (receive i n) q = let (p, u, v, w, z) = five_same q in rw (p, u, w)
  step_read c a b x y (fresh n) q = let (p, u, v, w, z) = five_same q in rw (p, w)
  step_read c a b x y (compare i j) q = let (p, u, v, w, z) = five_same q in rw (p, u, v)
  step_read c a b x y (split i n m) q = let (p, u, v, w, z) = five_same q in rw (p, u, w, z)
  step_read c a b x y (decrypt encryption i j n) q = let (p, u, v, w, z) = five_same q in rw (p, u, v, w)

  sort_read : (b : ℕ) (x : Sort) → b ≡ byte (sort_bytes x) 0 → sort_of b ≡ x
  unfolding sort_bytes sort_of byte
  sort_read b is_name e = rw e
  sort_read b is_variable e = rw e

  pub sort_is : (x : ℕ) → x < S → sort_at file x ≡ get_or t.sorts x is_variable
  unfolding sort_at
  sort_is x h = sort_read (sort file x) (get_or t.sorts x is_variable) (sort_byte_lem x h)

  pub term_is : (i : ℕ) → i < T → term_at file i ≡ get_or t.entries i (leaf_entry 0)
  unfolding term_at
  term_is i h = entry_read (code file 0 (terms_at file) i) (term_field file i 0) (term_field file i 1) (get_or t.entries i (leaf_entry 0)) (sym (term_bytes i h))

  pub step_is : (k : ℕ) → k < length t.steps → step_at file k ≡ get_or t.steps k (fresh 0)
  unfolding step_at
  step_is k h =
      step_read (code file 1 (steps_at file) k) (step_field file k 0) (step_field file k 1) (step_field file k 2) (step_field file k 3) (get_or t.steps k (fresh 0)) (sym (step_bytes_lem k h))

-- a list is what stands at its indexes
listed_is : {A : Type 0} (f : ℕ → A) (z : A) (l : List A) (i : ℕ) → ((k : ℕ) → k < length l → f (i + k) ≡ get_or l k z) → listed f i (length l) ≡ l
unfolding listed
listed_is f z [] i h = refl
listed_is f z (x ∷ l) i h =
    let a : f i ≡ x = first (h 0 (omega arith)) in
    rw (a, listed_is f z l (suc i) (λ k u. next k (h (suc k) (omega arith))))
  where
    first : f (i + 0) ≡ x → f i ≡ x
    first e = let q : i + 0 ≡ i = omega arith in rw q at e

    next : (k : ℕ) → f (i + suc k) ≡ get_or l k z → f (suc i + k) ≡ get_or l k z
    next k e = let q : i + suc k ≡ suc i + k = omega arith in rw q at e

pub file_stands_for_table : FileStandsForTable
file_stands_for_table t =
    let a : listed (sort_at (file t)) 0 (symbols (file t)) ≡ t.sorts = rw (file_symbols t) (listed_is (sort_at (file t)) is_variable t.sorts 0 (λ k h. at (sort_at (file t)) k ∙ sort_is t k h)) in
    let b : listed (term_at (file t)) 0 (terms (file t)) ≡ t.entries = rw (file_terms t) (listed_is (term_at (file t)) (leaf_entry 0) t.entries 0 (λ k h. at (term_at (file t)) k ∙ term_is t k h)) in
    let c : listed (step_at (file t)) 0 (steps (file t)) ≡ t.steps = rw (file_steps t) (listed_is (step_at (file t)) (fresh 0) t.steps 0 (λ k h. at (step_at (file t)) k ∙ step_is t k h)) in
    same a b c
  where
    at : {A : Type 0} (f : ℕ → A) (k : ℕ) → f (0 + k) ≡ f k
    at f k = let z : 0 + k ≡ k = omega arith in rw z

    same : {a a' : List Sort} {b b' : List (Entry signature1 ℕ)} {c c' : List (Act signature1 ℕ)} → a ≡ a' → b ≡ b' → c ≡ c'
        → ◌≡◌ {A = Table signature1} (record { sorts = a; entries = b; steps = c }) (record { sorts = a'; entries = b'; steps = c' })
    same p q r = rw (p, q, r)
