-- How a text is read: one reader for each part of the grammar, the term reader and the plaintext reader calling each other. A reader gives what it has
-- read and the rest of the text; or it is stuck, and gives the rest from the byte at which it is stuck. An algorithm: what it answers is said in Places.antt.
-- Assumes nothing: these are definitions.
use Rattle.std.specs.Prelude.{cond, List, [], ◌∷◌, ℕ, zero, suc, ◌-◌, eqb, length, get_or, drop}
use Rattle.std.proofs.Math.Option.{Option, none, some}
use Rattle.text.specs.Source.{Name, Term, named, paired, sealed, Further, no_more, also, Step, output, input, restriction, matching, splitting, decryption, Source}
use Rattle.text.specs.Grammar.{space, feed, comma, round_shut, brace_shut, out_word, in_word, new_word, match_word, split_word, decrypt_word, is_letter, is_name_byte}
use Rattle.text.specs.Places.{occurrences, counted, wrong_name, or_else}

-- what a reader answers: what was read, and the rest of the text; or, where it is stuck, something whose text begins as this one does up to there, and
-- the rest from there on
pub data Read (A : Type 0) : Type 0 where
  done : A → List ℕ → Read A
  stuck : A → List ℕ → Read A

-- one reader, then another; what is stuck in the first is completed by f
unfoldable pub and_then : {A B : Type 0} → Read A → (A → B) → (A → List ℕ → Read B) → Read B
and_then (done a r) f k = k a r
and_then (stuck a r) f k = stuck (f a) r

-- the first byte; past the end it is 0
abbrev pub first : List ℕ → ℕ
first s = get_or s 0 0

-- fixed bytes
unfoldable pub expect : List ℕ → List ℕ → Read (Unit {0})
expect [] s = done tt s
expect (b ∷ w) [] = stuck tt []
expect (b ∷ w) (c ∷ s) = cond (eqb b c) (expect w s) (stuck tt (c ∷ s))

-- fixed bytes, with something read before
unfoldable pub expect_for : {A : Type 0} → A → List ℕ → List ℕ → Read A
expect_for a w s = and_then (expect w s) (λ u. a) (λ u r. done a r)

-- ── Names ──

-- as many letters and digits as there are, at most n
unfoldable pub name_bytes : ℕ → List ℕ → List ℕ
name_bytes zero s = []
name_bytes (suc n) [] = []
name_bytes (suc n) (b ∷ s) = cond (is_name_byte b) (b ∷ name_bytes n s) []

-- the name `a`, where any would do
abbrev pub some_name : Name
some_name = 0x61 ∷ []

unfoldable pub read_name : List ℕ → Read Name
read_name [] = stuck some_name []
read_name (b ∷ s) = cond (is_letter b) (done (b ∷ name_bytes 15 s) (drop (length (name_bytes 15 s)) s)) (stuck some_name (b ∷ s))

-- ── Terms ──

abbrev pub some_term : Term
some_term = named some_name

-- a name as a term
unfoldable pub read_named : List ℕ → Read Term
read_named s = and_then (read_name s) named (λ x r. done (named x) r)

-- `M, N)`, a pair behind its bracket, by a reader P of its parts
unfoldable pub pair_by : (List ℕ → Read Term) → List ℕ → Read Term
pair_by P s =
    and_then (P s) (λ M. paired M some_term) (λ M r.
    and_then (expect comma r) (λ u. paired M some_term) (λ u r.
    and_then (P r) (λ N. paired M N) (λ N r.
    expect_for (paired M N) round_shut r)))

-- `M, ...}K`, a ciphertext behind its brace, by a reader P of first plaintext and key and a reader F of further plaintexts
unfoldable pub sealed_by : (List ℕ → Read Term) → (List ℕ → Read Further) → List ℕ → Read Term
sealed_by P F s =
    and_then (P s) (λ M. sealed M no_more some_term) (λ M r.
    and_then (F r) (λ Ms. sealed M Ms some_term) (λ Ms r.
    and_then (expect brace_shut r) (λ u. sealed M Ms some_term) (λ u r.
    and_then (P r) (λ K. sealed M Ms K) (λ K r. done (sealed M Ms K) r))))

-- `, M` and what further plaintexts follow
unfoldable pub also_by : (List ℕ → Read Term) → (List ℕ → Read Further) → List ℕ → Read Further
also_by P F s =
    and_then (expect comma s) (λ u. also some_term no_more) (λ u r.
    and_then (P r) (λ M. also M no_more) (λ M r.
    and_then (F r) (λ Ms. also M Ms) (λ Ms r. done (also M Ms) r)))

unfoldable mutual
  -- a term that has so many levels left below it: a name only, where none is left
  pub read_term : ℕ → List ℕ → Read Term
  read_term zero s = read_named s
  read_term (suc left) s =
      cond (eqb (first s) 0x28) (pair_by (λ r. read_term left r) (drop 1 s))
      (cond (eqb (first s) 0x7B) (sealed_by (λ r. read_term left r) (λ r. read_further left r) (drop 1 s)) (read_named s))

  -- further plaintexts, behind one that has so many levels left below it: none where no comma comes, and none where no level is left
  pub read_further : ℕ → List ℕ → Read Further
  read_further zero s = done no_more s
  read_further (suc left) s = cond (eqb (first s) 0x2C) (also_by (λ r. read_term left r) (λ r. read_further left r) s) (done no_more s)

-- the outermost term of a step
unfoldable pub read_outermost : List ℕ → Read Term
read_outermost s = read_term 127 s

-- ── Lines ──

-- `M N` and the line feed, a step of two terms
unfoldable pub read_two : (Term → Term → Step) → List ℕ → Read Step
read_two f s =
    and_then (read_outermost s) (λ M. f M some_term) (λ M r.
    and_then (expect space r) (λ u. f M some_term) (λ u r.
    and_then (read_outermost r) (λ N. f M N) (λ N r.
    expect_for (f M N) feed r)))

unfoldable pub read_input : List ℕ → Read Step
read_input s =
    and_then (read_outermost s) (λ M. input M some_name) (λ M r.
    and_then (expect space r) (λ u. input M some_name) (λ u r.
    and_then (read_name r) (λ x. input M x) (λ x r.
    expect_for (input M x) feed r)))

unfoldable pub read_restriction : List ℕ → Read Step
read_restriction s = and_then (read_name s) restriction (λ x r. expect_for (restriction x) feed r)

unfoldable pub read_splitting : List ℕ → Read Step
read_splitting s =
    and_then (read_outermost s) (λ M. splitting M some_name some_name) (λ M r.
    and_then (expect space r) (λ u. splitting M some_name some_name) (λ u r.
    and_then (read_name r) (λ x. splitting M x some_name) (λ x r.
    and_then (expect space r) (λ u. splitting M x some_name) (λ u r.
    and_then (read_name r) (λ y. splitting M x y) (λ y r.
    expect_for (splitting M x y) feed r)))))

unfoldable pub read_decryption : List ℕ → Read Step
read_decryption s =
    and_then (read_outermost s) (λ M. decryption M some_term some_name) (λ M r.
    and_then (expect space r) (λ u. decryption M some_term some_name) (λ u r.
    and_then (read_outermost r) (λ K. decryption M K some_name) (λ K r.
    and_then (expect space r) (λ u. decryption M K some_name) (λ u r.
    and_then (read_name r) (λ x. decryption M K x) (λ x r.
    expect_for (decryption M K x) feed r)))))

-- a step: its word, told by its first letter, then what belongs to it
unfoldable pub read_word : List ℕ → Step → (List ℕ → Read Step) → List ℕ → Read Step
read_word w t k s = and_then (expect w s) (λ u. t) (λ u r. k r)

unfoldable pub read_step : List ℕ → Read Step
read_step s =
    cond (eqb (first s) 0x6F) (read_word out_word (output some_term some_term) (read_two output) s)
    (cond (eqb (first s) 0x69) (read_word in_word (input some_term some_name) read_input s)
    (cond (eqb (first s) 0x6E) (read_word new_word (restriction some_name) read_restriction s)
    (cond (eqb (first s) 0x6D) (read_word match_word (matching some_term some_term) (read_two matching) s)
    (cond (eqb (first s) 0x73) (read_word split_word (splitting some_term some_name some_name) read_splitting s)
    (cond (eqb (first s) 0x64) (read_word decrypt_word (decryption some_term some_term some_name) read_decryption s)
    (stuck (restriction some_name) s))))))

-- steps up to the text's end; n bounds their number
unfoldable pub read_steps : ℕ → List ℕ → Read (List Step)
read_steps zero [] = done [] []
read_steps zero (b ∷ s) = stuck [] (b ∷ s)
read_steps (suc n) [] = done [] []
read_steps (suc n) (b ∷ s) =
    and_then (read_step (b ∷ s)) (λ t. t ∷ []) (λ t r.
    and_then (read_steps n r) (λ ts. t ∷ ts) (λ ts r. done (t ∷ ts) r))

-- the rest of an opening line behind a name; n bounds the number of names
unfoldable pub read_rest : ℕ → List ℕ → Read (List Name)
read_rest zero s = stuck [] s
read_rest (suc n) s =
    cond (eqb (first s) 0x20)
    (and_then (read_name (drop 1 s)) (λ x. x ∷ []) (λ x r.
    and_then (read_rest n r) (λ xs. x ∷ xs) (λ xs r. done (x ∷ xs) r)))
    (expect_for [] feed s)

-- an opening line
unfoldable pub read_line : List ℕ → Read (List Name)
read_line s =
    cond (eqb (first s) 0x0A) (done [] (drop 1 s))
    (and_then (read_name s) (λ x. x ∷ []) (λ x r.
    and_then (read_rest (length r) r) (λ xs. x ∷ xs) (λ xs r. done (x ∷ xs) r)))

-- a text
unfoldable pub read_text : List ℕ → Read Source
read_text s =
    and_then (read_line s) (λ xs. record { names = xs; variables = []; steps = [] }) (λ xs r.
    and_then (read_line r) (λ ys. record { names = xs; variables = ys; steps = [] }) (λ ys r.
    and_then (read_steps (length r) r) (λ ts. record { names = xs; variables = ys; steps = ts }) (λ ts r.
    done (record { names = xs; variables = ys; steps = ts }) r)))

-- ── The answer ──

-- a source, all of whose names are listed or bound exactly once; or number 16 with its place
pub data Outcome : Type 0 where
  reads : Source → Outcome
  refused16 : ℕ → Outcome

-- the text is by the rules: then its names
unfoldable pub whole : Source → Option ℕ → Outcome
whole d none = reads d
whole d (some p) = refused16 p

-- of a text of n bytes
unfoldable pub outcome : ℕ → Read Source → Outcome
outcome n (done d r) = whole d (wrong_name (occurrences d))
outcome n (stuck d r) = refused16 (or_else (wrong_name (counted (n - length r) (occurrences d))) (n - length r))

unfoldable pub answer_of : List ℕ → Outcome
answer_of s = outcome (length s) (read_text s)
