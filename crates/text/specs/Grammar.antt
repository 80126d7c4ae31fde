-- The rules of the text, to be held against document 02 b): which bytes a source is written as, and which sources may be written. Assumes nothing: these
-- are definitions.
use Rattle.std.specs.Prelude.{◌≡◌, Bool, ◌||◌, ◌&&◌, List, [], ◌∷◌, ◌++◌, ℕ, suc, ◌≤◌, T, leb, length}
use Rattle.calculus.specs.Scope.{All}
use Rattle.text.specs.Ascii.{ascii}
use Rattle.text.specs.Source.{Name, Term, named, paired, sealed, Further, no_more, also, Step, output, input, restriction, matching, splitting, decryption, Source}

-- ── Pieces ──

-- a text is put together from fixed bytes and from names; a name is given, if it is listed or bound here, or else used
pub data Piece : Type 0 where
  fixed : List ℕ → Piece
  given : Name → Piece
  used : Name → Piece

-- the bytes of a piece, and of pieces in a row
unfoldable pub piece_bytes : Piece → List ℕ
piece_bytes (fixed w) = w
piece_bytes (given x) = x
piece_bytes (used x) = x

unfoldable pub bytes : List Piece → List ℕ
bytes [] = []
bytes (p ∷ ps) = piece_bytes p ++ bytes ps

-- ── Words and marks ──

-- a space, a line feed, and a comma with its space
abbrev pub space : List ℕ
space = ascii " "

abbrev pub feed : List ℕ
feed = ascii "\n"

abbrev pub comma : List ℕ
comma = ascii ", "

-- `(`, `)`, `{` and `}`
abbrev pub round_open : List ℕ
round_open = ascii "("

abbrev pub round_shut : List ℕ
round_shut = ascii ")"

abbrev pub brace_open : List ℕ
brace_open = ascii "{"

abbrev pub brace_shut : List ℕ
brace_shut = ascii "}"

-- the six words, each with the space behind it: `out`, `in`, `new`, `match`, `split`, `decrypt`
abbrev pub out_word : List ℕ
out_word = ascii "out "

abbrev pub in_word : List ℕ
in_word = ascii "in "

abbrev pub new_word : List ℕ
new_word = ascii "new "

abbrev pub match_word : List ℕ
match_word = ascii "match "

abbrev pub split_word : List ℕ
split_word = ascii "split "

abbrev pub decrypt_word : List ℕ
decrypt_word = ascii "decrypt "

-- ── How a source is written: its pieces, and behind them r ──

unfoldable mutual
  -- a term: `x`, `(M, N)`, `{M}K`, `{M, N, ..}K`
  pub term_then : Term → List Piece → List Piece
  term_then (named x) r = used x ∷ r
  term_then (paired M N) r = fixed round_open ∷ term_then M (fixed comma ∷ term_then N (fixed round_shut ∷ r))
  term_then (sealed M Ms K) r = fixed brace_open ∷ term_then M (further_then Ms (fixed brace_shut ∷ term_then K r))

  -- further plaintexts, each behind a comma
  pub further_then : Further → List Piece → List Piece
  further_then no_more r = r
  further_then (also M Ms) r = fixed comma ∷ term_then M (further_then Ms r)

-- a step, with its line feed
unfoldable pub step_then : Step → List Piece → List Piece
step_then (output M N) r = fixed out_word ∷ term_then M (fixed space ∷ term_then N (fixed feed ∷ r))
step_then (input M x) r = fixed in_word ∷ term_then M (fixed space ∷ given x ∷ fixed feed ∷ r)
step_then (restriction x) r = fixed new_word ∷ given x ∷ fixed feed ∷ r
step_then (matching M N) r = fixed match_word ∷ term_then M (fixed space ∷ term_then N (fixed feed ∷ r))
step_then (splitting M x y) r = fixed split_word ∷ term_then M (fixed space ∷ given x ∷ fixed space ∷ given y ∷ fixed feed ∷ r)
step_then (decryption M K x) r = fixed decrypt_word ∷ term_then M (fixed space ∷ term_then K (fixed space ∷ given x ∷ fixed feed ∷ r))

-- one step a line
unfoldable pub steps_then : List Step → List Piece → List Piece
steps_then [] r = r
steps_then (t ∷ ts) r = step_then t (steps_then ts r)

-- the rest of an opening line behind a name, and a whole one; one without names is empty
unfoldable pub rest_then : List Name → List Piece → List Piece
rest_then [] r = fixed feed ∷ r
rest_then (x ∷ xs) r = fixed space ∷ given x ∷ rest_then xs r

unfoldable pub line_then : List Name → List Piece → List Piece
line_then [] r = fixed feed ∷ r
line_then (x ∷ xs) r = given x ∷ rest_then xs r

-- free names, free variables, steps
unfoldable pub pieces : Source → List Piece
pieces d = line_then d.names (line_then d.variables (steps_then d.steps []))

-- the text of a source
unfoldable pub text_of : Source → List ℕ
text_of d = bytes (pieces d)

-- ── Which sources may be written ──

-- a lower-case letter; a lower-case letter or a digit
abbrev pub is_letter : ℕ → Bool
is_letter b = leb 0x61 b && leb b 0x7A

abbrev pub is_name_byte : ℕ → Bool
is_name_byte b = is_letter b || (leb 0x30 b && leb b 0x39)

-- a name: a letter, then at most 15 letters or digits
pub data GoodName : Name → Type 0 where
  good_name : {b : ℕ} {bs : List ℕ} → T (is_letter b) → All (λ c. T (is_name_byte c)) bs → length bs ≤ 15 → GoodName (b ∷ bs)

-- The outermost term stands at level 1, and no term below level 128: so 127 levels are left below the outermost term. Both parts of a pair, and a
-- brace's key, have one level less left than it; a brace's plaintext number i (from 1) has i less. A term with no level left is a name.
mutual
  -- a term that may stand where so many levels are left below it
  pub data TermFits : ℕ → Term → Type 0 where
    fits_name : {left : ℕ} {x : Name} → GoodName x → TermFits left (named x)
    fits_pair : {left : ℕ} {M N : Term} → TermFits left M → TermFits left N → TermFits (suc left) (paired M N)
    fits_sealed : {left : ℕ} {M K : Term} {Ms : Further} → TermFits left M → FurtherFits left Ms → TermFits left K → TermFits (suc left) (sealed M Ms K)

  -- further plaintexts, behind one that has so many levels left
  pub data FurtherFits : ℕ → Further → Type 0 where
    fits_no_more : {left : ℕ} → FurtherFits left no_more
    fits_also : {left : ℕ} {M : Term} {Ms : Further} → TermFits left M → FurtherFits left Ms → FurtherFits (suc left) (also M Ms)

-- the outermost term of a step
abbrev pub Outermost : Term → Type 0
Outermost M = TermFits 127 M

pub data StepFits : Step → Type 0 where
  fits_output : {M N : Term} → Outermost M → Outermost N → StepFits (output M N)
  fits_input : {M : Term} {x : Name} → Outermost M → GoodName x → StepFits (input M x)
  fits_restriction : {x : Name} → GoodName x → StepFits (restriction x)
  fits_matching : {M N : Term} → Outermost M → Outermost N → StepFits (matching M N)
  fits_splitting : {M : Term} {x y : Name} → Outermost M → GoodName x → GoodName y → StepFits (splitting M x y)
  fits_decryption : {M K : Term} {x : Name} → Outermost M → Outermost K → GoodName x → StepFits (decryption M K x)

-- a source by the rules
pub record WellFormed (d : Source) : Type 0 where
  pub good_names : All GoodName d.names
  pub good_variables : All GoodName d.variables
  pub steps_fit : All StepFits d.steps

-- bytes are the text of a source by the rules
abbrev pub TextOf : List ℕ → Source → Type 0
TextOf s d = WellFormed d × (s ≡ text_of d)

abbrev pub Allowed : List ℕ → Type 0
Allowed s = (d : Source) × TextOf s d
