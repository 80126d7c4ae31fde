-- The text of terms, lines and sources as bytes, before other bytes: what the grammar's pieces come to. Assumes nothing.
use mathlib.Core.Path.{◌≡◌, refl}
use mathlib.Core.List.{List, [], ◌∷◌, ◌++◌}
use Prim.Native.Nat.{ℕ}
use Rattle.text.specs.Source.{Name, Term, named, paired, sealed, Further, no_more, also, Step, output, input, restriction, matching, splitting, decryption, Source}
use Rattle.text.specs.Grammar.{Piece, fixed, piece_bytes, bytes, space, feed, comma, round_open, round_shut, brace_open, brace_shut, out_word, in_word, new_word, match_word, split_word, decrypt_word, term_then, further_then, step_then, steps_then, rest_then, line_then, pieces, text_of}

unfoldable mutual
  pub term_b : Term → List ℕ → List ℕ
  term_b (named x) k = x ++ k
  term_b (paired M N) k = round_open ++ term_b M (comma ++ term_b N (round_shut ++ k))
  term_b (sealed M Ms K) k = brace_open ++ term_b M (further_b Ms (brace_shut ++ term_b K k))

  pub further_b : Further → List ℕ → List ℕ
  further_b no_more k = k
  further_b (also M Ms) k = comma ++ term_b M (further_b Ms k)

unfoldable pub step_b : Step → List ℕ → List ℕ
step_b (output M N) k = out_word ++ term_b M (space ++ term_b N (feed ++ k))
step_b (input M x) k = in_word ++ term_b M (space ++ (x ++ (feed ++ k)))
step_b (restriction x) k = new_word ++ (x ++ (feed ++ k))
step_b (matching M N) k = match_word ++ term_b M (space ++ term_b N (feed ++ k))
step_b (splitting M x y) k = split_word ++ term_b M (space ++ (x ++ (space ++ (y ++ (feed ++ k)))))
step_b (decryption M K x) k = decrypt_word ++ term_b M (space ++ term_b K (space ++ (x ++ (feed ++ k))))

unfoldable pub steps_b : List Step → List ℕ → List ℕ
steps_b [] k = k
steps_b (t ∷ ts) k = step_b t (steps_b ts k)

unfoldable pub rest_b : List Name → List ℕ → List ℕ
rest_b [] k = feed ++ k
rest_b (x ∷ xs) k = space ++ (x ++ rest_b xs k)

unfoldable pub line_b : List Name → List ℕ → List ℕ
line_b [] k = feed ++ k
line_b (x ∷ xs) k = x ++ rest_b xs k

unfoldable pub source_b : Source → List ℕ → List ℕ
source_b d k = line_b d.names (line_b d.variables (steps_b d.steps k))

-- ── These are the grammar's bytes ──

mutual
  unfolding term_then term_b bytes piece_bytes

  pub term_bytes : (M : Term) (ps : List Piece) → bytes (term_then M ps) ≡ term_b M (bytes ps)
  term_bytes (named x) ps = refl
  term_bytes (paired M N) ps = rw (term_bytes M (fixed comma ∷ term_then N (fixed round_shut ∷ ps)), term_bytes N (fixed round_shut ∷ ps))
  term_bytes (sealed M Ms K) ps =
      rw (term_bytes M (further_then Ms (fixed brace_shut ∷ term_then K ps)), further_bytes Ms (fixed brace_shut ∷ term_then K ps), term_bytes K ps)

  pub further_bytes : (Ms : Further) (ps : List Piece) → bytes (further_then Ms ps) ≡ further_b Ms (bytes ps)
  further_bytes no_more ps = refl
  further_bytes (also M Ms) ps = rw (term_bytes M (further_then Ms ps), further_bytes Ms ps)

pub step_bytes_lem : (t : Step) (ps : List Piece) → bytes (step_then t ps) ≡ step_b t (bytes ps)
unfolding step_then step_b bytes piece_bytes
step_bytes_lem (output M N) ps = rw (term_bytes M, term_bytes N)
step_bytes_lem (input M x) ps = rw (term_bytes M)
step_bytes_lem (restriction x) ps = refl
step_bytes_lem (matching M N) ps = rw (term_bytes M, term_bytes N)
step_bytes_lem (splitting M x y) ps = rw (term_bytes M)
step_bytes_lem (decryption M K x) ps = rw (term_bytes M, term_bytes K)

pub steps_bytes : (ts : List Step) (ps : List Piece) → bytes (steps_then ts ps) ≡ steps_b ts (bytes ps)
unfolding steps_then steps_b
steps_bytes [] ps = refl
steps_bytes (t ∷ ts) ps = rw (step_bytes_lem t, steps_bytes ts ps)

pub rest_bytes : (xs : List Name) (ps : List Piece) → bytes (rest_then xs ps) ≡ rest_b xs (bytes ps)
unfolding rest_then rest_b bytes piece_bytes
rest_bytes [] ps = refl
rest_bytes (x ∷ xs) ps = rw (rest_bytes xs ps)

pub line_bytes : (xs : List Name) (ps : List Piece) → bytes (line_then xs ps) ≡ line_b xs (bytes ps)
unfolding line_then line_b bytes piece_bytes
line_bytes [] ps = refl
line_bytes (x ∷ xs) ps = rw (rest_bytes xs ps)

pub text_bytes : (d : Source) → text_of d ≡ source_b d []
unfolding text_of pieces source_b bytes
text_bytes d = rw (line_bytes d.names, line_bytes d.variables, steps_bytes d.steps)
