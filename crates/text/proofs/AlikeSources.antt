-- Which names count depends only on the text up to where it stops. Assumes nothing.
use mathlib.Core.Path.{◌≡◌, refl, sym}
use mathlib.Core.List.{List, [], ◌∷◌, ◌++◌}
use Prim.Native.Nat.{ℕ}
use native.Mathlib.Nat.{zero-add}
use native.Mathlib.Omega.{arith}
use borrow.Author.Tests.{eqb-false}
use Rattle.calculus.specs.Scope.{All, all_nil, all_cons}
use Rattle.text.specs.Source.{Name, Term, Further, no_more, also, Step, Source}
use Rattle.text.specs.Grammar.{Piece, fixed, given, used, piece_bytes, bytes, space, feed, comma, round_open, round_shut, brace_open, brace_shut, out_word, in_word, new_word, match_word, split_word, decrypt_word, term_then, further_then, step_then, steps_then, rest_then, line_then, pieces, text_of, GoodName, TermFits, fits_name, fits_pair, fits_sealed, FurtherFits, fits_no_more, fits_also, Outermost, StepFits, fits_output, fits_input, fits_restriction, fits_matching, fits_splitting, fits_decryption, WellFormed}
use Rattle.text.specs.Places.{occurrences}
use Rattle.text.specs.Reader.{first}
use Rattle.text.specs.Statements.{CountedOnce}
use Rattle.text.proofs.Complete.{Ends, name_not_round, name_not_brace, name_not_feed}
use Rattle.text.proofs.Alike.{Alike, alike_same, alike_differ, alike_end, alike_sym, alike_name}

-- ── Terms ──

alike_used : {x y : Name} {r r' : List Piece} → GoodName x → GoodName y → Ends (bytes r) → Ends (bytes r') → Alike r r' → Alike (used x ∷ r) (used y ∷ r')
unfolding piece_bytes
alike_used g h m n a = alike_name used (λ x. refl) g h m n a

alike_given : {x y : Name} {r r' : List Piece} → GoodName x → GoodName y → Ends (bytes r) → Ends (bytes r') → Alike r r' → Alike (given x ∷ r) (given y ∷ r')
unfolding piece_bytes
alike_given g h m n a = alike_name given (λ x. refl) g h m n a

name_or_round : {x : Name} {r r' : List Piece} → GoodName x → Alike (used x ∷ r) (fixed round_open ∷ r')
unfolding bytes piece_bytes
name_or_round {x} {r} g = alike_differ (eqb-false (first (x ++ bytes r)) 0x28 (name_not_round (bytes r) g))

name_or_brace : {x : Name} {r r' : List Piece} → GoodName x → Alike (used x ∷ r) (fixed brace_open ∷ r')
unfolding bytes piece_bytes
name_or_brace {x} {r} g = alike_differ (eqb-false (first (x ++ bytes r)) 0x7B (name_not_brace (bytes r) g))

round_or_brace : {r r' : List Piece} → Alike (fixed round_open ∷ r) (fixed brace_open ∷ r')
unfolding bytes piece_bytes
round_or_brace = alike_differ (λ (e : ◌≡◌ {A = ℕ} 0x28 0x7B). omega arith)

comma_or_shut : {r r' : List Piece} → Alike (fixed comma ∷ r) (fixed brace_shut ∷ r')
unfolding bytes piece_bytes
comma_or_shut = alike_differ (λ (e : ◌≡◌ {A = ℕ} 0x2C 0x7D). omega arith)

-- a mark ends a name
mark_ends : (b : ℕ) (w : List ℕ) (r : List Piece) → Ends (b ∷ []) → Ends (bytes (fixed (b ∷ w) ∷ r))
unfolding bytes piece_bytes
mark_ends b w r e = e

further_ends : (Ms : Further) (r : List Piece) → Ends (bytes (further_then Ms (fixed brace_shut ∷ r)))
unfolding further_then bytes piece_bytes
further_ends no_more r = refl
further_ends (also M Ms) r = refl

mutual
  unfolding term_then

  pub alike_term : {l m : ℕ} {M N : Term} → TermFits l M → TermFits m N → (r r' : List Piece) → Ends (bytes r) → Ends (bytes r') → Alike r r' → Alike (term_then M r) (term_then N r')
  alike_term (fits_name g) (fits_name h) r r' i j a = alike_used g h i j a
  alike_term (fits_name g) (fits_pair h k) r r' i j a = name_or_round g
  alike_term (fits_name g) (fits_sealed h k l) r r' i j a = name_or_brace g
  alike_term (fits_pair f g) (fits_name h) r r' i j a = alike_sym (name_or_round h)
  alike_term (fits_pair {M = M} {N = N} f g) (fits_pair {M = M'} {N = N'} h k) r r' i j a =
      alike_same (fixed round_open)
      (alike_term f h (fixed comma ∷ term_then N (fixed round_shut ∷ r)) (fixed comma ∷ term_then N' (fixed round_shut ∷ r')) (mark_ends 0x2C (0x20 ∷ []) _ refl)
      (mark_ends 0x2C (0x20 ∷ []) _ refl)
      (alike_same (fixed comma)
      (alike_term g k (fixed round_shut ∷ r) (fixed round_shut ∷ r') (mark_ends 0x29 [] _ refl) (mark_ends 0x29 [] _ refl) (alike_same (fixed round_shut) a))))
  alike_term (fits_pair f g) (fits_sealed h k l) r r' i j a = round_or_brace
  alike_term (fits_sealed f g h) (fits_name k) r r' i j a = alike_sym (name_or_brace k)
  alike_term (fits_sealed f g h) (fits_pair k l) r r' i j a = alike_sym round_or_brace
  alike_term (fits_sealed {K = K} {Ms = Ms} f g h) (fits_sealed {K = K'} {Ms = Ms'} k l m) r r' i j a =
      alike_same (fixed brace_open)
      (alike_term f k (further_then Ms (fixed brace_shut ∷ term_then K r)) (further_then Ms' (fixed brace_shut ∷ term_then K' r')) (further_ends Ms (term_then K r))
      (further_ends Ms' (term_then K' r')) (alike_further g l (term_then K r) (term_then K' r') (alike_term h m r r' i j a)))

  pub alike_further : {l m : ℕ} {Ms Ns : Further} → FurtherFits l Ms → FurtherFits m Ns → (r r' : List Piece) → Alike r r'
      → Alike (further_then Ms (fixed brace_shut ∷ r)) (further_then Ns (fixed brace_shut ∷ r'))
  alike_further fits_no_more fits_no_more r r' a = alike_same (fixed brace_shut) a
  alike_further fits_no_more (fits_also f g) r r' a = alike_sym comma_or_shut
  alike_further (fits_also f g) fits_no_more r r' a = comma_or_shut
  alike_further (fits_also {Ms = Ms} f g) (fits_also {Ms = Ms'} h k) r r' a =
      alike_same (fixed comma)
      (alike_term f h (further_then Ms (fixed brace_shut ∷ r)) (further_then Ms' (fixed brace_shut ∷ r')) (further_ends Ms r) (further_ends Ms' r') (alike_further g k r r' a))

-- ── Steps ──

space_ends : (r : List Piece) → Ends (bytes (fixed space ∷ r))
space_ends r = mark_ends 0x20 [] r refl

feed_ends : (r : List Piece) → Ends (bytes (fixed feed ∷ r))
feed_ends r = mark_ends 0x0A [] r refl

-- a term of a step and a space; the last one and a line feed; and names so
term_space : {M N : Term} {r r' : List Piece} → Outermost M → Outermost N → Alike r r' → Alike (term_then M (fixed space ∷ r)) (term_then N (fixed space ∷ r'))
term_space {r = r} {r' = r'} f g a = alike_term f g (fixed space ∷ r) (fixed space ∷ r') (space_ends r) (space_ends r') (alike_same (fixed space) a)

term_feed : {M N : Term} {r r' : List Piece} → Outermost M → Outermost N → Alike r r' → Alike (term_then M (fixed feed ∷ r)) (term_then N (fixed feed ∷ r'))
term_feed {r = r} {r' = r'} f g a = alike_term f g (fixed feed ∷ r) (fixed feed ∷ r') (feed_ends r) (feed_ends r') (alike_same (fixed feed) a)

name_space : {x y : Name} {r r' : List Piece} → GoodName x → GoodName y → Alike r r' → Alike (given x ∷ fixed space ∷ r) (given y ∷ fixed space ∷ r')
name_space {r = r} {r' = r'} f g a = alike_given f g (space_ends r) (space_ends r') (alike_same (fixed space) a)

name_feed : {x y : Name} {r r' : List Piece} → GoodName x → GoodName y → Alike r r' → Alike (given x ∷ fixed feed ∷ r) (given y ∷ fixed feed ∷ r')
name_feed {r = r} {r' = r'} f g a = alike_given f g (feed_ends r) (feed_ends r') (alike_same (fixed feed) a)

-- words with different first letters
words_differ : (b c : ℕ) (v w : List ℕ) (r r' : List Piece) → ¬ (b ≡ c) → Alike (fixed (b ∷ v) ∷ r) (fixed (c ∷ w) ∷ r')
unfolding bytes piece_bytes
words_differ b c v w r r' n = alike_differ n

pub alike_step : {t t' : Step} → StepFits t → StepFits t' → (r r' : List Piece) → Alike r r' → Alike (step_then t r) (step_then t' r')
unfolding step_then
alike_step (fits_output f g) (fits_output f' g') r r' a = alike_same (fixed out_word) (term_space f f' (term_feed g g' a))
alike_step (fits_output f g) (fits_input f' g') r r' a = words_differ 0x6F 0x69 _ _ _ _ (λ e. omega arith)
alike_step (fits_output f g) (fits_restriction f') r r' a = words_differ 0x6F 0x6E _ _ _ _ (λ e. omega arith)
alike_step (fits_output f g) (fits_matching f' g') r r' a = words_differ 0x6F 0x6D _ _ _ _ (λ e. omega arith)
alike_step (fits_output f g) (fits_splitting f' g' h') r r' a = words_differ 0x6F 0x73 _ _ _ _ (λ e. omega arith)
alike_step (fits_output f g) (fits_decryption f' g' h') r r' a = words_differ 0x6F 0x64 _ _ _ _ (λ e. omega arith)
alike_step (fits_input f g) (fits_output f' g') r r' a = words_differ 0x69 0x6F _ _ _ _ (λ e. omega arith)
alike_step (fits_input f g) (fits_input f' g') r r' a = alike_same (fixed in_word) (term_space f f' (name_feed g g' a))
alike_step (fits_input f g) (fits_restriction f') r r' a = words_differ 0x69 0x6E _ _ _ _ (λ e. omega arith)
alike_step (fits_input f g) (fits_matching f' g') r r' a = words_differ 0x69 0x6D _ _ _ _ (λ e. omega arith)
alike_step (fits_input f g) (fits_splitting f' g' h') r r' a = words_differ 0x69 0x73 _ _ _ _ (λ e. omega arith)
alike_step (fits_input f g) (fits_decryption f' g' h') r r' a = words_differ 0x69 0x64 _ _ _ _ (λ e. omega arith)
alike_step (fits_restriction f) (fits_output f' g') r r' a = words_differ 0x6E 0x6F _ _ _ _ (λ e. omega arith)
alike_step (fits_restriction f) (fits_input f' g') r r' a = words_differ 0x6E 0x69 _ _ _ _ (λ e. omega arith)
alike_step (fits_restriction f) (fits_restriction f') r r' a = alike_same (fixed new_word) (name_feed f f' a)
alike_step (fits_restriction f) (fits_matching f' g') r r' a = words_differ 0x6E 0x6D _ _ _ _ (λ e. omega arith)
alike_step (fits_restriction f) (fits_splitting f' g' h') r r' a = words_differ 0x6E 0x73 _ _ _ _ (λ e. omega arith)
alike_step (fits_restriction f) (fits_decryption f' g' h') r r' a = words_differ 0x6E 0x64 _ _ _ _ (λ e. omega arith)
alike_step (fits_matching f g) (fits_output f' g') r r' a = words_differ 0x6D 0x6F _ _ _ _ (λ e. omega arith)
alike_step (fits_matching f g) (fits_input f' g') r r' a = words_differ 0x6D 0x69 _ _ _ _ (λ e. omega arith)
alike_step (fits_matching f g) (fits_restriction f') r r' a = words_differ 0x6D 0x6E _ _ _ _ (λ e. omega arith)
alike_step (fits_matching f g) (fits_matching f' g') r r' a = alike_same (fixed match_word) (term_space f f' (term_feed g g' a))
alike_step (fits_matching f g) (fits_splitting f' g' h') r r' a = words_differ 0x6D 0x73 _ _ _ _ (λ e. omega arith)
alike_step (fits_matching f g) (fits_decryption f' g' h') r r' a = words_differ 0x6D 0x64 _ _ _ _ (λ e. omega arith)
alike_step (fits_splitting f g h) (fits_output f' g') r r' a = words_differ 0x73 0x6F _ _ _ _ (λ e. omega arith)
alike_step (fits_splitting f g h) (fits_input f' g') r r' a = words_differ 0x73 0x69 _ _ _ _ (λ e. omega arith)
alike_step (fits_splitting f g h) (fits_restriction f') r r' a = words_differ 0x73 0x6E _ _ _ _ (λ e. omega arith)
alike_step (fits_splitting f g h) (fits_matching f' g') r r' a = words_differ 0x73 0x6D _ _ _ _ (λ e. omega arith)
alike_step (fits_splitting f g h) (fits_splitting f' g' h') r r' a = alike_same (fixed split_word) (term_space f f' (name_space g g' (name_feed h h' a)))
alike_step (fits_splitting f g h) (fits_decryption f' g' h') r r' a = words_differ 0x73 0x64 _ _ _ _ (λ e. omega arith)
alike_step (fits_decryption f g h) (fits_output f' g') r r' a = words_differ 0x64 0x6F _ _ _ _ (λ e. omega arith)
alike_step (fits_decryption f g h) (fits_input f' g') r r' a = words_differ 0x64 0x69 _ _ _ _ (λ e. omega arith)
alike_step (fits_decryption f g h) (fits_restriction f') r r' a = words_differ 0x64 0x6E _ _ _ _ (λ e. omega arith)
alike_step (fits_decryption f g h) (fits_matching f' g') r r' a = words_differ 0x64 0x6D _ _ _ _ (λ e. omega arith)
alike_step (fits_decryption f g h) (fits_splitting f' g' h') r r' a = words_differ 0x64 0x73 _ _ _ _ (λ e. omega arith)
alike_step (fits_decryption f g h) (fits_decryption f' g' h') r r' a = alike_same (fixed decrypt_word) (term_space f f' (term_space g g' (name_feed h h' a)))

pub alike_steps : (ts ts' : List Step) → All StepFits ts → All StepFits ts' → Alike (steps_then ts []) (steps_then ts' [])
unfolding steps_then
alike_steps [] ts' all_nil b = alike_end (steps_then ts' [])
alike_steps (t ∷ ts) [] a all_nil = alike_sym (alike_end (step_then t (steps_then ts [])))
alike_steps (t ∷ ts) (t' ∷ ts') (all_cons f a) (all_cons g b) = alike_step f g (steps_then ts []) (steps_then ts' []) (alike_steps ts ts' a b)

-- ── Lines ──

feed_or_space : (r r' : List Piece) → Alike (fixed feed ∷ r) (fixed space ∷ r')
feed_or_space r r' = words_differ 0x0A 0x20 [] [] r r' (λ e. omega arith)

rest_ends : (xs : List Name) (r : List Piece) → Ends (bytes (rest_then xs r))
unfolding rest_then bytes piece_bytes
rest_ends [] r = refl
rest_ends (x ∷ xs) r = refl

alike_rest : (xs ys : List Name) → All GoodName xs → All GoodName ys → (r r' : List Piece) → Alike r r' → Alike (rest_then xs r) (rest_then ys r')
unfolding rest_then
alike_rest [] [] all_nil all_nil r r' a = alike_same (fixed feed) a
alike_rest [] (y ∷ ys) all_nil (all_cons g h) r r' a = feed_or_space r (given y ∷ rest_then ys r')
alike_rest (x ∷ xs) [] (all_cons f g) all_nil r r' a = alike_sym (feed_or_space r' (given x ∷ rest_then xs r))
alike_rest (x ∷ xs) (y ∷ ys) (all_cons f g) (all_cons h k) r r' a =
    alike_same (fixed space) (alike_given f h (rest_ends xs r) (rest_ends ys r') (alike_rest xs ys g k r r' a))

feed_or_name : {x : Name} (r r' : List Piece) → GoodName x → Alike (given x ∷ r) (fixed feed ∷ r')
unfolding bytes piece_bytes
feed_or_name {x} r r' g = alike_differ (eqb-false (first (x ++ bytes r)) 0x0A (name_not_feed (bytes r) g))

alike_line : (xs ys : List Name) → All GoodName xs → All GoodName ys → (r r' : List Piece) → Alike r r' → Alike (line_then xs r) (line_then ys r')
unfolding line_then
alike_line [] [] all_nil all_nil r r' a = alike_same (fixed feed) a
alike_line [] (y ∷ ys) all_nil (all_cons g h) r r' a = alike_sym (feed_or_name (rest_then ys r') r g)
alike_line (x ∷ xs) [] (all_cons f g) all_nil r r' a = feed_or_name (rest_then xs r) r' f
alike_line (x ∷ xs) (y ∷ ys) (all_cons f g) (all_cons h k) r r' a = alike_given f h (rest_ends xs r) (rest_ends ys r') (alike_rest xs ys g k r r' a)

-- ── Sources ──

alike_source : (d e : Source) → WellFormed d → WellFormed e → Alike (pieces d) (pieces e)
unfolding pieces
alike_source d e v w =
    alike_line d.names e.names v.good_names w.good_names _ _
    (alike_line d.variables e.variables v.good_variables w.good_variables _ _ (alike_steps d.steps e.steps v.steps_fit w.steps_fit))

pub counted_once : CountedOnce
unfolding occurrences text_of
counted_once p d e (v, r, f) (w, t, g) = rw zero-add at ((alike_source d e v w).agree p r t (sym f) (sym g) 0)
