-- The names of a source in the order in which they stand, and the symbols that come of it. Assumes nothing.
use mathlib.Core.Path.{◌≡◌, refl, sym, ap, ◌∙◌}
use mathlib.Core.Bool.{Bool, true, false, cond}
use mathlib.Core.List.{List, [], ◌∷◌, ◌++◌, map, append_assoc}
use Rattle.calculus.specs.Scope.{All, all_nil, all_cons}
use Rattle.calculus.proofs.Lists.{map_append, all_append}
use Rattle.text.specs.Source.{Name, Term, named, paired, sealed, Further, no_more, also, Step, output, input, restriction, matching, splitting, decryption, Source}
use Rattle.text.specs.Grammar.{Piece, fixed, given, used, term_then, further_then, step_then, steps_then, rest_then, line_then, pieces}
use Rattle.text.specs.Places.{same_name}
use Rattle.text.specs.Numbering.{is_named, with_name, names_from, symbols_of}
use Rattle.text.proofs.NameLaws.{EachName, each_end, each_fixed, each_given, each_used}

-- ── The names of pieces, in order ──

unfoldable pub mentions : List Piece → List Name
mentions [] = []
mentions (fixed w ∷ ps) = mentions ps
mentions (given x ∷ ps) = x ∷ mentions ps
mentions (used x ∷ ps) = x ∷ mentions ps

-- names without repeats, as they first come, behind those that came before
unfoldable pub firsts : List Name → List Name → List Name
firsts xs [] = xs
firsts xs (y ∷ ys) = firsts (with_name xs y) ys

pub symbols_mentioned : (ps : List Piece) (xs : List Name) → names_from xs ps ≡ firsts xs (mentions ps)
unfolding names_from mentions firsts
symbols_mentioned [] xs = refl
symbols_mentioned (fixed w ∷ ps) xs = symbols_mentioned ps xs
symbols_mentioned (given x ∷ ps) xs = symbols_mentioned ps (with_name xs x)
symbols_mentioned (used x ∷ ps) xs = symbols_mentioned ps (with_name xs x)

pub mentions_have : {P : Name → Type 0} {ps : List Piece} → EachName P ps → All P (mentions ps)
unfolding mentions
mentions_have each_end = all_nil
mentions_have (each_fixed e) = mentions_have e
mentions_have (each_given p e) = all_cons p (mentions_have e)
mentions_have (each_used p e) = all_cons p (mentions_have e)

-- ── Those of terms, steps and sources ──

unfoldable mutual
  pub term_names : Term → List Name
  term_names (named x) = x ∷ []
  term_names (paired M N) = term_names M ++ term_names N
  term_names (sealed M Ms K) = term_names M ++ (further_names Ms ++ term_names K)

  pub further_names : Further → List Name
  further_names no_more = []
  further_names (also M Ms) = term_names M ++ further_names Ms

unfoldable pub step_names : Step → List Name
step_names (output M N) = term_names M ++ term_names N
step_names (input M x) = term_names M ++ (x ∷ [])
step_names (restriction x) = x ∷ []
step_names (matching M N) = term_names M ++ term_names N
step_names (splitting M x y) = term_names M ++ (x ∷ y ∷ [])
step_names (decryption M K x) = term_names M ++ (term_names K ++ (x ∷ []))

unfoldable pub steps_names : List Step → List Name
steps_names [] = []
steps_names (t ∷ ts) = step_names t ++ steps_names ts

mutual
  unfolding term_then term_names mentions

  term_mentions : (M : Term) (r : List Piece) → mentions (term_then M r) ≡ term_names M ++ mentions r
  term_mentions (named x) r = refl
  term_mentions (paired M N) r =
      term_mentions M (fixed _ ∷ term_then N (fixed _ ∷ r)) ∙ ap (λ (l : List Name). term_names M ++ l) (term_mentions N (fixed _ ∷ r)) ∙ sym (append_assoc (term_names M) (term_names N) (mentions r))
  term_mentions (sealed M Ms K) r =
      term_mentions M (further_then Ms (fixed _ ∷ term_then K r))
      ∙ ap (λ (l : List Name). term_names M ++ l)
      (further_mentions Ms (fixed _ ∷ term_then K r) ∙ ap (λ (l : List Name). further_names Ms ++ l) (term_mentions K r) ∙ sym (append_assoc (further_names Ms) (term_names K) (mentions r)))
      ∙ sym (append_assoc (term_names M) (further_names Ms ++ term_names K) (mentions r))

  further_mentions : (Ms : Further) (r : List Piece) → mentions (further_then Ms r) ≡ further_names Ms ++ mentions r
  further_mentions no_more r = refl
  further_mentions (also M Ms) r =
      term_mentions M (further_then Ms r) ∙ ap (λ (l : List Name). term_names M ++ l) (further_mentions Ms r) ∙ sym (append_assoc (term_names M) (further_names Ms) (mentions r))

step_mentions : (t : Step) (r : List Piece) → mentions (step_then t r) ≡ step_names t ++ mentions r
unfolding step_then step_names mentions
step_mentions (output M N) r =
    term_mentions M _ ∙ ap (λ (l : List Name). term_names M ++ l) (term_mentions N _) ∙ sym (append_assoc (term_names M) (term_names N) (mentions r))
step_mentions (input M x) r = term_mentions M _ ∙ sym (append_assoc (term_names M) (x ∷ []) (mentions r))
step_mentions (restriction x) r = refl
step_mentions (matching M N) r =
    term_mentions M _ ∙ ap (λ (l : List Name). term_names M ++ l) (term_mentions N _) ∙ sym (append_assoc (term_names M) (term_names N) (mentions r))
step_mentions (splitting M x y) r = term_mentions M _ ∙ sym (append_assoc (term_names M) (x ∷ y ∷ []) (mentions r))
step_mentions (decryption M K x) r =
    term_mentions M _
    ∙ ap (λ (l : List Name). term_names M ++ l) (term_mentions K _ ∙ sym (append_assoc (term_names K) (x ∷ []) (mentions r)))
    ∙ sym (append_assoc (term_names M) (term_names K ++ (x ∷ [])) (mentions r))

steps_mentions : (ts : List Step) → mentions (steps_then ts []) ≡ steps_names ts
unfolding steps_then steps_names mentions
steps_mentions [] = refl
steps_mentions (t ∷ ts) = step_mentions t (steps_then ts []) ∙ ap (λ (l : List Name). step_names t ++ l) (steps_mentions ts)

rest_mentions : (xs : List Name) (r : List Piece) → mentions (rest_then xs r) ≡ xs ++ mentions r
unfolding rest_then mentions
rest_mentions [] r = refl
rest_mentions (x ∷ xs) r = ap (λ (l : List Name). x ∷ l) (rest_mentions xs r)

line_mentions : (xs : List Name) (r : List Piece) → mentions (line_then xs r) ≡ xs ++ mentions r
unfolding line_then mentions
line_mentions [] r = refl
line_mentions (x ∷ xs) r = ap (λ (l : List Name). x ∷ l) (rest_mentions xs r)

-- a source's names in order
pub source_mentions : (d : Source) → mentions (pieces d) ≡ d.names ++ (d.variables ++ steps_names d.steps)
unfolding pieces
source_mentions d = rw (line_mentions d.names (line_then d.variables (steps_then d.steps [])), line_mentions d.variables (steps_then d.steps []), steps_mentions d.steps)

-- the symbols of a source are its names as they first come
pub symbols_first : (d : Source) → symbols_of d ≡ firsts [] (d.names ++ (d.variables ++ steps_names d.steps))
unfolding symbols_of
symbols_first d = rw (symbols_mentioned (pieces d) [], source_mentions d)

-- ── Names renamed ──

module _ (σ : Name → Name) (P : Name → Type 0) (one : (x y : Name) → P x → P y → same_name (σ x) (σ y) ≡ same_name x y) where
  -- names that a renaming keeps apart come in the same order
  pub named_renamed : (x : Name) (l : List Name) → P x → All P l → is_named (σ x) (map σ l) ≡ is_named x l
  unfolding is_named
  named_renamed x [] p all_nil = refl
  named_renamed x (y ∷ l) p (all_cons q a) = rw (one x y p q, named_renamed x l p a)

  with_renamed : (xs : List Name) (x : Name) → All P xs → P x → (with_name (map σ xs) (σ x) ≡ map σ (with_name xs x)) × All P (with_name xs x)
  unfolding with_name
  with_renamed xs x a p = (rw (named_renamed x xs p a) (go (is_named x xs)), has (is_named x xs))
    where
      go : (t : Bool) → cond t (map σ xs) (map σ xs ++ (σ x ∷ [])) ≡ map σ (cond t xs (xs ++ (x ∷ [])))
      go true = refl
      go false = sym (map_append σ xs (x ∷ []))

      has : (t : Bool) → All P (cond t xs (xs ++ (x ∷ [])))
      has true = a
      has false = all_append a (all_cons p all_nil)

  pub firsts_renamed : (xs ys : List Name) → All P xs → All P ys → firsts (map σ xs) (map σ ys) ≡ map σ (firsts xs ys)
  unfolding firsts
  firsts_renamed xs [] a all_nil = refl
  firsts_renamed xs (y ∷ ys) a (all_cons p b) = let (e, c) = with_renamed xs y a p in ap (λ (l : List Name). firsts l (map σ ys)) e ∙ firsts_renamed (with_name xs y) ys c b
