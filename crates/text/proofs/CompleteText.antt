-- The text of steps, lines and a source is read as that source. Assumes nothing.
use mathlib.Core.Path.{◌≡◌, refl, ◌∙◌}
use mathlib.Core.List.{List, [], ◌∷◌, ◌++◌}
use Prim.Native.Nat.{ℕ}
use Rattle.calculus.specs.Scope.{All, all_cons}
use Rattle.text.specs.Source.{Name, Term, Step, output, input, restriction, matching, splitting, decryption, Source}
use Rattle.text.specs.Grammar.{space, feed, GoodName, Outermost, StepFits, fits_output, fits_input, fits_restriction, fits_matching, fits_splitting, fits_decryption, WellFormed, text_of}
use Rattle.text.specs.Reader.{done, and_then, expect, expect_for, read_outermost, read_two, read_input, read_restriction, read_splitting, read_decryption, read_word, read_step, read_steps, read_line, read_text}
use Rattle.text.proofs.Bytewise.{term_b, step_b, steps_b, rest_b, line_b, source_b, text_bytes}
use Rattle.text.proofs.LineViews.{steps_of, steps_more, rest_of, name_then_rest, rest_more}
use Rattle.text.proofs.Complete.{Ends, reads_name, name_not_feed, reads_term}

pub reads_outermost : {M : Term} (r : List ℕ) → Outermost M → Ends r → read_outermost (term_b M r) ≡ done M r
unfolding read_outermost
reads_outermost r f e = reads_term f r e

-- ── Steps ──

reads_two : (f : Term → Term → Step) (M N : Term) (r : List ℕ) → Outermost M → Outermost N → read_two f (term_b M (space ++ term_b N (feed ++ r))) ≡ done (f M N) r
unfolding read_two and_then expect expect_for
reads_two f M N r g h = rw (reads_outermost (space ++ term_b N (feed ++ r)) g refl, reads_outermost (feed ++ r) h refl)

reads_input : (M : Term) (x : Name) (r : List ℕ) → Outermost M → GoodName x → read_input (term_b M (space ++ (x ++ (feed ++ r)))) ≡ done (input M x) r
unfolding read_input and_then expect expect_for
reads_input M x r g h = rw (reads_outermost (space ++ (x ++ (feed ++ r))) g refl, reads_name (feed ++ r) h refl)

reads_restriction : (x : Name) (r : List ℕ) → GoodName x → read_restriction (x ++ (feed ++ r)) ≡ done (restriction x) r
unfolding read_restriction and_then expect expect_for
reads_restriction x r h = rw (reads_name (feed ++ r) h refl)

reads_splitting : (M : Term) (x y : Name) (r : List ℕ) → Outermost M → GoodName x → GoodName y
    → read_splitting (term_b M (space ++ (x ++ (space ++ (y ++ (feed ++ r)))))) ≡ done (splitting M x y) r
unfolding read_splitting and_then expect expect_for
reads_splitting M x y r g h i =
    rw (reads_outermost (space ++ (x ++ (space ++ (y ++ (feed ++ r))))) g refl, reads_name (space ++ (y ++ (feed ++ r))) h refl, reads_name (feed ++ r) i refl)

reads_decryption : (M K : Term) (x : Name) (r : List ℕ) → Outermost M → Outermost K → GoodName x
    → read_decryption (term_b M (space ++ term_b K (space ++ (x ++ (feed ++ r))))) ≡ done (decryption M K x) r
unfolding read_decryption and_then expect expect_for
reads_decryption M K x r g h i =
    rw (reads_outermost (space ++ term_b K (space ++ (x ++ (feed ++ r)))) g refl, reads_outermost (space ++ (x ++ (feed ++ r))) h refl, reads_name (feed ++ r) i refl)

pub reads_step : {t : Step} (r : List ℕ) → StepFits t → read_step (step_b t r) ≡ done t r
unfolding read_step read_word step_b and_then expect
reads_step r (fits_output {M = M} {N = N} g h) = reads_two output M N r g h
reads_step r (fits_input {M = M} {x = x} g h) = reads_input M x r g h
reads_step r (fits_restriction {x = x} h) = reads_restriction x r h
reads_step r (fits_matching {M = M} {N = N} g h) = reads_two matching M N r g h
reads_step r (fits_splitting {M = M} {x = x} {y = y} g h i) = reads_splitting M x y r g h i
reads_step r (fits_decryption {M = M} {K = K} {x = x} g h i) = reads_decryption M K x r g h i

-- a step's text is not empty
starts : (t : Step) (k : List ℕ) → (b : ℕ) × (l : List ℕ) × (step_b t k ≡ b ∷ l)
unfolding step_b
starts (output M N) k = (_, _, refl)
starts (input M x) k = (_, _, refl)
starts (restriction x) k = (_, _, refl)
starts (matching M N) k = (_, _, refl)
starts (splitting M x y) k = (_, _, refl)
starts (decryption M K x) k = (_, _, refl)

-- where there is a step, it is read before the others
one_more : (t : Step) (k : List ℕ) → steps_of (step_b t k) ≡ and_then (read_step (step_b t k)) (λ t. t ∷ []) (λ t r. and_then (steps_of r) (λ ts. t ∷ ts) (λ ts r. done (t ∷ ts) r))
one_more t k = let (b, l, e) = starts t k in rw e (steps_more b l)

pub reads_steps : (ts : List Step) → All StepFits ts → steps_of (steps_b ts []) ≡ done ts []
unfolding steps_b and_then read_steps
reads_steps [] a = refl
reads_steps (t ∷ ts) (all_cons f a) = rw (one_more t (steps_b ts []), reads_step (steps_b ts []) f, reads_steps ts a)

-- ── Lines ──

rest_ends : (xs : List Name) (r : List ℕ) → Ends (rest_b xs r)
unfolding rest_b
rest_ends [] r = refl
rest_ends (x ∷ xs) r = refl

pub reads_rest : (xs : List Name) (r : List ℕ) → All GoodName xs → rest_of (rest_b xs r) ≡ done xs r
unfolding rest_b expect_for expect and_then name_then_rest
reads_rest [] r a = rest_more (feed ++ r)
reads_rest (x ∷ xs) r (all_cons g a) = rest_more (space ++ (x ++ rest_b xs r)) ∙ go (reads_rest xs r a)
  where
    go : rest_of (rest_b xs r) ≡ done xs r → name_then_rest rest_of (x ++ rest_b xs r) ≡ done (x ∷ xs) r
    go e = rw (reads_name (rest_b xs r) g (rest_ends xs r), e)

pub reads_line : (xs : List Name) (r : List ℕ) → All GoodName xs → read_line (line_b xs r) ≡ done xs r
unfolding read_line line_b and_then
reads_line [] r a = refl
reads_line (x ∷ xs) r (all_cons g a) = rw (name_not_feed (rest_b xs r) g, reads_name (rest_b xs r) g (rest_ends xs r), reads_rest xs r a)

-- ── A text ──

pub reads_source : (d : Source) → WellFormed d → read_text (source_b d []) ≡ done d []
unfolding read_text source_b and_then
reads_source d w =
    rw (
      reads_line d.names (line_b d.variables (steps_b d.steps [])) w.good_names,
      reads_line d.variables (steps_b d.steps []) w.good_variables,
      reads_steps d.steps w.steps_fit,
    )

pub reads_text : (d : Source) → WellFormed d → read_text (text_of d) ≡ done d []
reads_text d w = rw (text_bytes d) (reads_source d w)
