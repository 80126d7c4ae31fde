-- Terms and further plaintexts: what their readers, which call each other, answer. Assumes nothing.
use mathlib.Core.Path.{refl}
use mathlib.Core.Bool.{cond}
use mathlib.Core.List.{List, [], ◌∷◌, ◌++◌}
use Prim.Native.Nat.{ℕ, zero, suc}
use lib.Dec.{eqb}
use lib.ListN.{drop}
use Rattle.text.specs.Source.{Term, paired, sealed, Further, no_more, also}
use Rattle.text.specs.Grammar.{comma, round_shut, brace_shut, TermFits, fits_name, fits_pair, fits_sealed, FurtherFits, fits_no_more, fits_also}
use Rattle.text.specs.Reader.{Read, done, first, expect, some_name, some_term, read_named, pair_by, sealed_by, also_by, read_term, read_further}
use Rattle.text.proofs.Views.{View, view_end, view_choice, view_behind, view_then}
use Rattle.text.proofs.Bytewise.{term_b, further_b}
use Rattle.text.proofs.NameViews.{view_expect, view_expect_for, some_name_good, view_named}

-- any name may stand anywhere
pub some_term_fits : {left : ℕ} → TermFits left some_term
some_term_fits = fits_name some_name_good

module _ {left : ℕ} (P : List ℕ → Read Term) (F : List ℕ → Read Further)
    (v : (s : List ℕ) → View term_b (TermFits left) (λ k. k) P s (P s))
    (w : (s : List ℕ) → View further_b (FurtherFits left) (λ k. k) F s (F s)) where
  view_pair : (s : List ℕ) → View term_b (TermFits (suc left)) (λ k. 0x28 ∷ k) (pair_by P) s (pair_by P s)
  unfolding pair_by term_b
  view_pair s =
      view_then P (λ M. paired M some_term) _ s (v s)
      (λ M f. (comma ++ (some_name ++ round_shut), (λ k. refl), fits_pair f some_term_fits))
      (λ M r p f. view_then (expect comma) (λ u. paired M some_term) _ r (view_expect comma r)
      (λ u x. (some_name ++ round_shut, (λ k. refl), fits_pair f some_term_fits))
      (λ u r p x. view_then P (λ N. paired M N) _ r (v r)
      (λ N g. (round_shut, (λ k. refl), fits_pair f g))
      (λ N r p g. view_expect_for (paired M N) round_shut r (λ k. refl) (fits_pair f g))))

  view_sealed : (s : List ℕ) → View term_b (TermFits (suc left)) (λ k. 0x7B ∷ k) (sealed_by P F) s (sealed_by P F s)
  unfolding sealed_by term_b
  view_sealed s =
      view_then P (λ M. sealed M no_more some_term) _ s (v s)
      (λ M f. (brace_shut ++ some_name, (λ k. refl), fits_sealed f fits_no_more some_term_fits))
      (λ M r p f. view_then F (λ Ms. sealed M Ms some_term) _ r (w r)
      (λ Ms g. (brace_shut ++ some_name, (λ k. refl), fits_sealed f g some_term_fits))
      (λ Ms r p g. view_then (expect brace_shut) (λ u. sealed M Ms some_term) _ r (view_expect brace_shut r)
      (λ u x. (some_name, (λ k. refl), fits_sealed f g some_term_fits))
      (λ u r p x. view_then P (λ K. sealed M Ms K) _ r (v r)
      (λ K h. ([], (λ k. refl), fits_sealed f g h))
      (λ K r p h. view_end (sealed M Ms K) r (λ k. refl) (fits_sealed f g h)))))

  view_also : (s : List ℕ) → View further_b (FurtherFits (suc left)) (λ k. k) (also_by P F) s (also_by P F s)
  unfolding also_by term_b
  view_also s =
      view_then (expect comma) (λ u. also some_term no_more) _ s (view_expect comma s)
      (λ u x. (some_name, (λ k. refl), fits_also some_term_fits fits_no_more))
      (λ u r p x. view_then P (λ M. also M no_more) _ r (v r)
      (λ M f. ([], (λ k. refl), fits_also f fits_no_more))
      (λ M r p f. view_then F (λ Ms. also M Ms) _ r (w r)
      (λ Ms g. ([], (λ k. refl), fits_also f g))
      (λ Ms r p g. view_end (also M Ms) r (λ k. refl) (fits_also f g))))

mutual
  unfolding read_term term_b

  pub view_term : (left : ℕ) (s : List ℕ) → View term_b (TermFits left) (λ k. k) (read_term left) s (read_term left s)
  view_term zero s = view_named s
  view_term (suc left) s =
      let P : List ℕ → Read Term = read_term left in
      let F : List ℕ → Read Further = read_further left in
      view_choice 0x28 (λ s. pair_by P (drop 1 s)) (λ s. cond (eqb (first s) 0x7B) (sealed_by P F (drop 1 s)) (read_named s)) s
      (λ e. view_behind 0x28 (pair_by P) refl s e (λ s' p. view_pair P F (λ r. view_term left r) (λ r. view_further left r) s'))
      (λ e. view_choice 0x7B (λ s. sealed_by P F (drop 1 s)) read_named s
      (λ e. view_behind 0x7B (sealed_by P F) refl s e (λ s' p. view_sealed P F (λ r. view_term left r) (λ r. view_further left r) s'))
      (λ e. view_named s))

  pub view_further : (left : ℕ) (s : List ℕ) → View further_b (FurtherFits left) (λ k. k) (read_further left) s (read_further left s)
  view_further zero s = view_end no_more s (λ k. refl) fits_no_more
  view_further (suc left) s =
      view_choice 0x2C (also_by (read_term left) (read_further left)) (λ s. done no_more s) s
      (λ e. view_also (read_term left) (read_further left) (λ r. view_term left r) (λ r. view_further left r) s)
      (λ e. view_end no_more s (λ k. refl) fits_no_more)
