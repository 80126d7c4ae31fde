-- Steps: what their readers answer. Assumes nothing.
use mathlib.Core.Path.{◌≡◌, refl}
use mathlib.Core.List.{List, ◌++◌}
use Prim.Native.Nat.{ℕ}
use Rattle.text.specs.Source.{Term, Step, output, input, restriction, matching, splitting, decryption}
use Rattle.text.specs.Grammar.{space, feed, out_word, in_word, new_word, match_word, split_word, decrypt_word, Outermost, StepFits, fits_output, fits_input, fits_restriction, fits_matching, fits_splitting, fits_decryption}
use Rattle.text.specs.Reader.{Read, expect, some_name, some_term, read_name, read_outermost, read_two, read_input, read_restriction, read_splitting, read_decryption, read_word, read_step}
use Rattle.text.proofs.Views.{View, view_none, view_choice, view_then}
use Rattle.text.proofs.Bytewise.{term_b, step_b}
use Rattle.text.proofs.NameViews.{view_expect, view_expect_for, some_name_good, view_name}
use Rattle.text.proofs.TermViews.{some_term_fits, view_term}

pub view_outermost : (s : List ℕ) → View term_b Outermost (λ k. k) read_outermost s (read_outermost s)
unfolding read_outermost
view_outermost s = view_term 127 s

-- ── Behind the word ──

abbrev Behind : List ℕ → (List ℕ → Read Step) → Type 0
Behind w K = (s : List ℕ) → View step_b StepFits (λ k. w ++ k) K s (K s)

-- two terms, behind the word w
view_two : (w : List ℕ) (f : Term → Term → Step) → ((M N : Term) (k : List ℕ) → step_b (f M N) k ≡ w ++ term_b M (space ++ term_b N (feed ++ k)))
    → ((M N : Term) → Outermost M → Outermost N → StepFits (f M N)) → Behind w (read_two f)
unfolding read_two term_b
view_two w f e fits s =
    view_then read_outermost (λ M. f M some_term) _ s (view_outermost s)
    (λ M g. (space ++ (some_name ++ feed), (λ k. e M some_term k), fits M some_term g some_term_fits))
    (λ M r p g. view_then (expect space) (λ u. f M some_term) _ r (view_expect space r)
    (λ u x. (some_name ++ feed, (λ k. e M some_term k), fits M some_term g some_term_fits))
    (λ u r p x. view_then read_outermost (λ N. f M N) _ r (view_outermost r)
    (λ N h. (feed, (λ k. e M N k), fits M N g h))
    (λ N r p h. view_expect_for (f M N) feed r (λ k. e M N k) (fits M N g h))))

view_input : Behind in_word read_input
unfolding read_input step_b
view_input s =
    view_then read_outermost (λ M. input M some_name) _ s (view_outermost s)
    (λ M g. (space ++ (some_name ++ feed), (λ k. refl), fits_input g some_name_good))
    (λ M r p g. view_then (expect space) (λ u. input M some_name) _ r (view_expect space r)
    (λ u x. (some_name ++ feed, (λ k. refl), fits_input g some_name_good))
    (λ u r p x. view_then read_name (λ x. input M x) _ r (view_name r)
    (λ x h. (feed, (λ k. refl), fits_input g h))
    (λ x r p h. view_expect_for (input M x) feed r (λ k. refl) (fits_input g h))))

view_restriction : Behind new_word read_restriction
unfolding read_restriction step_b
view_restriction s =
    view_then read_name restriction _ s (view_name s)
    (λ x h. (feed, (λ k. refl), fits_restriction h))
    (λ x r p h. view_expect_for (restriction x) feed r (λ k. refl) (fits_restriction h))

view_splitting : Behind split_word read_splitting
unfolding read_splitting step_b
view_splitting s =
    view_then read_outermost (λ M. splitting M some_name some_name) _ s (view_outermost s)
    (λ M g. (space ++ (some_name ++ (space ++ (some_name ++ feed))), (λ k. refl), fits_splitting g some_name_good some_name_good))
    (λ M r p g. view_then (expect space) (λ u. splitting M some_name some_name) _ r (view_expect space r)
    (λ u x. (some_name ++ (space ++ (some_name ++ feed)), (λ k. refl), fits_splitting g some_name_good some_name_good))
    (λ u r p x. view_then read_name (λ x. splitting M x some_name) _ r (view_name r)
    (λ x h. (space ++ (some_name ++ feed), (λ k. refl), fits_splitting g h some_name_good))
    (λ x r p h. view_then (expect space) (λ u. splitting M x some_name) _ r (view_expect space r)
    (λ u z. (some_name ++ feed, (λ k. refl), fits_splitting g h some_name_good))
    (λ u r p z. view_then read_name (λ y. splitting M x y) _ r (view_name r)
    (λ y i. (feed, (λ k. refl), fits_splitting g h i))
    (λ y r p i. view_expect_for (splitting M x y) feed r (λ k. refl) (fits_splitting g h i))))))

view_decryption : Behind decrypt_word read_decryption
unfolding read_decryption step_b term_b
view_decryption s =
    view_then read_outermost (λ M. decryption M some_term some_name) _ s (view_outermost s)
    (λ M g. (space ++ (some_name ++ (space ++ (some_name ++ feed))), (λ k. refl), fits_decryption g some_term_fits some_name_good))
    (λ M r p g. view_then (expect space) (λ u. decryption M some_term some_name) _ r (view_expect space r)
    (λ u x. (some_name ++ (space ++ (some_name ++ feed)), (λ k. refl), fits_decryption g some_term_fits some_name_good))
    (λ u r p x. view_then read_outermost (λ K. decryption M K some_name) _ r (view_outermost r)
    (λ K h. (space ++ (some_name ++ feed), (λ k. refl), fits_decryption g h some_name_good))
    (λ K r p h. view_then (expect space) (λ u. decryption M K some_name) _ r (view_expect space r)
    (λ u z. (some_name ++ feed, (λ k. refl), fits_decryption g h some_name_good))
    (λ u r p z. view_then read_name (λ x. decryption M K x) _ r (view_name r)
    (λ x i. (feed, (λ k. refl), fits_decryption g h i))
    (λ x r p i. view_expect_for (decryption M K x) feed r (λ k. refl) (fits_decryption g h i))))))

-- ── The word, and what is behind it ──

-- the word w, whose step t stands for any that has not been read
view_word : (w : List ℕ) (t : Step) (e : List ℕ) (K : List ℕ → Read Step) → ((k : List ℕ) → step_b t k ≡ w ++ (e ++ k)) → StepFits t → Behind w K → (s : List ℕ)
    → View step_b StepFits (λ k. k) (read_word w t K) s (read_word w t K s)
unfolding read_word
view_word w t e K p f v s = view_then (expect w) (λ u. t) (λ u r. K r) s (view_expect w s) (λ u x. (e, p, f)) (λ u r q x. v r)

pub view_step : (s : List ℕ) → View step_b StepFits (λ k. k) read_step s (read_step s)
unfolding read_step step_b term_b
view_step s =
    let a : List ℕ = some_name ++ (space ++ (some_name ++ feed)) in
    let b : List ℕ = some_name ++ (space ++ (some_name ++ (space ++ (some_name ++ feed)))) in
    view_choice 0x6F (read_word out_word (output some_term some_term) (read_two output)) _ s
    (λ e. view_word out_word (output some_term some_term) a (read_two output) (λ k. refl) (fits_output some_term_fits some_term_fits)
    (view_two out_word output (λ M N k. refl) (λ M N. fits_output)) s)
    (λ e. view_choice 0x69 (read_word in_word (input some_term some_name) read_input) _ s
    (λ e. view_word in_word (input some_term some_name) a read_input (λ k. refl) (fits_input some_term_fits some_name_good) view_input s)
    (λ e. view_choice 0x6E (read_word new_word (restriction some_name) read_restriction) _ s
    (λ e. view_word new_word (restriction some_name) (some_name ++ feed) read_restriction (λ k. refl) (fits_restriction some_name_good) view_restriction s)
    (λ e. view_choice 0x6D (read_word match_word (matching some_term some_term) (read_two matching)) _ s
    (λ e. view_word match_word (matching some_term some_term) a (read_two matching) (λ k. refl) (fits_matching some_term_fits some_term_fits)
    (view_two match_word matching (λ M N k. refl) (λ M N. fits_matching)) s)
    (λ e. view_choice 0x73 (read_word split_word (splitting some_term some_name some_name) read_splitting) _ s
    (λ e. view_word split_word (splitting some_term some_name some_name) b read_splitting (λ k. refl)
    (fits_splitting some_term_fits some_name_good some_name_good) view_splitting s)
    (λ e. view_choice 0x64 (read_word decrypt_word (decryption some_term some_term some_name) read_decryption) _ s
    (λ e. view_word decrypt_word (decryption some_term some_term some_name) b read_decryption (λ k. refl)
    (fits_decryption some_term_fits some_term_fits some_name_good) view_decryption s)
    (λ e. view_none (restriction some_name) s (new_word ++ (some_name ++ feed)) (λ k. refl) (fits_restriction some_name_good)))))))
