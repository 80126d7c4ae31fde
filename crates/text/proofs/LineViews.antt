-- Opening lines, all steps, and a whole text: what their readers answer. The bounds on the numbers of names and steps do not matter. Assumes nothing.
use mathlib.Core.Path.{◌≡◌, refl, ap}
use mathlib.Core.Bool.{cond}
use mathlib.Core.List.{List, [], ◌∷◌}
use Prim.Native.Nat.{ℕ, zero, suc, ◌≤◌, ◌<◌}
use native.Mathlib.Nat.{le_refl}
use native.Mathlib.Omega.{arith}
use lib.Dec.{eqb}
use lib.ListN.{length, drop, length-append}
use Rattle.calculus.specs.Scope.{All, all_nil, all_cons}
use Rattle.text.specs.Source.{Name, Step, output, input, restriction, matching, splitting, decryption}
use Rattle.text.specs.Grammar.{feed, GoodName, StepFits, WellFormed}
use Rattle.text.specs.Reader.{Read, done, stuck, and_then, first, expect, expect_for, read_name, read_step, read_steps, read_rest, read_line, read_text}
use Rattle.text.proofs.Views.{SameStart, both_go, View, view_done, chosen, view_end, view_choice, view_behind, view_then}
use Rattle.text.proofs.Bytewise.{step_b, steps_b, rest_b, line_b, source_b}
use Rattle.text.proofs.NameViews.{view_expect_for, view_name}
use Rattle.text.proofs.StepViews.{view_step}

-- ── What is left is shorter ──

-- a reader leaves no more than it was given
pub leaves : {C : Type 0} {B : C → List ℕ → List ℕ} {Fits : C → Type 0} {q : List ℕ → List ℕ} {K : List ℕ → Read C} {s : List ℕ} {c : C} {r : List ℕ}
    → View B Fits q K s (done c r) → length r ≤ length s
leaves (view_done {r = r} u e w f l) = rw (e, length-append u r) (omega arith)

pub name_leaves : (s : List ℕ) {x : Name} {r : List ℕ} → read_name s ≡ done x r → length r ≤ length s
name_leaves s e = leaves (rw e at (view_name s))

-- a step has at least one byte
first_byte : (t : Step) (k : List ℕ) → step_b t k ≡ [] → ⊥
unfolding step_b
first_byte (output M N) k e = let z : ◌≡◌ {A = ℕ} 0 1 = cc in omega arith
first_byte (input M x) k e = let z : ◌≡◌ {A = ℕ} 0 1 = cc in omega arith
first_byte (restriction x) k e = let z : ◌≡◌ {A = ℕ} 0 1 = cc in omega arith
first_byte (matching M N) k e = let z : ◌≡◌ {A = ℕ} 0 1 = cc in omega arith
first_byte (splitting M x y) k e = let z : ◌≡◌ {A = ℕ} 0 1 = cc in omega arith
first_byte (decryption M K x) k e = let z : ◌≡◌ {A = ℕ} 0 1 = cc in omega arith

pub step_takes : (s : List ℕ) {t : Step} {r : List ℕ} → read_step s ≡ done t r → length r < length s
step_takes s {t} {r} e = go (rw e at (view_step s))
  where
    go : View step_b StepFits (λ k. k) read_step s (done t r) → length r < length s
    go (view_done [] p w f l) = absurd (first_byte t [] (w []))
    go (view_done (b ∷ u) p w f l) = rw (p, length-append u r) (omega arith)

-- ── All steps ──

-- steps up to the text's end
abbrev pub steps_of : List ℕ → Read (List Step)
steps_of s = read_steps (length s) s

-- one step, and then the others
abbrev pub step_then_steps : (List ℕ → Read (List Step)) → List ℕ → Read (List Step)
step_then_steps F s = and_then (read_step s) (λ t. t ∷ []) (λ t r. and_then (F r) (λ ts. t ∷ ts) (λ ts r. done (t ∷ ts) r))

pub steps_bound : (m n : ℕ) (s : List ℕ) → length s ≤ m → length s ≤ n → read_steps m s ≡ read_steps n s
unfolding read_steps and_then
steps_bound zero zero s h k = refl
steps_bound zero (suc n) [] h k = refl
steps_bound zero (suc n) (b ∷ s) h k = absurd (omega arith)
steps_bound (suc m) zero [] h k = refl
steps_bound (suc m) zero (b ∷ s) h k = absurd (omega arith)
steps_bound (suc m) (suc n) [] h k = refl
steps_bound (suc m) (suc n) (b ∷ s) h k = go (read_step (b ∷ s)) refl (λ r. steps_bound m n r)
  where
    go : (a : Read Step) → read_step (b ∷ s) ≡ a → ((r : List ℕ) → length r ≤ m → length r ≤ n → read_steps m r ≡ read_steps n r)
        → and_then a (λ t. t ∷ []) (λ t r. and_then (read_steps m r) (λ ts. t ∷ ts) (λ ts r. done (t ∷ ts) r))
        ≡ and_then a (λ t. t ∷ []) (λ t r. and_then (read_steps n r) (λ ts. t ∷ ts) (λ ts r. done (t ∷ ts) r))
    go (done t r) e f = let l = step_takes (b ∷ s) e in rw (f r (omega arith) (omega arith))
    go (stuck t r) e f = refl

-- the steps of a text that is not at its end
pub steps_more : (b : ℕ) (s : List ℕ) → steps_of (b ∷ s) ≡ step_then_steps steps_of (b ∷ s)
unfolding read_steps and_then
steps_more b s = go (read_step (b ∷ s)) refl
  where
    go : (a : Read Step) → read_step (b ∷ s) ≡ a
        → and_then a (λ t. t ∷ []) (λ t r. and_then (read_steps (length s) r) (λ ts. t ∷ ts) (λ ts r. done (t ∷ ts) r))
        ≡ and_then a (λ t. t ∷ []) (λ t r. and_then (steps_of r) (λ ts. t ∷ ts) (λ ts r. done (t ∷ ts) r))
    go (done t r) e = let l = step_takes (b ∷ s) e in rw (steps_bound (length s) (length r) r (omega arith) (omega arith))
    go (stuck t r) e = refl

abbrev StepsView : List ℕ → Type 0
StepsView s = View steps_b (All StepFits) (λ k. k) steps_of s (steps_of s)

view_no_steps : StepsView []
unfolding read_steps steps_b
view_no_steps = view_done [] refl (λ k. refl) all_nil end
  where
    end : (r' : List ℕ) → SameStart [] r' → steps_of r' ≡ done [] r'
    end [] h = refl
    end (c ∷ r) h = elim h [ ]

view_steps_upto : (n : ℕ) (s : List ℕ) → length s ≤ n → StepsView s
unfolding steps_b
view_steps_upto zero [] h = view_no_steps
view_steps_upto zero (b ∷ s) h = absurd (omega arith)
view_steps_upto (suc n) [] h = view_no_steps
view_steps_upto (suc n) (b ∷ s) h = rw (steps_more b s) (chosen (b ∷ s) same (go (λ r. view_steps_upto n r)))
  where
    same : (r : List ℕ) → SameStart (b ∷ s) r → steps_of r ≡ step_then_steps steps_of r
    same [] h = elim h [ ]
    same (b ∷ r) both_go = steps_more b r

    go : ((r : List ℕ) → length r ≤ n → StepsView r) → View steps_b (All StepFits) (λ k. k) (step_then_steps steps_of) (b ∷ s) (step_then_steps steps_of (b ∷ s))
    go f =
        view_then read_step (λ t. t ∷ []) _ (b ∷ s) (view_step (b ∷ s)) (λ t g. ([], (λ k. refl), all_cons g all_nil))
        (λ t r p g. let l = step_takes (b ∷ s) p in
        view_then steps_of (λ ts. t ∷ ts) _ r (f r (omega arith)) (λ ts gs. ([], (λ k. refl), all_cons g gs))
        (λ ts r p gs. view_end (t ∷ ts) r (λ k. refl) (all_cons g gs)))

pub view_steps : (s : List ℕ) → StepsView s
view_steps s = view_steps_upto (length s) s (le_refl (length s))

-- ── Opening lines ──

-- the rest of a line behind a name
abbrev pub rest_of : List ℕ → Read (List Name)
rest_of s = read_rest (length s) s

-- one name behind its space, and then the others
unfoldable pub name_then_rest : (List ℕ → Read (List Name)) → List ℕ → Read (List Name)
name_then_rest F s = and_then (read_name s) (λ x. x ∷ []) (λ x r. and_then (F r) (λ xs. x ∷ xs) (λ xs r. done (x ∷ xs) r))

name_then_same : (F G : List ℕ → Read (List Name)) (s : List ℕ) → ((r : List ℕ) → length r ≤ length s → F r ≡ G r) → name_then_rest F s ≡ name_then_rest G s
unfolding name_then_rest and_then
name_then_same F G s h = go (read_name s) refl
  where
    go : (a : Read Name) → read_name s ≡ a
        → and_then a (λ x. x ∷ []) (λ x r. and_then (F r) (λ xs. x ∷ xs) (λ xs r. done (x ∷ xs) r))
        ≡ and_then a (λ x. x ∷ []) (λ x r. and_then (G r) (λ xs. x ∷ xs) (λ xs r. done (x ∷ xs) r))
    go (done x r) e = rw (h r (name_leaves s e))
    go (stuck x r) e = refl

pub rest_bound : (m n : ℕ) (s : List ℕ) → length s ≤ m → length s ≤ n → read_rest m s ≡ read_rest n s
unfolding read_rest name_then_rest expect_for expect and_then
rest_bound zero zero s h k = refl
rest_bound zero (suc n) [] h k = refl
rest_bound zero (suc n) (b ∷ s) h k = absurd (omega arith)
rest_bound (suc m) zero [] h k = refl
rest_bound (suc m) zero (b ∷ s) h k = absurd (omega arith)
rest_bound (suc m) (suc n) [] h k = refl
rest_bound (suc m) (suc n) (b ∷ s) h k =
    let f : name_then_rest (read_rest m) s ≡ name_then_rest (read_rest n) s = name_then_same (read_rest m) (read_rest n) s (λ r l. rest_bound m n r (omega arith) (omega arith)) in
    ap (λ (a : Read (List Name)). cond (eqb b 0x20) a (expect_for [] feed (b ∷ s))) f

-- the rest of a line, with no bound
pub rest_more : (s : List ℕ) → rest_of s ≡ cond (eqb (first s) 0x20) (name_then_rest rest_of (drop 1 s)) (expect_for [] feed s)
unfolding read_rest name_then_rest expect_for expect and_then
rest_more [] = refl
rest_more (b ∷ s) =
    let f : name_then_rest (read_rest (length s)) s ≡ name_then_rest rest_of s = name_then_same (read_rest (length s)) rest_of s (λ r l. rest_bound (length s) (length r) r l (le_refl (length r))) in
    ap (λ (a : Read (List Name)). cond (eqb b 0x20) a (expect_for [] feed (b ∷ s))) f

abbrev RestView : List ℕ → Type 0
RestView s = View rest_b (All GoodName) (λ k. k) rest_of s (rest_of s)

-- a name behind a space, where the rest behind it is known
name_then_rest_lem : (s : List ℕ) → ((r : List ℕ) → length r ≤ length s → RestView r) → View rest_b (All GoodName) (λ k. 0x20 ∷ k) (name_then_rest rest_of) s (name_then_rest rest_of s)
unfolding name_then_rest rest_b
name_then_rest_lem s f =
    view_then read_name (λ x. x ∷ []) _ s (view_name s) (λ x g. (feed, (λ k. refl), all_cons g all_nil))
    (λ x r p g. view_then rest_of (λ xs. x ∷ xs) _ r (f r (name_leaves s p)) (λ xs gs. ([], (λ k. refl), all_cons g gs))
    (λ xs r p gs. view_end (x ∷ xs) r (λ k. refl) (all_cons g gs)))

view_rest_from : (s : List ℕ) → ((r : List ℕ) → length r < length s → RestView r) → RestView s
unfolding rest_b
view_rest_from s f =
    rw (rest_more s)
    (chosen s (λ r g. rest_more r)
    (view_choice 0x20 (λ s. name_then_rest rest_of (drop 1 s)) (expect_for [] feed) s
    (λ e. view_behind 0x20 (name_then_rest rest_of) refl s e (λ s' p. name_then_rest_lem s' (λ r l. f r (rw p (omega arith)))))
    (λ e. view_expect_for [] feed s (λ k. refl) all_nil)))

view_rest_upto : (n : ℕ) (s : List ℕ) → length s ≤ n → RestView s
view_rest_upto zero s h = view_rest_from s (λ r l. absurd (omega arith))
view_rest_upto (suc n) s h = view_rest_from s (λ r l. view_rest_upto n r (omega arith))

pub view_rest : (s : List ℕ) → RestView s
view_rest s = view_rest_upto (length s) s (le_refl (length s))

pub view_line : (s : List ℕ) → View line_b (All GoodName) (λ k. k) read_line s (read_line s)
unfolding read_line line_b rest_b
view_line s =
    view_choice 0x0A (λ s. done [] (drop 1 s)) _ s
    (λ e. view_behind 0x0A (λ s. done [] s) refl s e (λ s' p. view_end [] s' (λ k. refl) all_nil))
    (λ e. view_then read_name (λ x. x ∷ []) _ s (view_name s) (λ x g. (feed, (λ k. refl), all_cons g all_nil))
    (λ x r p g. view_then rest_of (λ xs. x ∷ xs) _ r (view_rest r) (λ xs gs. ([], (λ k. refl), all_cons g gs))
    (λ xs r p gs. view_end (x ∷ xs) r (λ k. refl) (all_cons g gs))))

-- ── A text ──

pub view_text : (s : List ℕ) → View source_b WellFormed (λ k. k) read_text s (read_text s)
unfolding read_text source_b line_b steps_b
view_text s =
    view_then read_line (λ xs. record { names = xs; variables = []; steps = [] }) _ s (view_line s)
    (λ xs g. (feed, (λ k. refl), record { good_names = g; good_variables = all_nil; steps_fit = all_nil }))
    (λ xs r p g. view_then read_line (λ ys. record { names = xs; variables = ys; steps = [] }) _ r (view_line r)
    (λ ys h. ([], (λ k. refl), record { good_names = g; good_variables = h; steps_fit = all_nil }))
    (λ ys r p h. view_then steps_of (λ ts. record { names = xs; variables = ys; steps = ts }) _ r (view_steps r)
    (λ ts i. ([], (λ k. refl), record { good_names = g; good_variables = h; steps_fit = i }))
    (λ ts r p i. view_end (record { names = xs; variables = ys; steps = ts }) r (λ k. refl) (record { good_names = g; good_variables = h; steps_fit = i }))))
