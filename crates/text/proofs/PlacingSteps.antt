-- Steps placed among the entries: the table's process is the source's, its operands are there, and every entry is named. Assumes nothing.
use mathlib.Core.Path.{◌≡◌, refl, ap, ap₂, ◌∙◌}
use mathlib.Core.Logic.{◌⊎◌, inl, inr}
use mathlib.Core.List.{List, [], ◌∷◌, map}
use Prim.Native.Nat.{ℕ, ◌≤◌, ◌<◌}
use native.Mathlib.Decide.{dec_lt}
use native.Mathlib.Omega.{arith}
use lib.ListN.{length}
use Rattle.calculus.specs.Terms.{Tree, Act, send, receive, fresh, compare, split, decrypt, map_act, operands}
use Rattle.calculus.specs.Scope.{In, here, there, All, all_nil, all_cons}
use Rattle.calculus.specs.Version1.{encryption, signature1}
use Rattle.calculus.proofs.Lists.{all_map}
use Rattle.text.specs.Source.{Name, Term, Step, output, input, restriction, matching, splitting, decryption}
use Rattle.text.specs.Numbering.{TermEntry, Placed, Stepped, number_of, place_term, place_two, place_one, place_step, placed_entries, placed_steps}
use Rattle.text.specs.Meaning.{term_tree, step_act}
use Rattle.text.proofs.EntryLaws.{tree, Grown, grown_not, grown_twice, grown_length, tree_stays, Fine}
use Rattle.text.proofs.Placing.{PartOf, part_stays, Well, TermNames, Numbered, term_well}

-- every name of a step has a property
pub data StepNames (P : Name → Type 0) : Step → Type 0 where
  names_output : {M N : Term} → TermNames P M → TermNames P N → StepNames P (output M N)
  names_input : {M : Term} {x : Name} → TermNames P M → P x → StepNames P (input M x)
  names_restriction : {x : Name} → P x → StepNames P (restriction x)
  names_matching : {M N : Term} → TermNames P M → TermNames P N → StepNames P (matching M N)
  names_splitting : {M : Term} {x y : Name} → TermNames P M → P x → P y → StepNames P (splitting M x y)
  names_decryption : {M K : Term} {x : Name} → TermNames P M → TermNames P K → P x → StepNames P (decryption M K x)

abbrev T : Type 0
T = Tree signature1 ℕ

-- ── A step ──

-- the act t was placed behind es
pub record StepWell (n : ℕ) (es : List TermEntry) (t : Act signature1 T) (p : Stepped) : Type 0 where
  pub fine : Fine n p.entries
  pub grown : Grown es p.entries
  pub stands : map_act signature1 (tree p.entries) p.step ≡ t
  pub there : All (λ i. i < length p.entries) (operands signature1 p.step)
  pub new : (i : ℕ) → length es ≤ i → i < length p.entries → In i (operands signature1 p.step) ⊎ PartOf p.entries i

module _ (n : ℕ) (xs : List Name) where
  two_well : {M N : Term} → TermNames (Numbered n xs) M → TermNames (Numbered n xs) N → (f : ℕ → ℕ → Act signature1 ℕ) (g : T → T → Act signature1 T)
      → ((h : ℕ → T) (a b : ℕ) → map_act signature1 h (f a b) ≡ g (h a) (h b)) → ((a b : ℕ) → operands signature1 (f a b) ≡ a ∷ b ∷ [])
      → (es : List TermEntry) → Fine n es → StepWell n es (g (term_tree xs M) (term_tree xs N)) (place_two xs M N f es)
  unfolding place_two
  two_well {M} {N} a b f g e o es w = go (term_well n xs a es w) (term_well n xs b (place_term xs M es).entries (term_well n xs a es w).fine)
    where
      m : Placed
      m = place_term xs M es

      k : Placed
      k = place_term xs N (place_term xs M es).entries

      go : Well n es (term_tree xs M) m → Well n m.entries (term_tree xs N) k
          → StepWell n es (g (term_tree xs M) (term_tree xs N)) (record { entries = k.entries; step = f m.index k.index })
      go v u =
          let l = grown_length u.grown in
          let d = v.there in
          let c : m.index < length k.entries = omega arith in
          record {
            fine = u.fine;
            grown = grown_twice v.grown u.grown;
            stands = e (tree k.entries) m.index k.index ∙ ap₂ g (tree_stays u.grown m.index v.there ∙ v.stands) u.stands;
            there = rw (o m.index k.index) (all_cons c (all_cons u.there all_nil));
            new = λ i p q. rw (o m.index k.index) (newer i p q (dec_lt i (length m.entries)));
          }
        where
          newer : (i : ℕ) → length es ≤ i → i < length k.entries → Dec (i < length m.entries) → In i (m.index ∷ k.index ∷ []) ⊎ PartOf k.entries i
          newer i p q (yes d) = first (v.new i p d)
            where
              first : (i ≡ m.index) ⊎ PartOf m.entries i → In i (m.index ∷ k.index ∷ []) ⊎ PartOf k.entries i
              first (inl z) = inl (rw z here)
              first (inr z) = inr (part_stays i u.grown z)
          newer i p q (no d) = second (u.new i (omega arith) q)
            where
              second : (i ≡ k.index) ⊎ PartOf k.entries i → In i (m.index ∷ k.index ∷ []) ⊎ PartOf k.entries i
              second (inl z) = inl (rw z (there here))
              second (inr z) = inr z

  one_well : {M : Term} → TermNames (Numbered n xs) M → (f : ℕ → Act signature1 ℕ) (g : T → Act signature1 T)
      → ((h : ℕ → T) (a : ℕ) → map_act signature1 h (f a) ≡ g (h a)) → ((a : ℕ) → operands signature1 (f a) ≡ a ∷ [])
      → (es : List TermEntry) → Fine n es → StepWell n es (g (term_tree xs M)) (place_one xs M f es)
  unfolding place_one
  one_well {M} a f g e o es w = go (term_well n xs a es w)
    where
      m : Placed
      m = place_term xs M es

      go : Well n es (term_tree xs M) m → StepWell n es (g (term_tree xs M)) (record { entries = m.entries; step = f m.index })
      go v =
          record {
            fine = v.fine;
            grown = v.grown;
            stands = e (tree m.entries) m.index ∙ ap g v.stands;
            there = rw (o m.index) (all_cons v.there all_nil);
            new = λ i p q. rw (o m.index) (first i (v.new i p q));
          }
        where
          first : (i : ℕ) → (i ≡ m.index) ⊎ PartOf m.entries i → In i (m.index ∷ []) ⊎ PartOf m.entries i
          first i (inl z) = inl (rw z here)
          first i (inr z) = inr z

  pub step_well : {t : Step} → StepNames (Numbered n xs) t → (es : List TermEntry) → Fine n es → StepWell n es (step_act xs t) (place_step xs t es)
  unfolding place_step step_act map_act operands
  step_well (names_output a b) es w = two_well a b send send (λ h i j. refl) (λ i j. refl) es w
  step_well (names_input {x = x} a b) es w = one_well a (λ i. receive i (number_of x xs)) (λ M. receive M (number_of x xs)) (λ h i. refl) (λ i. refl) es w
  step_well (names_restriction b) es w = record { fine = w; grown = grown_not es; stands = refl; there = all_nil; new = λ i p q. absurd (omega arith) }
  step_well (names_matching a b) es w = two_well a b compare compare (λ h i j. refl) (λ i j. refl) es w
  step_well (names_splitting {x = x} {y = y} a b c) es w =
      one_well a (λ i. split i (number_of x xs) (number_of y xs)) (λ M. split M (number_of x xs) (number_of y xs)) (λ h i. refl) (λ i. refl) es w
  step_well (names_decryption {x = x} a b c) es w =
      two_well a b (λ i j. decrypt encryption i j (number_of x xs)) (λ M K. decrypt encryption M K (number_of x xs)) (λ h i j. refl) (λ i j. refl) es w

  -- ── All steps ──

  -- the steps ts were placed behind es
  pub record StepsWell (es : List TermEntry) (ts : List Step) : Type 0 where
    pub fine : Fine n (placed_entries xs ts es)
    pub grown : Grown es (placed_entries xs ts es)
    pub stands : map (map_act signature1 (tree (placed_entries xs ts es))) (placed_steps xs ts es) ≡ map (step_act xs) ts
    pub there : (s : Act signature1 ℕ) → In s (placed_steps xs ts es) → All (λ i. i < length (placed_entries xs ts es)) (operands signature1 s)
    pub new : (i : ℕ) → length es ≤ i → i < length (placed_entries xs ts es)
        → ((s : Act signature1 ℕ) × In s (placed_steps xs ts es) × In i (operands signature1 s)) ⊎ PartOf (placed_entries xs ts es) i

  -- an act over indexes that are there means the same when entries are added
  act_stays : {es fs : List TermEntry} → Grown es fs → (s : Act signature1 ℕ) → All (λ i. i < length es) (operands signature1 s) → map_act signature1 (tree fs) s ≡ map_act signature1 (tree es) s
  unfolding map_act operands
  act_stays g (send a b) (all_cons p (all_cons q all_nil)) = rw (tree_stays g a p, tree_stays g b q)
  act_stays g (receive a x) (all_cons p all_nil) = rw (tree_stays g a p)
  act_stays g (fresh x) all_nil = refl
  act_stays g (compare a b) (all_cons p (all_cons q all_nil)) = rw (tree_stays g a p, tree_stays g b q)
  act_stays g (split a x y) (all_cons p all_nil) = rw (tree_stays g a p)
  act_stays g (decrypt c a b x) (all_cons p (all_cons q all_nil)) = rw (tree_stays g a p, tree_stays g b q)

  pub steps_well : {ts : List Step} → All (StepNames (Numbered n xs)) ts → (es : List TermEntry) → Fine n es → StepsWell es ts
  unfolding placed_entries placed_steps
  steps_well all_nil es w = record { fine = w; grown = grown_not es; stands = refl; there = λ s p. elim p [ ]; new = λ i p q. absurd (omega arith) }
  steps_well (all_cons {x = t} {l = ts} a as') es w = go (step_well a es w) (steps_well as' (place_step xs t es).entries (step_well a es w).fine)
    where
      p : Stepped
      p = place_step xs t es

      go : StepWell n es (step_act xs t) p → StepsWell p.entries ts → StepsWell es (t ∷ ts)
      go v u =
          record {
            fine = u.fine;
            grown = grown_twice v.grown u.grown;
            stands = ap₂ {A = Act signature1 T} {B = List (Act signature1 T)} (λ x l. x ∷ l) (act_stays u.grown p.step v.there ∙ v.stands) u.stands;
            there = λ s i. operands_there s i;
            new = λ i a b. newer i a b (dec_lt i (length p.entries));
          }
        where
          more : length p.entries ≤ length (placed_entries xs ts p.entries)
          more = grown_length u.grown

          operands_there : (s : Act signature1 ℕ) → In s (p.step ∷ placed_steps xs ts p.entries)
              → All (λ i. i < length (placed_entries xs ts p.entries)) (operands signature1 s)
          operands_there s here = all_map (λ i h. le_lt i h) v.there
            where
              le_lt : (i : ℕ) → i < length p.entries → i < length (placed_entries xs ts p.entries)
              le_lt i h = let m = more in omega arith
          operands_there s (there i) = u.there s i

          newer : (i : ℕ) → length es ≤ i → i < length (placed_entries xs ts p.entries) → Dec (i < length p.entries)
              → ((s : Act signature1 ℕ) × In s (p.step ∷ placed_steps xs ts p.entries) × In i (operands signature1 s)) ⊎ PartOf (placed_entries xs ts p.entries) i
          newer i a b (yes d) = first (v.new i a d)
            where
              first : In i (operands signature1 p.step) ⊎ PartOf p.entries i
                  → ((s : Act signature1 ℕ) × In s (p.step ∷ placed_steps xs ts p.entries) × In i (operands signature1 s)) ⊎ PartOf (placed_entries xs ts p.entries) i
              first (inl z) = inl (p.step, here, z)
              first (inr z) = inr (part_stays i u.grown z)
          newer i a b (no d) = later (u.new i (omega arith) b)
            where
              later : ((s : Act signature1 ℕ) × In s (placed_steps xs ts p.entries) × In i (operands signature1 s)) ⊎ PartOf (placed_entries xs ts p.entries) i
                  → ((s : Act signature1 ℕ) × In s (p.step ∷ placed_steps xs ts p.entries) × In i (operands signature1 s)) ⊎ PartOf (placed_entries xs ts p.entries) i
              later (inl (s, x, y)) = inl (s, there x, y)
              later (inr z) = inr z
