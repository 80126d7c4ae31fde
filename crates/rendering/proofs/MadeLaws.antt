-- A faithful list makes every term of its table. Assumes nothing.
use mathlib.Core.Path.{◌≡◌, refl, sym}
use mathlib.Core.Logic.{⊎_elim}
use mathlib.Core.Option.{some}
use mathlib.Core.List.{List, [], ◌∷◌, ◌++◌, map}
use Prim.Native.Nat.{ℕ, zero, suc, ◌+◌, ◌<◌, ◌≤◌}
use native.Mathlib.Omega.{arith}
use lib.ListN.{length, get_elem?}
use Rattle.calculus.specs.Signature.{Signature}
use Rattle.calculus.specs.Terms.{left, leaf, Term, Build, map_build, built, Act, send, receive, fresh, compare, split, decrypt, map_act, operands, Statement}
use Rattle.calculus.specs.Tables.{Entry, kind_entry, entry_at, denoted, Closed, Table, free}
use Rattle.calculus.specs.Scope.{In, here, there, All, all_nil, all_cons}
use Rattle.calculus.specs.Typing.{Checked}
use Rattle.calculus.proofs.Lists.{all_in, in_append_left, in_append_right, in_append, in_map, named_in}
use Rattle.rendering.specs.Rendering.{Splitting, halves, merged, Due, whole, part, binds, dues_of, dues, Says, says_act, says_half, Follows, no_more, permitted, next_due, Beginning}
use Rattle.rendering.specs.Translation.{parts, Used, by_step, by_term, NoneIdle, EveryTermIsMade}
use Rattle.rendering.proofs.ActLaws.{ActZip, zip_send, zip_receive, zip_fresh, zip_compare, zip_split, zip_decrypt, BuildZip, zip_one, zip_two, zip_acts, zip_builds, parts_map, operands_map, part_lower}
use Rattle.rendering.proofs.MeaningLaws.{entry_built, no_leaf_built, built_once}

module _ (𝓢 : Signature) (es : List (Entry 𝓢 ℕ)) (low : Closed 𝓢 0 es) where
  abbrev Terms : Type 0
  Terms = List (Term 𝓢)

  abbrev TD : Type 0
  TD = List (ℕ × Due 𝓢 (Term 𝓢))

  abbrev G : Terms → TD → List (Statement 𝓢) → Terms → TD → Type 0
  G = Follows 𝓢 es

  -- what is meant stays meant
  stays : {ms ns : Terms} {ws us : TD} {ss : List (Statement 𝓢)} → G ms ws ss ns us → (M : Term 𝓢) → In M ms → In M ns
  stays no_more M i = i
  stays (permitted B e m f) M i = stays f M (in_append_left (built 𝓢 B ∷ []) i)
  stays (next_due {w = w} s f) M i = stays f M (in_append_left (map leaf (binds 𝓢 w)) i)

  -- ── a compound term that is meant has its parts meant ──

  abbrev HasParts : Terms → Type 0
  HasParts ms = (B : Build 𝓢 (Term 𝓢)) → In (built 𝓢 B) ms → All (λ M. In M ms) (parts 𝓢 B)

  no_symbol : (B : Build 𝓢 (Term 𝓢)) (xs : List ℕ) → In (built 𝓢 B) (map leaf xs) → ⊥
  no_symbol B xs i = go xs i refl
    where
      go : (xs : List ℕ) {M : Term 𝓢} → In M (map leaf xs) → built 𝓢 B ≡ M → ⊥
      go [] i e = elim i [ ]
      go (x ∷ xs) here e = no_leaf_built 𝓢 es low B x e
      go (x ∷ xs) (there i) e = go xs i e

  all_more : {ms : Terms} {l : Terms} (k : Terms) → All (λ M. In M ms) l → All (λ M. In M (ms ++ k)) l
  all_more k all_nil = all_nil
  all_more k (all_cons p ps) = all_cons (in_append_left k p) (all_more k ps)

  parts_named : {ms : Terms} {b : Build 𝓢 ℕ} {B : Build 𝓢 (Term 𝓢)} → BuildZip 𝓢 (λ p M. get_elem? ms p ≡ some M) b B → All (λ M. In M ms) (parts 𝓢 B)
  unfolding parts
  parts_named {ms} (zip_one {a = p} e) = all_cons (named_in ms p e) all_nil
  parts_named {ms} (zip_two {a = p} {b = q} e f) = all_cons (named_in ms p e) (all_cons (named_in ms q f) all_nil)

  parts_kept : {ms ns : Terms} {ws us : TD} {ss : List (Statement 𝓢)} → G ms ws ss ns us → HasParts ms → HasParts ns
  parts_kept no_more h = h
  parts_kept (permitted {ms = ms} {b = b} B e m f) h = parts_kept f λ C i. ⊎_elim (λ j. all_more (built 𝓢 B ∷ []) (h C j)) (λ (j : In (built 𝓢 C) (built 𝓢 B ∷ [])). all_more (built 𝓢 B ∷ []) (new C j)) (in_append ms i)
    where
      only : {N : Term 𝓢} → In N (built 𝓢 B ∷ []) → N ≡ built 𝓢 B
      only here = refl
      only (there i) = elim i [ ]

      new : (C : Build 𝓢 (Term 𝓢)) → In (built 𝓢 C) (built 𝓢 B ∷ []) → All (λ N. In N ms) (parts 𝓢 C)
      new C j = let q : B ≡ C = built_once 𝓢 es low B C (sym (only j)) in rw (← q) (parts_named (zip_builds 𝓢 (get_elem? ms) some b B e))
  parts_kept (next_due {ms = ms} {w = w} s f) h = parts_kept f λ C i. ⊎_elim (λ j. all_more (map leaf (binds 𝓢 w)) (h C j)) (λ (j : In (built 𝓢 C) (map leaf (binds 𝓢 w))). absurd (no_symbol C (binds 𝓢 w) j)) (in_append ms i)

  -- ── the terms of a step are meant ──

  unfoldable terms_due : {X : Type 0} → Due 𝓢 X → List X
  terms_due (whole a) = operands 𝓢 a
  terms_due (part d a x) = a ∷ []

  act_named : {ms : Terms} {a : Act 𝓢 ℕ} {d : Act 𝓢 (Term 𝓢)} → ActZip 𝓢 (λ p M. get_elem? ms p ≡ some M) a d → All (λ M. In M ms) (operands 𝓢 d)
  unfolding operands
  act_named {ms} (zip_send {a = p} {b = q} e f) = all_cons (named_in ms p e) (all_cons (named_in ms q f) all_nil)
  act_named {ms} (zip_receive {a = p} e) = all_cons (named_in ms p e) all_nil
  act_named zip_fresh = all_nil
  act_named {ms} (zip_compare {a = p} {b = q} e f) = all_cons (named_in ms p e) (all_cons (named_in ms q f) all_nil)
  act_named {ms} (zip_split {a = p} e) = all_cons (named_in ms p e) all_nil
  act_named {ms} (zip_decrypt {a = p} {b = q} e f) = all_cons (named_in ms p e) (all_cons (named_in ms q f) all_nil)

  said_named : {ms : Terms} {s : Statement 𝓢} {w : Due 𝓢 (Term 𝓢)} → Says 𝓢 ms s w → All (λ M. In M ms) (terms_due w)
  unfolding terms_due
  said_named {ms} (says_act {a = a} {d = d} e) = act_named (zip_acts 𝓢 (get_elem? ms) some a d e)
  said_named {ms} (says_half {p = p} e) = all_cons (named_in ms p e) all_nil

  due_made : {ms ns : Terms} {ws us : TD} {ss : List (Statement 𝓢)} → G ms ws ss ns us → us ≡ [] → (w : ℕ × Due 𝓢 (Term 𝓢)) → In w ws → (M : Term 𝓢) → In M (terms_due w.1) → In M ns
  due_made no_more e w i M j = absurd (empty e i)
    where
      empty : {w : ℕ × Due 𝓢 (Term 𝓢)} {ws : TD} → ws ≡ [] → In w ws → ⊥
      empty e here = let z : ◌≡◌ {A = ℕ} 0 1 = cc in omega arith
      empty e (there i) = let z : ◌≡◌ {A = ℕ} 0 1 = cc in omega arith
  due_made (permitted B e m f) q w i M j = due_made f q w i M j
  due_made (next_due {w = v} s f) q w here M j = stays f M (in_append_left (map leaf (binds 𝓢 v)) (all_in (said_named s) M j))
  due_made (next_due s f) q w (there i) M j = due_made f q w i M j

  -- what a step makes due names its terms
  record DueOf {X : Type 0} (s : Act 𝓢 X) (ws : List (ℕ × Due 𝓢 X)) : Type 0 where
    due : ℕ × Due 𝓢 X
    is_due : In due ws
    names : (a : X) → In a (operands 𝓢 s) → In a (terms_due due.1)

  step_due : {X : Type 0} (v : Splitting) (n : ℕ) (s : Act 𝓢 X) (ws : List (ℕ × Due 𝓢 X)) → DueOf s (map (λ w. (n, w)) (dues_of 𝓢 v s) ++ ws)
  unfolding dues_of terms_due operands
  step_due v n (send a b) ws = record { due = (n, whole (send a b)); is_due = here; names = λ c i. i }
  step_due v n (receive a x) ws = record { due = (n, whole (receive a x)); is_due = here; names = λ c i. i }
  step_due v n (fresh x) ws = record { due = (n, whole (fresh x)); is_due = here; names = λ c i. i }
  step_due v n (compare a b) ws = record { due = (n, whole (compare a b)); is_due = here; names = λ c i. i }
  step_due halves n (split a x y) ws = record { due = (n, part left a x); is_due = here; names = λ c i. i }
  step_due merged n (split a x y) ws = record { due = (n, whole (split a x y)); is_due = here; names = λ c i. i }
  step_due v n (decrypt s a b x) ws = record { due = (n, whole (decrypt s a b x)); is_due = here; names = λ c i. i }

  due_of_lem : {X : Type 0} (v : Splitting) {s : Act 𝓢 X} (n : ℕ) {P : List (Act 𝓢 X)} → In s P → DueOf s (dues 𝓢 v n P)
  unfolding dues
  due_of_lem v {s = s} n (here {l = P}) = step_due v n s (dues 𝓢 v (suc n) P)
  due_of_lem v n (there {y = y} {l = P} i) = let r = due_of_lem v (suc n) i in record { due = r.due; is_due = in_append_right (map (λ w. (n, w)) (dues_of 𝓢 v y)) r.is_due; names = r.names }

module _ (𝓢 : Signature) (v : Splitting) (t : Table 𝓢) (ss : List (Statement 𝓢)) (ns : List (Term 𝓢)) (c : Checked 𝓢 t) (f : Beginning 𝓢 v t ss ns []) where
  abbrev es : List (Entry 𝓢 ℕ)
  es = t.entries

  abbrev D : ℕ → Term 𝓢
  D = denoted 𝓢 0 es

  has_parts : HasParts 𝓢 es c.closed ns
  has_parts = parts_kept 𝓢 es c.closed f (λ B j. absurd (no_symbol 𝓢 es c.closed B (free 𝓢 t) j))

  from_step : (i : ℕ) (s : Act 𝓢 ℕ) → In s t.steps → In i (operands 𝓢 s) → In (D i) ns
  from_step i s p q =
      let r = due_of_lem 𝓢 es c.closed v 0 (in_map (map_act 𝓢 D) p) in
      due_made 𝓢 es c.closed f refl r.due r.is_due (D i) (r.names (D i) (rw (operands_map 𝓢 D s) (in_map D q)))

  from_term : (i j : ℕ) (b : Build 𝓢 ℕ) → entry_at 𝓢 0 es j ≡ kind_entry b → In i (parts 𝓢 b) → In (D j) ns → In (D i) ns
  from_term i j b e p h =
      let B : Build 𝓢 (Term 𝓢) = map_build 𝓢 D b in
      let k : In (built 𝓢 B) ns = rw (entry_built 𝓢 es c.closed j b e) at h in
      all_in (has_parts B k) (D i) (rw (parts_map 𝓢 D b) (in_map D p))

  higher : {i j : ℕ} {b : Build 𝓢 ℕ} → j < length es → entry_at 𝓢 0 es j ≡ kind_entry b → In i (parts 𝓢 b) → i < j
  higher {j = j} h e p = all_in (part_lower 𝓢 (rw e at (c.closed j h))) _ p

  made_from : (n i : ℕ) → NoneIdle 𝓢 t → i < length es → length es ≤ i + n → In (D i) ns
  made_from zero i used h l = absurd (omega arith)
  made_from (suc n) i used h l = go (used i h) (λ j k m. made_from n j used k m)
    where
      go : Used 𝓢 t i → ((j : ℕ) → j < length es → length es ≤ j + n → In (D j) ns) → In (D i) ns
      go (by_step {s = s} p q) r = from_step i s p q
      go (by_term {j = j} {b = b} k e p) r = let u = higher k e p in from_term i j b e p (r j k (omega arith))

module _ (𝓢 : Signature) where
  pub every_term_is_made : EveryTermIsMade 𝓢
  every_term_is_made v t ss ns c used f i h = made_from 𝓢 v t ss ns c f (length t.entries) i used h (omega arith)
