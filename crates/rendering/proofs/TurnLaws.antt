-- Where one statement leads the judge, by index, is where the rules lead, over terms: to one state, or nowhere. Assumes nothing.
use mathlib.Core.Path.{◌≡◌, refl, sym, ap, ◌∙◌}
use mathlib.Core.Bool.{Bool, true, false, cond, decide, false≢true}
use mathlib.Core.Option
use mathlib.Core.Option.{Option, none, some}
use mathlib.Core.List.{List, [], ◌∷◌, ◌++◌, map}
use Prim.Native.Nat.{ℕ, zero, suc, ◌+◌, ◌<◌, suc-le-suc}
use native.Mathlib.Nat.{le_of_suc-le-suc, not-suc-le-zero}
use native.Mathlib.Decide.{ℕ_discrete}
use native.Mathlib.Omega.{arith}
use lib.ListN.{length, get_elem?}
use Rattle.calculus.specs.Signature.{Signature, same_two}
use Rattle.calculus.specs.Terms.{leaf, Term, Build, same_build, map_build, built, Act, map_act, operands, same_side, Statement, act, half, build}
use Rattle.calculus.specs.Tables.{Entry, leaf_entry, kind_entry, entry_at, entry_tree, denoted, Closed, Unrepeated, Lower, low_one, low_two}
use Rattle.calculus.specs.Scope.{All, all_nil, all_cons}
use Rattle.calculus.proofs.TableLaws.{denoted_by_entries, lower_all}
use Rattle.calculus.proofs.Lists.{map_append}
use Rattle.rendering.specs.Rendering.{InTable, Due, whole, part, binds, Says, says_act, says_half, Follows, permitted, next_due}
use Rattle.rendering.specs.Judge.{Meaning, symbol, term, same_meant, same_option, meant, term_meant, says, fits, find_from, taken, turn}
use Rattle.rendering.proofs.ActLaws.{ActZip, zip_send, zip_receive, zip_fresh, zip_compare, zip_split, zip_decrypt, BuildZip, zip_one, zip_two, zip_acts, zip_builds}
use Rattle.rendering.proofs.RuleLaws.{no_build_due, some_builds}
use Rattle.rendering.proofs.MeaningLaws.{map_due, map_build_lem, build_same, map_act_lem, binds_map, on_due, Proper, proper_symbol, proper_term, proper_meant, meant_term, entry_built, built_once, no_leaf_built, build_terms, says_terms, named_index}
use Rattle.rendering.proofs.Base.{decided, decides, and_left, and_right, not_both}

module _ (𝓢 : Signature) where
  abbrev pub S : Type 0
  S = Statement 𝓢

  abbrev pub D : Type 0
  D = ℕ × Due 𝓢 Meaning

  says_true : (ms : List Meaning) (s : S) (w : Due 𝓢 Meaning) → says 𝓢 ms s w ≡ true → Says 𝓢 ms s w
  unfolding says
  says_true ms (act a) (whole d) h = says_act (decided _ h)
  says_true ms (act a) (part e m y) h = absurd (false≢true h)
  says_true ms (half d p x) (whole e) h = absurd (false≢true h)
  says_true ms (half d p x) (part e m y) h =
      let q = and_right (decide (same_side d e)) _ h in
      let u : d ≡ e = decided (same_side d e) (and_left _ _ h) in
      let v : get_elem? ms p ≡ some m = decided (same_option same_meant (get_elem? ms p) (some m)) (and_left _ _ q) in
      let w : x ≡ y = decided (ℕ_discrete x y) (and_right (decide (same_option same_meant (get_elem? ms p) (some m))) _ q) in
      rw (u, w) (says_half v)
  says_true ms (build b) w h = absurd (false≢true h)

  true_says : {ms : List Meaning} {s : S} {w : Due 𝓢 Meaning} → Says 𝓢 ms s w → says 𝓢 ms s w ≡ true
  unfolding says
  true_says (says_act e) = decides _ e
  true_says {ms} (says_half {d = d} {p = p} {x = x} {m = m} e) = rw (decides (same_side d d) refl, decides (same_option same_meant (get_elem? ms p) (some m)) e, decides (ℕ_discrete x x) refl)

  -- what is meant by what is due
  unfoldable pub meanings : Due 𝓢 Meaning → List Meaning
  meanings (whole a) = operands 𝓢 a
  meanings (part d m x) = m ∷ []

  module _ (es : List (Entry 𝓢 ℕ)) (low : Closed 𝓢 0 es) (once : Unrepeated 𝓢 0 es) where
    abbrev pub T : Meaning → Term 𝓢
    T = term_meant 𝓢 es

    abbrev pub OK : Meaning → Type 0
    OK = Proper 𝓢 es

    -- over terms
    abbrev pub F : List Meaning → List D → List S → List (Term 𝓢) → List (ℕ × Due 𝓢 (Term 𝓢)) → Type 0
    F ms ws ss ns vs = Follows 𝓢 es (map T ms) (map (on_due 𝓢 T) ws) ss ns vs

    act_index : {ms : List Meaning} → All OK ms → {a : Act 𝓢 ℕ} {d : Act 𝓢 Meaning} → ActZip 𝓢 (λ p m. get_elem? (map T ms) p ≡ some (T m)) a d → All OK (operands 𝓢 d)
        → map_act 𝓢 (get_elem? ms) a ≡ map_act 𝓢 some d
    unfolding map_act operands
    act_index h (zip_send {a = p} {b = q} e f) (all_cons u (all_cons v z)) = rw (named_index 𝓢 es low once h p u e, named_index 𝓢 es low once h q v f)
    act_index h (zip_receive {a = p} e) (all_cons u z) = rw (named_index 𝓢 es low once h p u e)
    act_index h zip_fresh z = refl
    act_index h (zip_compare {a = p} {b = q} e f) (all_cons u (all_cons v z)) = rw (named_index 𝓢 es low once h p u e, named_index 𝓢 es low once h q v f)
    act_index h (zip_split {a = p} e) (all_cons u z) = rw (named_index 𝓢 es low once h p u e)
    act_index h (zip_decrypt {a = p} {b = q} e f) (all_cons u (all_cons v z)) = rw (named_index 𝓢 es low once h p u e, named_index 𝓢 es low once h q v f)

    says_index : {ms : List Meaning} → All OK ms → {s : S} (w : Due 𝓢 Meaning) → All OK (meanings w) → Says 𝓢 (map T ms) s (map_due 𝓢 T w) → Says 𝓢 ms s w
    unfolding map_due meanings
    says_index {ms} h (whole d) u (says_act {a = a} e) = says_act (act_index h (zip_acts 𝓢 (get_elem? (map T ms)) (λ m. some (T m)) a d (e ∙ map_act_lem 𝓢 T some d)) u)
    says_index {ms} h (part d m x) (all_cons u z) (says_half {p = p} e) = says_half (named_index 𝓢 es low once h p u e)

    -- ── where a statement leads ──

    abbrev pub DueOk : D → Type 0
    DueOk w = All OK (meanings w.1)

    abbrev pub Terms : Type 0
    Terms = List (Term 𝓢)

    abbrev pub TD : Type 0
    TD = List (ℕ × Due 𝓢 (Term 𝓢))

    abbrev G : Terms → TD → List S → Terms → TD → Type 0
    G = Follows 𝓢 es

    abbrev NoBuild : S → Type 0
    NoBuild s = (b : Build 𝓢 ℕ) → s ≡ build b → ⊥

    inv_due : {ms ns : Terms} {n : ℕ} {w : Due 𝓢 (Term 𝓢)} {ws us : TD} {s : S} {ss : List S} → NoBuild s → G ms ((n, w) ∷ ws) (s ∷ ss) ns us
        → Says 𝓢 ms s w × G (ms ++ map leaf (binds 𝓢 w)) ws ss ns us
    inv_due h (permitted {b = b} B e m f) = absurd (h b refl)
    inv_due h (next_due s f) = (s, f)

    inv_none : {ms ns : Terms} {us : TD} {s : S} {ss : List S} → NoBuild s → G ms [] (s ∷ ss) ns us → ⊥
    inv_none h (permitted {b = b} B e m f) = h b refl

    record BuildStep (ms : Terms) (ws : TD) (b : Build 𝓢 ℕ) (ss : List S) (ns : Terms) (us : TD) : Type 0 where
      of_terms : Build 𝓢 (Term 𝓢)
      named : map_build 𝓢 (get_elem? ms) b ≡ map_build 𝓢 some of_terms
      makes : InTable 𝓢 es (built 𝓢 of_terms)
      rest : G (ms ++ (built 𝓢 of_terms ∷ [])) ws ss ns us

    inv_build : {ms ns : Terms} {ws us : TD} {b : Build 𝓢 ℕ} {ss : List S} → G ms ws (build b ∷ ss) ns us → BuildStep ms ws b ss ns us
    inv_build (permitted B e m f) = record { of_terms = B; named = e; makes = m; rest = f }
    inv_build (next_due s f) = absurd (no_build_due 𝓢 s)

    -- to one state, or nowhere
    pub data Leads (ms : List Meaning) (ws : List D) (s : S) : Option (List Meaning × List D) → Type 0 where
      leads_to : {new : List Meaning} {vs : List D} → All OK new → All DueOk vs
          → ((ss : List S) (ns : Terms) (us : TD) → F (ms ++ new) vs ss ns us → F ms ws (s ∷ ss) ns us)
          → ((ss : List S) (ns : Terms) (us : TD) → F ms ws (s ∷ ss) ns us → F (ms ++ new) vs ss ns us)
          → Leads ms ws s (some (new, vs))
      leads_nowhere : ((ss : List S) (ns : Terms) (us : TD) → F ms ws (s ∷ ss) ns us → ⊥) → Leads ms ws s none

    pub symbols_ok : (xs : List ℕ) → All OK (map symbol xs)
    symbols_ok [] = all_nil
    symbols_ok (x ∷ xs) = all_cons proper_symbol (symbols_ok xs)

    pub symbols_terms : (xs : List ℕ) → map T (map symbol xs) ≡ map leaf xs
    unfolding term_meant
    symbols_terms [] = refl
    symbols_terms (x ∷ xs) = rw (symbols_terms xs)

    bound_terms : (ms : List Meaning) (w : Due 𝓢 Meaning) → map T (ms ++ map symbol (binds 𝓢 w)) ≡ map T ms ++ map leaf (binds 𝓢 (map_due 𝓢 T w))
    bound_terms ms w = map_append T ms (map symbol (binds 𝓢 w)) ∙ rw (symbols_terms (binds 𝓢 w), binds_map 𝓢 T w)

    due_leads : (ms : List Meaning) (w : D) (ws : List D) (s : S) → NoBuild s → All OK ms → DueOk w → All DueOk ws → (t : Bool) → says 𝓢 ms s w.1 ≡ t
        → Leads ms (w ∷ ws) s (cond t (some (map symbol (binds 𝓢 w.1), ws)) none)
    due_leads ms w ws s n h k l true q =
        leads_to (symbols_ok (binds 𝓢 w.1)) l
        (λ ss ns us f. next_due (says_terms 𝓢 es low (says_true ms s w.1 q)) (rw (bound_terms ms w.1) at f))
        (λ ss ns us f. rw (bound_terms ms w.1) (inv_due n f).1)
    due_leads ms w ws s n h k l false q = leads_nowhere λ ss ns us f. not_both (says 𝓢 ms s w.1) q (true_says (says_index h w.1 k (inv_due n f).0))

    taken_leads : (ms : List Meaning) (s : S) → NoBuild s → All OK ms → {ws : List D} → All DueOk ws → Leads ms ws s (taken 𝓢 ms s ws)
    unfolding taken
    taken_leads ms s n h all_nil = leads_nowhere λ ss ns us f. inv_none n f
    taken_leads ms s n h (all_cons {x = w} {l = ws} k l) = due_leads ms w ws s n h k l (says 𝓢 ms s w.1) refl

    -- ── builds ──

    record FoundAt (f : ℕ → Meaning) (o : Build 𝓢 (Option Meaning)) (b : ℕ) (l : List (Entry 𝓢 ℕ)) (i : ℕ) : Type 0 where
      offset : ℕ
      place : i ≡ b + offset
      inside : offset < length l
      entry : Build 𝓢 ℕ
      there_is : entry_at 𝓢 0 l offset ≡ kind_entry entry
      same : o ≡ map_build 𝓢 (λ j. some (f j)) entry

    fits_found : (f : ℕ → Meaning) (o : Build 𝓢 (Option Meaning)) (b : ℕ) (e : Entry 𝓢 ℕ) (l : List (Entry 𝓢 ℕ)) → fits 𝓢 f o e ≡ true → FoundAt f o b (e ∷ l) b
    unfolding fits
    fits_found f o b (leaf_entry x) l h = absurd (false≢true h)
    fits_found f o b (kind_entry c) l h = record { offset = 0; place = omega arith; inside = omega arith; entry = c; there_is = refl; same = decided _ h }

    found_at : (f : ℕ → Meaning) (o : Build 𝓢 (Option Meaning)) (b : ℕ) (l : List (Entry 𝓢 ℕ)) (i : ℕ) → find_from 𝓢 f o b l ≡ some i → FoundAt f o b l i
    unfolding find_from
    found_at f o b [] i h = absurd (let z : ◌≡◌ {A = ℕ} 0 1 = cc in omega arith)
    found_at f o b (e ∷ l) i h = go (fits 𝓢 f o e) refl h (found_at f o (suc b) l i)
      where
        go : (t : Bool) → fits 𝓢 f o e ≡ t → cond t (some b) (find_from 𝓢 f o (suc b) l) ≡ some i → (find_from 𝓢 f o (suc b) l ≡ some i → FoundAt f o (suc b) l i) → FoundAt f o b (e ∷ l) i
        go true q z r = let w : b ≡ i = cc in rw (← w) (fits_found f o b e l q)
        go false q z r = let x = r z in record { offset = suc x.offset; place = x.place ∙ omega arith; inside = suc-le-suc x.inside; entry = x.entry; there_is = x.there_is; same = x.same }

    not_found : (f : ℕ → Meaning) (o : Build 𝓢 (Option Meaning)) (b : ℕ) (l : List (Entry 𝓢 ℕ)) → find_from 𝓢 f o b l ≡ none → (j : ℕ) → j < length l → (c : Build 𝓢 ℕ)
        → entry_at 𝓢 0 l j ≡ kind_entry c → o ≡ map_build 𝓢 (λ j. some (f j)) c → ⊥
    unfolding find_from fits
    not_found f o b [] h j p c q r = not-suc-le-zero p
    not_found f o b (e ∷ l) h j p c q r = go (fits 𝓢 f o e) refl h (not_found f o (suc b) l) j p q
      where
        fit : (d : Entry 𝓢 ℕ) → d ≡ kind_entry c → fits 𝓢 f o d ≡ true
        fit d z = rw z (decides (same_build 𝓢.same_one (same_option same_meant) (same_two 𝓢.same_seal) o (map_build 𝓢 (λ i. some (f i)) c)) r)

        go : (t : Bool) → fits 𝓢 f o e ≡ t → cond t (some b) (find_from 𝓢 f o (suc b) l) ≡ none
            → (find_from 𝓢 f o (suc b) l ≡ none → (j : ℕ) → j < length l → (c : Build 𝓢 ℕ) → entry_at 𝓢 0 l j ≡ kind_entry c → o ≡ map_build 𝓢 (λ j. some (f j)) c → ⊥)
            → (j : ℕ) → j < length (e ∷ l) → entry_at 𝓢 0 (e ∷ l) j ≡ kind_entry c → ⊥
        go true u z k j p q = let w : ◌≡◌ {A = ℕ} 0 1 = cc in omega arith
        go false u z k zero p q = not_both (fits 𝓢 f o e) u (fit e q)
        go false u z k (suc j) p q = k z j (le_of_suc-le-suc p) c q r

    -- what entry c is built of, as terms
    parts_terms : (c : Build 𝓢 ℕ) → map_build 𝓢 T (map_build 𝓢 (meant 𝓢 es) c) ≡ map_build 𝓢 (denoted 𝓢 0 es) c
    parts_terms c = map_build_lem 𝓢 (meant 𝓢 es) T c ∙ build_same 𝓢 (λ i. T (meant 𝓢 es i)) (denoted 𝓢 0 es) (meant_term 𝓢 es low) c

    build_index : {ms : List Meaning} → All OK ms → {b c : Build 𝓢 ℕ} {j : ℕ} → j < length es → BuildZip 𝓢 (λ p i. get_elem? (map T ms) p ≡ some (T (meant 𝓢 es i))) b c → Lower 𝓢 {L = ℕ} j (kind_entry c)
        → map_build 𝓢 (get_elem? ms) b ≡ map_build 𝓢 (λ i. some (meant 𝓢 es i)) c
    unfolding map_build
    build_index h l (zip_one {a = p} {c = i} e) (low_one u) = rw (named_index 𝓢 es low once h p (proper_meant 𝓢 es i (omega arith)) e)
    build_index h l (zip_two {a = p} {b = q} {c = i} {d = k} e f) (low_two u v) =
        rw (named_index 𝓢 es low once h p (proper_meant 𝓢 es i (omega arith)) e, named_index 𝓢 es low once h q (proper_meant 𝓢 es k (omega arith)) f)

    no_entry : (ms : List Meaning) → All OK ms → (b : Build 𝓢 ℕ) (B : Build 𝓢 (Term 𝓢)) (j : ℕ) → j < length es → denoted 𝓢 0 es j ≡ built 𝓢 B
        → map_build 𝓢 (get_elem? (map T ms)) b ≡ map_build 𝓢 some B → find_from 𝓢 (meant 𝓢 es) (map_build 𝓢 (get_elem? ms) b) 0 es ≡ none
        → (e : Entry 𝓢 ℕ) → entry_at 𝓢 0 es j ≡ e → Lower 𝓢 {L = ℕ} j e → ⊥
    no_entry ms h b B j l d n z (leaf_entry x) q lo = no_leaf_built 𝓢 es low B x (sym d ∙ denoted_by_entries 𝓢 0 es low j ∙ leaf_tree q)
      where
        leaf_tree : entry_at 𝓢 0 es j ≡ leaf_entry x → entry_tree 𝓢 (denoted 𝓢 0 es) (entry_at 𝓢 0 es j) ≡ leaf x
        leaf_tree e = ap (entry_tree 𝓢 (denoted 𝓢 0 es)) e ∙ (unfold entry_tree in refl)
    no_entry ms h b B j l d n z (kind_entry c) q lo =
        let e : map_build 𝓢 (denoted 𝓢 0 es) c ≡ B = built_once 𝓢 es low (map_build 𝓢 (denoted 𝓢 0 es) c) B (sym (entry_built 𝓢 es low j c q) ∙ d) in
        let f : map_build 𝓢 (get_elem? (map T ms)) b ≡ map_build 𝓢 (λ i. some (T (meant 𝓢 es i))) c =
        n ∙ ap (map_build 𝓢 some) (sym e ∙ sym (parts_terms c) ∙ map_build_lem 𝓢 (meant 𝓢 es) T c) ∙ map_build_lem 𝓢 (λ i. T (meant 𝓢 es i)) some c in
        not_found (meant 𝓢 es) (map_build 𝓢 (get_elem? ms) b) 0 es z j l c q
        (build_index h l (zip_builds 𝓢 (get_elem? (map T ms)) (λ i. some (T (meant 𝓢 es i))) b c f) lo)

    build_leads : (ms : List Meaning) (ws : List D) (b : Build 𝓢 ℕ) → All OK ms → All DueOk ws → (o : Option ℕ) → find_from 𝓢 (meant 𝓢 es) (map_build 𝓢 (get_elem? ms) b) 0 es ≡ o
        → Leads ms ws (build b) (Option.map (λ i. (term i ∷ [], ws)) o)
    unfolding term_meant
    build_leads ms ws b h k none q =
        leads_nowhere λ ss ns us f.
        let r = inv_build f in
        no_entry ms h b r.of_terms r.makes.place r.makes.inside r.makes.is_there r.named q
        (entry_at 𝓢 0 es r.makes.place) refl (lower_all 𝓢 0 es low r.makes.place)
    build_leads ms ws b h k (some i) q =
        let r = found_at (meant 𝓢 es) (map_build 𝓢 (get_elem? ms) b) 0 es i q in
        let at : i ≡ r.offset = omega (arith, r.place) in
        let c : Build 𝓢 ℕ = r.entry in
        let B : Build 𝓢 Meaning = map_build 𝓢 (meant 𝓢 es) c in
        let e : map_build 𝓢 (get_elem? ms) b ≡ map_build 𝓢 some B = r.same ∙ sym (map_build_lem 𝓢 (meant 𝓢 es) some c) in
        let l : i < length es = omega (arith, r.inside) in
        let th : entry_at 𝓢 0 es i ≡ kind_entry c = ap (λ (x : ℕ). entry_at 𝓢 0 es x) at ∙ r.there_is in
        let d : built 𝓢 (map_build 𝓢 T B) ≡ denoted 𝓢 0 es i = rw (parts_terms c) (sym (entry_built 𝓢 es low i c th)) in
        let z : map T (ms ++ (term i ∷ [])) ≡ map T ms ++ (denoted 𝓢 0 es i ∷ []) = map_append T ms (term i ∷ []) in
        leads_to (all_cons (proper_term l th) all_nil) k
        (λ ss ns us f. permitted (map_build 𝓢 T B) (build_terms 𝓢 es low ms b B e) (record { place = i; inside = l; is_there = sym d }) (rw (z, ← d) at f))
        (λ ss ns us f.
        let y = inv_build f in
        let p : y.of_terms ≡ map_build 𝓢 T B = some_builds 𝓢 y.of_terms (map_build 𝓢 T B) (sym y.named ∙ build_terms 𝓢 es low ms b B e) in
        let m : built 𝓢 y.of_terms ≡ denoted 𝓢 0 es i = ap (built 𝓢) p ∙ d in
        rw (z, ← m) y.rest)

    pub leads : (ms : List Meaning) (ws : List D) (s : S) → All OK ms → All DueOk ws → Leads ms ws s (turn 𝓢 es ms ws s)
    unfolding turn
    leads ms ws (act a) h k = taken_leads ms (act a) (λ b e. let z : ◌≡◌ {A = ℕ} 0 1 = cc in omega arith) h k
    leads ms ws (half d p x) h k = taken_leads ms (half d p x) (λ b e. let z : ◌≡◌ {A = ℕ} 0 1 = cc in omega arith) h k
    leads ms ws (build b) h k = build_leads ms ws b h k (find_from 𝓢 (meant 𝓢 es) (map_build 𝓢 (get_elem? ms) b) 0 es) refl
