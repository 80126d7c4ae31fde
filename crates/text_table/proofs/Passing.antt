-- The file of a table in form passes 1 to 8. Assumes nothing.
use mathlib.Core.Path.{◌≡◌, refl, sym, ap, ◌∙◌}
use mathlib.Core.Logic.{◌⊎◌, inl, inr}
use mathlib.Core.List.{List, [], ◌∷◌, ◌++◌}
use Prim.Native.Nat.{ℕ, zero, suc, ◌≤◌, ◌<◌}
use native.Mathlib.Omega.{arith}
use lib.Dec.{leb}
use lib.ListN.{length, get_or}
use borrow.Author.Tests.{le-leb, eq-eqb}
use Rattle.base.specs.Bytes.{byte, word}
use Rattle.base.proofs.BothLaws.{both_true}
use Rattle.codes.specs.Marks.{mark, header}
use Rattle.codes.specs.Rows.{cell}
use Rattle.answers.specs.Ladder.{least}
use Rattle.answers.proofs.Passes.{rung_right}
use Rattle.entries.specs.Fields.{code}
use Rattle.entries.specs.Faults.{twin_rung}
use Rattle.opening.proofs.Frames.{Framed, frame_right, marked_means}
use Rattle.table_layout.specs.Layout.{symbols, terms, steps, terms_at, steps_at, sort, step_field, counts_ok, length_ok}
use Rattle.table_layout.specs.Faults.{symbol_rung, term_rung, step_rung}
use Rattle.table_naming.specs.Naming.{idle_rung}
use Rattle.table_binding.specs.Binding.{bind_rung, scope_rung}
use Rattle.table.specs.Faults.{table_rungs}
use Rattle.calculus.specs.Signature.{Two, pairing, seal}
use Rattle.calculus.specs.Terms.{build1, build2, Act, send, receive, fresh, compare, split, decrypt, operands, binders, bound}
use Rattle.calculus.specs.Tables.{Sort, is_name, is_variable, sort_of, Entry, leaf_entry, kind_entry, Lower, low_two, Table}
use Rattle.calculus.specs.Scope.{In, here, there, all_cons, Distinct, di_nil, di_cons}
use Rattle.calculus.specs.Version1.{Seal1, encryption, signature1}
use Rattle.calculus.proofs.Lists.{all_in, all_parts, distinct_tail, in_append_left, in_append_right, not_in_in}
use Rattle.decoded.specs.Table.{term_at, step_at, sort_bytes, entry_bytes, two_code, step_bytes, header_bytes, table_bytes}
use Rattle.decoded.specs.Entries.{SymbolRight, TermRight, symbol, pair, encrypted, StepRight, output, input, restriction, matching, splitting, decryption, SameTerm, IsName, IsVariable}
use Rattle.decoded.specs.Meaning.{HasPart as FilePart, Binder, Binds, Named, BindsNew}
use Rattle.decoded.proofs.EntryTests.{symbol_ok_means, term_ok_means, step_ok_means, alone_means}
use Rattle.decoded.proofs.Naming.{named_means}
use Rattle.decoded.proofs.Binding.{binds_new_means}
use Rattle.decoded.proofs.Passed.{Entered}
use Rattle.decoded.proofs.Shapes.{five_bytes, three_same, five_same, step_role_lem, TermNames, two_parts, left_part as file_left, right_part as file_right, term_names_lem, step_uses}
use Rattle.decoded.proofs.Steps.{binders_mean}
use Rattle.text.specs.Right.{HasPart, left_part, right_part, NamedIn, Right}
use Rattle.text.specs.Numbering.{InLimits}
use Rattle.text.proofs.ListLaws.{in_get_d}
use Rattle.text_table.proofs.FileLayout.{file, file_symbols, file_terms, file_steps, file_length, sort_byte_lem, term_bytes, step_bytes_lem, term_is, step_is}

-- ── Lists by index ──

in_index : {A : Type 0} {x : A} {l : List A} (z : A) → In x l → (i : ℕ) × (i < length l) × (get_or l i z ≡ x)
in_index z here = (0, omega arith, refl)
in_index z (there p) = let (i, h, e) = in_index z p in (suc i, omega arith, e)

-- what a step binds, the steps bind
pub bound_by : (ss : List (Act signature1 ℕ)) (k x : ℕ) → k < length ss → In x (binders signature1 (get_or ss k (fresh 0))) → In x (bound signature1 ss)
unfolding bound
bound_by [] k x h q = absurd (omega arith)
bound_by (s ∷ ss) zero x h q = in_append_left (bound signature1 ss) q
bound_by (s ∷ ss) (suc k) x h q = in_append_right (binders signature1 s) (bound_by ss k x (omega arith) q)

-- no two steps bind one symbol
bound_apart : (ss : List (Act signature1 ℕ)) → Distinct (bound signature1 ss) → (x j k : ℕ) → j < k → k < length ss → In x (binders signature1 (get_or ss j (fresh 0)))
    → In x (binders signature1 (get_or ss k (fresh 0))) → ⊥
unfolding bound
bound_apart [] u x j k h l p q = absurd (omega arith)
bound_apart (s ∷ ss) u x j zero h l p q = absurd (omega arith)
bound_apart (s ∷ ss) u x zero (suc k) h l p q = clash (binders signature1 s) u p (bound_by ss k x (omega arith) q)
  where
    clash : (a : List ℕ) {b : List ℕ} → Distinct (a ++ b) → In x a → In x b → ⊥
    clash (y ∷ a) (di_cons n u) here q = not_in_in n (in_append_right a q)
    clash (y ∷ a) (di_cons n u) (there p) q = clash a u p q
    clash [] {b = b} _ x11 q = elim x11 [ ]
bound_apart (s ∷ ss) u x (suc j) (suc k) h l p q = bound_apart ss (distinct_tail (binders signature1 s) u) x j k (omega arith) (omega arith) p q

-- what one step binds, it binds once
bound_each : (ss : List (Act signature1 ℕ)) → Distinct (bound signature1 ss) → (k : ℕ) → k < length ss → Distinct (binders signature1 (get_or ss k (fresh 0)))
unfolding bound
bound_each [] u k h = absurd (omega arith)
bound_each (s ∷ ss) u zero h = front (binders signature1 s) (bound signature1 ss) u
  where
    front : (a b : List ℕ) → Distinct (a ++ b) → Distinct a
    front [] b u = di_nil
    front (x ∷ a) b (di_cons n u) = di_cons (all_parts a b n).0 (front a b u)
bound_each (s ∷ ss) u (suc k) h = bound_each ss (distinct_tail (binders signature1 s) u) k (omega arith)

module _ (t : Table signature1) (r : Right t) (l : InLimits t) where
  abbrev s : List ℕ
  s = file t

  -- ── 1 to 4 ──

  frame : Framed 0 s (counts_ok s) (length_ok s)
  unfolding mark header word table_bytes header_bytes byte counts_ok length_ok
  frame =
      let n : 8 ≤ length s = let e = file_length t in omega arith in
      record {
        mark_right = (marked_means 0 s).1 (record { header_there = n; first = refl; second = refl; third = refl });
        version_one = refl;
        counts_right =
            both_true (leb (symbols s) 96) _ (le-leb _ _ l.few_symbols)
            (both_true (leb (terms s) 128) (leb (steps s) 64) (le-leb _ _ l.few_terms) (le-leb _ _ l.few_steps));
        size_right = eq-eqb _ _ (file_length t);
      }

  -- ── 5 ──

  symbol_right : (x : ℕ) → x < symbols s → SymbolRight s x
  unfolding sort_bytes byte
  symbol_right x h = go (get_or t.sorts x is_variable) (sort_byte_lem t x (rw (file_symbols t) at h))
    where
      go : (o : Sort) → sort s x ≡ byte (sort_bytes o) 0 → SymbolRight s x
      go is_name e = inl e
      go is_variable e = inr e

  lower_two : {k : Two Seal1} {a b i : ℕ} → Lower signature1 {L = ℕ} i (kind_entry (build2 k a b)) → (a < i) × (b < i)
  lower_two (low_two p q) = (p, q)

  term_right : (i : ℕ) → i < terms s → TermRight s i
  unfolding entry_bytes two_code
  term_right i h = go (get_or t.entries i (leaf_entry 0)) refl
    where
      k : i < length t.entries
      k = rw (file_terms t) at h

      go : (e : Entry signature1 ℕ) → get_or t.entries i (leaf_entry 0) ≡ e → TermRight s i
      go (leaf_entry x) e =
          let (c, a, b) = three_same (sym (ap entry_bytes e) ∙ sym (term_bytes t i k)) in
          symbol c (rw (a, file_symbols t) (r.symbols_there i x k e)) b
      go (kind_entry (build1 o a)) e = elim o [ ]
      go (kind_entry (build2 pairing a b)) e =
          let (c, u, v) = three_same (sym (ap entry_bytes e) ∙ sym (term_bytes t i k)) in
          let (m, n) = lower_two (rw e at (r.parts_lower i k)) in
          pair c (rw u m) (rw v n)
      go (kind_entry (build2 (seal encryption) a b)) e =
          let (c, u, v) = three_same (sym (ap entry_bytes e) ∙ sym (term_bytes t i k)) in
          let (m, n) = lower_two (rw e at (r.parts_lower i k)) in
          encrypted c (rw u m) (rw v n)

  -- a symbol's byte by its sort
  is_a_name : (x y : ℕ) → y ≡ x → x < length t.sorts → sort_of t.sorts x ≡ is_name → IsName s y
  unfolding sort_bytes byte
  is_a_name x y f h e = rw f (rw (file_symbols t) h, sort_byte_lem t x h ∙ ap (λ (o : Sort). byte (sort_bytes o) 0) e)

  is_a_variable : (x y : ℕ) → y ≡ x → x < length t.sorts → sort_of t.sorts x ≡ is_variable → IsVariable s y
  unfolding sort_bytes byte
  is_a_variable x y f h e = rw f (rw (file_symbols t) h, sort_byte_lem t x h ∙ ap (λ (o : Sort). byte (sort_bytes o) 0) e)

  step_right : (k : ℕ) → k < steps s → StepRight s k
  unfolding step_bytes operands binders
  step_right k h = go (get_or t.steps k (fresh 0)) refl (in_get_d t.steps k (fresh 0) m)
    where
      m : k < length t.steps
      m = rw (file_steps t) at h

      bytes : (p : Act signature1 ℕ) → get_or t.steps k (fresh 0) ≡ p → step_bytes p ≡ five_bytes s k
      bytes p e = sym (ap step_bytes e) ∙ sym (step_bytes_lem t k m)

      -- an operand is a term
      term : (p : Act signature1 ℕ) → In p t.steps → (i y : ℕ) → y ≡ i → In i (operands signature1 p) → y < terms s
      term p a i y f b = rw (f, file_terms t) (r.operands_there p i a b)

      -- what is bound and not restricted is a variable
      variable : (p : Act signature1 ℕ) → In p t.steps → ((z : ℕ) → ¬ (p ≡ fresh z)) → (x y : ℕ) → y ≡ x → In x (binders signature1 p) → IsVariable s y
      variable p a n x y f b = at (r.binds_variables p x a b)
        where
          at : (p ≡ fresh x) ⊎ (sort_of t.sorts x ≡ is_variable) → IsVariable s y
          at (inl e) = absurd (n x e)
          at (inr e) = is_a_variable x y f (r.binders_there p x a b) e

      go : (p : Act signature1 ℕ) → get_or t.steps k (fresh 0) ≡ p → In (get_or t.steps k (fresh 0)) t.steps → StepRight s k
      go (send a b) e i =
          let q : In (send a b) t.steps = rw e at i in
          let (c, fa, fb, fx, fy) = five_same (bytes (send a b) e) in
          output c (term (send a b) q a _ fa here) (term (send a b) q b _ fb (there here)) fx fy
      go (receive a x) e i =
          let q : In (receive a x) t.steps = rw e at i in
          let (c, fa, fb, fx, fy) = five_same (bytes (receive a x) e) in
          input c (term (receive a x) q a _ fa here) fb (variable (receive a x) q (λ z d. let w : ◌≡◌ {A = ℕ} 0 1 = cc in omega arith) x _ fx here) fy
      go (fresh x) e i =
          let q : In (fresh x) t.steps = rw e at i in
          let (c, fa, fb, fx, fy) = five_same (bytes (fresh x) e) in
          restriction c fa fb (is_a_name x _ fx (r.binders_there (fresh x) x q here) (r.restricts_names x q)) fy
      go (compare a b) e i =
          let q : In (compare a b) t.steps = rw e at i in
          let (c, fa, fb, fx, fy) = five_same (bytes (compare a b) e) in
          matching c (term (compare a b) q a _ fa here) (term (compare a b) q b _ fb (there here)) fx fy
      go (split a x y) e i =
          let q : In (split a x y) t.steps = rw e at i in
          let (c, fa, fb, fx, fy) = five_same (bytes (split a x y) e) in
          let n : (z : ℕ) → ¬ (◌≡◌ {A = Act signature1 ℕ} (split a x y) (fresh z)) = λ z d. let w : ◌≡◌ {A = ℕ} 0 1 = cc in omega arith in
          splitting c (term (split a x y) q a _ fa here) fb (variable (split a x y) q n x _ fx here) (variable (split a x y) q n y _ fy (there here))
      go (decrypt o a b x) e i =
          let q : In (decrypt o a b x) t.steps = rw e at i in
          let (c, fa, fb, fx, fy) = five_same (bytes (decrypt o a b x) e) in
          decryption c (term (decrypt o a b x) q a _ fa here) (term (decrypt o a b x) q b _ fb (there here))
          (variable (decrypt o a b x) q (λ z d. let w : ◌≡◌ {A = ℕ} 0 1 = cc in omega arith) x _ fx here) fy

  pub file_entered : Entered s
  file_entered =
      let v = frame.version_one in
      record {
        frame = frame;
        symbols_right = λ i h. (symbol_ok_means s i).1 (symbol_right i h);
        terms_right = λ i h. (term_ok_means s i v).1 (term_right i h);
        steps_right = λ k h. (step_ok_means s k v).1 (step_right k h);
      }

  -- ── 6 to 8 ──

  pub term_alone : (i : ℕ) → i < terms s → (j : ℕ) → j < i → ¬ SameTerm s i j
  unfolding term_at
  term_alone i h j k same =
      let m : i < length t.entries = rw (file_terms t) at h in
      let e : term_at s i ≡ term_at s j = rw (same.same_code, same.same_left, same.same_right) in
      let q : i ≡ j = r.unrepeated i j m (omega arith) (sym (term_is t i m) ∙ e ∙ term_is t j (omega arith)) in
      omega arith

  part_named : {i j : ℕ} {e : Entry signature1 ℕ} → HasPart i e → TermNames s j e → FilePart s j i
  part_named left_part (two_parts a f b g) = file_left a f
  part_named right_part (two_parts a f b g) = file_right b g

  pub term_named : (i : ℕ) → i < terms s → Named s i
  term_named i h = go (r.each_named i (rw (file_terms t) at h))
    where
      go : NamedIn t i → Named s i
      go (inl (p, a, b)) =
          let (k, m, e) = in_index (fresh 0) a in
          let n : k < steps s = rw (file_steps t) m in
          let f : step_at s k ≡ p = step_is t k m ∙ e in
          inr (k, n, all_in (rw f at (step_uses s file_entered k n)) i b)
      go (inr (j, m, p)) =
          let n : j < terms s = rw (file_terms t) m in
          inl (j, n, part_named p (rw (term_is t j m) at (term_names_lem s file_entered j n)))

  pub step_new : (k : ℕ) → k < steps s → BindsNew s k
  unfolding step_bytes binders cell byte
  step_new k h = record { not_earlier = earlier; two_differ = differ (get_or t.steps k (fresh 0)) refl }
    where
      m : k < length t.steps
      m = rw (file_steps t) at h

      -- what step j binds
      binds_in : (x j : ℕ) → j < length t.steps → Binds s j x → In x (binders signature1 (get_or t.steps j (fresh 0)))
      binds_in x j n b = rw (step_is t j n) at ((binders_mean s file_entered j x (rw (file_steps t) n)).1 b)

      earlier : (x j : ℕ) → Binds s k x → j < k → ¬ Binds s j x
      earlier x j b n c = let q = m in bound_apart t.steps r.binds_once x j k n m (binds_in x j (omega arith) c) (binds_in x k m b)

      -- only a split has two binders
      none : (op : ℕ) → code s 1 (steps_at s) k ≡ op → cell 1 op 4 ≡ 0 → Binder s k 3 → ⊥
      none op c e (inl b) = let q = step_role_lem s k op 3 c in omega arith
      none op c e (inr b) = let q = step_role_lem s k op 3 c in omega arith

      differ : (p : Act signature1 ℕ) → get_or t.steps k (fresh 0) ≡ p → Binder s k 2 → Binder s k 3 → ¬ (step_field s k 2 ≡ step_field s k 3)
      differ (send a b) e u v w = let (c, fa, fb, fx, fy) = five_same (sym (ap step_bytes e) ∙ sym (step_bytes_lem t k m)) in none 0 c refl v
      differ (receive a x) e u v w = let (c, fa, fb, fx, fy) = five_same (sym (ap step_bytes e) ∙ sym (step_bytes_lem t k m)) in none 1 c refl v
      differ (fresh x) e u v w = let (c, fa, fb, fx, fy) = five_same (sym (ap step_bytes e) ∙ sym (step_bytes_lem t k m)) in none 2 c refl v
      differ (compare a b) e u v w = let (c, fa, fb, fx, fy) = five_same (sym (ap step_bytes e) ∙ sym (step_bytes_lem t k m)) in none 3 c refl v
      differ (split a x y) e u v w =
          let (c, fa, fb, fx, fy) = five_same (sym (ap step_bytes e) ∙ sym (step_bytes_lem t k m)) in
          apart (rw e at (bound_each t.steps r.binds_once k m)) (sym fx ∙ w ∙ fy)
        where
          apart : Distinct (x ∷ y ∷ []) → ¬ (x ≡ y)
          apart (di_cons (all_cons n q) z) = n
      differ (decrypt o a b x) e u v w = let (c, fa, fb, fx, fy) = five_same (sym (ap step_bytes e) ∙ sym (step_bytes_lem t k m)) in none 5 c refl v

  -- ── Only 9 is left ──

  pub only_scope : least (table_rungs s) ≡ least (scope_rung s ∷ [])
  only_scope =
      let n = file_entered in
      frame_right 0 s (counts_ok s) (length_ok s) _ frame
      ∙ rung_right (symbol_rung s) _ n.symbols_right
      ∙ rung_right (term_rung s) _ n.terms_right
      ∙ rung_right (step_rung s) _ n.steps_right
      ∙ rung_right (twin_rung s 0 0 (terms_at s) (terms s)) _ (λ i h. (alone_means s i).1 (term_alone i h))
      ∙ rung_right (idle_rung s) _ (λ i h. (named_means s i).1 (term_named i h))
      ∙ rung_right (bind_rung s) _ (λ k h. (binds_new_means s k).1 (step_new k h))
