-- A file that passes 1 to 9 stands for a table in form; and where every step is in scope, 9 does not arise. Assumes nothing.
use mathlib.Core.Path.{◌≡◌, sym, ◌∙◌}
use mathlib.Core.Logic.{◌⊎◌, inl, inr}
use mathlib.Core.List.{List, ◌∷◌}
use Prim.Native.Nat.{ℕ, zero, suc, ◌+◌, ◌≤◌, ◌<◌}
use native.Mathlib.Nat.{eq-or-lt_of_le}
use native.Mathlib.Omega.{arith}
use Rattle.answers.specs.Ladder.{least}
use Rattle.codes.specs.Rows.{part_role}
use Rattle.entries.specs.Fields.{code}
use Rattle.entries.specs.Tiling.{listed}
use Rattle.table_layout.specs.Layout.{symbols, terms, steps, terms_at, term_field, term_role}
use Rattle.table.specs.Faults.{table_rungs}
use Rattle.calculus.specs.Signature.{pairing, seal}
use Rattle.calculus.specs.Terms.{build1, build2, Act, binders}
use Rattle.calculus.specs.Tables.{Entry, leaf_entry, kind_entry, denoted}
use Rattle.calculus.specs.Scope.{In, here, there}
use Rattle.calculus.specs.Typing.{Checked}
use Rattle.calculus.specs.Version1.{encryption, signature1}
use Rattle.calculus.proofs.TableLaws.{bound_map}
use Rattle.decoded.specs.Table.{entry_of, term_at, step_at, table_of}
use Rattle.decoded.specs.Meaning.{HasPart as FilePart, Named}
use Rattle.decoded.specs.Right.{TableRight}
use Rattle.decoded.specs.Entries.{TermRight, symbol, pair, encrypted}
use Rattle.decoded.proofs.Listed.{listed_in}
use Rattle.decoded.proofs.Passed.{Entered, table_passed}
use Rattle.decoded.proofs.Passes.{table_passes}
use Rattle.decoded.proofs.Checked.{table_checked}
use Rattle.decoded.proofs.Sorts.{table_binds_variables}
use Rattle.decoded.proofs.Unlike.{terms_unrepeated}
use Rattle.decoded.proofs.Ranges.{binder_there}
use Rattle.decoded.proofs.Shapes.{TermNames, a_symbol, two_parts, term_names_lem}
use Rattle.decoded.proofs.Steps.{sorts_length, steps_length_lem, operands_mean, binders_mean}
use Rattle.decoded.proofs.Holding.{entry_at_lem, entries_length}
use Rattle.text.specs.Numbering.{InLimits}
use Rattle.text.specs.Right.{HasPart, left_part, right_part, NamedIn, Right}
use Rattle.text_table.specs.Statements.{AcceptedIsRight}
use Rattle.std.proofs.Common.{Ok}

-- ── From a file to its table ──

module _ (s : List ℕ) (e : least (table_rungs s) ≡ Ok tt) where
  right : TableRight s
  right = (table_passes s).0 e

  entered : Entered s
  entered = (table_passed s e).entered

  checked : Checked signature1 (table_of s)
  checked = table_checked s e

  -- a leaf's symbol is there
  leaf_there : (i x : ℕ) → i < terms s → term_at s i ≡ leaf_entry x → x < symbols s
  unfolding term_at entry_of
  leaf_there i x h f = go (right.each_term i h) f
    where
      go : TermRight s i → entry_of (code s 0 (terms_at s) i) (term_field s i 0) (term_field s i 1) ≡ leaf_entry x → x < symbols s
      go (symbol c a b) f = let q : term_field s i 0 ≡ x = at (rw c at f) in rw (sym q) a
        where
          at : ◌≡◌ {A = Entry signature1 ℕ} (leaf_entry (term_field s i 0)) (leaf_entry x) → term_field s i 0 ≡ x
          at q = cc
      go (pair c a b) f = absurd (at (rw c at f))
        where
          at : ◌≡◌ {A = Entry signature1 ℕ} (kind_entry (build2 pairing (term_field s i 0) (term_field s i 1))) (leaf_entry x) → ⊥
          at q = let z : ◌≡◌ {A = ℕ} 0 1 = cc in omega arith
      go (encrypted c a b) f = absurd (at (rw c at f))
        where
          at : ◌≡◌ {A = Entry signature1 ℕ} (kind_entry (build2 (seal encryption) (term_field s i 0) (term_field s i 1))) (leaf_entry x) → ⊥
          at q = let z : ◌≡◌ {A = ℕ} 0 1 = cc in omega arith

  -- a part of a term
  part_of_lem : (j i : ℕ) (w : Entry signature1 ℕ) → TermNames s j w → FilePart s j i → HasPart i w
  part_of_lem j i (leaf_entry x) (a_symbol a f b) p = absurd (go p.at p.among p.is_part)
    where
      go : (m : ℕ) → m < 2 → term_role s j m ≡ part_role → ⊥
      go zero h q = omega arith
      go (suc zero) h q = omega arith
      go (suc (suc m)) h q = omega arith
  part_of_lem j i (kind_entry (build2 k x y)) (two_parts a f b g) p = go p.at p.among p.names
    where
      go : (m : ℕ) → m < 2 → term_field s j m ≡ i → HasPart i (kind_entry (build2 k x y))
      go zero h q = let z : x ≡ i = sym f ∙ q in rw z left_part
      go (suc zero) h q = let z : y ≡ i = sym g ∙ q in rw z right_part
      go (suc (suc m)) h q = absurd (omega arith)
  part_of_lem j i (kind_entry (build1 x4 _)) _ p = elim x4 [ ]

  step_in : (k : ℕ) → k < steps s → In (step_at s k) (table_of s).steps
  unfolding listed
  step_in k h = at 0 (steps s) k (omega arith) (omega arith)
    where
      at : (i n k : ℕ) → i ≤ k → k < i + n → In (step_at s k) (listed (step_at s) i n)
      at i zero k a b = absurd (omega arith)
      at i (suc n) k a b = go (eq-or-lt_of_le a) (λ c. at (suc i) n k c (omega arith))
        where
          go : (i ≡ k) ⊎ (i < k) → (suc i ≤ k → In (step_at s k) (listed (step_at s) (suc i) n)) → In (step_at s k) (step_at s i ∷ listed (step_at s) (suc i) n)
          go (inl q) f = rw q here
          go (inr q) f = there (f q)

  named_in : (i : ℕ) → i < terms s → NamedIn (table_of s) i
  named_in i h = go (right.each_named i h)
    where
      go : Named s i → NamedIn (table_of s) i
      go (inl (j, m, p)) = inr (j, rw (entries_length s) m, rw (entry_at_lem s j m) (part_of_lem j i (term_at s j) (term_names_lem s entered j m) p))
      go (inr (k, m, u)) = inl (step_at s k, step_in k m, (operands_mean s entered k i m).1 u)

  pub accepted_right : Right (table_of s)
  accepted_right =
      record {
        symbols_there = λ i x h f. rw (sorts_length s) (leaf_there i x (rw (entries_length s) at h) (sym (entry_at_lem s i (rw (entries_length s) at h)) ∙ f));
        parts_lower = checked.closed;
        operands_there = checked.in_range;
        binders_there = λ p x a b. rw (sorts_length s) (bound_there p x a b);
        restricts_names = checked.restricts;
        binds_variables = table_binds_variables s e;
        unrepeated = terms_unrepeated s e;
        each_named = λ i h. named_in i (rw (entries_length s) at h);
        binds_once = rw (bound_map signature1 (denoted signature1 0 (table_of s).entries) (table_of s).steps) at checked.once;
      }
    where
      bound_there : (p : Act signature1 ℕ) (x : ℕ) → In p (table_of s).steps → In x (binders signature1 p) → x < symbols s
      bound_there p x a b =
          let (k, l, u, f) = listed_in (step_at s) 0 (steps s) a in
          let h : k < steps s = omega arith in
          binder_there s entered k x h ((binders_mean s entered k x h).0 (rw f at b))

  pub accepted_limits : InLimits (table_of s)
  accepted_limits =
      let f = right.frame in
      record { few_symbols = rw (sorts_length s) f.few_symbols; few_terms = rw (entries_length s) f.few_terms; few_steps = rw (steps_length_lem s) f.few_steps }

pub accepted_is_right : AcceptedIsRight
accepted_is_right s e = (accepted_right s e, accepted_limits s e)
