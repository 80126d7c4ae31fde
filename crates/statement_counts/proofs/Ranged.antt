-- What 1 to 9 leave of a table for the theorems of the translation: symbols are below S, and no term is idle. So N is known, and
-- registers can be named. Assumes that 1 to 9 pass.
use mathlib.Core.Path.{◌≡◌, refl, sym, ◌∙◌}
use mathlib.Core.Logic.{inl, inr}
use mathlib.Core.List.{List, [], ◌∷◌}
use Prim.Native.Nat.{ℕ, zero, suc, ◌+◌, ◌<◌, ◌≤◌}
use native.Mathlib.Omega.{arith}
use native.Mathlib.Decide.{ℕ_discrete}
use lib.ListN.{length}
use Rattle.base.specs.Bytes.{byte}
use Rattle.answers.specs.Ladder.{least}
use Rattle.codes.specs.Rows.{cell}
use Rattle.entries.specs.Fields.{code}
use Rattle.table_layout.specs.Layout.{symbols, terms, steps, terms_at, steps_at, term_field, term_role, step_field, step_role}
use Rattle.table.specs.Faults.{table_rungs}
use Rattle.calculus.specs.Terms.{operands, bound}
use Rattle.calculus.specs.Tables.{Entry, leaf_entry, entry_at}
use Rattle.calculus.specs.Scope.{In, here, there, All, all_nil}
use Rattle.calculus.specs.Version1.{signature1}
use Rattle.calculus.proofs.Lists.{all_append, all_map}
use Rattle.rendering.specs.Rendering.{halves}
use Rattle.rendering.specs.Translation.{parts, translation, translated, InRange, Used, by_step, by_term, NoneIdle}
use Rattle.rendering.proofs.Version1Laws.{length_is_known1, translation_fits1}
use Rattle.entries.specs.Tiling.{listed}
use Rattle.decoded.specs.Meaning.{HasPart, Uses, Named}
use Rattle.decoded.specs.Table.{act_of, step_at, table_of}
use Rattle.decoded.proofs.Naming.{named_means}
use Rattle.decoded.proofs.Passed.{table_passed}
use Rattle.decoded.proofs.Ranges.{binder_there}
use Rattle.decoded.proofs.Shapes.{term_role_lem, step_role_lem, step_binds}
use Rattle.decoded.proofs.Holding.{entries_length}
use Rattle.decoded.proofs.Steps.{sorts_length, steps_length_lem}
use Rattle.decoded.proofs.Checked.{table_checked}
use Rattle.decoded.proofs.Unlike.{terms_unrepeated}
use Rattle.decoded.specs.Indexes.{entries_of}
use Rattle.statement_counts.specs.Counts.{due_count, compound_count}
use Rattle.decoded.proofs.Tabled.{counts_small, a_leaf, a_compound, step_as, step_known}
use Rattle.std.proofs.Common.{Ok}

in_listed : {A : Type 0} (f : ℕ → A) (i n k : ℕ) → i ≤ k → k < i + n → In (f k) (listed f i n)
unfolding listed
in_listed f i zero k p q = absurd (omega arith)
in_listed {A} f i (suc n) k p q = go (ℕ_discrete k i) (λ l. in_listed f (suc i) n k l (omega arith))
  where
    go : Dec (k ≡ i) → (suc i ≤ k → In (f k) (listed f (suc i) n)) → In (f k) (f i ∷ listed f (suc i) n)
    go (yes e) g = rw e here
    go (no d) g = there (g (omega arith))

module _ (s : List ℕ) (e : least (table_rungs s) ≡ Ok tt) where
  leaves : (i x : ℕ) → i < length (table_of s).entries → entry_at signature1 0 (table_of s).entries i ≡ leaf_entry x → x < length (table_of s).sorts
  unfolding entries_of
  leaves i x h q = rw (sorts_length s) (go (ℕ_discrete (code s 0 (terms_at s) i) 0))
    where
      l : i < terms s
      l = rw (entries_length s) at h

      go : Dec (code s 0 (terms_at s) i ≡ 0) → x < symbols s
      go (yes c) = let f = a_leaf s e i l c in let y : ◌≡◌ {A = Entry signature1 ℕ} (leaf_entry x) (leaf_entry (term_field s i 0)) = sym q ∙ f.0 in let z : x ≡ term_field s i 0 = cc in omega (arith, f.1)
      go (no n) = let f = a_compound s e i l n in let y = sym q ∙ f.entry in let z : ◌≡◌ {A = ℕ} 0 1 = cc in absurd (omega arith)

  all_bound : (i m : ℕ) → i + m ≤ steps s → All (λ x. x < length (table_of s).sorts) (bound signature1 (listed (step_at s) i m))
  unfolding bound listed
  all_bound i zero h = all_nil
  all_bound i (suc m) h =
      let n = (table_passed s e).entered in
      let l : i < steps s = omega arith in
      all_append (all_map (λ x b. rw (sorts_length s) (binder_there s n i x l b)) (step_binds s n i l)) (all_bound (suc i) m (omega arith))

  pub in_range : InRange signature1 (table_of s)
  in_range = record { leaves = leaves; binders = all_bound 0 (steps s) (omega arith) }

  -- ── No term is idle ──

  part_in : (t i : ℕ) → t < terms s → HasPart s t i → Used signature1 (table_of s) i
  unfolding cell byte parts entries_of
  part_in t i l p = go (ℕ_discrete (code s 0 (terms_at s) t) 0)
    where
      at_is : (j : ℕ) → j < 2 → term_field s t j ≡ i → In i (term_field s t 0 ∷ term_field s t 1 ∷ [])
      at_is zero h q = rw (← q) here
      at_is (suc zero) h q = rw (← q) (there here)
      at_is (suc (suc j)) h q = absurd (omega arith)

      no_part : (j : ℕ) → j < 2 → code s 0 (terms_at s) t ≡ 0 → term_role s t j ≡ 1 → ⊥
      no_part zero h c r = let z = sym r ∙ term_role_lem s t 0 0 c in omega arith
      no_part (suc zero) h c r = let z = sym r ∙ term_role_lem s t 0 1 c in omega arith
      no_part (suc (suc j)) h c r = omega arith

      go : Dec (code s 0 (terms_at s) t ≡ 0) → Used signature1 (table_of s) i
      go (yes c) = absurd (no_part p.at p.among c p.is_part)
      go (no n) = by_term {j = t} (rw (entries_length s) l) (a_compound s e t l n).entry (at_is p.at p.among p.names)

  operand_in : (k i : ℕ) → k < steps s → Uses s k i → In i (operands signature1 (step_at s k))
  unfolding act_of operands cell byte
  operand_in k i l u = by_op (code s 1 (steps_at s) k) refl (step_known s e k l) u.at u.among u.is_term u.names
    where
      role_of : (op j : ℕ) → code s 1 (steps_at s) k ≡ op → step_role s k j ≡ 5 → cell 1 op (j + 1) ≡ 5
      role_of op j c r = sym (step_role_lem s k op j c) ∙ r

      by_op : (op : ℕ) → code s 1 (steps_at s) k ≡ op → op < 6 → (j : ℕ) → j < 2 → step_role s k j ≡ 5 → step_field s k j ≡ i → In i (operands signature1 (step_at s k))
      by_op zero c h zero g r q = rw (step_as s k 0 c, ← q) here
      by_op zero c h (suc zero) g r q = rw (step_as s k 0 c, ← q) (there here)
      by_op zero c h (suc (suc j)) g r q = absurd (omega arith)
      by_op (suc zero) c h zero g r q = rw (step_as s k 1 c, ← q) here
      by_op (suc zero) c h (suc zero) g r q = let z = role_of 1 1 c r in absurd (omega arith)
      by_op (suc zero) c h (suc (suc j)) g r q = absurd (omega arith)
      by_op (suc (suc zero)) c h zero g r q = let z = role_of 2 0 c r in absurd (omega arith)
      by_op (suc (suc zero)) c h (suc zero) g r q = let z = role_of 2 1 c r in absurd (omega arith)
      by_op (suc (suc zero)) c h (suc (suc j)) g r q = absurd (omega arith)
      by_op (suc (suc (suc zero))) c h zero g r q = rw (step_as s k 3 c, ← q) here
      by_op (suc (suc (suc zero))) c h (suc zero) g r q = rw (step_as s k 3 c, ← q) (there here)
      by_op (suc (suc (suc zero))) c h (suc (suc j)) g r q = absurd (omega arith)
      by_op (suc (suc (suc (suc zero)))) c h zero g r q = rw (step_as s k 4 c, ← q) here
      by_op (suc (suc (suc (suc zero)))) c h (suc zero) g r q = let z = role_of 4 1 c r in absurd (omega arith)
      by_op (suc (suc (suc (suc zero)))) c h (suc (suc j)) g r q = absurd (omega arith)
      by_op (suc (suc (suc (suc (suc zero))))) c h zero g r q = rw (step_as s k 5 c, ← q) here
      by_op (suc (suc (suc (suc (suc zero))))) c h (suc zero) g r q = rw (step_as s k 5 c, ← q) (there here)
      by_op (suc (suc (suc (suc (suc zero))))) c h (suc (suc j)) g r q = absurd (omega arith)
      by_op (suc (suc (suc (suc (suc (suc op)))))) c h j g r q = absurd (omega arith)

  pub none_idle : NoneIdle signature1 (table_of s)
  none_idle i h = go ((named_means s i).0 ((table_passed s e).each_named i (rw (entries_length s) at h)))
    where
      go : Named s i → Used signature1 (table_of s) i
      go (inl (t, l, p)) = part_in t i l p
      go (inr (k, l, u)) = by_step (in_listed (step_at s) 0 (steps s) k (omega arith) (omega arith)) (operand_in k i l u)

  -- ── N, and the registers ──

  pub count_known : due_count s + compound_count s ≡ length (translation signature1 halves (table_of s))
  unfolding due_count compound_count
  count_known = sym (length_is_known1 halves (table_of s) (table_checked s e) (terms_unrepeated s e) in_range none_idle)

  pub all_fits : (length (translation signature1 halves (table_of s)) ≤ 256) × (length (translated signature1 halves (table_of s)).1 ≤ 224)
  all_fits =
      let k = counts_small s e in
      let f = translation_fits1 halves (table_of s) (table_checked s e) in_range (rw (sorts_length s) k.0) (rw (entries_length s) k.1) (rw (steps_length_lem s) k.2) in
      (f.0, f.1)
