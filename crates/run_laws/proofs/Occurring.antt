-- The symbols that occur in the process of a table are below S. Assumes that parts are lower, and that leaves and binders are in range.
use mathlib.Core.Path.{◌≡◌, refl}
use mathlib.Core.List.{List, [], ◌∷◌, map}
use Prim.Native.Nat.{ℕ, zero, suc, ◌<◌}
use native.Mathlib.Omega.{arith}
use lib.ListN.{length}
use Rattle.calculus.specs.Terms.{Term, build1, build2, Act, map_act, operands, binders, bound}
use Rattle.calculus.specs.Tables.{Entry, leaf_entry, kind_entry, entry_at, denoted, Lower, low_leaf, low_one, low_two, Table, process}
use Rattle.calculus.specs.Scope.{In, here, there, All, all_nil, all_cons, Lacks, la_symbol, la_one, la_two}
use Rattle.calculus.specs.Typing.{Checked}
use Rattle.calculus.specs.Version1.{signature1}
use Rattle.calculus.proofs.TableLaws.{denoted_leaf, denoted_one, denoted_two}
use Rattle.calculus.proofs.Lists.{all_of, all_parts}
use Rattle.calculus.proofs.TableLaws.{binders_map}
use Rattle.rendering.specs.Translation.{InRange}
use Rattle.decoded.proofs.Steps.{operands_mapped}
use Rattle.run_laws.proofs.Agreeing.{TermBelow, StepBelow}

module _ (t : Table signature1) (c : Checked signature1 t) (r : InRange signature1 t) where
  -- term i
  abbrev term : ℕ → Term signature1
  term i = denoted signature1 0 t.entries i

  -- a term holds only symbols of the table
  term_below : (n i : ℕ) → i < n → i < length t.entries → TermBelow signature1 (length t.sorts) (term i)
  term_below zero i h l y g = absurd (omega arith)
  term_below (suc n) i h l y g = go (entry_at signature1 0 t.entries i) refl (c.closed i l) (λ j k. term_below n j (omega arith) (omega arith) y g)
    where
      go : (e : Entry signature1 ℕ) → entry_at signature1 0 t.entries i ≡ e → Lower signature1 i e → ((j : ℕ) → j < i → Lacks signature1 y (term j)) → Lacks signature1 y (term i)
      go (leaf_entry x) q low_leaf f = rw (denoted_leaf signature1 0 t.entries c.closed i q) (la_symbol (λ (e : y ≡ x). omega (arith, r.leaves i x l q)))
      go (kind_entry (build1 k a)) q (low_one p) f = rw (denoted_one signature1 0 t.entries c.closed i q) (la_one (f a p))
      go (kind_entry (build2 k a b)) q (low_two p u) f = rw (denoted_two signature1 0 t.entries c.closed i q) (la_two (f a p) (f b u))

  -- so do the steps' terms, and the steps bind only such symbols
  steps_below : (ss : List (Act signature1 ℕ)) → ((s : Act signature1 ℕ) (i : ℕ) → In s ss → In i (operands signature1 s) → i < length t.entries)
      → All (λ x. x < length t.sorts) (bound signature1 ss) → All (StepBelow signature1 (length t.sorts)) (map (map_act signature1 term) ss)
  unfolding bound
  steps_below [] h b = all_nil
  steps_below (s ∷ ss) h b =
      let (u, v) = all_parts (binders signature1 s) (bound signature1 ss) b in
      all_cons (
        operands_mapped term (λ i l. term_below (suc i) i (omega arith) l) s (all_of (operands signature1 s) (λ i q. h s i here q)),
        rw (binders_map signature1 term s) u,
      )
      (steps_below ss (λ p i a q. h p i (there a) q) v)

  -- all symbols of the process are the table's
  pub process_below : All (StepBelow signature1 (length t.sorts)) (process signature1 t)
  process_below = steps_below t.steps c.in_range r.binders
