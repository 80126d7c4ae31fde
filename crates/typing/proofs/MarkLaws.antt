-- Steps of the marking. Assumes nothing.
use mathlib.Core.Path.{◌≡◌, refl, sym, ap, ◌∙◌}
use mathlib.Core.Bool.{Bool, true, false, cond, ◌||◌}
use mathlib.Core.List.{List, []}
use Prim.Native.Nat.{ℕ, zero, suc, ◌+◌, ◌≤◌, ◌<◌}
use native.Mathlib.Omega.{arith}
use lib.Dec.{eqb}
use lib.ListN.{get_or, length-replicate, get_or-replicate}
use borrow.Author.Tests.{eq-eqb, ne_eqb, eqb-true, eqb-false}
use Rattle.base.specs.Bytes.{byte}
use Rattle.base.specs.Pick.{pick, both, either}
use Rattle.marks.specs.Put.{Put, blank}
use Rattle.codes.specs.Rows.{cell}
use Rattle.entries.specs.Fields.{code, role}
use Rattle.table_layout.specs.Layout.{terms, steps_at, step_field}
use Rattle.table_naming.specs.Naming.{use_at}
use Rattle.calculus.specs.Terms.{operands}
use Rattle.calculus.specs.Tables.{is_in, leaf_entry}
use Rattle.calculus.specs.Inference.{mark, spread, down}
use Rattle.calculus.specs.Version1.{signature1}
use Rattle.decoded.specs.Table.{act_of, step_at}
use Rattle.slots.specs.Terms.{code_at, part_at, entry, InRange}
use Rattle.slots.proofs.TermLaws.{entry_symbol, entry_pair, entry_seal}
use Rattle.typing.specs.Marking.{Bits, PartsPut, DownPut, StepMarked}

-- ── Marks put one after another ──

eqb_swap : (a b : ℕ) → eqb a b ≡ eqb b a
eqb_swap a b = go (eqb a b) refl
  where
    go : (t : Bool) → eqb a b ≡ t → t ≡ eqb b a
    go true e = sym (eq-eqb b a (sym (eqb-true a b e)))
    go false e = sym (ne_eqb b a (λ q. eqb-false a b e (sym q)))

bits_as : {o : List ℕ} {m n : ℕ → Bool} → ((u : ℕ) → m u ≡ n u) → Bits o m → Bits o n
bits_as e b = record { size = b.size; bit = λ u h. b.bit u h ∙ e u }

bits_put : {z o : List ℕ} {f m : ℕ → Bool} → Put z o f 1 → Bits z m → Bits o (λ u. either (f u) (m u))
bits_put {z} {o} {f} {m} p b = record { size = p.size ∙ b.size; bit = λ u h. go u (f u) (p.at u (rw b.size h)) (b.bit u h) }
  where
    go : (u : ℕ) (t : Bool) → get_or o u 0 ≡ pick t 1 (get_or z u 0) → eqb (get_or z u 0) 1 ≡ m u → eqb (get_or o u 0) 1 ≡ either t (m u)
    go u true e q = rw e
    go u false e q = rw e q

-- one index more
bits_mark : {z o : List ℕ} {m : ℕ → Bool} (i : ℕ) → Put z o (λ u. both true (eqb i u)) 1 → Bits z m → Bits o (mark i m)
unfolding mark
bits_mark {z} {o} {m} i p b = bits_as (λ u. go u (eqb i u) (eqb_swap i u)) (bits_put p b)
  where
    go : (u : ℕ) (t : Bool) → t ≡ eqb u i → either t (m u) ≡ (eqb u i || m u)
    go u true e = rw (← e)
    go u false e = rw (← e)

pub bits_blank : Bits blank (λ u. is_in u [])
unfolding blank is_in
bits_blank = record { size = length-replicate {A = ℕ} 256 0; bit = λ u h. rw (get_or-replicate {A = ℕ} 256 u 0 0 h) }

-- ── The parts of a term ──

module _ (s z : List ℕ) (u : ℕ) where
  mark_is : (m : ℕ → Bool) → u < 256 → Bits z m → (b : Bool) → eqb (get_or z u 0) 1 ≡ b → m u ≡ b
  mark_is m h b v e = sym (b.bit u h) ∙ e

  pub parts_unmarked : (g : ℕ) → g ≡ get_or z u 0 → ¬ (g ≡ 1) → PartsPut s u z z
  unfolding spread
  parts_unmarked g e n = record { put = λ m r h b. rw (mark_is m h b false (ne_eqb (get_or z u 0) 1 (rw e at n))) b }

  pub parts_symbol : (c : ℕ) → c ≡ code_at s u → c ≤ 0 → PartsPut s u z z
  unfolding spread
  parts_symbol c e l = record { put = λ m r h b. rw (entry_symbol s u (omega (arith, e))) (go (m u) m b) }
    where
      go : (t : Bool) (m : ℕ → Bool) → Bits z m → Bits z (spread signature1 (leaf_entry (part_at s u 0)) t m)
      go true m b = b
      go false m b = b

  pub parts_both : (g c i j : ℕ) (o₁ o : List ℕ) → g ≡ get_or z u 0 → g ≡ 1 → c ≡ code_at s u → 0 < c → j ≡ part_at s u 1 → i ≡ part_at s u 0
      → Put z o₁ (λ v. both true (eqb j v)) 1 → Put o₁ o (λ v. both true (eqb i v)) 1 → PartsPut s u z o
  unfolding spread
  parts_both g c i j o₁ o hg e hc z' hj hi p q = record {
    put = λ m r h b.
        let d : m u ≡ true = mark_is m h b true (eq-eqb (get_or z u 0) 1 (sym hg ∙ e)) in
        let k : Bits o (mark (part_at s u 0) (mark (part_at s u 1) m)) = rw (← hi, ← hj) (bits_mark i q (bits_mark j p b)) in
        rw d (go (code_at s u) refl (omega (arith, hc)) (r.known u) m k);
  }
    where
      go : (c : ℕ) → code_at s u ≡ c → 0 < c → c < 3 → (m : ℕ → Bool) → Bits o (mark (part_at s u 0) (mark (part_at s u 1) m)) → Bits o (spread signature1 (entry s u) true m)
      go zero e l h m b = absurd (omega arith)
      go (suc zero) e l h m b = rw (entry_pair s u e) b
      go (suc (suc zero)) e l h m b = rw (entry_seal s u e) b
      go (suc (suc (suc c))) e l h m b = absurd (omega arith)

-- ── The pass down the terms ──

-- the pass has come to u
pub record DownTo (s z : List ℕ) (u : ℕ) (o : List ℕ) : Type 0 where
  pub put : (m : ℕ → Bool) → InRange s → Bits z m → (d : ℕ → Bool) × Bits o d × (down signature1 (entry s) u d ≡ down signature1 (entry s) (terms s) m)

pub down_start : (s z : List ℕ) (n : ℕ) → n ≡ terms s → DownTo s z n z
down_start s z n e = record { put = λ m r b. (m, b, ap (λ (n : ℕ). down signature1 (entry s) n m) e) }

pub down_more : (s z o₁ o : List ℕ) (u v : ℕ) → v ≡ suc u → u < 256 → DownTo s z v o₁ → PartsPut s u o₁ o → DownTo s z u o
unfolding down
down_more s z o₁ o u v e h d p = record {
  put = λ m r b.
      let (g, c, q) = d.put m r b in
      (spread signature1 (entry s u) (g u) g, p.put g r h c, rw e at q);
}

pub down_end : (s z o : List ℕ) (u : ℕ) → u ≤ 0 → DownTo s z u o → DownPut s z o
unfolding down
down_end s z o u h d = record {
  put = λ m r b.
      let (g, c, q) = d.put m r b in
      let e : u ≡ 0 = omega arith in
      rw (rw e at q) at c;
}

-- ── The terms of a step ──

one_mark : (a : Bool) → either a false ≡ cond a true false
one_mark true = refl
one_mark false = refl

two_marks : (a b : Bool) → either a (either b false) ≡ cond a true (cond b true false)
two_marks true b = refl
two_marks false b = one_mark b

module _ (s : List ℕ) (k : ℕ) where
  -- field j of step k is term u, where its code is op
  abbrev used : ℕ → ℕ → ℕ → Bool
  used op j u = both (eqb (cell 1 op (j + 1)) 5) (eqb (step_field s k j) u)

  operands_are : (op : ℕ) → op < 6 → (u : ℕ)
      → either (used op 0 u) (either (used op 1 u) false) ≡ is_in u (operands signature1 (act_of op (step_field s k 0) (step_field s k 1) (step_field s k 2) (step_field s k 3)))
  unfolding cell byte act_of operands is_in
  operands_are zero h u = rw (eqb_swap (step_field s k 0) u, eqb_swap (step_field s k 1) u) (two_marks (eqb u (step_field s k 0)) (eqb u (step_field s k 1)))
  operands_are (suc zero) h u = rw (eqb_swap (step_field s k 0) u) (one_mark (eqb u (step_field s k 0)))
  operands_are (suc (suc zero)) h u = refl
  operands_are (suc (suc (suc zero))) h u = rw (eqb_swap (step_field s k 0) u, eqb_swap (step_field s k 1) u) (two_marks (eqb u (step_field s k 0)) (eqb u (step_field s k 1)))
  operands_are (suc (suc (suc (suc zero)))) h u = rw (eqb_swap (step_field s k 0) u) (one_mark (eqb u (step_field s k 0)))
  operands_are (suc (suc (suc (suc (suc zero))))) h u = rw (eqb_swap (step_field s k 0) u, eqb_swap (step_field s k 1) u) (two_marks (eqb u (step_field s k 0)) (eqb u (step_field s k 1)))
  operands_are (suc (suc (suc (suc (suc (suc op)))))) h u = absurd (omega arith)

  pub step_marked : (z o₁ o₂ o : List ℕ) → z ≡ blank → Put z o₁ (use_at s k 1) 1 → Put o₁ o₂ (use_at s k 0) 1 → DownPut s o₂ o → StepMarked s k o
  unfolding step_at role is_in use_at
  step_marked z o₁ o₂ o e p q d = record {
    marked = λ r h.
        let b : Bits z (λ u. is_in u []) = rw e bits_blank in
        d.put (λ u. is_in u (operands signature1 (step_at s k))) r (bits_as (operands_are (code s 1 (steps_at s) k) (r.known_steps k h)) (bits_put q (bits_put p b)));
  }
