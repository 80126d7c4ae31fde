-- What the terms of a checked table mean, as bytes, and the symbols that its steps bind. Assumes that 1 to 9 pass.
use mathlib.Core.Path.{◌≡◌, refl, ◌∙◌}
use mathlib.Core.Bool.{Bool, true, false}
use mathlib.Core.Logic.{◌↔◌, ◌⊎◌, inl, inr}
use mathlib.Core.Option.{some}
use mathlib.Core.List.{List}
use Prim.Native.Nat.{ℕ, ◌+◌, ◌-◌, ◌<◌}
use native.Mathlib.Omega.{arith}
use lib.Dec.{eqb}
use lib.ListN.{get_or, get_elem?}
use borrow.Author.Tests.{eqb-true, eqb-false}
use Rattle.base.specs.Pick.{pick}
use Rattle.answers.specs.Ladder.{least}
use Rattle.codes.specs.Rows.{cell, limits_of}
use Rattle.entries.specs.Fields.{code}
use Rattle.table_layout.specs.Layout.{symbols, terms, steps, terms_at, steps_at, term_field, step_field, step_role}
use Rattle.table.specs.Faults.{table_rungs}
use Rattle.rendering.specs.Judge.{Meaning, meant_by}
use Rattle.decoded.proofs.Passed.{table_passed}
use Rattle.decoded.proofs.Ranges.{step_field_lem}
use Rattle.decoded.proofs.Shapes.{step_role_lem}
use Rattle.decoded.specs.Indexes.{meaning_of}
use Rattle.decoded.proofs.Tabled.{counts_small, a_leaf, a_compound}
use Rattle.judging.specs.Meanings.{coded, Small, Meant, meant_at}
use Rattle.judging.proofs.MeaningBytes.{byte_means, means_byte}
use Rattle.std.proofs.Common.{Ok}

module _ (t : List ℕ) (e : least (table_rungs t) ≡ Ok tt) where
  -- a term's meaning is small, and its byte is the one that is read
  pub meaning_at : (i : ℕ) → i < terms t → Small (meaning_of t i) × (meant_at t i ≡ coded (meaning_of t i))
  unfolding meaning_of meant_by meant_at Small coded
  meaning_at i l = go (eqb (code t 0 (terms_at t) i) 0) refl
    where
      go : (b : Bool) → eqb (code t 0 (terms_at t) i) 0 ≡ b → Small (meaning_of t i) × (pick b (term_field t i 0) (255 - i) ≡ coded (meaning_of t i))
      go true q =
          let f = a_leaf t e i l (eqb-true _ _ q) in
          let k = counts_small t e in
          rw f.0 (omega (arith, f.1), refl)
      go false q =
          let f = a_compound t e i l (eqb-false _ _ q) in
          let k = counts_small t e in
          rw f.entry (omega arith, refl)

  -- a register means term i exactly if its byte is that of term i
  pub register_means : {ms : List Meaning} {u p : ℕ} (i : ℕ) → i < terms t → Meant ms u p → (eqb (meant_at t i) p ≡ true) ↔ (get_elem? ms u ≡ some (meaning_of t i))
  register_means i l r =
      let (s, c) = meaning_at i l in
      (λ q. byte_means r (meaning_of t i) s (meant_at t i) c q, λ q. means_byte r (meaning_of t i) s (meant_at t i) c q)

  -- a symbol that a step binds is one of the table's
  pub bound_small : (k op j r : ℕ) → k < steps t → j < 4 → code t 1 (steps_at t) k ≡ op → cell 1 op (j + 1) ≡ r → (r ≡ 6) ⊎ (r ≡ 7) → step_field t k j < 128
  bound_small k op j r h l c q o = go o (step_field_lem t (table_passed t e).entered k h j l)
    where
      role : step_role t k j ≡ r
      role = step_role_lem t k op j c ∙ q

      go : (r ≡ 6) ⊎ (r ≡ 7) → step_field t k j < get_or (limits_of 0 (symbols t) 0 (terms t) 0) (step_role t k j) 0 → step_field t k j < 128
      go (inl z) m = let n : step_field t k j < symbols t = rw (role ∙ z) at m in let k = counts_small t e in omega arith
      go (inr z) m = let n : step_field t k j < symbols t = rw (role ∙ z) at m in let k = counts_small t e in omega arith
