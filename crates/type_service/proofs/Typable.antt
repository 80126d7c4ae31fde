-- Number 10 by Figure 2 as it is printed: a sound table is refused for its types exactly if no typing exists, and the place is the highest step from
-- which the rest of the steps has none. Assumes that 1 to 9 pass.
use mathlib.Core.Path.{◌≡◌, refl, ap, ◌∙◌}
use mathlib.Core.Logic.{◌↔◌}
use mathlib.Core.List.{List}
use Prim.Native.Nat.{ℕ, ◌<◌}
use native.Mathlib.Omega.{arith}
use lib.ListN.{length}
use Rattle.answers.specs.Ladder.{least, refusal}
use Rattle.answers.specs.declared.Refusal.{Refusal}
use Rattle.table.specs.Faults.{table_rungs}
use Rattle.calculus.specs.Terms.{bound}
use Rattle.calculus.specs.Tables.{process}
use Rattle.calculus.specs.Scope.{NotIn}
use Rattle.calculus.specs.Figure2.{Env, ◌<:◌}
use Rattle.calculus.specs.Typing.{TypingFrom, PrintedFrom, Checked, Answer, widest, untyped, AnswerIs, is_widest, is_untyped}
use Rattle.calculus.specs.Inference.{infer}
use Rattle.calculus.specs.Version1.{signature1}
use Rattle.calculus.proofs.InferenceLaws.{complete}
use Rattle.calculus.proofs.Bounded.{typing_of_printed, printed_of_typing}
use Rattle.calculus.proofs.Version1Laws.{laws1, right1, typed_as_printed1}
use Rattle.decoded.specs.Table.{table_of}
use Rattle.decoded.proofs.Checked.{table_checked}
use Rattle.decoded.proofs.Sorts.{table_binds_variables}
use Rattle.type_service.specs.Services.{Typable, IsWidest, TableRefused, faulty, no_typing}
use Rattle.type_service.proofs.ServiceLaws.{not_both}
use Rattle.std.proofs.Common.{Ok, Err}

module _ (s : List ℕ) (sound : least (table_rungs s) ≡ Ok tt) where
  checked : Checked signature1 (table_of s)
  checked = table_checked s sound

  as_printed : (i : ℕ) → Typable s i ↔ ((Δ : Env signature1) × TypingFrom signature1 (table_of s) i Δ)
  as_printed = typed_as_printed1 (table_of s) checked (table_binds_variables s sound)

  -- number 10 is no fault of 1 to 9
  untyped_of : (k : ℕ) → TableRefused s (refusal 10 0 k) → AnswerIs signature1 (table_of s) (untyped k)
  untyped_of k r = go (refusal 10 0 k) refl r
    where
      go : (x : Refusal) → x ≡ refusal 10 0 k → TableRefused s x → AnswerIs signature1 (table_of s) (untyped k)
      go x q (faulty e) = let y : ◌≡◌ {A = ℕ} 0 1 = cc in absurd (omega arith)
      go x q (no_typing {k = j} p u n) =
          let g : Err (refusal 10 0 j) ≡ Err x = n in let f : refusal 10 0 j ≡ x = cc in let e : j ≡ k = ap (λ (r : Refusal). r.place) (f ∙ q) in rw e at u

  -- its place is the highest step from which the rest of the steps has no typing
  pub untypable_from : (k : ℕ) → TableRefused s (refusal 10 0 k) ↔ ((k < length (table_of s).steps) × (Typable s k → ⊥) × ((j : ℕ) → k < j → Typable s j))
  untypable_from k = (λ r. to (untyped_of k r), λ (l, n, m). no_typing sound (is_untyped l (λ Δ d. n ((as_printed k).1 (Δ, d))) (λ j h. (as_printed j).0 (m j h))) refl)
    where
      to : AnswerIs signature1 (table_of s) (untyped k) → (k < length (table_of s).steps) × (Typable s k → ⊥) × ((j : ℕ) → k < j → Typable s j)
      to (is_untyped l n m) = (l, λ p. (let (Δ, d) = (as_printed k).0 p in n Δ d), λ j h. (as_printed j).1 (m j h))

  -- where a typing exists there is a widest
  pub typable : Typable s 0 → (Γ : Env signature1) × IsWidest s Γ
  typable p =
      let (Δ, d) = (as_printed 0).0 p in
      let (Γ, e) = complete signature1 laws1 (table_of s) checked Δ d in
      (Γ, record { sound = sound; typing = rw e at (right1 (table_of s) checked) })

  -- a sound table is refused for its types exactly if no typing exists
  pub untypable : ((k : ℕ) × TableRefused s (refusal 10 0 k)) ↔ (Typable s 0 → ⊥)
  untypable = (λ (k, r) p. (let (Γ, t) = typable p in not_both s Γ (refusal 10 0 k) t r), λ n. go n (infer signature1 (table_of s)) (right1 (table_of s) checked))
    where
      go : (Typable s 0 → ⊥) → (a : Answer signature1) → AnswerIs signature1 (table_of s) a → (k : ℕ) × TableRefused s (refusal 10 0 k)
      go n (widest Γ) (is_widest d m) = absurd (n ((as_printed 0).1 (Γ, d)))
      go n (untyped k) u = (k, no_typing sound u refl)

  -- the widest is a typing by the printed rules, and in the free symbols every such typing lies under it
  pub widest_printed : (Γ : Env signature1) → IsWidest s Γ → PrintedFrom signature1 (table_of s) 0 Γ
      × ((Δ : Env signature1) → PrintedFrom signature1 (table_of s) 0 Δ → (x : ℕ) → NotIn x (bound signature1 (process signature1 (table_of s))) → ◌<:◌ signature1 (Δ x) (Γ x))
  widest_printed Γ t = go t.typing
    where
      go : AnswerIs signature1 (table_of s) (widest Γ) → PrintedFrom signature1 (table_of s) 0 Γ
          × ((Δ : Env signature1) → PrintedFrom signature1 (table_of s) 0 Δ → (x : ℕ) → NotIn x (bound signature1 (process signature1 (table_of s))) → ◌<:◌ signature1 (Δ x) (Γ x))
      go (is_widest d m) = (
        printed_of_typing signature1 (table_of s) checked 0 Γ d,
        λ Δ p x o. (let (Θ, same, e) = typing_of_printed signature1 (table_of s) checked 0 (table_binds_variables s sound) Δ p in rw (same x o) at (m Θ e x)),
      )
