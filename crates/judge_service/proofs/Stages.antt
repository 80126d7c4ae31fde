-- The stages of the judge, each passed on or left behind. Assumes nothing.
use mathlib.Core.Path.{◌≡◌, sym, ap, ◌∙◌}
use mathlib.Core.List.{List}
use Prim.Native.Nat.{ℕ}
use Rattle.answers.specs.Ladder.{refusal, least, Check}
use Rattle.answers.specs.declared.Refusal.{Refusal}
use Rattle.table_layout.specs.Layout.{symbols}
use Rattle.entries.specs.Words.{Bytes}
use Rattle.list.specs.Faults.{list_rungs}
use Rattle.table.specs.Faults.{table_rungs}
use Rattle.calculus.specs.Figure2.{Env}
use Rattle.calculus.specs.Version1.{signature1}
use Rattle.rendering.specs.Rendering.{halves}
use Rattle.rendering.specs.Lists.{types_differ_at, types_equal}
use Rattle.rendering.proofs.JudgeLaws.{judge_is_exact}
use Rattle.decoded.specs.Table.{table_of, free_count}
use Rattle.decoded.proofs.Checked.{table_checked}
use Rattle.decoded.proofs.Unlike.{terms_unrepeated}
use Rattle.decoded_list.specs.Decoded.{Decoded}
use Rattle.decoded_list.specs.Statements.{statements_of}
use Rattle.decoded_list.proofs.Reading.{list_decoded}
use Rattle.decoded_list.specs.Bytes.{types_to}
use Rattle.judging.specs.Verdicts.{StatementsJudged}
use Rattle.judging.specs.declared.Unfaithful.TheVariants.{NotDue, Unfinished}
use Rattle.slots.specs.Slots.{Holds}
use Rattle.type_match.specs.Alike.{Alike, alike, unlike, Matched}
use Rattle.type_service.specs.Services.{IsWidest, SlotsTyped}
use Rattle.type_service.proofs.ServiceLaws.{Typed, typed}
use Rattle.judge_service.specs.Judged.{verdict_check, answer_check, VerdictGiven, Judged, TypedJudged, table_refused, list_refused, list_judged}
use Rattle.std.proofs.Common.{Ok, Err}

-- what the comparison of the types leaves: a refusal, or the verdict on the statements
abbrev Left : List ℕ → List ℕ → Check → Type 0
Left t l (Ok tt) = (r : Check) → VerdictGiven t l r → Judged t l r
Left t l (Err x) = Judged t l (Err x)

-- so it is where the slots o hold the table's widest types
pub record Compared (t o l : List ℕ) (c : Check) : Type 0 where
  pub left : (Γ : Env signature1) → Holds o Γ → IsWidest t Γ → Left t l c

module _ (t l : List ℕ) where
  -- the table is refused
  pub table_stops : (o : List ℕ) (a : Check) (x : Refusal) (b : Check) → SlotsTyped t o a → a ≡ Err x → b ≡ Err x → Judged t l b
  table_stops o a x b s q p = rw p (table_refused (rw q at s))

  -- it passes, and the list is judged
  pub table_passes : (o : List ℕ) (a r : Check) → SlotsTyped t o a → a ≡ Ok tt → TypedJudged t o l r → Judged t l r
  table_passes o a r s q j = let (Γ, h, w) : SlotsTyped t o (Ok tt) = rw q at s in j.judged Γ h w

  -- the types of a list without faults 1 to 5 are compared with the widest ones
  beside : (o : List ℕ) (m : ℕ) (c : Check) → Typed t o m → Bytes l → least (list_rungs l (free_count t)) ≡ Ok tt → Matched l o m c → Left t l c
  unfolding answer_check
  beside o m c k h in_order a = go (rw k.all at (a.matched k.Γ (free_count t) k.holds k.few in_order decoded))
    where
      decoded : Decoded l
      decoded = list_decoded l (free_count t) h in_order

      sound : least (table_rungs t) ≡ Ok tt
      sound = k.widest.sound

      go : {c : Check} → Alike decoded.types (types_to k.Γ (symbols t)) c → Left t l c
      go (unlike u) = list_judged k.widest in_order decoded.is_file (types_differ_at u)
      go (alike u) =
          λ r v. rw (v.given sound in_order)
          (list_judged k.widest in_order decoded.is_file (types_equal u (judge_is_exact signature1 halves (table_of t) (statements_of l) (table_checked t sound) (terms_unrepeated t sound))))

  module _ (o : List ℕ) (n : ℕ) (b : Check) (e : least (table_rungs t) ≡ Ok tt → n ≡ free_count t) (f : b ≡ least (list_rungs l n)) where
    -- the list is refused by itself
    pub list_stops : (x : Refusal) (r : Check) → b ≡ Err x → r ≡ Err x → TypedJudged t o l r
    list_stops x r q p = record { judged = λ Γ h w. rw p (list_refused w (sym (rw (e w.sound) at f) ∙ q)) }

    -- or its types are compared: 11; or 12, 13, or accepted
    pub compared : (m : ℕ) (c : Check) → m ≡ symbols t → Bytes l → b ≡ Ok tt → Matched l o m c → Compared t o l c
    compared m c s h q a = record { left = λ Γ k w. beside o m c (typed t o m (Γ, k, w) s) h (sym (rw (e w.sound) at f) ∙ q) a }

  module _ (o : List ℕ) (c : Check) (k : Compared t o l c) where
    pub types_stop : (x : Refusal) (r : Check) → c ≡ Err x → r ≡ Err x → TypedJudged t o l r
    types_stop x r q p = record { judged = λ Γ h w. rw p (rw q at (k.left Γ h w)) }

    pub verdict_given : (r : Check) → c ≡ Ok tt → VerdictGiven t l r → TypedJudged t o l r
    verdict_given r q v = record { judged = λ Γ h w. (rw q at (k.left Γ h w)) r v }

  -- ── The verdict as a check ──

  pub is_accepted : StatementsJudged t l (Ok tt) → VerdictGiven t l (Ok tt)
  unfolding verdict_check
  is_accepted j = record { given = λ s e. ap verdict_check (j.verdict s e) }

  pub is_not_due : (i : ℕ) (r : Check) → StatementsJudged t l (Err (NotDue i)) → r ≡ Err (refusal 12 1 i) → VerdictGiven t l r
  unfolding verdict_check
  is_not_due i r j q = record { given = λ s e. q ∙ ap verdict_check (j.verdict s e) }

  pub is_unfinished : (k : ℕ) (r : Check) → StatementsJudged t l (Err (Unfinished k)) → r ≡ Err (refusal 13 1 k) → VerdictGiven t l r
  unfolding verdict_check
  is_unfinished k r j q = record { given = λ s e. q ∙ ap verdict_check (j.verdict s e) }
