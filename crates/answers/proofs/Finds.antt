-- What a reader answers that looks by `find` for the first thing of a rung that is out of order. Assumes nothing.
use mathlib.Core.Path.{◌≡◌, sym, ap, ◌∙◌}
use mathlib.Core.List.{[], ◌∷◌}
use Prim.Native.Nat.{ℕ}
use Rattle.std.proofs.Common.{Option, Some, None, Ok, Err}
use Rattle.base.specs.Search.{first}
use Rattle.base.proofs.Ranges.{searched}
use Rattle.answers.specs.Ladder.{refusal, Rung, answered, least}
use Rattle.answers.specs.declared.Refusal.{Refusal}

-- none is: the reader passes
pub find_passes : (r : Rung) {o : Option ℕ} → searched o ≡ first r.ok 0 r.count → o ≡ None → Ok tt ≡ least (r ∷ [])
unfolding least answered
find_passes r q e = ap (λ s. answered r s (Ok tt)) (ap searched (sym e) ∙ q)

-- thing i is: the reader refuses it
pub find_refuses : (r : Rung) {o : Option ℕ} {i : ℕ} {x : Refusal} → searched o ≡ first r.ok 0 r.count → o ≡ Some i → x ≡ refusal r.number r.file (r.place i)
    → Err x ≡ least (r ∷ [])
unfolding least answered
find_refuses r q e n = ap Err n ∙ ap (λ s. answered r s (Ok tt)) (ap searched (sym e) ∙ q)
