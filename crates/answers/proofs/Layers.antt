-- Two layers of tests: what the code returns after the first one. Assumes nothing.
use mathlib.Core.Path.{◌≡◌, sym, ◌∙◌}
use mathlib.Core.List.{List, ◌++◌}
use Rattle.std.proofs.Common.{Result, IsErrAnd, Ok, Err}
use Rattle.std.proofs.lemmas.Result.{err_from_is_err_and}
use Rattle.answers.specs.Ladder.{Check, Rung, least}
use Rattle.answers.proofs.Ladder.{after_pass, after_refusal}
use Rattle.answers.specs.declared.Refusal.{Refusal}

-- what `?` returns is the refusal that it met
pub passed_on : {T : Type 0} {b : Result T Refusal} {x : Refusal} → IsErrAnd b (λ y. y ≡ x) → b ≡ Err x
passed_on {b = b} e = let p = err_from_is_err_and b e in rw (p.1, p.2)

-- the first layer refuses, and its answer is passed on
pub layer_stops : (xs ys : List Rung) {a b : Check} {x : Refusal} → a ≡ least xs → a ≡ Err x → IsErrAnd b (λ y. y ≡ x) → b ≡ least (xs ++ ys)
layer_stops xs ys {x = x} e r p = passed_on p ∙ sym (after_refusal xs ys x (sym e ∙ r))

-- the first layer passes, and the answer is the second one's
pub layer_passes : (xs ys : List Rung) {a b : Check} → a ≡ least xs → a ≡ Ok tt → b ≡ least ys → b ≡ least (xs ++ ys)
layer_passes xs ys e p f = f ∙ sym (after_pass xs ys (sym e ∙ p))
