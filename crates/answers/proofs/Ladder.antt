-- Laws of `least`: layer after layer, one rung, a fault of the whole file. Assumes nothing.
use mathlib.Core.Path.{◌≡◌, refl, sym, ap, ◌∙◌}
use mathlib.Core.Bool.{Bool, true, false}
use mathlib.Core.List.{List, [], ◌∷◌, ◌++◌}
use Prim.Native.Nat.{ℕ, ◌≤◌, ◌<◌}
use native.Mathlib.Omega.{arith}
use Rattle.base.specs.Search.{Search, clean, wrong, first}
use Rattle.base.proofs.Searched.{first_wrong_lem, first_right, first_end}
use Rattle.answers.specs.Ladder.{refusal, Rung, whole, answered, least, and_then}
use Rattle.answers.specs.declared.Refusal.{Refusal}
use Rattle.std.proofs.Common.{Ok, Err}

pub least_none : least [] ≡ Ok tt
unfolding least
least_none = refl

-- the tests of two layers are those of the first, then those of the second
pub least_append : (xs ys : List Rung) → least (xs ++ ys) ≡ and_then (least xs) (least ys)
unfolding least
least_append [] ys = refl
least_append (r ∷ rs) ys = go (first r.ok 0 r.count) (least_append rs ys)
  where
    go : (s : Search) → least (rs ++ ys) ≡ and_then (least rs) (least ys) → answered r s (least (rs ++ ys)) ≡ and_then (answered r s (least rs)) (least ys)
    go clean e = unfold answered in e
    go (wrong i) e = unfold answered in refl

-- a layer that passes, and one that refuses
pub after_pass : (xs ys : List Rung) → least xs ≡ Ok tt → least (xs ++ ys) ≡ least ys
after_pass xs ys e = least_append xs ys ∙ rw e

pub after_refusal : (xs ys : List Rung) (x : Refusal) → least xs ≡ Err x → least (xs ++ ys) ≡ Err x
after_refusal xs ys x e = least_append xs ys ∙ rw e

-- a fault of the whole file
pub whole_right : (n f : ℕ) (b : Bool) (rs : List Rung) → b ≡ true → least (whole n f b ∷ rs) ≡ least rs
unfolding least
whole_right n f b rs e =
    let q : first (λ i. b) 0 1 ≡ clean = first_right (λ i. b) 0 1 (omega arith) e ∙ first_end (λ i. b) 1 1 (omega arith) in
    ap (λ s. answered (whole n f b) s (least rs)) q ∙ (unfold answered in refl)

pub whole_wrong : (n f : ℕ) (b : Bool) (rs : List Rung) → b ≡ false → least (whole n f b ∷ rs) ≡ Err (refusal n f 0)
unfolding least
whole_wrong n f b rs e =
    ap (λ s. answered (whole n f b) s (least rs)) (first_wrong_lem (λ i. b) 0 1 (omega arith) e) ∙ (unfold answered in refl)

-- a loop over a rung's things, by what it has found
pub rung_found : (r : Rung) (i : ℕ) (x : Refusal) → first r.ok 0 r.count ≡ first r.ok i r.count → i < r.count → r.ok i ≡ false
    → x ≡ refusal r.number r.file (r.place i) → Err x ≡ least (r ∷ [])
unfolding least
rung_found r i x q h e n =
    ap Err n ∙ sym (ap (λ s. answered r s (Ok tt)) (q ∙ first_wrong_lem r.ok i r.count h e) ∙ (unfold answered in refl))

pub rung_clean : (r : Rung) (i : ℕ) → first r.ok 0 r.count ≡ first r.ok i r.count → r.count ≤ i → Ok tt ≡ least (r ∷ [])
unfolding least
rung_clean r i q h = sym (ap (λ s. answered r s (Ok tt)) (q ∙ first_end r.ok i r.count h) ∙ (unfold answered in refl))
