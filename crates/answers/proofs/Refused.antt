-- What a refusal says of the rungs, where the rung of its number stands alone: the rungs before it pass, and its first thing out of order is
-- the refusal's. Assumes nothing.
use mathlib.Core.Path.{◌≡◌, refl, sym, ap, ◌∙◌}
use mathlib.Core.Bool.{Bool, true, false, not}
use mathlib.Core.Logic.{◌⊎◌, inl, inr}
use mathlib.Core.List.{List, [], ◌∷◌, ◌++◌}
use Prim.Native.Nat.{ℕ, ◌≤◌, ◌<◌}
use native.Mathlib.Nat.{eq-or-lt_of_le}
use native.Mathlib.Decide.{dec_le}
use native.Mathlib.Omega.{arith}
use lib.Dec.{T, eqb}
use borrow.Author.Tests.{eq-eqb}
use Rattle.base.specs.Pick.{both}
use Rattle.base.specs.Search.{Search, clean, wrong, first}
use Rattle.base.proofs.BothLaws.{clash}
use Rattle.base.proofs.Searched.{Found, all_are_right, first_bad, found}
use Rattle.answers.specs.Ladder.{refusal, Rung, answered, least, Check}
use Rattle.answers.specs.declared.Refusal.{Refusal}
use Rattle.answers.proofs.Ladder.{after_pass}
use Rattle.std.proofs.Common.{Ok, Err}

-- no rung has that number
abbrev pub none_numbered : ℕ → List Rung → Bool
none_numbered n [] = true
none_numbered n (r ∷ rs) = both (not (eqb r.number n)) (none_numbered n rs)

-- thing i of the rung is the first that is out of order, and this is its refusal
pub record FirstBroken (r : Rung) (x : Refusal) : Type 0 where
  pub thing : ℕ
  pub among : thing < r.count
  pub broken : r.ok thing ≡ false
  pub right_before : (k : ℕ) → k < thing → r.ok k ≡ true
  pub named : x ≡ refusal r.number r.file (r.place thing)

-- the first of rungs that lack the number does not refuse with it, and the others lack it too
one_lacks : (n : ℕ) (r : Rung) (rs : List Rung) → T (none_numbered n (r ∷ rs)) → ¬ (r.number ≡ n) × T (none_numbered n rs)
one_lacks n r rs t = go (eqb r.number n) refl t
  where
    go : (b : Bool) → eqb r.number n ≡ b → T (both (not b) (none_numbered n rs)) → ¬ (r.number ≡ n) × T (none_numbered n rs)
    go true e t = absurd t
    go false e t = (λ q. clash (eq-eqb _ _ q) e, t)

-- what a rung refuses has its number
refused_number : (r : Rung) (i : ℕ) (x : Refusal) → ◌≡◌ {A = Check} (Err (refusal r.number r.file (r.place i))) (Err x)
    → x ≡ refusal r.number r.file (r.place i)
refused_number r i x e = cc

-- rungs that lack a number do not refuse with it
none_refuses : (n : ℕ) (rs : List Rung) (x : Refusal) → T (none_numbered n rs) → x.number ≡ n → least rs ≡ Err x → ⊥
unfolding least
none_refuses n [] x t q e = let y : ◌≡◌ {A = ℕ} 0 1 = cc in omega arith
none_refuses n (r ∷ rs) x t q e = go (first r.ok 0 r.count) e (λ h. none_refuses n rs x (one_lacks n r rs t).1 q h)
  where
    go : (s : Search) → answered r s (least rs) ≡ Err x → (least rs ≡ Err x → ⊥) → ⊥
    go clean e f = f (unfold answered in e)
    go (wrong i) e f =
        let y : x ≡ refusal r.number r.file (r.place i) = refused_number r i x (unfold answered in e) in
        (one_lacks n r rs t).0 (sym (ap (λ (x : Refusal). x.number) y) ∙ q)

-- the rungs before that of the number pass, and its first thing out of order is the refusal's
pub refused_at : (xs : List Rung) (r : Rung) (ys : List Rung) (x : Refusal) → T (none_numbered r.number (xs ++ ys)) → x.number ≡ r.number
    → least (xs ++ (r ∷ ys)) ≡ Err x → (least xs ≡ Ok tt) × FirstBroken r x
unfolding least
refused_at [] r ys x t q e = (refl, go (first r.ok 0 r.count) (found r.ok 0 r.count (omega arith)) e)
  where
    go : (s : Search) → Found r.ok 0 r.count s → answered r s (least ys) ≡ Err x → FirstBroken r x
    go clean f e = absurd (none_refuses r.number ys x t q (unfold answered in e))
    go (wrong i) (first_bad l h b f) e =
        record { thing = i; among = h; broken = b; right_before = λ k u. f k (omega arith) u; named = refused_number r i x (unfold answered in e) }
refused_at (p ∷ xs) r ys x t q e = go (first p.ok 0 p.count) e (λ h. refused_at xs r ys x (one_lacks r.number p (xs ++ ys) t).1 q h)
  where
    go : (s : Search) → answered p s (least (xs ++ (r ∷ ys))) ≡ Err x → (least (xs ++ (r ∷ ys)) ≡ Err x → (least xs ≡ Ok tt) × FirstBroken r x)
        → (answered p s (least xs) ≡ Ok tt) × FirstBroken r x
    go clean e f = let (a, b) = f (unfold answered in e) in ((unfold answered in a), b)
    go (wrong i) e f =
        let y : x ≡ refusal p.number p.file (p.place i) = refused_number p i x (unfold answered in e) in
        absurd ((one_lacks r.number p (xs ++ ys) t).0 (sym (ap (λ (x : Refusal). x.number) y) ∙ q))

-- and the other way: where the rungs before it pass, the first thing out of order is refused
pub at_refused : (xs : List Rung) (r : Rung) (ys : List Rung) (x : Refusal) → least xs ≡ Ok tt → FirstBroken r x → least (xs ++ (r ∷ ys)) ≡ Err x
unfolding least
at_refused xs r ys x e b = after_pass xs (r ∷ ys) e ∙ go (first r.ok 0 r.count) (found r.ok 0 r.count (omega arith))
  where
    upward : (i : ℕ) → r.ok i ≡ false → ((k : ℕ) → k < i → r.ok k ≡ true) → (i ≡ b.thing) ⊎ (i < b.thing) → i ≡ b.thing
    upward i q f (inl e) = e
    upward i q f (inr l) = clash (b.right_before i l) q

    same : (i : ℕ) → r.ok i ≡ false → ((k : ℕ) → k < i → r.ok k ≡ true) → Dec (i ≤ b.thing) → i ≡ b.thing
    same i q f (yes l) = upward i q f (eq-or-lt_of_le l)
    same i q f (no l) = clash (f b.thing (omega arith)) b.broken

    refused : (i : ℕ) → i ≡ b.thing → answered r (wrong i) (least ys) ≡ Err x
    refused i e = unfold answered in rw (e, b.named)

    go : (s : Search) → Found r.ok 0 r.count s → answered r s (least ys) ≡ Err x
    go clean (all_are_right f) = clash (f b.thing (omega arith) b.among) b.broken
    go (wrong i) (first_bad l h q f) =
        refused i (same i q (λ k u. f k (omega arith) u) (dec_le i b.thing))
