-- Laws of tests that the proofs of the meaning layer share. Assumes nothing.
use mathlib.Core.Path.{◌≡◌, refl, sym, ◌∙◌}
use mathlib.Core.Bool.{Bool, true, false, decide, ◌&&◌, false≢true}

pub decided : {A : Type 0} (d : Dec A) → decide d ≡ true → A
unfolding decide
decided (yes a) h = a
decided (no n) h = absurd (false≢true h)

pub decides : {A : Type 0} (d : Dec A) → A → decide d ≡ true
unfolding decide
decides (yes a) h = refl
decides (no n) h = absurd (n h)

pub denies : {A : Type 0} (d : Dec A) → (A → ⊥) → decide d ≡ false
unfolding decide
denies (yes a) h = absurd (h a)
denies (no n) h = refl

pub and_left : (a b : Bool) → a && b ≡ true → a ≡ true
and_left true b h = refl
and_left false b h = h

pub and_right : (a b : Bool) → a && b ≡ true → b ≡ true
and_right true b h = h
and_right false b h = absurd (false≢true h)

pub and_both : {a b : Bool} → a ≡ true → b ≡ true → a && b ≡ true
and_both h k = rw (h, k)

pub not_both : (t : Bool) → t ≡ false → t ≡ true → ⊥
not_both t f h = false≢true (sym f ∙ h)
