-- Registers in an array: one more, and what one holds. Assumes nothing.
use mathlib.Core.Path.{◌≡◌, refl, sym, ap, ◌∙◌}
use mathlib.Core.Bool.{Bool, true, false, cond}
use mathlib.Core.List.{List, [], ◌∷◌, ◌++◌}
use Prim.Native.Nat.{ℕ, ◌+◌, ◌*◌, ◌/◌, ◌%◌, ◌<◌, ◌≤◌}
use native.Mathlib.Numerals.{add-one}
use native.Mathlib.Omega.{arith}
use lib.Dec.{ltb, eqb}
use lib.ListN.{length, take, get_or, set, length-set, length-take, length-append, get_or-eq_default, get_or-map, length-map}
use lib.Seq.{take-suc-set, get_or-take, get_or-set_same, get_or-set_other}
use borrow.Author.Tests.{ltb-true, ltb-false, eqb-true, eqb-false}
use Rattle.base.specs.Pick.{pick}
use Rattle.calculus.proofs.Lists.{map_append}
use Rattle.running.specs.Lists.{Register, symbol_register, term_register, holds}
use Rattle.run_parts.specs.Registers.{register_number, Given, value_in, Gives}

-- ── One more ──

set_small : (g : List ℕ) (n v p : ℕ) → v < 131072 → ((q : ℕ) → get_or g q 0 < 131072) → get_or (set g n v) p 0 < 131072
set_small g n v p h f = go (eqb p n) refl (ltb n (length g)) refl
  where
    go : (b : Bool) → eqb p n ≡ b → (d : Bool) → ltb n (length g) ≡ d → get_or (set g n v) p 0 < 131072
    go true e true l = let q : p ≡ n = eqb-true p n e in rw (q, get_or-set_same g n v 0 (ltb-true _ _ l)) h
    go true e false l =
        let q : p ≡ n = eqb-true p n e in
        let m : length (set g n v) ≤ p = rw length-set (omega (arith, ltb-false n (length g) l)) in
        rw (get_or-eq_default (set g n v) 0 m) (omega arith)
    go false e d l = rw (get_or-set_other g n p v 0 (eqb-false p n e)) (f p)

pub gives_more : (g : List ℕ) (n v : ℕ) → n < 608 → Gives g n v (set g n v) (n + 1)
gives_more g n v h = record {
  gives = λ rs x e s p l. let q : n < length g = omega (arith, p.size) in record {
    size = length-set g n v ∙ p.size;
    count = rw length-append (omega (arith, p.count));
    small = λ i. set_small g n v i s p.small;
    numbers = rw (add-one, take-suc-set g n v q, p.numbers, map_append register_number rs (x ∷ []), e);
  };
}

pub gives_full : (g : List ℕ) (n v : ℕ) (o : List ℕ) (r : ℕ) → 608 ≤ n → Gives g n v o r
gives_full g n v o r h = record { gives = λ rs x e s p l. absurd (omega arith) }

-- a register for a symbol is given
pub given_symbol : {g g' : List ℕ} {n r : ℕ} {rs : List (Register ℕ)} (v : ℕ) → v < 65536 → Gives g n (2 * v + 1) g' r → Given rs g n → n < 608 → Given (rs ++ (symbol_register v ∷ [])) g' r
unfolding register_number
given_symbol {rs = rs} v h d k l = d.gives rs (symbol_register v) refl (omega arith) k l

-- ── What a register holds ──

-- half of its number is its value
pub half_number : (r : Register ℕ) → register_number r < 131072 → register_number r / 2 % 65536 ≡ r.value
unfolding register_number
half_number r h = go r.for_symbol h
  where
    go : (b : Bool) → 2 * r.value + cond b 1 0 < 131072 → (2 * r.value + cond b 1 0) / 2 % 65536 ≡ r.value
    go true h = omega arith
    go false h = omega arith

module _ {rs : List (Register ℕ)} {g : List ℕ} {n : ℕ} (k : Given rs g n) where
  -- there are no more than the array has places
  pub given_few : n ≤ 608
  given_few =
      let e : length (take n g) ≡ length rs = ap length k.numbers ∙ length-map rs register_number in
      omega (arith, e, k.count, k.size, length-take n g)

  -- register p as a number
  pub number_at : (p : ℕ) → p < n → get_or g p 0 ≡ register_number (get_or rs p (term_register 0))
  unfolding register_number
  number_at p h =
      sym (get_or-take n g p 0 h) ∙ ap (λ (l : List ℕ). get_or l p 0) k.numbers ∙ get_or-map register_number rs p (term_register 0)

  pub value_right : (p : ℕ) → value_in g n p ≡ holds 0 rs p
  unfolding value_in
  value_right p = go (ltb p n) refl
    where
      go : (b : Bool) → ltb p n ≡ b → pick b (get_or g p 0 / 2 % 65536) 0 ≡ holds 0 rs p
      go true e =
          let q = number_at p (ltb-true _ _ e) in
          let s : register_number (get_or rs p (term_register 0)) < 131072 = rw q at (k.small p) in
          rw q (half_number (get_or rs p (term_register 0)) s)
      go false e =
          let m : length rs ≤ p = omega (arith, k.count, ltb-false p n e) in
          sym (ap (λ (r : Register ℕ). r.value) (get_or-eq_default rs (term_register 0) m))
