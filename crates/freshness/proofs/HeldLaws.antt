-- The registers' values marked, and what a mark on the supplied value then says. Assumes nothing.
use mathlib.Core.Path.{◌≡◌, refl, sym, ap, ◌∙◌}
use mathlib.Core.Bool.{Bool, true, false, cond, not}
use mathlib.Core.Logic.{◌⊎◌, inl, inr}
use mathlib.Core.List.{List, [], ◌∷◌}
use Prim.Native.Nat.{ℕ, zero, suc, ◌+◌, ◌*◌, ◌/◌, ◌%◌, ◌<◌, ◌≤◌}
use native.Mathlib.Decide.{dec_lt}
use native.Mathlib.Numerals.{add-one}
use native.Mathlib.Omega.{arith}
use lib.Dec.{ltb}
use lib.ListN.{length, drop, get_or, replicate, length-append, length-replicate, get_or-replicate}
use lib.Seq.{drop-cons, drop-length}
use borrow.Author.Tests.{ltb-false}
use Rattle.base.specs.Pick.{both, either}
use Rattle.base.specs.Search.{some}
use Rattle.calculus.specs.Version1.{signature1}
use Rattle.running.specs.Values.{occurs_at, is_fresh, index}
use Rattle.running.specs.Lists.{Register, term_register, held}
use Rattle.running.proofs.Occurrence.{occurs_past, occurs_here, occurs_not_under}
use Rattle.value_table.specs.Values.{value_bytes}
use Rattle.value_table.specs.Kept.{Kept}
use Rattle.value_table.proofs.Keeping.{values_length, kept_table}
use Rattle.buffers.specs.Over.{over}
use Rattle.entries.specs.Tiling.{joined}
use Rattle.run_parts.specs.Registers.{register_number, Given}
use Rattle.run_parts.proofs.RegisterLaws.{given_few, number_at, half_number}
use Rattle.freshness.specs.Marks.{marked, in_marked, OneMarked, DownMarked, RegisterMarked, HeldMarked}
use Rattle.freshness.specs.Fresh.{FreshBy}
use Rattle.freshness.proofs.MarkLaws.{Entries, either_none, in_marked_more, in_marked_next}

-- what occurs in a value of the table, which lies below its end
within : (es : Entries) (v n w : ℕ) → length es ≡ n → both (ltb w n) (occurs_at signature1 es v w) ≡ occurs_at signature1 es v w
within es v n w e = go (ltb w n) refl
  where
    go : (b : Bool) → ltb w n ≡ b → both b (occurs_at signature1 es v w) ≡ occurs_at signature1 es v w
    go true h = refl
    go false h = sym (occurs_past signature1 v es w (omega (arith, e, ltb-false w n h)))

-- ── One register ──

module _ (d n : ℕ) (z : List Bool) where
  -- the number is odd where the register means a symbol
  odd_symbol : (r : Register ℕ) → register_number r % 2 ≡ 1 → r.for_symbol ≡ true
  unfolding register_number
  odd_symbol r h = go r.for_symbol h
    where
      go : (b : Bool) → (2 * r.value + cond b 1 0) % 2 ≡ 1 → b ≡ true
      go true h = refl
      go false h = absurd (omega arith)

  even_term : (r : Register ℕ) → ¬ (register_number r % 2 ≡ 1) → r.for_symbol ≡ false
  unfolding register_number
  even_term r h = go r.for_symbol h
    where
      go : (b : Bool) → ¬ ((2 * r.value + cond b 1 0) % 2 ≡ 1) → b ≡ false
      go true h = absurd (h (omega arith))
      go false h = refl

  pub register_symbol : d % 2 ≡ 1 → (o : List Bool) → OneMarked n (d / 2 % 65536) z o → RegisterMarked d n z o
  register_symbol h o p = record {
    size = p.size;
    holds = λ r es v f l s m t.
        let a : r.for_symbol ≡ true = odd_symbol r (rw f at h) in
        let b : d / 2 % 65536 ≡ r.value = ap (λ (c : ℕ). c / 2 % 65536) f ∙ half_number r l in
        rw (a, ← b) (in_marked_more es v n (d / 2 % 65536) z o p t m ∙ ap (either (in_marked es v z n)) (within es v n (d / 2 % 65536) s));
  }

  pub register_term : ¬ (d % 2 ≡ 1) → RegisterMarked d n z z
  register_term h = record {
    size = refl;
    holds = λ r es v f l s m t.
        let a : r.for_symbol ≡ false = even_term r (rw f at h) in
        rw (a, either_none (in_marked es v z n));
  }

-- ── All registers ──

-- registers below i have marked their values
pub record HeldTo (g : List ℕ) (m n i : ℕ) (z o : List Bool) : Type 0 where
  pub size : length o ≡ length z
  pub holds : (rs : List (Register ℕ)) (es : Entries) (v : ℕ) → Given rs g m → length es ≡ n → n ≤ 1536 → length z ≡ 1536
      → either (in_marked es v o n) (not (is_fresh signature1 (index signature1 es) (held (drop i rs)) v)) ≡ either (in_marked es v z n) (not (is_fresh signature1 (index signature1 es) (held rs) v))

pub held_start : (g : List ℕ) (m n : ℕ) (z : List Bool) → HeldTo g m n 0 z z
held_start g m n z = record { size = refl; holds = λ rs es v k e l s. refl }

-- the first of the registers left
held_first : (es : Entries) (v : ℕ) (r : Register ℕ) (rs : List (Register ℕ)) (q : Bool)
    → either (either q (both r.for_symbol (occurs_at signature1 es v r.value))) (not (is_fresh signature1 (index signature1 es) (held rs) v)) ≡ either q (not (is_fresh signature1 (index signature1 es) (held (r ∷ rs)) v))
unfolding held is_fresh
held_first es v r rs q = go r.for_symbol (occurs_at signature1 es v r.value) refl
  where
    go : (b x : Bool) → occurs_at signature1 es v r.value ≡ x
        → either (either q (both b x)) (not (is_fresh signature1 (index signature1 es) (held rs) v)) ≡ either q (not (is_fresh signature1 (index signature1 es) (cond b (r.value ∷ held rs) (held rs)) v))
    go true true e = rw e (by q)
      where
        by : (q : Bool) → either (either q true) (not (is_fresh signature1 (index signature1 es) (held rs) v)) ≡ either q true
        by true = refl
        by false = refl
    go true false e = rw (e, either_none q)
    go false x e = rw (either_none q)

pub held_more : (g : List ℕ) (m n i : ℕ) (z a o : List Bool) → i < m → HeldTo g m n i z a → RegisterMarked (get_or g i 0) n a o → HeldTo g m n (i + 1) z o
held_more g m n i z a o h p q = record {
  size = q.size ∙ p.size;
  holds = λ rs es v k e l s.
      let c : i < length rs = omega (arith, k.count) in
      let d : drop i rs ≡ get_or rs i (term_register 0) ∷ drop (suc i) rs = drop-cons rs i (term_register 0) c in
      let f = number_at k i h in
      let b = q.holds (get_or rs i (term_register 0)) es v f (rw f at (k.small i)) e l (p.size ∙ s) in
      rw (add-one, b) (held_first es v (get_or rs i (term_register 0)) (drop (suc i) rs) (in_marked es v a n)
      ∙ ap (λ (t : List (Register ℕ)). either (in_marked es v a n) (not (is_fresh signature1 (index signature1 es) (held t) v))) (sym d) ∙ p.holds rs es v k e l s);
}

pub held_end : (g : List ℕ) (m n i : ℕ) (z o : List Bool) → i ≤ m → m ≤ i → HeldTo g m n i z o → HeldMarked g m n z o
unfolding held is_fresh
held_end g m n i z o j h p = record {
  size = p.size;
  holds = λ rs es v k e l s.
      let c : i ≡ length rs = omega (arith, k.count) in
      let d : drop i rs ≡ [] = ap (λ (t : ℕ). drop t rs) c ∙ drop-length rs in
      sym (either_none (in_marked es v o n))
      ∙ ap (λ (t : List (Register ℕ)). either (in_marked es v o n) (not (is_fresh signature1 (index signature1 es) (held t) v))) (sym d) ∙ p.holds rs es v k e l s;
}

-- ── The answer ──

-- an array without marks
unfoldable pub no_marks : List Bool
no_marks = replicate 1536 false

no_marks_length : length no_marks ≡ 1536
unfolding no_marks
no_marks_length = length-replicate {A = Bool} 1536 false

in_no_marks : (es : Entries) (v n : ℕ) → n ≤ 1536 → in_marked es v no_marks n ≡ false
unfolding in_marked some marked no_marks
in_no_marks es v zero h = refl
in_no_marks es v (suc n) h = rw (get_or-replicate {A = Bool} 1536 n false false (omega arith)) (in_no_marks es v n (omega arith))

-- no lower value has v inside
none_under : (es : Entries) (v : ℕ) (z : List Bool) (n : ℕ) → n ≤ v → in_marked es v z n ≡ false
unfolding in_marked some
none_under es v z zero h = refl
none_under es v z (suc n) h = rw (occurs_not_under signature1 v es n (omega arith), none_under es v z n (omega arith)) (by (marked z n))
  where
    by : (b : Bool) → either (both b false) false ≡ false
    by true = refl
    by false = refl

-- what is not in the table occurs in no value of it
none_past : (es : Entries) (v w : ℕ) → length es ≤ v → occurs_at signature1 es v w ≡ false
none_past es v w h = go (dec_lt w v)
  where
    go : Dec (w < v) → occurs_at signature1 es v w ≡ false
    go (yes l) = occurs_not_under signature1 v es w l
    go (no l) = occurs_past signature1 v es w (omega arith)

past_fresh : (es : Entries) (v : ℕ) → length es ≤ v → (hs : List ℕ) → is_fresh signature1 (index signature1 es) hs v ≡ true
unfolding is_fresh
past_fresh es v h [] = refl
past_fresh es v h (w ∷ hs) = rw (none_past es v w h) (past_fresh es v h hs)

-- the buffer has the bytes of what is kept
kept_long : {z w : List ℕ} {es : Entries} {n : ℕ} → Kept z es w n → 5 * length es ≤ length w
unfolding over
kept_long {z} {w} {es} k = rw (k.bytes, length-append (joined value_bytes es) (drop (length (joined value_bytes es)) z), values_length es) (omega arith)

module _ (w : List ℕ) (n : ℕ) (g : List ℕ) (m v : ℕ) where
  pub fresh_past : n ≤ v → FreshBy w n g m v true
  fresh_past h = record { answer = λ z es rs k r l. sym (past_fresh es v (omega (arith, k.count)) (held rs)) }

  -- no run has so many values or registers, or so short a table
  pub fresh_not : (1536 < n) ⊎ (608 < m) ⊎ (length w < 5 * n) → (r : Bool) → FreshBy w n g m v r
  fresh_not h r = record { answer = λ z es rs k j l. absurd (go z es rs k j l h) }
    where
      go : (z : List ℕ) (es : Entries) (rs : List (Register ℕ)) → Kept z es w n → Given rs g m → length es ≤ 1536 → (1536 < n) ⊎ (608 < m) ⊎ (length w < 5 * n) → ⊥
      go z es rs k j l (inl h) = omega (arith, k.count)
      go z es rs k j l (inr (inl h)) = omega (arith, given_few j)
      go z es rs k j l (inr (inr h)) = omega (arith, k.count, kept_long k)

  pub fresh_by : v < n → (y a o : List Bool) → y ≡ no_marks → HeldMarked g m n y a → DownMarked w n v a o → FreshBy w n g m v (not (get_or o v false))
  unfolding marked
  fresh_by h y a o u p' q = record {
    answer = λ z es rs k r l.
        let p : HeldMarked g m n no_marks a = rw u at p' in
        let c : length es ≡ n = sym k.count in
        let j : n ≤ 1536 = omega arith in
        let t = kept_table k in
        let x : in_marked es v a n ≡ not (is_fresh signature1 (index signature1 es) (held rs) v) =
        p.holds rs es v r c j no_marks_length ∙ ap (λ (y : Bool). either y (not (is_fresh signature1 (index signature1 es) (held rs) v))) (in_no_marks es v n j) in
        let d : in_marked es v o (suc v) ≡ in_marked es v a n = rw t at (q.down j (p.size ∙ no_marks_length) h) in
        let f : in_marked es v o (suc v) ≡ marked o v = rw (in_marked_next es v o v, occurs_here signature1 v es (omega arith), none_under es v o v (omega arith)) (by (marked o v)) in
        ap not (sym f ∙ d ∙ x) ∙ twice (is_fresh signature1 (index signature1 es) (held rs) v);
  }
    where
      by : (y : Bool) → either (both y true) false ≡ y
      by true = refl
      by false = refl

      twice : (y : Bool) → not (not y) ≡ y
      twice true = refl
      twice false = refl
