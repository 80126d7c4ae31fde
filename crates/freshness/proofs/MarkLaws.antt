-- Marks put, and passed down to parts: what occurs in marked values stays the same. Assumes nothing.
use mathlib.Core.Path.{◌≡◌, refl, sym, ap, ◌∙◌}
use mathlib.Core.Bool.{Bool, true, false, ◌&&◌, ◌||◌}
use mathlib.Core.List.{List}
use Prim.Native.Nat.{ℕ, zero, suc, ◌+◌, ◌*◌, ◌<◌, ◌≤◌}
use native.Mathlib.Omega.{arith}
use lib.Dec.{ltb, eqb}
use lib.ListN.{length, get_or, set, length-set}
use borrow.Author.Tests.{lt-ltb, le-ltb, eqb-true, eqb-false, ne_eqb, ltb-true, ltb-false}
use Rattle.base.specs.Pick.{both, either}
use Rattle.base.specs.Search.{some}
use lib.Seq.{get_or-set_same, get_or-set_other}
use Rattle.base.specs.Bytes.{byte, word}
use Rattle.codes.specs.Rows.{field_bytes, width}
use Rattle.entries.specs.Fields.{number, place_of, code, field}
use Rattle.calculus.specs.Signature.{Two, pairing, seal}
use Rattle.calculus.specs.Terms.{Atom, atom, build2}
use Rattle.calculus.specs.Tables.{Entry, leaf_entry, kind_entry, entry_at}
use Rattle.calculus.specs.Version1.{Seal1, encryption, signature1}
use Rattle.running.specs.Values.{parts_of, entry_shape, any_of, occurs_at}
use Rattle.running.proofs.Occurrence.{occurs_at_lem}
use Rattle.decoded.specs.Values.{value_of}
use Rattle.decoded.proofs.ValueLaws.{no_atom}
use Rattle.value_table.specs.Values.{table_at}
use Rattle.value_table.proofs.Reading.{table_length, entry_in}
use Rattle.freshness.specs.Marks.{marked, in_marked, OneMarked, PartsMarked, DownMarked}

abbrev pub Entries : Type 0
Entries = List (Entry signature1 Atom)

-- ── Tests joined ──

pub either_none : (a : Bool) → either a false ≡ a
either_none true = refl
either_none false = refl

either_all : (a : Bool) → either a true ≡ true
either_all true = refl
either_all false = refl

-- a mark that is put at the place in hand, and one that is put elsewhere
put_here : (P m f q : Bool) → either (both (either (both P true) m) f) (either q (both (both false P) f)) ≡ either (either (both m f) q) (both (both true P) f)
put_here true m true q = sym (either_all (either (both m true) q))
put_here true true false q = refl
put_here true false false q = refl
put_here false true true q = refl
put_here false true false q = refl
put_here false false f q = refl

put_elsewhere : (P m f q x : Bool) → either (both (either (both P false) m) f) (either q x) ≡ either (either (both m f) q) x
put_elsewhere true true true q x = refl
put_elsewhere true true false q x = refl
put_elsewhere true false f q x = refl
put_elsewhere false true true q x = refl
put_elsewhere false true false q x = refl
put_elsewhere false false f q x = refl

-- ── One mark ──

pub mark_there : (z : List Bool) (n w : ℕ) → w < n → OneMarked n w z (set z w true)
unfolding marked
mark_there z n w h = record { size = length-set z w true; at = λ i l. rw (lt-ltb w n h) (go i l (eqb w i) refl) }
  where
    go : (i : ℕ) → i < length z → (t : Bool) → eqb w i ≡ t → get_or (set z w true) i false ≡ either t (get_or z i false)
    go i l true q = let p : w ≡ i = eqb-true w i q in rw p (get_or-set_same z i true false l)
    go i l false q = get_or-set_other z w i true false (λ p. eqb-false w i q (sym p))

pub mark_above : (z : List Bool) (n w : ℕ) → n ≤ w → OneMarked n w z z
mark_above z n w h = record { size = refl; at = λ i l. rw (le-ltb w n h) }

module _ (es : Entries) (v n w : ℕ) (z o : List Bool) (p : OneMarked n w z o) (s : length z ≡ 1536) (l : n ≤ 1536) where
  -- does v occur in value i?
  abbrev occ : ℕ → Bool
  occ i = occurs_at signature1 es v i

  grow : (k : ℕ) → k ≤ n → some (λ i. both (marked o i) (occ i)) k ≡ either (some (λ i. both (marked z i) (occ i)) k) (both (both (ltb w k) (ltb w n)) (occ w))
  unfolding some
  grow zero h = rw (le-ltb w 0 (omega arith))
  grow (suc k) h = rw (p.at k (omega arith), grow k (omega arith)) (go (eqb w k) refl)
    where
      go : (b : Bool) → eqb w k ≡ b
          → either (both (either (both (ltb w n) b) (marked z k)) (occ k)) (either (some (λ i. both (marked z i) (occ i)) k) (both (both (ltb w k) (ltb w n)) (occ w)))
          ≡ either (either (both (marked z k) (occ k)) (some (λ i. both (marked z i) (occ i)) k)) (both (both (ltb w (suc k)) (ltb w n)) (occ w))
      go true e =
          let q : w ≡ k = eqb-true w k e in
          let a : ltb w k ≡ false = le-ltb w k (omega arith) in
          let b : ltb w (suc k) ≡ true = lt-ltb w (suc k) (omega arith) in
          let c : occ w ≡ occ k = ap occ q in
          rw (a, b, c) (put_here (ltb w n) (marked z k) (occ k) (some (λ i. both (marked z i) (occ i)) k))
      go false e = rw (same (ltb w k) refl) (put_elsewhere (ltb w n) (marked z k) (occ k) (some (λ i. both (marked z i) (occ i)) k) (both (both (ltb w k) (ltb w n)) (occ w)))
        where
          same : (b : Bool) → ltb w k ≡ b → ltb w (suc k) ≡ b
          same true a = lt-ltb w (suc k) (omega (arith, ltb-true w k a))
          same false a = le-ltb w (suc k) (let d = eqb-false w k e in omega (arith, ltb-false w k a))

  -- one value more is marked: what occurs in it counts too
  pub in_marked_more : in_marked es v o n ≡ either (in_marked es v z n) (both (ltb w n) (occ w))
  unfolding in_marked
  in_marked_more = grow n (omega arith) ∙ ap (λ (b : Bool). either (some (λ i. both (marked z i) (occ i)) n) (both b (occ w))) (twice (ltb w n))
    where
      twice : (b : Bool) → both b b ≡ b
      twice true = refl
      twice false = refl

-- one value more is looked at
pub in_marked_next : (es : Entries) (v : ℕ) (z : List Bool) (n : ℕ) → in_marked es v z (suc n) ≡ either (both (marked z n) (occurs_at signature1 es v n)) (in_marked es v z n)
unfolding in_marked some
in_marked_next es v z n = refl

-- ── The parts of a value ──

module _ (w : List ℕ) (u n v : ℕ) (h : u < n) (k : v < u) where
  -- the values
  abbrev table : Entries
  table = table_at w n

  in_table : u < length table
  in_table = rw (table_length w n) h

  -- nothing else occurs in an atom
  none_in_atom : (a : Atom) → entry_at signature1 no_atom table u ≡ leaf_entry a → occurs_at signature1 table v u ≡ false
  unfolding parts_of entry_shape any_of
  none_in_atom a e = rw (occurs_at_lem signature1 v table u in_table, e, ne_eqb v u (λ (q : v ≡ u). omega arith))

  -- in a value of two parts there occurs what occurs in them
  in_two_parts : (c : Two Seal1) (a b : ℕ) → entry_at signature1 no_atom table u ≡ kind_entry (build2 c a b)
      → occurs_at signature1 table v u ≡ either (both (ltb a u) (occurs_at signature1 table v a)) (both (ltb b u) (occurs_at signature1 table v b))
  unfolding parts_of entry_shape any_of
  in_two_parts c a b e =
      rw (occurs_at_lem signature1 v table u in_table, e, ne_eqb v u (λ (q : v ≡ u). omega arith))
      (joined (ltb a u) (occurs_at signature1 table v a) (ltb b u) (occurs_at signature1 table v b))
    where
      joined : (p x q y : Bool) → ((p && x) || ((q && y) || false)) ≡ either (both p x) (both q y)
      joined true true q y = refl
      joined true false true true = refl
      joined true false true false = refl
      joined true false false y = refl
      joined false x true true = refl
      joined false x true false = refl
      joined false x false y = refl

  -- a value by its tag
  by_atom : (t a b : ℕ) → ¬ (0 < t × t < 3) → entry_at signature1 no_atom table u ≡ value_of t a b → occurs_at signature1 table v u ≡ false
  unfolding value_of
  by_atom zero a b l e = none_in_atom (atom a b) e
  by_atom (suc zero) a b l e = absurd (l (omega arith, omega arith))
  by_atom (suc (suc zero)) a b l e = absurd (l (omega arith, omega arith))
  by_atom (suc (suc (suc t))) a b l e = none_in_atom no_atom e

  by_parts : (t a b : ℕ) → 0 < t → t < 3 → entry_at signature1 no_atom table u ≡ value_of t a b
      → occurs_at signature1 table v u ≡ either (both (ltb a u) (occurs_at signature1 table v a)) (both (ltb b u) (occurs_at signature1 table v b))
  unfolding value_of
  by_parts zero a b l m e = absurd (omega arith)
  by_parts (suc zero) a b l m e = in_two_parts pairing a b e
  by_parts (suc (suc zero)) a b l m e = in_two_parts (seal encryption) a b e
  by_parts (suc (suc (suc t))) a b l m e = absurd (omega arith)

-- where value u stands
module _ (w : List ℕ) (u : ℕ) where
  tag_there : code w 3 0 u ≡ byte w (5 * u)
  unfolding code place_of width byte
  tag_there = let e : 0 + u * 5 ≡ 5 * u = omega arith in rw e

  part_there : (j : ℕ) → field w 3 0 u j ≡ word w (5 * u + 1 + 2 * j)
  unfolding field number place_of width field_bytes byte
  part_there j = let e : 0 + u * 5 + 1 + j * 2 ≡ 5 * u + 1 + 2 * j = omega arith in rw e

module _ (w : List ℕ) (z : List Bool) (u : ℕ) where
  pub parts_unmarked : marked z u ≡ false → PartsMarked w u z z
  parts_unmarked q = record { size = refl; parts = λ n v h l s k. rw (in_marked_next (table_at w n) v z u, q) }

  pub parts_none : (t : ℕ) → t ≡ byte w (5 * u) → ¬ (0 < t × t < 3) → PartsMarked w u z z
  parts_none t e m = record {
    size = refl;
    parts = λ n v h l s k.
        let q : occurs_at signature1 (table_at w n) v u ≡ false = by_atom w u n v h k (code w 3 0 u) _ _ (rw (e ∙ sym (tag_there w u)) at m) (entry_in w n u h) in
        rw (in_marked_next (table_at w n) v z u, q) (quiet (marked z u) (in_marked (table_at w n) v z u));
  }
    where
      quiet : (a b : Bool) → b ≡ either (both a false) b
      quiet true b = refl
      quiet false b = refl

  pub parts_both : marked z u ≡ true → (t : ℕ) → t ≡ byte w (5 * u) → 0 < t → t < 3
      → (a : ℕ) → a ≡ word w (5 * u + 1 + 2 * 0) → (m : List Bool) → OneMarked u a z m
      → (b : ℕ) → b ≡ word w (5 * u + 1 + 2 * 1) → (o : List Bool) → OneMarked u b m o → PartsMarked w u z o
  parts_both x t te tl tm a ae m p b be o q = record {
    size = q.size ∙ p.size;
    parts = λ n v h l s k.
        let es : Entries = table_at w n in
        let g : occurs_at signature1 es v u ≡ either (both (ltb a u) (occurs_at signature1 es v a)) (both (ltb b u) (occurs_at signature1 es v b)) =
        by_parts w u n v h k t a b tl tm (rw (te ∙ sym (tag_there w u), ae ∙ sym (part_there w u 0), be ∙ sym (part_there w u 1)) (entry_in w n u h)) in
        let c = in_marked_more es v u a z m p s (omega arith) in
        let d = in_marked_more es v u b m o q (p.size ∙ s) (omega arith) in
        rw (in_marked_next es v z u, x, g, d, c) (turn (in_marked es v z u) (both (ltb a u) (occurs_at signature1 es v a)) (both (ltb b u) (occurs_at signature1 es v b)));
  }
    where
      turn : (s x y : Bool) → either (either s x) y ≡ either (either x y) s
      turn s true y = ap (λ (t : Bool). either t y) (either_all s)
      turn s false true = rw (either_none s) (either_all s)
      turn s false false = rw (either_none s) (either_none s)

-- ── From the last value down ──

-- values from j on have passed their marks down
pub record DownTo (w : List ℕ) (n v : ℕ) (z : List Bool) (j : ℕ) (o : List Bool) : Type 0 where
  pub size : length o ≡ length z
  pub down : n ≤ 1536 → length z ≡ 1536 → in_marked (table_at w n) v o j ≡ in_marked (table_at w n) v z n

pub down_start : (w : List ℕ) (z : List Bool) (n v : ℕ) → DownTo w n v z n z
down_start w z n v = record { size = refl; down = λ l s. refl }

pub down_more : (w : List ℕ) (z m o : List Bool) (n v j u : ℕ) → j ≡ suc u → j ≤ n → v < u → DownTo w n v z j m → PartsMarked w u m o → DownTo w n v z u o
down_more w z m o n v j u e h k p q = record {
  size = q.size ∙ p.size;
  down = λ l s. q.parts n v (omega arith) l (p.size ∙ s) k ∙ ap (in_marked (table_at w n) v m) (sym e) ∙ p.down l s;
}

pub down_end : (w : List ℕ) (z o : List Bool) (n v j : ℕ) → j ≤ v + 1 → v < j → DownTo w n v z j o → DownMarked w n v z o
down_end w z o n v j h k p = record {
  size = p.size;
  down = λ l s i. let e : suc v ≡ j = omega arith in rw e (p.down l s);
}
