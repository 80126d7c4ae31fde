-- Laws of filed entries: a way that ends at a free slot has no equal entry before it, and one that ends at an entry has. Assumes nothing.
use mathlib.Core.Path.{◌≡◌, refl, sym, ◌∙◌}
use mathlib.Core.Bool.{Bool, true, false, not}
use mathlib.Core.Logic.{◌⊎◌, inl, inr}
use mathlib.Core.List.{List}
use Prim.Native.Nat.{ℕ, zero, suc, ◌+◌, ◌*◌, ◌-◌, ◌/◌, ◌%◌, ◌<◌, ◌≤◌}
use native.Mathlib.Nat.{eq-or-lt_of_le}
use native.Mathlib.Omega.{arith}
use lib.Dec.{leb, eqb}
use lib.ListN.{length, set, replicate, length-set}
use lib.Seq.{get_or-set_same, get_or-set_other}
use borrow.Author.Tests.{le-leb, lt-leb, leb-true, leb-false, eq-eqb, ne_eqb, eqb-true, eqb-false}
use Rattle.base.specs.Pick.{pick}
use Rattle.base.proofs.Searched.{each_all_right}
use Rattle.entries.specs.Fields.{code, field, same_entry}
use Rattle.entries.specs.Faults.{alone}
use Rattle.filing.specs.declared.Way.{Way}
use Rattle.filing.specs.declared.Way.TheVariants.{Free, Twin, Lost}
use Rattle.entries.specs.Words.{Bytes}
use Rattle.filing.specs.Filing.{key_of, held, way_from, root, way_of, AllFree, Filed}
use Rattle.entries.proofs.Words.{field_small}
use Rattle.entries.proofs.Unlike.{parts_same, same_parts_lem, alone_apart}

-- one turn of a way, by what the slot holds
module _ (keys : ℕ → ℕ) (slots : List ℕ) (own : ℕ) where
  pub way_end : (key slot : ℕ) → way_from keys slots own 0 key slot ≡ Lost
  unfolding way_from
  way_end key slot = refl

  pub way_out : (left key slot : ℕ) → 0 < left → length slots ≤ slot → way_from keys slots own left key slot ≡ Lost
  unfolding way_from
  way_out zero key slot g h = refl
  way_out (suc left) key slot g h = rw (le-leb _ _ h)

  pub way_free : (left key slot : ℕ) → 0 < left → slot < length slots → held slots slot ≡ 0 → way_from keys slots own left key slot ≡ Free slot
  unfolding way_from
  way_free zero key slot g h z = absurd (omega arith)
  way_free (suc left) key slot g h z = rw (lt-leb _ _ h, eq-eqb _ _ z)

  pub way_twin : (left key slot : ℕ) → 0 < left → slot < length slots → (held slots slot ≡ 0 → ⊥) → keys (held slots slot - 1) ≡ own
      → way_from keys slots own left key slot ≡ Twin
  unfolding way_from
  way_twin zero key slot g h n e = absurd (omega arith)
  way_twin (suc left) key slot g h n e = rw (lt-leb _ _ h, ne_eqb _ _ n, eq-eqb _ _ e)

  pub way_on : (left key slot : ℕ) → 0 < left → slot < length slots → (held slots slot ≡ 0 → ⊥) → (keys (held slots slot - 1) ≡ own → ⊥)
      → way_from keys slots own left key slot ≡ way_from keys slots own (left - 1) (key / 2) (2 * (held slots slot - 1) + key % 2)
  unfolding way_from
  way_on zero key slot g h n e = absurd (omega arith)
  way_on (suc left) key slot g h n e = let z : suc left - 1 ≡ left = omega arith in rw (lt-leb _ _ h, ne_eqb _ _ n, ne_eqb _ _ e, z)

-- the four turns
data Turn (keys : ℕ → ℕ) (slots : List ℕ) (own left key : ℕ) : ℕ → Way → Type 0 where
  out : {slot : ℕ} → length slots ≤ slot → Turn keys slots own left key slot Lost
  free : {slot : ℕ} → slot < length slots → held slots slot ≡ 0 → Turn keys slots own left key slot (Free slot)
  twin : {slot : ℕ} → slot < length slots → (held slots slot ≡ 0 → ⊥) → keys (held slots slot - 1) ≡ own → Turn keys slots own left key slot Twin
  on : {slot : ℕ} {w : Way} → slot < length slots → (held slots slot ≡ 0 → ⊥) → (keys (held slots slot - 1) ≡ own → ⊥)
      → way_from keys slots own left (key / 2) (2 * (held slots slot - 1) + key % 2) ≡ w → Turn keys slots own left key slot w

-- each way takes one of them
turn : (keys : ℕ → ℕ) (slots : List ℕ) (own left key slot : ℕ) → Turn keys slots own left key slot (way_from keys slots own (suc left) key slot)
unfolding way_from
turn keys slots own left key slot = go (leb (length slots) slot) refl (eqb (held slots slot) 0) refl (eqb (keys (held slots slot - 1)) own) refl
  where
    go : (a : Bool) → leb (length slots) slot ≡ a → (b : Bool) → eqb (held slots slot) 0 ≡ b → (c : Bool) → eqb (keys (held slots slot - 1)) own ≡ c
        → Turn keys slots own left key slot (pick a Lost (pick b (Free slot) (pick c Twin (way_from keys slots own left (key / 2) (2 * (held slots slot - 1) + key % 2)))))
    go true p b q c r = out (leb-true _ _ p)
    go false p true q c r = free (leb-false _ _ p) (eqb-true _ _ q)
    go false p false q true r = twin (leb-false _ _ p) (eqb-false _ _ q) (eqb-true _ _ r)
    go false p false q false r = on (leb-false _ _ p) (eqb-false _ _ q) (eqb-false _ _ r) refl

-- what cannot be
never : {A : Type 0} → ◌≡◌ {A = ℕ} 0 1 → A
never z = absurd (omega arith)

-- a way ends at a free slot
pub way_at_free : (keys : ℕ → ℕ) (slots : List ℕ) (own left key slot p : ℕ) → way_from keys slots own left key slot ≡ Free p → (p < length slots) × (held slots p ≡ 0)
way_at_free keys slots own zero key slot p e = never (end e)
  where
    end : way_from keys slots own 0 key slot ≡ Free p → ◌≡◌ {A = ℕ} 0 1
    end e = let q : Lost ≡ Free p = (unfold way_from in e) in cc
way_at_free keys slots own (suc left) key slot p e = go (rw e at (turn keys slots own left key slot)) λ q. way_at_free keys slots own left (key / 2) (2 * (held slots slot - 1) + key % 2) p q
  where
    go : {p slot : ℕ} → Turn keys slots own left key slot (Free p)
        → (way_from keys slots own left (key / 2) (2 * (held slots slot - 1) + key % 2) ≡ Free p → (p < length slots) × (held slots p ≡ 0))
        → (p < length slots) × (held slots p ≡ 0)
    go (free h z) r = (h, z)
    go (on h n m q) r = r q

-- a way that ends at an entry has found an entry of its key
pub way_at_twin : (keys : ℕ → ℕ) (slots : List ℕ) (own left key slot n : ℕ) → ((q : ℕ) → held slots q ≤ n) → way_from keys slots own left key slot ≡ Twin
    → (k : ℕ) × (k < n) × (keys k ≡ own)
way_at_twin keys slots own zero key slot n b e = never (end e)
  where
    end : way_from keys slots own 0 key slot ≡ Twin → ◌≡◌ {A = ℕ} 0 1
    end e = let q : Lost ≡ Twin = (unfold way_from in e) in cc
way_at_twin keys slots own (suc left) key slot n b e = go (rw e at (turn keys slots own left key slot)) λ q. way_at_twin keys slots own left (key / 2) (2 * (held slots slot - 1) + key % 2) n b q
  where
    go : {slot : ℕ} → Turn keys slots own left key slot Twin
        → (way_from keys slots own left (key / 2) (2 * (held slots slot - 1) + key % 2) ≡ Twin → (k : ℕ) × (k < n) × (keys k ≡ own))
        → (k : ℕ) × (k < n) × (keys k ≡ own)
    go {slot} (twin h z m) r = (held slots slot - 1, under (held slots slot) (b slot) z, m)
      where
        under : (x : ℕ) → x ≤ n → (x ≡ 0 → ⊥) → x - 1 < n
        under zero u v = absurd (v refl)
        under (suc x) u v = omega arith
    go (on h z m q) r = r q

-- a slot that is in use keeps what it holds where a free one is filled
held_other : (slots : List ℕ) (p v slot : ℕ) → held slots p ≡ 0 → (held slots slot ≡ 0 → ⊥) → held (set slots p v) slot ≡ held slots slot
held_other slots p v slot z n = get_or-set_other slots p slot v 0 λ e. n (rw e z)

-- so every way to an entry stays
pub way_stays : (keys : ℕ → ℕ) (slots : List ℕ) (own left key slot p v : ℕ) → held slots p ≡ 0 → way_from keys slots own left key slot ≡ Twin
    → way_from keys (set slots p v) own left key slot ≡ Twin
way_stays keys slots own zero key slot p v z e = never (end e)
  where
    end : way_from keys slots own 0 key slot ≡ Twin → ◌≡◌ {A = ℕ} 0 1
    end e = let q : Lost ≡ Twin = (unfold way_from in e) in cc
way_stays keys slots own (suc left) key slot p v z e = go (rw e at (turn keys slots own left key slot)) λ q. way_stays keys slots own left (key / 2) (2 * (held slots slot - 1) + key % 2) p v z q
  where
    go : {slot : ℕ} → Turn keys slots own left key slot Twin
        → (way_from keys slots own left (key / 2) (2 * (held slots slot - 1) + key % 2) ≡ Twin → way_from keys (set slots p v) own left (key / 2) (2 * (held slots slot - 1) + key % 2) ≡ Twin)
        → way_from keys (set slots p v) own (suc left) key slot ≡ Twin
    go {slot} (twin h n m) r =
        let same = held_other slots p v slot z n in
        way_twin keys (set slots p v) own (suc left) key slot (omega arith) (rw length-set h) (λ u. n (sym same ∙ u)) (rw same m)
    go {slot} (on h n m q) r =
        let same = held_other slots p v slot z n in
        let one : suc left - 1 ≡ left = omega arith in
        way_on keys (set slots p v) own (suc left) key slot (omega arith) (rw length-set h) (λ u. n (sym same ∙ u)) (λ u. m (rw same at u)) ∙ rw (one, same) (r q)

-- and the way to the free slot now ends at the entry that is filed there
pub way_filed : (keys : ℕ → ℕ) (slots : List ℕ) (own left key slot p n : ℕ) → keys n ≡ own → way_from keys slots own left key slot ≡ Free p
    → way_from keys (set slots p (n + 1)) own left key slot ≡ Twin
way_filed keys slots own zero key slot p n k e = never (end e)
  where
    end : way_from keys slots own 0 key slot ≡ Free p → ◌≡◌ {A = ℕ} 0 1
    end e = let q : Lost ≡ Free p = (unfold way_from in e) in cc
way_filed keys slots own (suc left) key slot p n k e =
    go (way_at_free keys slots own (suc left) key slot p e).1 (rw e at (turn keys slots own left key slot)) λ q. way_filed keys slots own left (key / 2) (2 * (held slots slot - 1) + key % 2) p n k q
  where
    go : {p slot : ℕ} → held slots p ≡ 0 → Turn keys slots own left key slot (Free p)
        → (way_from keys slots own left (key / 2) (2 * (held slots slot - 1) + key % 2) ≡ Free p → way_from keys (set slots p (n + 1)) own left (key / 2) (2 * (held slots slot - 1) + key % 2) ≡ Twin)
        → way_from keys (set slots p (n + 1)) own (suc left) key slot ≡ Twin
    go {slot = slot} z (free h y) r =
        let now_held : held (set slots slot (n + 1)) slot ≡ n + 1 = get_or-set_same slots slot (n + 1) 0 h in
        let one : n + 1 - 1 ≡ n = omega arith in
        way_twin keys (set slots slot (n + 1)) own (suc left) key slot (omega arith) (rw length-set h) (λ u. omega arith) (rw (now_held, one) k)
    go {p = p} {slot = slot} z (on h y m q) r =
        let same = held_other slots p (n + 1) slot z y in
        let one : suc left - 1 ≡ left = omega arith in
        way_on keys (set slots p (n + 1)) own (suc left) key slot (omega arith) (rw length-set h) (λ u. y (sym same ∙ u)) (λ u. m (rw same at u)) ∙ rw (one, same) (r q)

-- equal keys are equal entries
pub key_parts : (s : List ℕ) (kind base i j : ℕ) → Bytes s → key_of s kind base i ≡ key_of s kind base j
    → (code s kind base i ≡ code s kind base j) × (field s kind base i 0 ≡ field s kind base j 0) × (field s kind base i 1 ≡ field s kind base j 1)
unfolding key_of
key_parts s kind base i j h e =
    let a = field_small s kind base i 0 h in
    let b = field_small s kind base i 1 h in
    let c = field_small s kind base j 0 h in
    let d = field_small s kind base j 1 h in
    (omega arith, omega arith, omega arith)

-- and equal entries have equal keys
same_key : (s : List ℕ) (kind base i j : ℕ) → same_entry s kind base i j ≡ true → key_of s kind base i ≡ key_of s kind base j
unfolding key_of
same_key s kind base i j e = let p = same_parts_lem s kind base i j e in rw (p.0, p.1, p.2)

-- new slots are free
pub all_free : (n : ℕ) → AllFree (replicate n 0)
all_free zero q = refl
all_free (suc n) zero = refl
all_free (suc n) (suc q) = all_free n q

-- a way to a free slot: the slot is there
pub filed_room : (s : List ℕ) (kind base : ℕ) (slots : List ℕ) (own p : ℕ) → way_of s kind base slots own ≡ Free p → p < length slots
unfolding way_of
filed_room s kind base slots own p e = (way_at_free (key_of s kind base) slots own 41 own (root own) p e).0

-- and no earlier entry is equal
pub filed_alone : (s : List ℕ) (kind base : ℕ) (slots : List ℕ) (n p : ℕ) → Filed s kind base slots n → way_of s kind base slots (key_of s kind base n) ≡ Free p
    → alone s kind base n ≡ true
unfolding alone
filed_alone s kind base slots n p f e = each_all_right (λ j. not (same_entry s kind base n j)) n λ k h. other k h (same_entry s kind base n k) refl
  where
    other : (k : ℕ) → k < n → (b : Bool) → same_entry s kind base n k ≡ b → not b ≡ true
    other k h false q = refl
    other k h true q =
        let t : way_of s kind base slots (key_of s kind base n) ≡ Twin = rw (same_key s kind base n k q) (f.found_again k h) in
        let c : Free p ≡ Twin = sym e ∙ t in
        never cc

-- a way to an entry: an earlier entry is equal
pub filed_equal : (s : List ℕ) (kind base : ℕ) (slots : List ℕ) (n : ℕ) → Bytes s → Filed s kind base slots n → way_of s kind base slots (key_of s kind base n) ≡ Twin
    → alone s kind base n ≡ false
unfolding way_of
filed_equal s kind base slots n h f e =
    let t = way_at_twin (key_of s kind base) slots (key_of s kind base n) 41 (key_of s kind base n) (root (key_of s kind base n)) n f.no_others e in
    let p = key_parts s kind base n t.0 h (sym t.2) in
    go t.0 t.1 (parts_same s kind base n t.0 p.0 p.1 p.2) (alone s kind base n) refl
  where
    go : (k : ℕ) → k < n → same_entry s kind base n k ≡ true → (b : Bool) → alone s kind base n ≡ b → b ≡ false
    go k l q false a = refl
    go k l q true a = let c = alone_apart s kind base n k a l in never cc

-- one more entry is filed
pub filed_more : (s : List ℕ) (kind base : ℕ) (slots : List ℕ) (n p : ℕ) → Filed s kind base slots n → way_of s kind base slots (key_of s kind base n) ≡ Free p
    → Filed s kind base (set slots p (n + 1)) (n + 1)
unfolding way_of
filed_more s kind base slots n p f e =
    let own = key_of s kind base n in
    let room = way_at_free (key_of s kind base) slots own 41 own (root own) p e in
    record {
      no_others = λ q. under q (eqb q p) refl room.0;
      found_again = λ i h. again i room.1 (eq-or-lt_of_le h);
    }
  where
    under : (q : ℕ) → (b : Bool) → eqb q p ≡ b → p < length slots → held (set slots p (n + 1)) q ≤ n + 1
    under q true t l = rw (eqb-true q p t, get_or-set_same slots p (n + 1) 0 l) (omega arith)
    under q false t l = rw (get_or-set_other slots p q (n + 1) 0 (eqb-false q p t)) (omega (arith, f.no_others q))

    again : (i : ℕ) → held slots p ≡ 0 → (suc i ≡ n + 1) ⊎ (suc i < n + 1)
        → way_from (key_of s kind base) (set slots p (n + 1)) (key_of s kind base i) 41 (key_of s kind base i) (root (key_of s kind base i)) ≡ Twin
    again i z (inl h) =
        let same : i ≡ n = omega arith in
        rw same (way_filed (key_of s kind base) slots (key_of s kind base n) 41 (key_of s kind base n) (root (key_of s kind base n)) p n refl e)
    again i z (inr h) =
        way_stays (key_of s kind base) slots (key_of s kind base i) 41 (key_of s kind base i) (root (key_of s kind base i)) p (n + 1) z (f.found_again i (omega arith))
