-- Laws of the terms by index: they are the meaning's entries, what each code says, and what number 5 leaves of them. Assumes nothing.
use mathlib.Core.Path.{◌≡◌, refl, sym, fun_ext}
use mathlib.Core.Bool.{Bool, true, false}
use mathlib.Core.List.{List, [], ◌∷◌}
use Prim.Native.Nat.{ℕ, zero, suc, ◌≤◌, ◌<◌}
use native.Mathlib.Omega.{arith}
use lib.Dec.{ltb, leb}
use lib.ListN.{length, get_or, get_or-eq_default}
use borrow.Author.Tests.{ltb-true, ltb-false, leb-true, lt-ltb, le-ltb}
use Rattle.base.specs.Bytes.{byte}
use Rattle.base.specs.Pick.{pick}
use Rattle.base.proofs.BothLaws.{both_left}
use Rattle.codes.specs.Rows.{cell, limits_of}
use Rattle.entries.specs.Fields.{code, role}
use Rattle.table_layout.specs.Layout.{symbols, terms, steps, terms_at, steps_at, sort, term_field, step_field, counts_ok}
use Rattle.types.specs.Prefix.{encoded}
use Rattle.types.specs.Version1.{bytes, code1}
use Rattle.calculus.specs.Signature.{pairing, seal}
use Rattle.calculus.specs.Terms.{build2}
use Rattle.calculus.specs.Tables.{leaf_entry, kind_entry, entry_at, is_variable}
use Rattle.calculus.specs.Typing.{allowed}
use Rattle.calculus.specs.Version1.{encryption, signature1}
use Rattle.entries.specs.Tiling.{listed}
use Rattle.decoded.specs.Table.{sort_of, sort_at, entry_of, term_at, table_of}
use Rattle.entries.proofs.Tiling.{listed_length}
use Rattle.decoded.proofs.Listed.{listed_all_at}
use Rattle.decoded.proofs.Passed.{Entered}
use Rattle.decoded.proofs.Ranges.{term_code_lem, term_field_lem, step_code_lem, step_field_lem}
use Rattle.slots.specs.Terms.{code_at, part_at, entry, InRange}
use Rattle.slots.specs.Slots.{widest_of}

module _ (s : List ℕ) (t : ℕ) where
  entry_is : entry s t ≡ entry_at signature1 0 (table_of s).entries t
  unfolding entry code_at part_at term_at entry_of
  entry_is = go (ltb t (terms s)) refl
    where
      go : (b : Bool) → ltb t (terms s) ≡ b
          → entry_of (pick b (code s 0 (terms_at s) t) 0) (pick b (term_field s t 0) 0) (pick b (term_field s t 1) 0) ≡ entry_at signature1 0 (listed (term_at s) 0 (terms s)) t
      go true q = sym (listed_all_at (term_at s) (leaf_entry 0) (terms s) t (ltb-true t (terms s) q))
      go false q =
          let h : terms s ≤ t = ltb-false t (terms s) q in
          sym (get_or-eq_default (listed (term_at s) 0 (terms s)) (leaf_entry 0) (rw (listed_length (term_at s) 0 (terms s)) h))

  -- what each code says
  pub entry_symbol : code_at s t ≡ 0 → entry s t ≡ leaf_entry (part_at s t 0)
  unfolding entry entry_of
  entry_symbol e = rw e

  pub entry_pair : code_at s t ≡ 1 → entry s t ≡ kind_entry (build2 pairing (part_at s t 0) (part_at s t 1))
  unfolding entry entry_of
  entry_pair e = rw e

  pub entry_seal : code_at s t ≡ 2 → entry s t ≡ kind_entry (build2 (seal encryption) (part_at s t 0) (part_at s t 1))
  unfolding entry entry_of
  entry_seal e = rw e

-- ── What the readers answer ──

module _ (s : List ℕ) (t n : ℕ) (hn : n ≡ terms s) where
  pub code_here : (b r : ℕ) → b ≡ terms_at s → t < n → r ≡ code s 0 b t → r ≡ code_at s t
  unfolding code_at
  code_here b r hb h e = let l : t < terms s = rw hn at h in rw (lt-ltb t (terms s) l) (rw hb at e)

  pub code_past : n ≤ t → 0 ≡ code_at s t
  unfolding code_at
  code_past h = let l : terms s ≤ t = rw hn at h in rw (le-ltb t (terms s) l)

  pub part_here : (j r : ℕ) → t < n → r ≡ term_field s t j → r ≡ part_at s t j
  unfolding part_at
  part_here j r h e = let l : t < terms s = rw hn at h in rw (lt-ltb t (terms s) l) e

  pub part_past : (j : ℕ) → n ≤ t → 0 ≡ part_at s t j
  unfolding part_at
  part_past j h = let l : terms s ≤ t = rw hn at h in rw (le-ltb t (terms s) l)

-- the terms by index are the meaning's entries
pub entries_are : (s : List ℕ) → entry s ≡ entry_at signature1 0 (table_of s).entries
entries_are s = fun_ext (entry_is s)

-- ── The widest types that the sorts allow ──

module _ (s : List ℕ) (x : ℕ) where
  sort_is : x < symbols s → get_or (table_of s).sorts x is_variable ≡ sort_of (sort s x)
  unfolding sort_at
  sort_is h = listed_all_at (sort_at s) is_variable (symbols s) x h

  pub widest_name : x < symbols s → sort s x ≡ 0 → bytes (widest_of s x) ≡ 1 ∷ []
  unfolding encoded code1 allowed sort_of
  widest_name h e = rw (sort_is h, e)

  pub widest_variable : x < symbols s → ¬ (sort s x ≡ 0) → bytes (widest_of s x) ≡ 0 ∷ []
  unfolding encoded code1 allowed sort_of
  widest_variable h n = rw (sort_is h) (go (sort s x) n)
    where
      go : (b : ℕ) → ¬ (b ≡ 0) → bytes (allowed signature1 (sort_of b)) ≡ 0 ∷ []
      go zero n = absurd (n refl)
      go (suc b) n = refl

  pub widest_past : symbols s ≤ x → bytes (widest_of s x) ≡ 0 ∷ []
  unfolding encoded code1 allowed
  widest_past h =
      let l : length (listed (sort_at s) 0 (symbols s)) ≤ x = rw (listed_length (sort_at s) 0 (symbols s)) h in
      rw (get_or-eq_default (listed (sort_at s) 0 (symbols s)) is_variable l)

-- ── What number 5 leaves ──

-- the fields x and y of a step of a known code are symbols, or 0
bound_limit : (op S T : ℕ) → op < 6 → S ≤ 96 → (get_or (limits_of 0 S 0 T 0) (cell 1 op 3) 0 ≤ 96) × (get_or (limits_of 0 S 0 T 0) (cell 1 op 4) 0 ≤ 96)
unfolding cell byte
bound_limit zero S T h l = (omega arith, omega arith)
bound_limit (suc zero) S T h l = (l, omega arith)
bound_limit (suc (suc zero)) S T h l = (l, omega arith)
bound_limit (suc (suc (suc zero))) S T h l = (omega arith, omega arith)
bound_limit (suc (suc (suc (suc zero)))) S T h l = (l, l)
bound_limit (suc (suc (suc (suc (suc zero))))) S T h l = (l, omega arith)
bound_limit (suc (suc (suc (suc (suc (suc op)))))) S T h l = absurd (omega arith)

module _ (s : List ℕ) (n : Entered s) where
  few : symbols s ≤ 96
  unfolding counts_ok
  few = leb-true (symbols s) 96 (both_left (leb (symbols s) 96) _ n.frame.counts_right)

  -- what the limits of the fields say
  symbol_limit : (t : ℕ) → t < terms s → code s 0 (terms_at s) t ≡ 0 → term_field s t 0 < 96
  unfolding role cell byte
  symbol_limit t h e =
      let l : term_field s t 0 < symbols s = rw e at (term_field_lem s n t h 0 (omega arith)) in
      omega (arith, few)

  binder_limit : (k : ℕ) → k < steps s → (step_field s k 2 < 96) × (step_field s k 3 < 96)
  unfolding role
  binder_limit k h =
      let (a, b) = bound_limit (code s 1 (steps_at s) k) (symbols s) (terms s) (step_code_lem s n k h) few in
      (omega (arith, a, step_field_lem s n k h 2 (omega arith)), omega (arith, b, step_field_lem s n k h 3 (omega arith)))

  -- a table that passes 1 to 5 is in range
  pub in_range : InRange s
  unfolding code_at part_at
  in_range = record {
    known = λ t. known t (ltb t (terms s)) refl;
    slotted = λ t e. slotted t (ltb t (terms s)) refl e;
    known_steps = step_code_lem s n;
    slotted_steps = binder_limit;
  }
    where
      known : (t : ℕ) (b : Bool) → ltb t (terms s) ≡ b → pick b (code s 0 (terms_at s) t) 0 < 3
      known t true q = term_code_lem s n t (ltb-true t (terms s) q)
      known t false q = omega arith

      slotted : (t : ℕ) (b : Bool) → ltb t (terms s) ≡ b → pick b (code s 0 (terms_at s) t) 0 ≡ 0 → pick b (term_field s t 0) 0 < 96
      slotted t true q e = symbol_limit t (ltb-true t (terms s) q) e
      slotted t false q e = omega arith
