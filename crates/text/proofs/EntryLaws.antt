-- Entries of a table that grows at its end: which index an entry has, what indexes stand for, and what stays. Assumes nothing.
use mathlib.Core.Path.{◌≡◌, refl, sym, ap, ◌∙◌}
use mathlib.Core.Logic.{◌⊎◌, inl, inr}
use mathlib.Core.Bool.{Bool, true, false, cond, decide}
use mathlib.Core.List.{List, [], ◌∷◌, ◌++◌, append_assoc, append-nil}
use Prim.Native.Nat.{ℕ, zero, suc, ◌+◌, ◌≤◌, ◌<◌}
use native.Mathlib.Nat.{add-zero}
use native.Mathlib.Decide.{ℕ_discrete, dec_lt}
use native.Mathlib.Omega.{arith}
use lib.Dec.{ltb}
use lib.ListN.{length, length-append, get_or-append}
use lib.Seq.{get_or-append-add}
use borrow.Author.Tests.{ltb-true, ltb-false}
use Rattle.calculus.specs.Signature.{same_two}
use Rattle.calculus.specs.Terms.{Tree, leaf, Build, same_build}
use Rattle.calculus.specs.Tables.{leaf_entry, kind_entry, same_entry, entry_tree, entry_at, tree_at, trees_from, trees, denoted, Lower, Closed, Unrepeated}
use Rattle.calculus.specs.Version1.{same_one1, same_seal1, signature1}
use Rattle.calculus.proofs.TableLaws.{trees_extend, trees_length}
use Rattle.text.specs.Numbering.{TermEntry, same_term, Placed, index_of, completed}

-- entry i
abbrev pub entry : List TermEntry → ℕ → TermEntry
entry es i = entry_at signature1 0 es i

-- the tree of index i
abbrev pub tree : List TermEntry → ℕ → Tree signature1 ℕ
tree es i = denoted signature1 0 es i

-- ── Growth at the end ──

pub record Grown (es fs : List TermEntry) : Type 0 where
  pub more : List TermEntry
  pub is : fs ≡ es ++ more

pub grown_not : (es : List TermEntry) → Grown es es
grown_not es = record { more = []; is = sym (append-nil es) }

pub grown_twice : {es fs gs : List TermEntry} → Grown es fs → Grown fs gs → Grown es gs
grown_twice {es} a b = record { more = a.more ++ b.more; is = rw (b.is, a.is) (append_assoc es a.more b.more) }

pub grown_length : {es fs : List TermEntry} → Grown es fs → length es ≤ length fs
grown_length {es} a = rw (a.is, length-append es a.more) (omega arith)

-- what was there stays
pub entry_stays : {es fs : List TermEntry} → Grown es fs → (i : ℕ) → i < length es → entry fs i ≡ entry es i
entry_stays {es} a i h = rw a.is (get_or-append es a.more (leaf_entry 0) i h)

trees_append : (ts : List (Tree signature1 ℕ)) (es fs : List TermEntry) → trees_from signature1 0 ts (es ++ fs) ≡ trees_from signature1 0 (trees_from signature1 0 ts es) fs
unfolding trees_from
trees_append ts [] fs = refl
trees_append ts (e ∷ es) fs = trees_append (ts ++ (entry_tree signature1 (tree_at signature1 0 ts) e ∷ [])) es fs

pub tree_stays : {es fs : List TermEntry} → Grown es fs → (i : ℕ) → i < length es → tree fs i ≡ tree es i
tree_stays {es} a i h =
    let (us, e, l) = trees_extend signature1 0 (trees signature1 0 es) a.more in
    let k : i < length (trees signature1 0 es) = rw (trees_length signature1 0 es) h in
    rw (a.is, trees_append [] es a.more, e) (get_or-append (trees signature1 0 es) us (leaf 0) i k)

-- ── The index of an entry ──

module _ (e : TermEntry) where
  pub index_le : (es : List TermEntry) → index_of e es ≤ length es
  unfolding index_of
  index_le [] = omega arith
  index_le (f ∷ es) = go (same_term e f) (index_le es)
    where
      go : (t : Bool) → index_of e es ≤ length es → cond t 0 (suc (index_of e es)) ≤ suc (length es)
      go true h = omega arith
      go false h = omega arith

  pub index_entry : (es : List TermEntry) → index_of e es < length es → entry es (index_of e es) ≡ e
  unfolding index_of decide
  index_entry [] h = absurd (omega arith)
  index_entry (f ∷ es) h = go (same_entry ℕ_discrete (same_build same_one1 ℕ_discrete (same_two same_seal1)) e f) h (index_entry es)
    where
      go : (D : Dec (e ≡ f)) → cond (decide D) 0 (suc (index_of e es)) < suc (length es) → (index_of e es < length es → entry es (index_of e es) ≡ e)
          → entry (f ∷ es) (cond (decide D) 0 (suc (index_of e es))) ≡ e
      go (yes p) h k = sym p
      go (no n) h k = k (omega arith)

  -- no lower index has it
  pub index_first : (es : List TermEntry) (i : ℕ) → i < index_of e es → ¬ (entry es i ≡ e)
  unfolding index_of decide
  index_first [] i h = absurd (omega arith)
  index_first (f ∷ es) i h = go (same_entry ℕ_discrete (same_build same_one1 ℕ_discrete (same_two same_seal1)) e f) i h (index_first es)
    where
      go : (D : Dec (e ≡ f)) (i : ℕ) → i < cond (decide D) 0 (suc (index_of e es)) → ((i : ℕ) → i < index_of e es → ¬ (entry es i ≡ e)) → ¬ (entry (f ∷ es) i ≡ e)
      go (yes p) i h k = absurd (omega arith)
      go (no n) zero h k = λ q. n (sym q)
      go (no n) (suc i) h k = k i (omega arith)

-- ── Entries in form ──

-- a leaf names one of n symbols
pub data LeafBelow (n : ℕ) : TermEntry → Type 0 where
  below_leaf : {x : ℕ} → x < n → LeafBelow n (leaf_entry x)
  below_kind : {b : Build signature1 ℕ} → LeafBelow n (kind_entry b)

pub record Fine (n : ℕ) (es : List TermEntry) : Type 0 where
  pub closed : Closed signature1 0 es
  pub once : Unrepeated signature1 0 es
  pub leaves : (i : ℕ) → i < length es → LeafBelow n (entry es i)

pub fine_none : (n : ℕ) → Fine n []
fine_none n = record { closed = λ i h. absurd (omega arith); once = λ i j h. absurd (omega arith); leaves = λ i h. absurd (omega arith) }

-- one entry more
last_at : (es : List TermEntry) (e : TermEntry) → entry (es ++ (e ∷ [])) (length es) ≡ e
last_at es e = rw add-zero at (get_or-append-add es (e ∷ []) 0 (leaf_entry 0))

last_or : (es : List TermEntry) (e : TermEntry) (i : ℕ) → i < length (es ++ (e ∷ [])) → (i < length es) ⊎ (i ≡ length es)
last_or es e i h = go (dec_lt i (length es))
  where
    go : Dec (i < length es) → (i < length es) ⊎ (i ≡ length es)
    go (yes p) = inl p
    go (no n) = let l : length (es ++ (e ∷ [])) ≡ length es + 1 = length-append es (e ∷ []) in inr (omega arith)

grown_last : (es : List TermEntry) (e : TermEntry) → Grown es (es ++ (e ∷ []))
grown_last es e = record { more = e ∷ []; is = refl }

fine_last : (n : ℕ) (es : List TermEntry) (e : TermEntry) → Fine n es → Lower signature1 (length es) e → LeafBelow n e → ((i : ℕ) → i < length es → ¬ (entry es i ≡ e))
    → Fine n (es ++ (e ∷ []))
fine_last n es e f low lv new = record {
  closed = λ i h. closed i (last_or es e i h);
  once = λ i j h k q. once i j (last_or es e i h) (last_or es e j k) q;
  leaves = λ i h. leaves i (last_or es e i h);
}
  where
    old : (i : ℕ) → i < length es → entry (es ++ (e ∷ [])) i ≡ entry es i
    old i h = entry_stays (grown_last es e) i h

    closed : (i : ℕ) → (i < length es) ⊎ (i ≡ length es) → Lower signature1 i (entry (es ++ (e ∷ [])) i)
    closed i (inl h) = rw (old i h) (f.closed i h)
    closed i (inr h) = rw (h, last_at es e) low

    leaves : (i : ℕ) → (i < length es) ⊎ (i ≡ length es) → LeafBelow n (entry (es ++ (e ∷ [])) i)
    leaves i (inl h) = rw (old i h) (f.leaves i h)
    leaves i (inr h) = rw (h, last_at es e) lv

    once : (i j : ℕ) → (i < length es) ⊎ (i ≡ length es) → (j < length es) ⊎ (j ≡ length es) → entry (es ++ (e ∷ [])) i ≡ entry (es ++ (e ∷ [])) j → i ≡ j
    once i j (inl h) (inl k) q = f.once i j h k (sym (old i h) ∙ q ∙ old j k)
    once i j (inl h) (inr k) q = absurd (new i h (sym (old i h) ∙ q ∙ ap (λ (m : ℕ). entry (es ++ (e ∷ [])) m) k ∙ last_at es e))
    once i j (inr h) (inl k) q = absurd (new j k (sym (old j k) ∙ sym q ∙ ap (λ (m : ℕ). entry (es ++ (e ∷ [])) m) h ∙ last_at es e))
    once i j (inr h) (inr k) q = h ∙ sym k

-- ── An entry is completed ──

pub record Completed (n : ℕ) (e : TermEntry) (es : List TermEntry) (p : Placed) : Type 0 where
  pub fine : Fine n p.entries
  pub grown : Grown es p.entries
  pub there : p.index < length p.entries
  pub entry_is : entry p.entries p.index ≡ e
  -- nothing else is new
  pub only : (i : ℕ) → length es ≤ i → i < length p.entries → i ≡ p.index

pub completed_well : (n : ℕ) (e : TermEntry) (es : List TermEntry) → Fine n es → Lower signature1 (length es) e → LeafBelow n e → Completed n e es (completed e es)
unfolding completed
completed_well n e es f low lv = go (ltb (index_of e es) (length es)) refl
  where
    go : (t : Bool) → ltb (index_of e es) (length es) ≡ t → Completed n e es (record { entries = cond t es (es ++ (e ∷ [])); index = index_of e es })
    go true q =
        let h : index_of e es < length es = ltb-true _ _ q in
        record { fine = f; grown = grown_not es; there = h; entry_is = index_entry e es h; only = λ i a b. absurd (omega arith) }
    go false q =
        let h : length es ≤ index_of e es = ltb-false _ _ q in
        let l = index_le e es in
        let k : index_of e es ≡ length es = omega arith in
        let m : length (es ++ (e ∷ [])) ≡ length es + 1 = length-append es (e ∷ []) in
        record {
          fine = fine_last n es e f low lv (λ i a. index_first e es i (omega arith));
          grown = grown_last es e;
          there = omega arith;
          entry_is = rw k (last_at es e);
          only = λ i a b. omega arith;
        }
