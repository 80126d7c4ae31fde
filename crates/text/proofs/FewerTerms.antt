-- Reading back what was written makes no term that the table did not have, and so no more terms: the round trip from any table in form. Assumes nothing.
use mathlib.Core.Path.{◌≡◌, refl, sym, ap, ◌∙◌}
use mathlib.Core.Logic.{◌⊎◌, inl, inr}
use mathlib.Core.List.{map}
use Prim.Native.Nat.{ℕ, zero, suc, ◌+◌, ◌≤◌, ◌<◌}
use native.Mathlib.Decide.{dec_lt}
use native.Mathlib.Omega.{arith}
use lib.ListN.{length, length-map}
use Rattle.calculus.specs.Signature.{Two}
use Rattle.calculus.specs.Terms.{Tree, leaf, two, build1, build2, Act, send, receive, fresh, compare, split, decrypt, map_act, operands}
use Rattle.calculus.specs.Tables.{Entry, leaf_entry, kind_entry, Lower, low_two, Table, process}
use Rattle.calculus.specs.Scope.{In}
use Rattle.calculus.specs.Version1.{Seal1, signature1}
use Rattle.calculus.proofs.Lists.{in_map, in_unmap}
use Rattle.calculus.proofs.TableLaws.{denoted_leaf, denoted_two, equal_trees_equal_indexes}
use Rattle.rendering.proofs.ActLaws.{operands_map}
use Rattle.text.specs.Source.{Source}
use Rattle.text.specs.Numbering.{symbols_of, stands_for}
use Rattle.text.specs.Writing.{source_of}
use Rattle.text.specs.Right.{HasPart, left_part, right_part, NamedIn, Right}
use Rattle.text.specs.Renaming.{rename_term, rename_step}
use Rattle.text.specs.Statements.{ReadsBack}
use Rattle.text.proofs.EntryLaws.{entry, tree}
use Rattle.text.proofs.RightTables.{right_table, process_is_meant}
use Rattle.text.proofs.WrittenNames.{written_reads}
use Rattle.text.proofs.RoundTrip.{number, steps_renamed}
use Rattle.text.proofs.ReadBack.{to_there, to_apart, sized, sorts_to, free_to_lem, same_count}
use Rattle.text.proofs.Pigeons.{pigeons}

abbrev Tr : Type 0
Tr = Tree signature1 ℕ

-- ── Operands ──

operands_renamed : (ρ : ℕ → ℕ) (s : Act signature1 Tr) → operands signature1 (rename_step ρ s) ≡ map (rename_term ρ) (operands signature1 s)
unfolding operands rename_step
operands_renamed ρ (send a b) = refl
operands_renamed ρ (receive a x) = refl
operands_renamed ρ (fresh x) = refl
operands_renamed ρ (compare a b) = refl
operands_renamed ρ (split a x y) = refl
operands_renamed ρ (decrypt c a b x) = refl

part_cases : {i a b : ℕ} {k : Two Seal1} → HasPart i (kind_entry (build2 k a b)) → (i ≡ a) ⊎ (i ≡ b)
part_cases left_part = inl refl
part_cases right_part = inr refl

module _ (t : Table signature1) (r : Right t) (few_symbols : length t.sorts ≤ 96) (few_terms : length t.entries ≤ 128) where
  abbrev d : Source
  d = source_of t

  abbrev u : Table signature1
  u = stands_for d

  abbrev to : ℕ → ℕ
  to x = number (symbols_of d) x

  right_again : Right u
  right_again = right_table d (written_reads t r few_symbols few_terms).names_right

  pub process_to : process signature1 u ≡ map (rename_step to) (process signature1 t)
  process_to = process_is_meant d ∙ steps_renamed (symbols_of d) (process signature1 t)

  -- term i is a term of the table, renamed
  abbrev Old : ℕ → Type 0
  Old i = (a : ℕ) × (a < length t.entries) × (tree u.entries i ≡ rename_term to (tree t.entries a))

  -- the operands of a step that is a step of the table, renamed
  operands_old : (a b : Act signature1 Tr) (s : Act signature1 ℕ) → map_act signature1 (tree t.entries) s ≡ b → rename_step to b ≡ a
      → operands signature1 a ≡ map (rename_term to) (map (tree t.entries) (operands signature1 s))
  operands_old a b s g e =
      ap (operands signature1) (sym e ∙ ap (rename_step to) (sym g)) ∙ operands_renamed to (map_act signature1 (tree t.entries) s)
      ∙ ap (map (rename_term to)) (operands_map signature1 (tree t.entries) s)

  renamed_back : (A M N : Tr) → rename_term to M ≡ A → N ≡ M → A ≡ rename_term to N
  renamed_back A M N e f = sym e ∙ ap (rename_term to) (sym f)

  -- what a step uses
  used_old : (s : Act signature1 ℕ) (i : ℕ) → In s u.steps → In i (operands signature1 s) → Old i
  used_old s i p q =
      let a : In (map_act signature1 (tree u.entries) s) (map (rename_step to) (process signature1 t)) = rw process_to at (in_map (map_act signature1 (tree u.entries)) p) in
      let (b, c, e) = in_unmap (rename_step to) (process signature1 t) a in
      let (s', f, g) = in_unmap (map_act signature1 (tree t.entries)) t.steps c in
      let h : In (tree u.entries i) (operands signature1 (map_act signature1 (tree u.entries) s)) = rw (operands_map signature1 (tree u.entries) s) (in_map (tree u.entries) q) in
      let same = operands_old (map_act signature1 (tree u.entries) s) b s' g e in
      let (M, k, l) = in_unmap (rename_term to) (map (tree t.entries) (operands signature1 s')) (rw same at h) in
      let (x, m, n) = in_unmap (tree t.entries) (operands signature1 s') k in
      (x, r.operands_there s' x f m, renamed_back (tree u.entries i) M (tree t.entries x) l n)

  lower_two : {k : Two Seal1} {a b i : ℕ} → Lower signature1 {L = ℕ} i (kind_entry (build2 k a b)) → (a < i) × (b < i)
  lower_two (low_two p q) = (p, q)

  -- the parts of a term of the table, renamed, are such
  parts_old : (b : ℕ) → b < length t.entries → {k : Two Seal1} {M N : Tr} → rename_term to (tree t.entries b) ≡ two k M N
      → ((a : ℕ) × (a < length t.entries) × (M ≡ rename_term to (tree t.entries a))) × ((c : ℕ) × (c < length t.entries) × (N ≡ rename_term to (tree t.entries c)))
  unfolding rename_term
  parts_old b h {k} {M} {N} e = go (entry t.entries b) refl
    where
      go : (x : Entry signature1 ℕ) → entry t.entries b ≡ x
          → ((a : ℕ) × (a < length t.entries) × (M ≡ rename_term to (tree t.entries a))) × ((c : ℕ) × (c < length t.entries) × (N ≡ rename_term to (tree t.entries c)))
      go (leaf_entry x) q =
          let f : ◌≡◌ {A = Tr} (leaf (to x)) (two k M N) = ap (rename_term to) (sym (denoted_leaf signature1 0 t.entries r.parts_lower b q)) ∙ e in
          absurd (let z : ◌≡◌ {A = ℕ} 0 1 = cc in omega arith)
      go (kind_entry (build1 c a)) q = elim c [ ]
      go (kind_entry (build2 c a a')) q =
          let f : ◌≡◌ {A = Tr} (two c (rename_term to (tree t.entries a)) (rename_term to (tree t.entries a'))) (two k M N) =
          ap (rename_term to) (sym (denoted_two signature1 0 t.entries r.parts_lower b q)) ∙ e in
          let (l, m) = lower_two (rw q at (r.parts_lower b h)) in
          ((a, omega arith, cc), (a', omega arith, cc))

  -- so is every term, from the last to the first
  all_old : (n i : ℕ) → i < length u.entries → length u.entries ≤ i + n → Old i
  all_old zero i h l = absurd (omega arith)
  all_old (suc n) i h l = go (right_again.each_named i h) (λ j a b. all_old n j a b)
    where
      go : NamedIn u i → ((j : ℕ) → j < length u.entries → length u.entries ≤ j + n → Old j) → Old i
      go (inl (s, p, q)) f = used_old s i p q
      go (inr (j, p, q)) f = at (entry u.entries j) refl q
        where
          at : (x : Entry signature1 ℕ) → entry u.entries j ≡ x → HasPart i (entry u.entries j) → Old i
          at (leaf_entry x) e q = elim (rw e at q) [ ]
          at (kind_entry (build1 c a)) e q = elim c [ ]
          at (kind_entry (build2 c a a')) e q =
              let (l₁, l₂) = lower_two (rw e at (right_again.parts_lower j p)) in
              let two_is = denoted_two signature1 0 u.entries right_again.parts_lower j e in
              which l₁ l₂ two_is (part_cases (rw e at q))
            where
              which : a < j → a' < j → tree u.entries j ≡ two c (tree u.entries a) (tree u.entries a') → (i ≡ a) ⊎ (i ≡ a') → Old i
              which l₁ l₂ w (inl g) = let (b, m, o) = f j p (omega arith) in rw g (parts_old b m (sym o ∙ w)).0
              which l₁ l₂ w (inr g) = let (b, m, o) = f j p (omega arith) in rw g (parts_old b m (sym o ∙ w)).1

  old : (i : ℕ) → i < length u.entries → Old i
  old i h = all_old (length u.entries) i h (omega arith)

  -- which one
  source_place : (i : ℕ) → Dec (i < length u.entries) → ℕ
  source_place i (yes h) = (old i h).0
  source_place i (no n) = 0

  source_is : (i : ℕ) (D : Dec (i < length u.entries)) → i < length u.entries
      → (source_place i D < length t.entries) × (tree u.entries i ≡ rename_term to (tree t.entries (source_place i D)))
  unfolding source_place
  source_is i (yes h) k = ((old i h).1, (old i h).2)
  source_is i (no n) k = absurd (n k)

  pub no_more_terms : length u.entries ≤ length t.entries
  no_more_terms =
      pigeons (length u.entries) (length t.entries) (λ i. source_place i (dec_lt i (length u.entries))) (λ i h. (source_is i (dec_lt i (length u.entries)) h).0)
      (λ i j h k e. equal_trees_equal_indexes signature1 0 u.entries right_again.parts_lower right_again.unrepeated i j h k
      ((source_is i (dec_lt i (length u.entries)) h).1 ∙ ap (λ (a : ℕ). rename_term to (tree t.entries a)) e ∙ sym (source_is j (dec_lt j (length u.entries)) k).1))

-- ── The statement ──

pub reads_back : ReadsBack
reads_back t r l =
    let a = l.few_symbols in
    let b = l.few_terms in
    let s = sized t r a b in
    let c = same_count t r a b in
    let k = no_more_terms t r a b in
    let p : length (stands_for (source_of t)).steps ≡ length t.steps =
    sym (length-map (stands_for (source_of t)).steps (map_act signature1 (tree (stands_for (source_of t)).entries)))
    ∙ ap length (process_to t r a b)
    ∙ length-map (process signature1 t) (rename_step (number (symbols_of (source_of t))))
    ∙ length-map t.steps (map_act signature1 (tree t.entries)) in
    let q = l.few_steps in (
      record {
        to = number (symbols_of (source_of t));
        same_count = s ∙ c;
        there = λ x h. rw s (to_there t r a b x h);
        apart = to_apart t r a b;
        same_sorts = sorts_to t r a b;
        same_free = free_to_lem t r a b;
        same_process = process_to t r a b;
      },
      record { few_symbols = rw (s, c) a; few_terms = omega arith; few_steps = omega arith },
    )
