-- Of the numbers 1 to 9 only 9 can arise from the file of a table in form, and none where every step is in scope; its file has only bytes. Assumes nothing.
use mathlib.Core.Path.{◌≡◌, refl, sym, ◌∙◌, subst}
use mathlib.Core.Bool.{Bool, true, false}
use mathlib.Core.List.{List, [], ◌∷◌, map}
use Prim.Native.Nat.{ℕ, zero, suc, ◌≤◌, ◌<◌}
use native.Mathlib.Omega.{arith}
use lib.ListN.{length, get_or}
use Rattle.answers.specs.Ladder.{least}
use Rattle.answers.proofs.Passes.{rung_passes}
use Rattle.base.specs.Bytes.{byte}
use Rattle.codes.specs.Marks.{mark}
use Rattle.entries.specs.Tiling.{joined}
use Rattle.table_layout.specs.Layout.{steps}
use Rattle.table_binding.specs.Binding.{in_scope, scope_rung}
use Rattle.table.specs.Faults.{table_rungs}
use Rattle.calculus.specs.Signature.{Two, pairing, seal}
use Rattle.calculus.specs.Terms.{build1, build2, Act, send, receive, fresh, compare, split, decrypt, Tree, map_act, operands, binders, bound}
use Rattle.calculus.specs.Tables.{Sort, is_name, is_variable, Entry, leaf_entry, kind_entry, entry_at, Lower, low_two, Table, process, denoted}
use Rattle.calculus.specs.Scope.{In, here, there, All, all_nil, all_cons, Lacks, Scoped, sc_step}
use Rattle.calculus.specs.Version1.{Seal1, encryption, signature1}
use Rattle.calculus.proofs.Lists.{all_in, all_append, in_map}
use Rattle.calculus.proofs.TableLaws.{bound_map}
use Rattle.rendering.proofs.ActLaws.{operands_map}
use Rattle.decoded.specs.Table.{table_of, sort_bytes, two_code, entry_bytes, step_bytes, header_bytes, table_bytes}
use Rattle.decoded.specs.Meaning.{OutOfScope}
use Rattle.decoded.proofs.Checked.{table_checked}
use Rattle.decoded.proofs.Holding.{holds_means}
use Rattle.decoded.proofs.Ranges.{parts_lower, terms_there}
use Rattle.decoded.proofs.Scoping.{in_scope_means}
use Rattle.decoded.proofs.Steps.{operands_mean, binders_mean}
use Rattle.text.specs.Numbering.{stands_for, InLimits}
use Rattle.text.specs.Writing.{source_of}
use Rattle.text.specs.Right.{Right}
use Rattle.text.proofs.RightTables.{right_table, texts_are_right}
use Rattle.text.proofs.Again.{written_is_read}
use Rattle.text.proofs.FewerTerms.{reads_back}
use Rattle.text.proofs.Kept.{keeps_scope}
use Rattle.text_table.specs.Statements.{FileHasBytes, OnlyNine, TextsOnlyNine, ScopedPasses, ReadBackPasses}
use Rattle.text_table.proofs.FileLayout.{file, file_steps, step_is, file_stands_for_table}
use Rattle.text_table.proofs.Passing.{bound_by, file_entered, only_scope}
use Rattle.text_table.proofs.Accepted.{accepted_right, accepted_limits}
use Rattle.std.proofs.Common.{Ok}

pub only_nine : OnlyNine
only_nine t r l = only_scope t r l

pub texts_only_nine : TextsOnlyNine
texts_only_nine s d r l = only_scope (stands_for d) (texts_are_right s d r) l

-- ── Scope ──

-- in scope: no term of a step holds what is bound in it or later
scoped_at : (f : ℕ → Tree signature1 ℕ) (ss : List (Act signature1 ℕ)) → Scoped signature1 (map (map_act signature1 f) ss) → (k j i x : ℕ) → k ≤ j → j < length ss
    → In i (operands signature1 (get_or ss k (fresh 0))) → In x (binders signature1 (get_or ss j (fresh 0))) → Lacks signature1 x (f i)
unfolding bound
scoped_at f [] c k j i x a b p q = absurd (omega arith)
scoped_at f (s ∷ ss) (sc_step g c) zero j i x a b p q =
    let m : In x (bound signature1 (map (map_act signature1 f) (s ∷ ss))) = rw (bound_map signature1 f (s ∷ ss)) (bound_by (s ∷ ss) j x b q) in
    all_in (rw (operands_map signature1 f s) at (g x m)) (f i) (in_map f p)
scoped_at f (s ∷ ss) c (suc k) zero i x a b p q = absurd (omega arith)
scoped_at f (s ∷ ss) (sc_step g c) (suc k) (suc j) i x a b p q = scoped_at f ss c k j i x (omega arith) (omega arith) p q

module _ (t : Table signature1) (r : Right t) (l : InLimits t) (c : Scoped signature1 (process signature1 t)) where
  abbrev s : List ℕ
  s = file t

  not_out : (k : ℕ) → k < steps s → ¬ OutOfScope s k
  not_out k h o =
      let n = file_entered t r l in
      let i = o.term in
      let x = o.symbol in
      let (j, a, b, d) = o.bound_late in
      let m : j < length t.steps = rw (file_steps t) at b in
      let p : In i (operands signature1 (get_or t.steps k (fresh 0))) = rw (step_is t k (omega arith)) at ((operands_mean s n k i h).1 o.uses) in
      let q : In x (binders signature1 (get_or t.steps j (fresh 0))) = rw (step_is t j m) at ((binders_mean s n j x b).1 d) in
      let z : Lacks signature1 x (denoted signature1 0 t.entries i) = scoped_at (denoted signature1 0 t.entries) t.steps c k j i x a m p q in
      let y : Lacks signature1 x (denoted signature1 0 (table_of s).entries i) = subst (λ (u : Table signature1). Lacks signature1 x (denoted signature1 0 u.entries i)) (sym (file_stands_for_table t)) z in
      (holds_means s n x i (terms_there s n k h i o.uses)).0 o.holds y

  passes : least (table_rungs s) ≡ Ok tt
  passes = only_scope t r l ∙ rung_passes (scope_rung s) (λ k h. in_scope_lem k h (in_scope s k) refl)
    where
      in_scope_lem : (k : ℕ) → k < steps s → (b : Bool) → in_scope s k ≡ b → in_scope s k ≡ true
      in_scope_lem k h true e = e
      in_scope_lem k h false e =
          let n = file_entered t r l in
          absurd (not_out k h ((in_scope_means s k (parts_lower s n) (terms_there s n k h)).0 e))

pub scoped_passes : ScopedPasses
scoped_passes t r l c = passes t r l c

pub read_back_passes : ReadBackPasses
read_back_passes s e =
    let r = accepted_right s e in
    let l = accepted_limits s e in
    let (n, m) = reads_back (table_of s) r l in
    let w = written_is_read (table_of s) r l in
    scoped_passes (stands_for (source_of (table_of s))) (right_table (source_of (table_of s)) w.names_right) m (keeps_scope (table_of s) (stands_for (source_of (table_of s))) r n (table_checked s e).scoped)

-- ── Bytes ──

abbrev Small : List ℕ → Type 0
Small b = All (λ x. x < 256) b

joined_small : {A : Type 0} (g : A → List ℕ) (l : List A) → ((x : A) → In x l → Small (g x)) → Small (joined g l)
unfolding joined
joined_small g [] f = all_nil
joined_small g (x ∷ l) f = all_append (f x here) (joined_small g l (λ y i. f y (there i)))

one : (b : ℕ) {l : List ℕ} → b < 256 → Small l → Small (b ∷ l)
one b h a = all_cons h a

zeros : Small (0 ∷ [])
zeros = one 0 (omega arith) all_nil

sort_small : (x : Sort) → Small (sort_bytes x)
unfolding sort_bytes
sort_small is_name = zeros
sort_small is_variable = one 1 (omega arith) all_nil

module _ (t : Table signature1) (r : Right t) (l : InLimits t) where
  lower_two : {k : Two Seal1} {a b i : ℕ} → Lower signature1 {L = ℕ} i (kind_entry (build2 k a b)) → (a < i) × (b < i)
  lower_two (low_two p q) = (p, q)

  entry_small : (i : ℕ) → i < length t.entries → (e : Entry signature1 ℕ) → entry_at signature1 0 t.entries i ≡ e → Small (entry_bytes e)
  unfolding entry_bytes two_code
  entry_small i h (leaf_entry x) q = let a = r.symbols_there i x h q in let b = l.few_symbols in one 0 (omega arith) (one x (omega arith) zeros)
  entry_small i h (kind_entry (build1 k a)) q = elim k [ ]
  entry_small i h (kind_entry (build2 pairing a b)) q =
      let (m, n) = lower_two (rw q at (r.parts_lower i h)) in
      let c = l.few_terms in
      one 1 (omega arith) (one a (omega arith) (one b (omega arith) all_nil))
  entry_small i h (kind_entry (build2 (seal encryption) a b)) q =
      let (m, n) = lower_two (rw q at (r.parts_lower i h)) in
      let c = l.few_terms in
      one 2 (omega arith) (one a (omega arith) (one b (omega arith) all_nil))

  term_small : (s : Act signature1 ℕ) (a : ℕ) → In s t.steps → In a (operands signature1 s) → a < 256
  term_small s a i j = let h = r.operands_there s a i j in let c = l.few_terms in omega arith

  binder_small : (s : Act signature1 ℕ) (x : ℕ) → In s t.steps → In x (binders signature1 s) → x < 256
  binder_small s x i j = let h = r.binders_there s x i j in let c = l.few_symbols in omega arith

  step_small : (s : Act signature1 ℕ) → In s t.steps → Small (step_bytes s)
  unfolding step_bytes operands binders
  step_small (send a b) i = one 0 (omega arith) (one a (term_small (send a b) a i here) (one b (term_small (send a b) b i (there here)) (one 0 (omega arith) zeros)))
  step_small (receive a x) i = one 1 (omega arith) (one a (term_small (receive a x) a i here) (one 0 (omega arith) (one x (binder_small (receive a x) x i here) zeros)))
  step_small (fresh x) i = one 2 (omega arith) (one 0 (omega arith) (one 0 (omega arith) (one x (binder_small (fresh x) x i here) zeros)))
  step_small (compare a b) i = one 3 (omega arith) (one a (term_small (compare a b) a i here) (one b (term_small (compare a b) b i (there here)) (one 0 (omega arith) zeros)))
  step_small (split a x y) i =
      one 4 (omega arith)
      (one a (term_small (split a x y) a i here) (one 0 (omega arith) (one x (binder_small (split a x y) x i here) (one y (binder_small (split a x y) y i (there here)) all_nil))))
  step_small (decrypt c a b x) i =
      one 5 (omega arith)
      (one a (term_small (decrypt c a b x) a i here) (one b (term_small (decrypt c a b x) b i (there here)) (one x (binder_small (decrypt c a b x) x i here) zeros)))

  header_small : Small (header_bytes t)
  unfolding header_bytes mark byte
  header_small =
      let a = l.few_symbols in
      let b = l.few_terms in
      let c = l.few_steps in
      one 0x53 (omega arith) (one 0x50 (omega arith) (one 0x54 (omega arith) (one 0 (omega arith) (one 1 (omega arith)
      (one (length t.sorts) (omega arith) (one (length t.entries) (omega arith) (one (length t.steps) (omega arith) all_nil)))))))

  entries_small : Small (joined entry_bytes t.entries)
  unfolding joined
  entries_small = go t.entries (λ i h. entry_small i h (entry_at signature1 0 t.entries i) refl)
    where
      go : (es : List (Entry signature1 ℕ)) → ((i : ℕ) → i < length es → Small (entry_bytes (entry_at signature1 0 es i))) → Small (joined entry_bytes es)
      go [] f = all_nil
      go (e ∷ es) f = all_append (f 0 (omega arith)) (go es (λ i h. f (suc i) (omega arith)))

pub file_has_bytes : FileHasBytes
unfolding table_bytes
file_has_bytes t r l =
    all_append (header_small t r l)
    (all_append (joined_small sort_bytes t.sorts (λ x i. sort_small x)) (all_append (entries_small t r l) (joined_small step_bytes t.steps (λ s i. step_small t r l s i))))
