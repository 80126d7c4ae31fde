-- Every refusal that the judge gives for a list has a number above 0 and a place that fits 16 bits. Assumes that the table passes 1 to 10,
-- and that the list's elements are bytes.
use mathlib.Core.Path.{◌≡◌, refl, sym, ap, ◌∙◌}
use mathlib.Core.Option as option
use mathlib.Core.List.{List, [], ◌∷◌, map}
use Prim.Native.Nat.{ℕ, zero, suc, ◌+◌, ◌*◌, ◌≤◌, ◌<◌}
use native.Mathlib.Nat.{lt_of_not-le}
use native.Mathlib.Omega.{arith}
use lib.ListN.{length, get_elem?, length-map}
use Rattle.answers.specs.Ladder.{Check, refusal, Rung, least}
use Rattle.answers.specs.Least.{Fault, here, later, Least, none, lowest}
use Rattle.answers.specs.declared.Refusal.{Refusal}
use Rattle.answers.proofs.Ladder.{after_refusal}
use Rattle.base.specs.Bytes.{byte}
use Rattle.codes.specs.Rows.{width}
use Rattle.entries.specs.Fields.{place_of}
use Rattle.entries.specs.Words.{Bytes}
use Rattle.entries.proofs.Tiling.{listed_length}
use Rattle.table_layout.specs.Layout as table
use Rattle.list.specs.Layout.{symbols, statements, type_at, statements_at}
use Rattle.list.specs.Faults.{frame_rungs, type_rung, type_rungs, statement_rung, list_rungs}
use Rattle.list.specs.Right.{Framed}
use Rattle.list.proofs.Framed.{frame_passes, list_passes}
use Rattle.list.proofs.LeastFault.{frame_least_fault, list_least_fault}
use Rattle.calculus.specs.Signature.{Signature}
use Rattle.calculus.specs.Terms.{Term, Act, map_act, Statement}
use Rattle.calculus.specs.Tables.{Entry, denoted, process}
use Rattle.calculus.specs.Scope.{All, all_nil, all_cons}
use Rattle.calculus.specs.Figure2.{Env}
use Rattle.calculus.specs.Version1.{signature1}
use Rattle.calculus.proofs.Lists.{all_append}
use Rattle.rendering.specs.Rendering.{Splitting, halves, Due, dues_of, dues, Dues, Beginning, Follows, no_more, permitted, next_due}
use Rattle.rendering.specs.Judge.{accepted, not_due, unfinished, is_not_due, is_unfinished}
use Rattle.rendering.specs.Lists.{StatementList, Differ, differ_at, Answer, ListAnswerIs, types_differ_at, types_equal}
use Rattle.decoded.specs.Table.{step_at, table_of, free_count}
use Rattle.decoded.proofs.Passes.{table_passes}
use Rattle.decoded_list.specs.Bytes.{list_bytes, types_to}
use Rattle.decoded_list.proofs.FileLayout.{file_symbols, file_count}
use Rattle.type_service.specs.Services.{IsWidest}
use Rattle.type_service.proofs.ServiceLaws.{not_both}
use Rattle.judge_service.specs.Judged.{verdict_check, answer_check, Judged, Fits, table_refused, list_refused, list_judged}
use Rattle.std.proofs.Common.{Ok, Err}

-- ── 1 to 5 ──

-- the refusals of every rung fit
abbrev Within : List Rung → Type 0
Within [] = Unit {0}
Within (r ∷ rs) = ((i : ℕ) → i < r.count → Fits (refusal r.number r.file (r.place i))) × Within rs

fault_within : {x : Refusal} (rs : List Rung) → Within rs → Fault x rs → Fits x
fault_within (r ∷ rs) (f, w) (here a) = rw a.named (f a.thing a.among)
fault_within (r ∷ rs) (f, w) (later g) = fault_within rs w g
fault_within [] _ x4 = elim x4 [ ]

least_within : (rs : List Rung) {c : Check} (x : Refusal) → Within rs → Least rs c → c ≡ Err x → Fits x
least_within rs x w (lowest {x = y} f g) e = let q : y ≡ x = cc in rw q at (fault_within rs w f)
least_within rs x w (none f) e = let y : ◌≡◌ {A = ℕ} 0 1 = cc in absurd (omega arith)

-- a type and its length byte take at most 256 bytes
type_at_small : (s : List ℕ) → Bytes s → (i : ℕ) → type_at s i ≤ 8 + i * 256
unfolding type_at
type_at_small s h zero = omega arith
type_at_small s h (suc i) = omega (arith, type_at_small s h i, h (type_at s i))

module _ (s : List ℕ) (h : Bytes s) (free : ℕ) where
  -- of a list with faults 1 to 4
  frame_within : Within (frame_rungs s)
  frame_within = (λ i l. (omega arith, omega arith), (λ i l. (omega arith, omega arith), (λ i l. (omega arith, omega arith), (λ i l. (omega arith, omega arith), tt))))

  -- and of one without
  statement_within : Framed s → (i : ℕ) → i < statements s → place_of 2 (statements_at s) i < 65536
  unfolding place_of width byte
  statement_within f i l = omega (arith, type_at_small s h (symbols s), f.few_symbols, f.few_statements)

  all_within : Framed s → Within (list_rungs s free)
  all_within f = (
    λ i l. (omega arith, omega arith),
    (
      λ i l. (omega arith, omega arith),
      (
        λ i l. (omega arith, omega arith),
        (
          λ i l. (omega arith, omega arith),
          (λ i l. (omega arith, omega (arith, type_at_small s h i, f.few_symbols)), (λ i l. (omega arith, statement_within f i l), tt)),
        ),
      ),
    ),
  )

  list_refusal_fits : (x : Refusal) → least (list_rungs s free) ≡ Err x → Fits x
  list_refusal_fits x e = go (least (frame_rungs s)) refl
    where
      go : (c : Check) → least (frame_rungs s) ≡ c → Fits x
      go (Ok tt) q = least_within (list_rungs s free) x (all_within ((frame_passes s).0 q)) (list_least_fault s free) e
      go (Err y) q =
          let p : least (list_rungs s free) ≡ Err y = after_refusal (type_rungs s) (statement_rung s free ∷ []) y (after_refusal (frame_rungs s) (type_rung s ∷ []) y q) in
          least_within (frame_rungs s) x frame_within (frame_least_fault s) (q ∙ sym p ∙ e)

-- ── 11 ──

past : {X : Type 0} (k : List X) (i : ℕ) → length k ≤ i → get_elem? k i ≡ option.none
past [] i h = refl
past (a ∷ k) zero h = absurd (omega arith)
past (a ∷ k) (suc i) h = past k i (omega arith)

-- two lists differ before both have ended
differ_inside : {X : Type 0} (k l : List X) (b i : ℕ) → length k ≤ b → length l ≤ b → Differ k l (option.some i) → i < b
differ_inside k l b i m n (differ_at e f) = lt_of_not-le (λ h. f (past k i (omega arith) ∙ sym (past l i (omega arith))))

-- ── 13 ──

module _ (𝓢 : Signature) where
  -- what is due is due at a step below b
  abbrev Below : ℕ → List (ℕ × Due 𝓢 (Term 𝓢)) → Type 0
  Below b = All (λ w. w.0 < b)

  numbered : (b n : ℕ) → n < b → (ws : List (Due 𝓢 (Term 𝓢))) → Below b (map (λ w. (n, w)) ws)
  numbered b n h [] = all_nil
  numbered b n h (w ∷ ws) = all_cons h (numbered b n h ws)

  dues_below : (v : Splitting) (b n : ℕ) (P : List (Act 𝓢 (Term 𝓢))) → n + length P ≤ b → Below b (dues 𝓢 v n P)
  unfolding dues
  dues_below v b n [] h = all_nil
  dues_below v b n (s ∷ P) h = all_append (numbered b n (omega arith) (dues_of 𝓢 v s)) (dues_below v b (suc n) P (omega arith))

  follows_below : {es : List (Entry 𝓢 ℕ)} {ms ns : List (Term 𝓢)} {ws vs : Dues 𝓢} {ss : List (Statement 𝓢)} (b : ℕ)
      → Follows 𝓢 es ms ws ss ns vs → Below b ws → Below b vs
  follows_below b no_more a = a
  follows_below b (permitted B e i f) a = follows_below b f a
  follows_below b (next_due s f) (all_cons p a) = follows_below b f a

-- the first unfinished step is one of the table's
unfinished_below : (t : List ℕ) (ns : List (Term signature1)) (ss : List (Statement signature1)) (n : ℕ) (w : Due signature1 (Term signature1)) (ws : Dues signature1)
    → Beginning signature1 halves (table_of t) ss ns ((n, w) ∷ ws) → n < table.steps t
unfinished_below t ns ss n w ws f = first (follows_below signature1 (table.steps t) f (dues_below signature1 halves (table.steps t) 0 (process signature1 (table_of t)) count))
  where
    count : 0 + length (process signature1 (table_of t)) ≤ table.steps t
    count = omega (arith, length-map (table_of t).steps (map_act signature1 (denoted signature1 0 (table_of t).entries)), listed_length (step_at t) 0 (table.steps t))

    first : Below signature1 (table.steps t) ((n, w) ∷ ws) → n < table.steps t
    first (all_cons p a) = p

-- ── All of them ──

-- a refusal that is given
placed : (n f p : ℕ) (x : Refusal) → ◌≡◌ {A = Check} (Err (refusal n f p)) (Err x) → 0 < n → p < 65536 → Fits x
placed n f p x e l h =
    let q : refusal n f p ≡ x = cc in
    let m : n ≡ x.number = ap (λ (y : Refusal). y.number) q in
    let r : p ≡ x.place = ap (λ (y : Refusal). y.place) q in
    (omega arith, omega arith)

module _ (t l : List ℕ) (h : Bytes l) where
  answer_fits : (Γ : Env signature1) (m : StatementList signature1) (a : Answer) (x : Refusal) → IsWidest t Γ → least (list_rungs l (free_count t)) ≡ Ok tt → l ≡ list_bytes m
      → ListAnswerIs signature1 halves (table_of t) (types_to Γ (table.symbols t)) m a → answer_check a ≡ Err x → Fits x
  unfolding answer_check verdict_check
  answer_fits Γ m a x w p e j = go j
    where
      framed : Framed l
      framed = ((list_passes l (free_count t)).0 p).framed

      few_types : length m.types ≤ 96
      few_types = let q : symbols l ≡ length m.types = ap (λ s. symbols s) e ∙ file_symbols m in omega (arith, framed.few_symbols)

      few_statements : length m.statements ≤ 512
      few_statements = let q : statements l ≡ length m.statements = ap (λ s. statements s) e ∙ file_count m in omega (arith, framed.few_statements)

      few_widest : length (types_to Γ (table.symbols t)) ≤ 96
      few_widest = omega (arith, listed_length Γ 0 (table.symbols t), ((table_passes t).0 w.sound).frame.few_symbols)

      go : {a : Answer} → ListAnswerIs signature1 halves (table_of t) (types_to Γ (table.symbols t)) m a → answer_check a ≡ Err x → Fits x
      go (types_differ_at {i = i} d) q = placed 11 1 i x q (omega arith) (omega (arith, differ_inside m.types (types_to Γ (table.symbols t)) 96 i few_types few_widest d))
      go (types_equal {r = accepted} s v) q = let y : ◌≡◌ {A = ℕ} 0 1 = cc in absurd (omega arith)
      go (types_equal {r = not_due i} s (is_not_due b f g)) q = placed 12 1 i x q (omega arith) (omega (arith, few_statements))
      go (types_equal {r = unfinished n} s (is_unfinished {ns = ns} {w = w'} {ws = ws} f)) q =
          placed 13 1 n x q (omega arith) (omega (arith, unfinished_below t ns m.statements n w' ws f, ((table_passes t).0 w.sound).frame.few_steps))

  -- every refusal of a list fits
  pub refusal_fits : (Γ : Env signature1) (x : Refusal) (r : Check) → IsWidest t Γ → Judged t l r → r ≡ Err x → Fits x
  refusal_fits Γ x r w (table_refused q) e = absurd (not_both t Γ _ w q)
  refusal_fits Γ x r w (list_refused v q) e = list_refusal_fits l h (free_count t) x (q ∙ e)
  refusal_fits Γ x r w (list_judged {Γ = Δ} {m = m} {a = a} v q f p) e = answer_fits Δ m a x v q f p e
