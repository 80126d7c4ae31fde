-- What the judge's promise says: no second answer; accepted exactly if faithful; what compile wrote is accepted; an accepted list
-- makes every term. Assumes nothing.
use mathlib.Core.Path.{◌≡◌, refl, sym, ap, ◌∙◌}
use mathlib.Core.List.{List}
use Prim.Native.Nat.{ℕ, ◌<◌}
use native.Mathlib.Omega.{arith}
use lib.ListN.{length, take, drop}
use lib.Seq.{take-append_seam}
use Rattle.table_layout.specs.Layout.{symbols}
use Rattle.buffers.specs.Over.{over}
use Rattle.calculus.specs.Tables.{denoted}
use Rattle.calculus.specs.Figure2.{Env}
use Rattle.calculus.specs.Scope.{In}
use Rattle.calculus.specs.Version1.{signature1}
use Rattle.rendering.specs.Rendering.{halves}
use Rattle.rendering.specs.Judge.{accepted, not_due, unfinished, is_faithful}
use Rattle.rendering.specs.Lists.{StatementList, Answer, judged, FaithfulList, ListAnswerIs, types_differ_at, types_equal}
use Rattle.rendering.proofs.Version1Laws.{answer_once1, translation_is_faithful1, every_term_is_made1}
use Rattle.decoded.specs.Table.{table_of}
use Rattle.decoded.proofs.Checked.{table_checked}
use Rattle.decoded_list.specs.Bytes.{list_bytes, types_to}
use Rattle.decoded_list.proofs.Once.{file_once}
use Rattle.compiled.specs.Compiled.{compiled}
use Rattle.statement_counts.proofs.Ranged.{in_range, none_idle}
use Rattle.type_service.specs.Services.{IsWidest, Answered, written}
use Rattle.type_service.proofs.ServiceLaws.{same_widest, not_both, refused_once}
use Rattle.compile_service.specs.Files.{list_file}
use Rattle.compile_service.proofs.ReadBack.{file_reads_back}
use Rattle.judge_service.specs.Judged.{verdict_check, answer_check, Judged, table_refused, list_refused, list_judged, FaithfulFile}
use Rattle.std.proofs.Common.{Ok, Err}
use Rattle.answers.specs.Ladder.{Check}

-- ── No second answer ──

module _ (t l : List ℕ) where
  same_answer : (Γ Δ : Env signature1) (m k : StatementList signature1) (a b : Answer) → IsWidest t Γ → IsWidest t Δ → l ≡ list_bytes m → l ≡ list_bytes k
      → ListAnswerIs signature1 halves (table_of t) (types_to Γ (symbols t)) m a → ListAnswerIs signature1 halves (table_of t) (types_to Δ (symbols t)) k b → a ≡ b
  same_answer Γ Δ m k a b w v e f p q =
      let g : Γ ≡ Δ = same_widest t Γ Δ w v in
      let h : m ≡ k = file_once m k (sym e ∙ f) in
      answer_once1 halves (table_of t) (types_to Δ (symbols t)) k a b (rw (g, h) at p) q

  pub judged_once : (a b : Check) → Judged t l a → Judged t l b → a ≡ b
  judged_once a b (table_refused r) (table_refused q) = ap Err (refused_once t _ _ r q)
  judged_once a b (table_refused r) (list_refused w e) = absurd (not_both t _ _ w r)
  judged_once a b (table_refused r) (list_judged w e f p) = absurd (not_both t _ _ w r)
  judged_once a b (list_refused w e) (table_refused r) = absurd (not_both t _ _ w r)
  judged_once a b (list_refused w e) (list_refused v f) = sym e ∙ f
  judged_once a b (list_refused w e) (list_judged v f g p) = let y : ◌≡◌ {A = ℕ} 0 1 = cc in absurd (omega arith)
  judged_once a b (list_judged w e f p) (table_refused r) = absurd (not_both t _ _ w r)
  judged_once a b (list_judged w e f p) (list_refused v g) = let y : ◌≡◌ {A = ℕ} 0 1 = cc in absurd (omega arith)
  judged_once a b (list_judged w e f p) (list_judged v g h q) = ap answer_check (same_answer _ _ _ _ _ _ w v f h p q)

-- ── Accepted exactly if faithful ──

accepted_answer : (t : List ℕ) (Γ : Env signature1) (m : StatementList signature1) (a : Answer) → ListAnswerIs signature1 halves (table_of t) (types_to Γ (symbols t)) m a → answer_check a ≡ Ok tt
    → FaithfulList signature1 halves (table_of t) (types_to Γ (symbols t)) m
unfolding answer_check verdict_check
accepted_answer t Γ m a (types_differ_at d) e = let y : ◌≡◌ {A = ℕ} 0 1 = cc in absurd (omega arith)
accepted_answer t Γ m a (types_equal {r = accepted} q (is_faithful f)) e = record { same_types = q; renders = f }
accepted_answer t Γ m a (types_equal {r = not_due i} q j) e = let y : ◌≡◌ {A = ℕ} 0 1 = cc in absurd (omega arith)
accepted_answer t Γ m a (types_equal {r = unfinished k} q j) e = let y : ◌≡◌ {A = ℕ} 0 1 = cc in absurd (omega arith)

pub accepted_is_faithful : (t l : List ℕ) (r : Check) → Judged t l r → r ≡ Ok tt → FaithfulFile t l
accepted_is_faithful t l r (table_refused q) e = let y : ◌≡◌ {A = ℕ} 0 1 = cc in absurd (omega arith)
accepted_is_faithful t l r (list_refused w q) e = let y : ◌≡◌ {A = ℕ} 0 1 = cc in absurd (omega arith)
accepted_is_faithful t l r (list_judged {Γ = Γ} {m = m} {a = a} w q f p) e = record { Γ = Γ; list = m; widest = w; in_order = q; is_file = f; faithful = accepted_answer t Γ m a p e }

pub faithful_is_accepted : (t l : List ℕ) (r : Check) → Judged t l r → FaithfulFile t l → r ≡ Ok tt
unfolding answer_check verdict_check
faithful_is_accepted t l r j f = judged_once t l r (Ok tt) j (list_judged {a = judged accepted} f.widest f.in_order f.is_file (types_equal f.faithful.same_types (is_faithful f.faithful.renders)))

-- ── Ours among them ──

pub compiled_is_faithful : (t : List ℕ) (Γ : Env signature1) → IsWidest t Γ → FaithfulFile t (list_file t Γ)
compiled_is_faithful t Γ w = record {
  Γ = Γ;
  list = compiled t (types_to Γ (symbols t));
  widest = w;
  in_order = (file_reads_back t Γ w).passes;
  is_file = refl;
  faithful = record { same_types = refl; renders = translation_is_faithful1 halves (table_of t) (table_checked t w.sound) (in_range t w.sound) };
}

-- what the compile service wrote for a table, the judge accepts: of both services' own answers and bytes
pub ours_is_accepted : (t z o : List ℕ) (n : ℕ) (r : Check) → Answered (list_file t) t z o (Ok n) → Judged t (take n o) r → r ≡ Ok tt
unfolding over
ours_is_accepted t z o n r (written {Γ = Γ} w l) j =
    let e = take-append_seam (list_file t Γ) (drop (length (list_file t Γ)) z) in
    faithful_is_accepted t (list_file t Γ) r (rw e at j) (compiled_is_faithful t Γ w)

-- ── Every term is built ──

-- after an accepted list's statements, registers mean every term of its table
pub every_term_built : (t l : List ℕ) (f : FaithfulFile t l) (i : ℕ) → i < length (table_of t).entries → In (denoted signature1 0 (table_of t).entries i) f.faithful.renders.0
every_term_built t l f i h =
    every_term_is_made1 halves (table_of t) f.list.statements f.faithful.renders.0 (table_checked t f.widest.sound) (none_idle t f.widest.sound) f.faithful.renders.1 i h
