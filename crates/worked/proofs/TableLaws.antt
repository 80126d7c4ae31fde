-- What is computed of tables and lists leaves the services no other answer. Assumes nothing.
use mathlib.Core.Path.{◌≡◌, refl, sym}
use mathlib.Core.List.{List}
use Prim.Native.Nat.{ℕ}
use native.Mathlib.Omega.{arith}
use lib.ListN.{length}
use Rattle.answers.specs.Ladder.{least, Check}
use Rattle.answers.specs.declared.Refusal.{Refusal}
use Rattle.table.specs.Faults.{table_rungs}
use Rattle.list.specs.Faults.{list_rungs}
use Rattle.buffers.specs.Over.{over}
use Rattle.calculus.specs.Figure2.{Env}
use Rattle.calculus.specs.Typing.{Answer, widest, untyped, AnswerIs}
use Rattle.calculus.specs.Inference.{infer}
use Rattle.calculus.specs.Version1.{signature1}
use Rattle.calculus.proofs.Version1Laws.{right1}
use Rattle.rendering.specs.Rendering.{halves}
use Rattle.rendering.specs.Judge.{judge}
use Rattle.rendering.specs.Lists.{types_equal}
use Rattle.rendering.proofs.JudgeLaws.{judge_is_exact}
use Rattle.decoded.specs.Table.{table_of, free_count}
use Rattle.decoded.proofs.Checked.{table_checked}
use Rattle.decoded.proofs.Unlike.{terms_unrepeated}
use Rattle.decoded_list.specs.Bytes.{list_bytes}
use Rattle.decoded_list.specs.Statements.{statements_of}
use Rattle.machine.specs.declared.Ran.{Ran}
use Rattle.type_service.specs.Services as services
use Rattle.type_service.specs.Services.{Answered, IsWidest, TableRefused, faulty, no_typing, types_file}
use Rattle.type_service.proofs.ServiceLaws.{answered_once}
use Rattle.compile_service.specs.Files.{list_file}
use Rattle.judge_service.specs.Judged.{verdict_check, answer_check, Judged, table_refused, list_refused, list_judged}
use Rattle.judge_service.proofs.Exact.{judged_once}
use Rattle.run_service.specs.Runs.{not_accepted, RunAnswered, refused}
use Rattle.run_service.proofs.Once.{run_answered_once}
use Rattle.worked.specs.Examples.{Only, Filed, Running, Refused, Writes}
use Rattle.worked.proofs.Computed.{Typing, turned_down, types_are, inferred, checked, typing_of, refuses, writes, judges, file_outcome, as_widest, list_outcome, judge_outcome}
use Rattle.std.proofs.Common.{Result, Ok, Err}

-- ── Tables ──

-- what the typing of a table says
pub data TypingIs (t : List ℕ) : Typing → Type 0 where
  is_refused : {x : Refusal} → TableRefused t x → TypingIs t (turned_down x)
  is_typed : {Γ : Env signature1} → IsWidest t Γ → TypingIs t (types_are Γ)

-- what is computed is right
pub typing_is : (t : List ℕ) → TypingIs t (typing_of t)
unfolding typing_of checked inferred
typing_is t = by_check (least (table_rungs t)) refl
  where
    by_answer : (a : Answer signature1) → least (table_rungs t) ≡ Ok tt → AnswerIs signature1 (table_of t) a → TypingIs t (inferred a)
    by_answer (widest Γ) e r = is_typed (record { sound = e; typing = r })
    by_answer (untyped k) e r = is_refused (no_typing e r refl)

    by_check : (c : Check) → least (table_rungs t) ≡ c → TypingIs t (checked c (infer signature1 (table_of t)))
    by_check (Ok tt) e = by_answer (infer signature1 (table_of t)) e (right1 (table_of t) (table_checked t e))
    by_check (Err x) e = is_refused (faulty e)

-- an answer of a service that writes a file is its only one
only_file : (file : List ℕ → Env signature1 → List ℕ) (t z o : List ℕ) (a : Result ℕ Refusal) → Answered (file t) t z o a → Only (Filed file t z) (a, o)
only_file file t z o a m = (m, once)
  where
    once : (b : Result ℕ Refusal × List ℕ) → Filed file t z b → b ≡ (a, o)
    once (c, p) q = let (e, f) = answered_once (file t) t z p o c a q m in rw (e, f) refl

-- so is one of the judge
pub only_judged : (t l : List ℕ) (a : Check) → Judged t l a → Only (Judged t l) a
only_judged t l a j = (j, λ b k. judged_once t l b a k j)

-- and one of a run
pub only_run : (t l tr z y v o : List ℕ) (a : Result Ran Refusal) → RunAnswered t l tr z y v o a → Only (Running t l tr z y) (a, v, o)
only_run t l tr z y v o a m = (m, once)
  where
    once : (b : Result Ran Refusal × List ℕ × List ℕ) → Running t l tr z y b → b ≡ (a, v, o)
    once (c, p, s) q = let (e, f, g) = run_answered_once t l tr z y p v s o c a q m in rw (e, f, g) refl

-- a refused table is refused by all services
refused_by_all : (t : List ℕ) (x : Refusal) → TableRefused t x → Refused t x
refused_by_all t x q = record {
  by_type = λ z. only_file types_file t z z (Err x) (services.table_refused q);
  by_compile = λ z. only_file list_file t z z (Err x) (services.table_refused q);
  by_judge = λ l. only_judged t l (Err x) (table_refused q);
  by_run = λ l tr z y. only_run t l tr z y z y (Err x) (refused (not_accepted (table_refused q)));
}

-- a typed table's file is written
file_written : (file : List ℕ → Env signature1 → List ℕ) (t : List ℕ) (Γ : Env signature1) → IsWidest t Γ → Writes file t (file t Γ)
file_written file t Γ w z h = only_file file t z (over (file t Γ) z) (Ok (length (file t Γ))) (services.written w h)

-- a refusal is computed
pub outcome_refused : (t : List ℕ) (x : Refusal) (file : Env signature1 → List ℕ) (a : Typing) → TypingIs t a → file_outcome file a ≡ refuses x → Refused t x
unfolding file_outcome
outcome_refused t x file a (is_refused {x = y} q) e = let f : y ≡ x = cc in rw f at (refused_by_all t y q)
outcome_refused t x file a (is_typed w) e = let y : ◌≡◌ {A = ℕ} 0 1 = cc in absurd (omega arith)

-- a file is computed
pub outcome_written : (file : List ℕ → Env signature1 → List ℕ) (t bytes : List ℕ) (a : Typing) → TypingIs t a → file_outcome (file t) a ≡ writes bytes → Writes file t bytes
unfolding file_outcome
outcome_written file t bytes a (is_refused q) e = let y : ◌≡◌ {A = ℕ} 0 1 = cc in absurd (omega arith)
outcome_written file t bytes a (is_typed {Γ = Γ} w) e = let f : file t Γ ≡ bytes = cc in rw f at (file_written file t Γ w)

-- ── Lists ──

module _ (t l : List ℕ) where
  -- a list is judged
  pub list_outcome_lem : (Γ : Env signature1) (c a : Check) → IsWidest t Γ → least (list_rungs l (free_count t)) ≡ c → list_outcome t l Γ c ≡ judges a l → Judged t l a
  unfolding list_outcome answer_check
  list_outcome_lem Γ (Err x) a w p e = let f : Err x ≡ a = cc in rw f at (list_refused w p)
  list_outcome_lem Γ (Ok tt) a w p e =
      let v = judge signature1 halves (table_of t) (statements_of l) in
      let f : verdict_check v ≡ a = cc in
      let g : list_bytes (as_widest t l Γ) ≡ l = cc in
      let j : Judged t l (verdict_check v) =
      list_judged w p (sym g) (types_equal refl (judge_is_exact signature1 halves (table_of t) (statements_of l) (table_checked t w.sound) (terms_unrepeated t w.sound))) in
      rw f at j

  -- an accepted one has the widest types
  pub list_decoded : (Γ : Env signature1) (c : Check) → list_outcome t l Γ c ≡ judges (Ok tt) l → list_bytes (as_widest t l Γ) ≡ l
  unfolding list_outcome
  list_decoded Γ (Err x) e = let y : ◌≡◌ {A = ℕ} 0 1 = cc in absurd (omega arith)
  list_decoded Γ (Ok tt) e = cc

  -- a judgement is computed
  pub outcome_judged : (c : Check) (a : Typing) → TypingIs t a → judge_outcome t l a ≡ judges c l → Judged t l c
  unfolding judge_outcome
  outcome_judged c a (is_refused {x = x} q) e = let f : Err x ≡ c = cc in let j : Judged t l (Err x) = table_refused q in rw f at j
  outcome_judged c a (is_typed {Γ = Γ} w) e = list_outcome_lem Γ (least (list_rungs l (free_count t))) c w refl e
