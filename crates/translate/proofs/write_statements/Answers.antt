-- `translate::write_statements` meets its contract. Assumes nothing.
use Rattle.statement_counts.proofs.Ranged.{all_fits}
use Rattle.decoded_list.proofs.FileLayout.{bytes_length}
use Rattle.decoded_list.specs.Bytes.{statements_bytes}
use Rattle.decoded.specs.Table.{table_of}
use Rattle.rendering.specs.Translation.{translation}
use Rattle.rendering.specs.Rendering.{halves}
use Rattle.calculus.specs.Version1.{signature1}
use Rattle.buffers.proofs.OverLaws.{over_fits, over_short}
use Rattle.table.specs.Faults.{table_rungs}
use Rattle.answers.specs.Ladder.{least}
use lib.ListN.{length}
use mathlib.Core.List.{List}
use Prim.Native.Nat.{ℕ, ◌*◌}
use native.Mathlib.Omega.{arith}
use mathlib.Core.Path.{◌≡◌, refl, sym, ◌∙◌}
use Rattle.translate.proofs.write_statements.Goals as goal
use Rattle.std.proofs.Common.{Ok}

-- the table s has passed, so the number n of its statements is known
module _ (s : List ℕ) (e : least (table_rungs s) ≡ Ok tt) {n : ℕ} (k : least (table_rungs s) ≡ Ok tt → n ≡ length (translation signature1 halves (table_of s))) where
  counted : n ≡ length (translation signature1 halves (table_of s))
  counted = k e

  bytes_counted : length (statements_bytes (translation signature1 halves (table_of s))) ≡ 4 * n
  bytes_counted = omega (arith, counted, bytes_length (translation signature1 halves (table_of s)))

-- ── The goals ──

pub returns-in_default : goal.returns-in_default
returns-in_default c = rw (sym c.check_table-a.ensures ∙ c.in_default.is) refl

pub overflow_mul-statement_count : goal.overflow_mul-statement_count
overflow_mul-statement_count c =
    let e = sym c.check_table-a.ensures ∙ c.in-Ok.is in
    omega (arith, counted _ e c.statement_count.ensures.known, (all_fits _ e).0)

pub put_statements-requires : goal.put_statements-requires
put_statements-requires c =
    let e = sym c.check_table-a.ensures ∙ c.in-Ok.is in
    (e, rw (counted _ e c.statement_count.ensures.known) at c.if-statement_count-out.true)

pub returns-then-statement_count-out : goal.returns-then-statement_count-out
returns-then-statement_count-out c =
    let e = sym c.check_table-a.ensures ∙ c.in-Ok.is in
    rw e (c.put_statements.ensures ∙ sym (over_fits _ _ (omega (arith, bytes_counted _ e c.statement_count.ensures.known, c.if-statement_count-out.true))))

pub returns-else-statement_count-out : goal.returns-else-statement_count-out
returns-else-statement_count-out c =
    let e = sym c.check_table-a.ensures ∙ c.in-Ok.is in
    rw e (sym (over_short _ _ (omega (arith, bytes_counted _ e c.statement_count.ensures.known, c.if-statement_count-out.false))))
