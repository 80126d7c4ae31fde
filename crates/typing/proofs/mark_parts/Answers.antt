-- `typing::mark_parts` meets its contract. Assumes nothing.
use Rattle.typing.proofs.MarkLaws.{parts_unmarked, parts_symbol, parts_both}
use Rattle.typing.proofs.mark_parts.Goals.{else-get-eq1-via-then-get-eq1+else-term_code-gt0, else-get-eq1-via-else-get-eq1}
use Rattle.typing.proofs.mark_parts.Goals as goal

pub returns-then-term_code-gt0 : goal.returns-then-term_code-gt0
returns-then-term_code-gt0 c = parts_both _ _ _ _ _ _ _ _ _ c.get.ensures c.if-get-eq1.true c.term_code.ensures c.if-term_code-gt0.true c.term_part.ensures c.term_part-then-term_code-gt0.ensures c.put.ensures c.put-then-term_code-gt0.ensures

pub returns-else-get-eq1 : goal.returns-else-get-eq1
returns-else-get-eq1 c = elim c.else-get-eq1.branch [
  | else-get-eq1-via-then-get-eq1+else-term_code-gt0 w ↦ parts_symbol _ _ _ _ w.term_code.ensures w.if-term_code-gt0.false
  | else-get-eq1-via-else-get-eq1 w ↦ parts_unmarked _ _ _ _ c.get.ensures w.if-get-eq1.false
]
