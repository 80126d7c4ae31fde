-- `typing::need_key` meets its contract. Assumes nothing.
use Rattle.typing.proofs.KeyLaws.{key_unmarked, key_none, key_some}
use Rattle.typing.proofs.need_key.Goals.{else-marked-via-then-marked+else-term_code-eq2, else-marked-via-else-marked}
use Rattle.typing.proofs.need_key.Goals as goal

pub returns-then-term_code-eq2 : goal.returns-then-term_code-eq2
returns-then-term_code-eq2 c = key_some _ _ _ _ c.if-marked.true _ c.term_code.ensures _ _ _ c.if-term_code-eq2.true c.term_part.ensures c.push.ensures

pub returns-else-marked : goal.returns-else-marked
returns-else-marked c = elim c.else-marked.branch [
  | else-marked-via-then-marked+else-term_code-eq2 w ↦ key_none _ _ _ _ w.if-marked.true _ w.term_code.ensures w.if-term_code-eq2.false
  | else-marked-via-else-marked w ↦ key_unmarked _ _ _ _ w.if-marked.false
]
