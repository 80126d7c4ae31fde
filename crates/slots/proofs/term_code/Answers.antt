-- `slots::term_code` meets its contract. Assumes nothing.
use Rattle.slots.proofs.TermLaws.{code_here, code_past}
use Rattle.slots.proofs.term_code.Goals as goal

pub returns-then-t-term_count : goal.returns-then-t-term_count
returns-then-t-term_count c = code_here _ _ _ c.term_count.ensures _ _ c.terms_at.ensures c.if-t-term_count.true c.code_at.ensures

pub returns-else-t-term_count : goal.returns-else-t-term_count
returns-else-t-term_count c = code_past _ _ _ c.term_count.ensures c.if-t-term_count.false
