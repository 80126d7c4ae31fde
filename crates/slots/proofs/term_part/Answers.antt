-- `slots::term_part` meets its contract. Assumes nothing.
use Rattle.slots.proofs.TermLaws.{part_here, part_past}
use Rattle.slots.proofs.term_part.Goals as goal

pub returns-then-t-term_count : goal.returns-then-t-term_count
returns-then-t-term_count c = part_here _ _ _ c.term_count.ensures _ _ c.if-t-term_count.true c.term_field.ensures

pub returns-else-t-term_count : goal.returns-else-t-term_count
returns-else-t-term_count c = part_past _ _ _ c.term_count.ensures _ c.if-t-term_count.false
