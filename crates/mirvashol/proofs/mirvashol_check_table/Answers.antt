-- `mirvashol::mirvashol_check_table` meets its contract. Assumes nothing.
use Rattle.mirvashol.specs.Entries.{table_entries}
use Rattle.mirvashol.proofs.mirvashol_check_table.Goals as goal

pub returns : goal.returns
unfolding table_entries
returns c = rw (c.check_table-check.ensures, c.symbol_count-a.ensures, c.term_count-b.ensures, c.step_count-c.ensures) at c.give_check.ensures
