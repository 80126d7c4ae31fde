-- `mirvashol::mirvashol_check_list` meets its contract. Assumes nothing.
use Rattle.mirvashol.specs.Entries.{list_entries}
use Rattle.mirvashol.proofs.mirvashol_check_list.Goals as goal

pub returns : goal.returns
unfolding list_entries
returns c = rw (c.check_list-check.ensures, c.at_most.ensures, c.symbol_count-a.ensures, c.statement_count-b.ensures, c.statements_at-c.ensures) at c.give_check.ensures
