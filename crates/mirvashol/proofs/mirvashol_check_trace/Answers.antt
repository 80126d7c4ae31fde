-- `mirvashol::mirvashol_check_trace` meets its contract. Assumes nothing.
use Rattle.mirvashol.specs.Entries.{trace_entries}
use Rattle.mirvashol.proofs.mirvashol_check_trace.Goals as goal

pub returns : goal.returns
unfolding trace_entries
returns c = rw (c.check_trace-check.ensures, c.value_count-a.ensures, c.supply_count-b.ensures, c.starting_count-c.ensures) at c.give_check.ensures
