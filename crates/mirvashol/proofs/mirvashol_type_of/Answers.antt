-- `mirvashol::mirvashol_type_of` meets its contract. Assumes nothing.
use Rattle.mirvashol.specs.Entries.{type_of_entries}
use Rattle.mirvashol.proofs.mirvashol_type_of.Goals as goal

pub returns-in_default : goal.returns-in_default
unfolding type_of_entries
returns-in_default c = rw (← c.type_part.ensures, c.in_default.is) c.give.ensures

pub returns : goal.returns
unfolding type_of_entries
returns c = rw (← c.type_part.ensures, c.in-Some.is, ← c.len-count.ensures.value) c.give-2.ensures
